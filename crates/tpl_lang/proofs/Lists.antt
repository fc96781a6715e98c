-- Lists of parts: in braces with commas between them, and numbers up to the end of a line.
use Rattle.std.proofs.Common.{◌≡◌, ℕ, ◌+◌, ◌≤◌, zero, suc, cond, List, [], ◌∷◌, ◌++◌, length, append_assoc, Option, Some, None, option_map, refl, sym, ap, ◌∙◌, arith}
use Rattle.std.proofs.lemmas.List.{length-append}
use Rattle.tpl_lang.specs.declared.mark.Mark.{Mark}
use Rattle.tpl_lang.specs.declared.mark.Mark.TheVariants as marks
use Rattle.tpl_lang.specs.declared.phrase.Element.{Element}
use Rattle.tpl_lang.specs.declared.phrase.Element.TheVariants as elements
use Rattle.tpl_lang.specs.declared.phrase.Numeral.{Numeral}
use Rattle.tpl_lang.specs.declared.phrase.OutcomeElement.{OutcomeElement}
use Rattle.tpl_lang.specs.declared.phrase.OutcomeElement.TheVariants as outcomes
use Rattle.tpl_lang.specs.declared.words.Key.{Key}
use Rattle.tpl_lang.specs.declared.words.Key.TheVariants as keys
use Rattle.tpl_lang.specs.Reading.{more_numbers, numbers_at}
use Rattle.tpl_lang.specs.PartReading.{Read, ◌>>=◌, element_at, element_by, is_retire, list_of, mark_at, names_at, number_at, outcome_at, outcome_part_at, outcomes_at, word_part_at, braces_by as braced_by}
use Rattle.tpl_lang.specs.Grammar.{IsSome, between, braced, element, numbers, outcome}
use Rattle.tpl_lang.specs.Tokens.{Token, Word, Number, Sign}
use Rattle.tpl_lang.specs.Words.{key_of}
use Rattle.tpl_lang.proofs.Readers.{Always, Reads, Takes, Yields, a_mark, a_number, a_word, bound, follows, it, key_is, mapped, nothing, part}
use Rattle.tpl_lang.proofs.Spelled.{words_are_read}

-- ---- parts with a symbol between them

pub between_more : {A : Type 0} (mark : Token) (spelled : A → List Token) (x : A) (xs : List A) → IsSome xs → between mark spelled (x ∷ xs) ≡ spelled x ++ mark ∷ between mark spelled xs
between_more mark spelled x [] some = absurd some
between_more mark spelled x (y ∷ xs) some = refl

-- no more parts than tokens and one, since a symbol stands between two; where each part has a token itself (n is 1), no more parts than tokens
pub between_long : {A : Type 0} (mark : Token) (spelled : A → List Token) (n : ℕ) → n ≤ 1 → ((x : A) → n ≤ length (spelled x)) → (xs : List A) → length xs + n ≤ length (between mark spelled xs) + 1
between_long mark spelled n few long [] = omega (arith, few)
between_long mark spelled n few long (x ∷ []) = omega (arith, long x)
between_long mark spelled n few long (x ∷ y ∷ xs) = omega (arith, between_long mark spelled n few long (y ∷ xs), length-append (spelled x) (mark ∷ between mark spelled (y ∷ xs)))

-- ---- lists in braces

-- a part and the symbol behind it are read as they are spelled
pub record Parts {A : Type 0} (item : List Token → Read (A × Mark)) (spelled : A → List Token) : Type 0 where
  pub there : (ts : List Token) → Yields (item ts) (λ x. ts ≡ spelled x.0.0 ++ Sign x.0.1 ∷ x.1)
  pub comma : (x : A) (rest : List Token) → item (spelled x ++ Sign marks.Comma ∷ rest) ≡ Some ((x, marks.Comma), rest)
  pub close : (x : A) (rest : List Token) → item (spelled x ++ Sign marks.Close ∷ rest) ≡ Some ((x, marks.Close), rest)

-- PART, .. }
abbrev pub closed : {A : Type 0} → (A → List Token) → List A → List Token
closed spelled xs = between (Sign marks.Comma) spelled xs ++ Sign marks.Close ∷ []

closed_more : {A : Type 0} (spelled : A → List Token) (x : A) (xs : List A) → IsSome xs → closed spelled (x ∷ xs) ≡ spelled x ++ Sign marks.Comma ∷ closed spelled xs
closed_more spelled x xs some = ap (λ us. us ++ Sign marks.Close ∷ []) (between_more (Sign marks.Comma) spelled x xs some)
    ∙ append_assoc (spelled x) (Sign marks.Comma ∷ between (Sign marks.Comma) spelled xs) (Sign marks.Close ∷ [])

-- a part, and what is read behind its symbol
list_next : {A : Type 0} (spelled : A → List Token) (x : A) (m : Mark) (rest ts : List Token) (more : Read (List A)) → ts ≡ spelled x ++ Sign m ∷ rest → Takes rest more (closed spelled) IsSome
    → Yields {B = List A × List Token} (elim m [ marks.Close ↦ Some (x ∷ [], rest) | marks.Comma ↦ more >>= λ xs. Some (x ∷ xs.0, xs.1) | _ ↦ None ]) (λ y. IsSome y.0 × (ts ≡ closed spelled y.0 ++ y.1))
list_next spelled x marks.Close rest ts more e takes = it (x ∷ [], rest) (tt, e ∙ sym (append_assoc (spelled x) (Sign marks.Close ∷ []) rest))
list_next spelled x marks.Comma rest ts more e takes = part takes (λ xs some is. it (x ∷ xs.0, xs.1) (
  tt,
  e ∙ ap (λ us. spelled x ++ Sign marks.Comma ∷ us) is
      ∙ sym (append_assoc (spelled x) (Sign marks.Comma ∷ closed spelled xs.0) xs.1)
      ∙ ap (λ us. us ++ xs.1) (sym (closed_more spelled x xs.0 some)),
))
list_next spelled x _ rest ts more e takes = nothing

list_there : {A : Type 0} {item : List Token → Read (A × Mark)} {spelled : A → List Token} → Parts item spelled → (most : ℕ) (ts : List Token) → Takes ts (list_of item most ts) (closed spelled) IsSome
list_there parts zero ts = record { yields = nothing }
list_there {spelled = s} parts (suc most) ts = record { yields = bound (parts.there ts) (λ x e. list_next s x.0.0 x.0.1 x.1 ts _ e (list_there parts most x.1)) }

list_back : {A : Type 0} {item : List Token → Read (A × Mark)} {spelled : A → List Token} → Parts item spelled → (xs : List A) → IsSome xs → (rest : List Token) (most : ℕ) → length xs ≤ most
    → list_of item most (between (Sign marks.Comma) spelled xs ++ Sign marks.Close ∷ rest) ≡ Some (xs, rest)
list_back parts [] some rest most le = absurd some
list_back parts (x ∷ xs) some rest zero le = absurd (omega (arith, le))
list_back parts (x ∷ []) some rest (suc most) le = follows _ (parts.close x rest) refl
list_back {item} {spelled} parts (x ∷ y ∷ xs) some rest (suc most) le =
    ap (list_of item (suc most)) (append_assoc (spelled x) (Sign marks.Comma ∷ between (Sign marks.Comma) spelled (y ∷ xs)) (Sign marks.Close ∷ rest))
    ∙ follows _ (parts.comma x _) (follows _ (list_back parts (y ∷ xs) tt rest most (omega (arith, le))) refl)

pub a_list : {A : Type 0} {item : List Token → Read (A × Mark)} {spelled : A → List Token} → Parts item spelled → Reads (λ ts. list_of item (length ts) ts) (closed spelled) IsSome Always
a_list {A} {item} {spelled} parts = record {
  there = λ ts. list_there parts (length ts) ts;
  back = λ xs rest some e. ap (λ ts. list_of item (length ts) ts) (append_assoc (between (Sign marks.Comma) spelled xs) (Sign marks.Close ∷ []) rest)
      ∙ list_back parts xs some rest _ (long xs rest);
}
  where
    long : (xs : List A) (rest : List Token) → length xs ≤ length (between (Sign marks.Comma) spelled xs ++ Sign marks.Close ∷ rest)
    long xs rest = omega (arith, between_long (Sign marks.Comma) spelled 0 (omega arith) (λ x. omega arith) xs, length-append (between (Sign marks.Comma) spelled xs) (Sign marks.Close ∷ rest))

-- { PART, .. }
pub a_braced : {A : Type 0} {item : List Token → Read (A × Mark)} {spelled : A → List Token} → Parts item spelled → Reads (λ ts. mark_at ts >>= λ m. braced_by item m.0 m.1) (braced spelled) IsSome Always
a_braced {item} {spelled} parts = record {
  there = λ ts. record { yields = part (a_mark.there ts) (λ m f e. by m.0 m.1 ts e) };
  back = λ xs rest some e. follows _ (a_mark.back marks.Open (closed spelled xs ++ rest) tt tt) ((a_list parts).back xs rest some tt);
}
  where
    by : (m : Mark) (rest ts : List Token) → ts ≡ Sign m ∷ rest → Yields (braced_by item m rest) (λ x. IsSome x.0 × (ts ≡ braced spelled x.0 ++ x.1))
    by marks.Open rest ts e = record { of = λ x is. let h = ((a_list parts).there rest).yields.of x is in (h.0, e ∙ ap (λ us. Sign marks.Open ∷ us) h.1) }
    by _ rest ts e = nothing

-- a part that is read without the symbol behind it
marked : {A : Type 0} {at : List Token → Read A} {spelled : A → List Token} → Reads at spelled Always Always → Parts (λ ts. at ts >>= λ x. mark_at x.1 >>= λ m. Some ((x.0, m.0), m.1)) spelled
marked {spelled} reads = record {
  there = λ ts. part (reads.there ts) (λ x f e. part (a_mark.there x.1) (λ m g is. it ((x.0, m.0), m.1) (e ∙ ap (λ us. spelled x.0 ++ us) is)));
  comma = λ x rest. follows _ (reads.back x (Sign marks.Comma ∷ rest) tt tt) (follows _ (a_mark.back marks.Comma rest tt tt) refl);
  close = λ x rest. follows _ (reads.back x (Sign marks.Close ∷ rest) tt tt) (follows _ (a_mark.back marks.Close rest tt tt) refl);
}

-- ---- numbers, names and outcomes

element_comma : (x : Element) (rest : List Token) → element_at (element x ++ Sign marks.Comma ∷ rest) ≡ Some ((x, marks.Comma), rest)
unfolding element_at number_at mark_at
element_comma (elements.One n) rest = refl
element_comma (elements.Range low high) rest = refl

element_close : (x : Element) (rest : List Token) → element_at (element x ++ Sign marks.Close ∷ rest) ≡ Some ((x, marks.Close), rest)
unfolding element_at number_at mark_at
element_close (elements.One n) rest = refl
element_close (elements.Range low high) rest = refl

pub an_element : Parts element_at element
unfolding element_at
an_element = record {
  there = λ ts. part (a_number.there ts) (λ low f e. part (a_mark.there low.1) (λ m g is. by low.0 m.0 m.1 ts (e ∙ ap (λ us. Number low.0 ∷ us) is)));
  comma = element_comma;
  close = element_close;
}
  where
    by : (low : Numeral) (m : Mark) (rest ts : List Token) → ts ≡ Number low ∷ Sign m ∷ rest → Yields (element_by low m rest) (λ x. ts ≡ element x.0.0 ++ Sign x.0.1 ∷ x.1)
    by low marks.Range rest ts e = part (a_number.there rest) (λ high f is. part (a_mark.there high.1) (λ m g is'. it ((elements.Range low high.0, m.0), m.1) (e ∙ ap (λ us. Number low ∷ Sign marks.Range ∷ us) (is ∙ ap (λ us. Number high.0 ∷ us) is'))))
    by low m rest ts e = it ((elements.One low, m), rest) e

pub names : Reads names_at (braced (λ w. Word w ∷ [])) IsSome Always
unfolding names_at word_part_at
names = a_braced (marked a_word)

retire_there : (w : List ℕ) (ts : List Token) (o : Option Key) → key_of w ≡ o → Yields {B = OutcomeElement × List Token} (cond (is_retire o) (Some (outcomes.Retire, ts)) None) (λ x. Unit {0} × (Word w ∷ ts ≡ outcome x.0 ++ x.1))
retire_there w ts None e = nothing
retire_there w ts (Some keys.Retire) e = it (outcomes.Retire, ts) (tt, ap (λ v. Word v ∷ ts) (key_is w keys.Retire e))
retire_there w ts (Some _) e = nothing

outcome_there : (ts : List Token) → Takes ts (outcome_at ts) outcome Always
unfolding outcome_at
outcome_there [] = record { yields = nothing }
outcome_there (Word w ∷ ts) = record { yields = retire_there w ts (key_of w) refl }
outcome_there (Number n ∷ ts) = record { yields = it (outcomes.Cause n, ts) (tt, refl) }
outcome_there (Sign m ∷ ts) = record { yields = nothing }

outcome_back : (o : OutcomeElement) (rest : List Token) → outcome_at (outcome o ++ rest) ≡ Some (o, rest)
unfolding outcome_at
outcome_back (outcomes.Cause n) rest = refl
outcome_back outcomes.Retire rest = ap (λ o. cond (is_retire o) (Some (outcomes.Retire, rest)) None) (words_are_read.keys keys.Retire)

an_outcome : Reads outcome_at outcome Always Always
an_outcome = record { there = outcome_there; back = λ o rest f e. outcome_back o rest }

pub outcomes_in_braces : Reads outcomes_at (braced outcome) IsSome Always
unfolding outcomes_at outcome_part_at
outcomes_in_braces = a_braced (marked an_outcome)

-- ---- numbers up to the end of the line

more_there : (ts : List Token) → Yields (more_numbers ts) (λ ns. ts ≡ numbers ns)
more_there [] = it [] refl
more_there (Word w ∷ ts) = nothing
more_there (Number n ∷ ts) = mapped (λ ns. n ∷ ns) (more_there ts) (λ ns e. ap (λ us. Number n ∷ us) e)
more_there (Sign m ∷ ts) = nothing

more_back : (ns : List Numeral) → more_numbers (numbers ns) ≡ Some ns
more_back [] = refl
more_back (n ∷ ns) = ap (option_map (λ ns. n ∷ ns)) (more_back ns)

pub numbers_there : (ts : List Token) → Yields (numbers_at ts) (λ ns. IsSome ns × (ts ≡ numbers ns))
unfolding numbers_at
numbers_there ts = part (a_number.there ts) (λ n f e. bound (more_there n.1) (λ ns is. it (n.0 ∷ ns) (tt, e ∙ ap (λ us. Number n.0 ∷ us) is)))

pub numbers_back : (ns : List Numeral) → IsSome ns → numbers_at (numbers ns) ≡ Some ns
unfolding numbers_at
numbers_back [] some = absurd some
numbers_back (n ∷ ns) some = follows _ (a_number.back n (numbers ns) tt tt) (follows _ (more_back ns) refl)
