-- Atoms and wishes are read as they are spelled.
use Rattle.std.proofs.Common.{◌≡◌, ℕ, ◌+◌, ◌≤◌, zero, suc, Bool, true, false, cond, List, [], ◌∷◌, ◌++◌, length, append_assoc, append-nil, Option, Some, None, refl, sym, ap, ◌∙◌, subst, arith}
use Rattle.std.specs.List.{AllByRecursion}
use Rattle.std.proofs.lemmas.List.{length-append}
use Rattle.std.proofs.lemmas.Option.{same_Some}
use Rattle.tpl_lang.specs.declared.mark.Mark.{Mark}
use Rattle.tpl_lang.specs.declared.mark.Mark.TheVariants as marks
use Rattle.tpl_ast.specs.declared.template.Var.{Var}
use Rattle.tpl_ast.specs.declared.template.Var.TheVariants as vars
use Rattle.tpl_lang.specs.declared.words.Key.{Key}
use Rattle.tpl_lang.specs.declared.words.Key.TheVariants as keys
use Rattle.tpl_lang.specs.PartReading.{◌>>=◌, among_by, atom_by, biased, constrained_at, equal_by, equal_of, is_nameable, key_at, named_equal, not_taken_at, of_var, related_by, semicolon_at, some_wishes, taken_by, unequal_by, unequal_of, var_named, var_of, wish_at, wish_by, wishes_at, with_rest}
use Rattle.tpl_ast.specs.Leaves.{are_comparable}
use Rattle.tpl_lang.specs.Phrases.{AtomPhrase, Among, NotAmong, IsName, Same, Differ, Taken, NotTaken, Shared, WishPhrase}
use Rattle.tpl_lang.specs.Grammar.{AreComparable, Rs1Rs2, Rs1Rd, Rs2Rs1, Rs2Rd, RdRs1, RdRs2, AB, IsAtom, IsNamed, IsSome, atom, bias, domain, key, var, var_key, wish, wishes}
use Rattle.tpl_lang.specs.Tokens.{Token, Word, Number, Sign}
use Rattle.tpl_lang.specs.Words.{key_of, spelling_of}
use Rattle.tpl_lang.proofs.Domains.{EndsSet, a_domain}
use Rattle.tpl_lang.proofs.Lists.{between_long, between_more}
use Rattle.tpl_lang.proofs.Readers.{Reads, Takes, Yields, a_key, a_word, bound, follows, it, key_is, nothing, part, the_in, the_semicolon}
use Rattle.tpl_lang.proofs.Spelled.{words_are_read}

-- ---- variables

var_read : (v : Var) → var_of (var_key v) ≡ Some v
var_read vars.Op = refl
var_read vars.Rs1 = refl
var_read vars.Rs2 = refl
var_read vars.Rd = refl
var_read vars.Imm = refl
var_read vars.Csr = refl
var_read vars.Ea = refl
var_read vars.A = refl
var_read vars.B = refl
var_read vars.Pa = refl
var_read vars.Target = refl
var_read vars.Outcome = refl

var_is : (k : Key) → Yields (var_of k) (λ v. k ≡ var_key v)
var_is keys.Op = it vars.Op refl
var_is keys.Rs1 = it vars.Rs1 refl
var_is keys.Rs2 = it vars.Rs2 refl
var_is keys.Rd = it vars.Rd refl
var_is keys.Imm = it vars.Imm refl
var_is keys.Csr = it vars.Csr refl
var_is keys.Ea = it vars.Ea refl
var_is keys.A = it vars.A refl
var_is keys.B = it vars.B refl
var_is keys.Pa = it vars.Pa refl
var_is keys.Target = it vars.Target refl
var_is keys.Outcome = it vars.Outcome refl
var_is _ = nothing

-- the word of a variable names it, and no other word does
named_read : (v : Var) → var_named (key_of (spelling_of (var_key v))) ≡ Some v
named_read v = ap var_named (words_are_read.keys (var_key v)) ∙ var_read v

named_is : (w : List ℕ) (v : Var) → var_named (key_of w) ≡ Some v → w ≡ spelling_of (var_key v)
named_is w v h = go (key_of w) refl h where
  go : (o : Option Key) → key_of w ≡ o → var_named o ≡ Some v → w ≡ spelling_of (var_key v)
  go None e h = absurd (cc h)
  go (Some k) e h = key_is w k e ∙ ap spelling_of ((var_is k).of v h)

-- ---- comparisons of a variable

comparable : (v u : Var) → are_comparable v u ≡ true → AreComparable v u
comparable vars.Rs1 vars.Rs2 h = Rs1Rs2
comparable vars.Rs1 vars.Rd h = Rs1Rd
comparable vars.Rs2 vars.Rs1 h = Rs2Rs1
comparable vars.Rs2 vars.Rd h = Rs2Rd
comparable vars.Rd vars.Rs1 h = RdRs1
comparable vars.Rd vars.Rs2 h = RdRs2
comparable vars.A vars.B h = AB
comparable _ _ h = absurd (cc h)

comparable_back : (v u : Var) → AreComparable v u → are_comparable v u ≡ true
comparable_back v u Rs1Rs2 = refl
comparable_back v u Rs1Rd = refl
comparable_back v u Rs2Rs1 = refl
comparable_back v u Rs2Rd = refl
comparable_back v u RdRs1 = refl
comparable_back v u RdRs2 = refl
comparable_back v u AB = refl

nameable : (v : Var) → (v ≡ vars.Op → ⊥) → (v ≡ vars.Outcome → ⊥) → is_nameable v ≡ true
nameable vars.Op no_op no_outcome = absurd (no_op refl)
nameable vars.Outcome no_op no_outcome = absurd (no_outcome refl)
nameable _ no_op no_outcome = refl

-- a comparison with a word that is no variable to compare with is one with a name
named_there : (v : Var) (w : List ℕ) → ((u : Var) → AreComparable v u → w ≡ spelling_of (var_key u) → ⊥) → Yields (named_equal v w) (λ a. IsAtom a × (atom a ≡ var v ∷ Sign marks.Equal ∷ Word w ∷ []))
named_there v w no_var = go (is_nameable v) refl where
  go : (c : Bool) → is_nameable v ≡ c → Yields (cond c (Some (IsName v w)) None) (λ a. IsAtom a × (atom a ≡ var v ∷ Sign marks.Equal ∷ Word w ∷ []))
  go true e = it (IsName v w) (record { op = λ is. absurd (cc (sym e ∙ ap is_nameable is)); outcome = λ is. absurd (cc (sym e ∙ ap is_nameable is)); word = no_var }, refl)
  go false e = nothing

equal_there : (v : Var) (w : List ℕ) → Yields (equal_of v w) (λ a. IsAtom a × (atom a ≡ var v ∷ Sign marks.Equal ∷ Word w ∷ []))
unfolding equal_of
equal_there v w = go (var_named (key_of w)) refl where
  both : (u : Var) (c : Bool) → var_named (key_of w) ≡ Some u → are_comparable v u ≡ c → Yields (cond c (Some (Same v u)) (named_equal v w)) (λ a. IsAtom a × (atom a ≡ var v ∷ Sign marks.Equal ∷ Word w ∷ []))
  both u true e is = it (Same v u) (comparable v u is, ap (λ n. var v ∷ Sign marks.Equal ∷ Word n ∷ []) (sym (named_is w u e)))
  both u false e is = named_there v w (λ x fits named. absurd (cc (sym is ∙ ap (are_comparable v) (same_Some u x (sym e ∙ ap (λ n. var_named (key_of n)) named ∙ named_read x)) ∙ comparable_back v x fits)))

  go : (o : Option Var) → var_named (key_of w) ≡ o → Yields (equal_by v w o) (λ a. IsAtom a × (atom a ≡ var v ∷ Sign marks.Equal ∷ Word w ∷ []))
  go None e = named_there v w (λ x fits named. absurd (cc (sym e ∙ ap (λ n. var_named (key_of n)) named ∙ named_read x)))
  go (Some u) e = both u (are_comparable v u) e refl

unequal_there : (v : Var) (w : List ℕ) → Yields (unequal_of v w) (λ a. IsAtom a × (atom a ≡ var v ∷ Sign marks.Unequal ∷ Word w ∷ []))
unfolding unequal_of
unequal_there v w = go (var_named (key_of w)) refl where
  both : (u : Var) (c : Bool) → var_named (key_of w) ≡ Some u → are_comparable v u ≡ c → Yields (cond c (Some (Differ v u)) None) (λ a. IsAtom a × (atom a ≡ var v ∷ Sign marks.Unequal ∷ Word w ∷ []))
  both u true e is = it (Differ v u) (comparable v u is, ap (λ n. var v ∷ Sign marks.Unequal ∷ Word n ∷ []) (sym (named_is w u e)))
  both u false e is = nothing

  go : (o : Option Var) → var_named (key_of w) ≡ o → Yields (unequal_by v o) (λ a. IsAtom a × (atom a ≡ var v ∷ Sign marks.Unequal ∷ Word w ∷ []))
  go None e = nothing
  go (Some u) e = both u (are_comparable v u) e refl

name_back : (v : Var) (w : List ℕ) → IsNamed v w → equal_of v w ≡ Some (IsName v w)
unfolding equal_of
name_back v w named = go (var_named (key_of w)) refl where
  name : named_equal v w ≡ Some (IsName v w)
  name = ap (λ c. cond c (Some (IsName v w)) None) (nameable v named.op named.outcome)

  both : (u : Var) (c : Bool) → var_named (key_of w) ≡ Some u → are_comparable v u ≡ c → cond c (Some (Same v u)) (named_equal v w) ≡ Some (IsName v w)
  both u true e is = absurd (named.word u (comparable v u is) (named_is w u e))
  both u false e is = name

  go : (o : Option Var) → var_named (key_of w) ≡ o → equal_by v w o ≡ Some (IsName v w)
  go None e = name
  go (Some u) e = both u (are_comparable v u) e refl

same_back : (v u : Var) → AreComparable v u → equal_of v (spelling_of (var_key u)) ≡ Some (Same v u)
unfolding equal_of
same_back v u fits = ap (equal_by v (spelling_of (var_key u))) (named_read u) ∙ ap (λ c. cond c (Some (Same v u)) (named_equal v (spelling_of (var_key u)))) (comparable_back v u fits)

differ_back : (v u : Var) → AreComparable v u → unequal_of v (spelling_of (var_key u)) ≡ Some (Differ v u)
unfolding unequal_of
differ_back v u fits = ap (unequal_by v) (named_read u) ∙ ap (λ c. cond c (Some (Differ v u)) None) (comparable_back v u fits)

-- ---- what is said of a variable

rest_there : (v : Var) (m : Mark) (w : List ℕ) (rest ts : List Token) (o : Option AtomPhrase) → ts ≡ Word w ∷ rest → Yields o (λ a. IsAtom a × (atom a ≡ var v ∷ Sign m ∷ Word w ∷ []))
    → Yields (with_rest rest o) (λ x. IsAtom x.0 × (var v ∷ Sign m ∷ ts ≡ atom x.0 ++ x.1))
rest_there v m w rest ts None e yields = nothing
rest_there v m w rest ts (Some a) e yields = let h = yields.of a refl in it (a, rest) (h.0, ap (λ us. var v ∷ Sign m ∷ us) e ∙ ap (λ us. us ++ rest) (sym h.1))

related_there : (v : Var) (m : Mark) (ts : List Token) → Yields (related_by v m ts) (λ x. IsAtom x.0 × (var v ∷ Sign m ∷ ts ≡ atom x.0 ++ x.1))
related_there v marks.Equal ts = part (a_word.there ts) (λ w f e. rest_there v marks.Equal w.0 w.1 ts (equal_of v w.0) e (equal_there v w.0))
related_there v marks.Unequal ts = part (a_word.there ts) (λ w f e. rest_there v marks.Unequal w.0 w.1 ts (unequal_of v w.0) e (unequal_there v w.0))
related_there v _ ts = nothing

among_there : (v : Var) (w : List ℕ) (ts : List Token) (o : Option Key) → key_of w ≡ o → Yields (among_by v o ts) (λ x. IsAtom x.0 × (var v ∷ Word w ∷ ts ≡ atom x.0 ++ x.1))
among_there v w ts (Some keys.In) e = part ((a_domain v).there ts) (λ d fits is. it (Among v d.0, d.1) (
  fits,
  ap (λ n. var v ∷ Word n ∷ ts) (key_is w keys.In e) ∙ ap (λ us. var v ∷ key keys.In ∷ us) is,
))
among_there v w ts (Some keys.Not) e = bound (the_in.there ts) (λ rest is. part ((a_domain v).there rest) (λ d fits is'. it (NotAmong v d.0, d.1) (
  fits,
  ap (λ n. var v ∷ Word n ∷ ts) (key_is w keys.Not e) ∙ ap (λ us. var v ∷ key keys.Not ∷ us) (is ∙ ap (λ us. key keys.In ∷ us) is'),
)))
among_there v w ts None e = nothing
among_there v w ts (Some _) e = nothing

constrained_there : (v : Var) (ts : List Token) → Takes (var v ∷ ts) (constrained_at v ts) atom IsAtom
unfolding constrained_at
constrained_there v [] = record { yields = nothing }
constrained_there v (Word w ∷ ts) = record { yields = among_there v w ts (key_of w) refl }
constrained_there v (Number n ∷ ts) = record { yields = nothing }
constrained_there v (Sign m ∷ ts) = record { yields = related_there v m ts }

among_back : (v : Var) (k : Key) (rest : List Token) → constrained_at v (key k ∷ rest) ≡ among_by v (Some k) rest
unfolding constrained_at
among_back v k rest = ap (λ o. among_by v o rest) (words_are_read.keys k)

related_back : (v : Var) (m : Mark) (rest : List Token) → constrained_at v (Sign m ∷ rest) ≡ related_by v m rest
unfolding constrained_at
related_back v m rest = refl

-- ---- atoms

not_taken_there : (ts : List Token) → Yields (not_taken_at ts) (λ x. IsAtom x.0 × (key keys.Not ∷ ts ≡ atom x.0 ++ x.1))
unfolding not_taken_at
not_taken_there ts = part (a_key.there ts) (λ k f e. go k.0 k.1 e) where
  go : (k : Key) (rest : List Token) → ts ≡ key k ∷ rest → Yields (taken_by k rest) (λ x. IsAtom x.0 × (key keys.Not ∷ ts ≡ atom x.0 ++ x.1))
  go keys.Taken rest e = it (NotTaken, rest) (tt, ap (λ us. key keys.Not ∷ us) e)
  go _ rest e = nothing

of_var_there : (k : Key) (ts : List Token) (o : Option Var) → var_of k ≡ o → Takes (key k ∷ ts) (of_var o ts) atom IsAtom
of_var_there k ts None e = record { yields = nothing }
of_var_there k ts (Some v) e = subst (λ j. Takes (key j ∷ ts) (constrained_at v ts) atom IsAtom) (sym ((var_is k).of v e)) (constrained_there v ts)

atom_there : (k : Key) (ts : List Token) → Takes (key k ∷ ts) (atom_by k ts) atom IsAtom
atom_there keys.Taken ts = record { yields = it (Taken, ts) (tt, refl) }
atom_there keys.Shared ts = record { yields = it (Shared, ts) (tt, refl) }
atom_there keys.Not ts = record { yields = not_taken_there ts }
atom_there k ts = of_var_there k ts (var_of k) refl

-- the first word of an atom, and what is read behind it
record Begins (a : AtomPhrase) (rest : List Token) : Type 0 where
  first : Key
  more : List Token
  is : atom a ++ rest ≡ key first ∷ more
  reads : atom_by first more ≡ Some (a, rest)
  plain : wish_by first more ≡ Some (record { prefer = false; atom = a }, rest)

-- behind the word of a variable both readers go on with what is said of it
of_variable : (v : Var) (ts : List Token) → (atom_by (var_key v) ts ≡ constrained_at v ts) × (wish_by (var_key v) ts ≡ (constrained_at v ts >>= biased false))
of_variable vars.Op ts = (refl, refl)
of_variable vars.Rs1 ts = (refl, refl)
of_variable vars.Rs2 ts = (refl, refl)
of_variable vars.Rd ts = (refl, refl)
of_variable vars.Imm ts = (refl, refl)
of_variable vars.Csr ts = (refl, refl)
of_variable vars.Ea ts = (refl, refl)
of_variable vars.A ts = (refl, refl)
of_variable vars.B ts = (refl, refl)
of_variable vars.Pa ts = (refl, refl)
of_variable vars.Target ts = (refl, refl)
of_variable vars.Outcome ts = (refl, refl)

var_begins : (v : Var) (a : AtomPhrase) (more rest : List Token) → atom a ++ rest ≡ var v ∷ more → constrained_at v more ≡ Some (a, rest) → Begins a rest
var_begins v a more rest is reads = record { first = var_key v; more = more; is = is; reads = (of_variable v more).0 ∙ reads; plain = (of_variable v more).1 ∙ follows (biased false) reads refl }

not_taken_back : (rest : List Token) → not_taken_at (key keys.Taken ∷ rest) ≡ Some (NotTaken, rest)
unfolding not_taken_at
not_taken_back rest = follows _ (a_key.back keys.Taken rest tt tt) refl

begins : (a : AtomPhrase) (rest : List Token) → IsAtom a → EndsSet rest → Begins a rest
begins (Among v d) rest fits ends = var_begins v _ (key keys.In ∷ domain d ++ rest) rest refl (among_back v keys.In _ ∙ follows _ ((a_domain v).back d rest fits ends) refl)
begins (NotAmong v d) rest fits ends = var_begins v _ (key keys.Not ∷ key keys.In ∷ domain d ++ rest) rest refl
    (among_back v keys.Not _ ∙ follows _ (the_in.back _) (follows _ ((a_domain v).back d rest fits ends) refl))
begins (IsName v w) rest fits ends = var_begins v _ (Sign marks.Equal ∷ Word w ∷ rest) rest refl (related_back v marks.Equal _ ∙ follows _ (a_word.back w rest tt tt) (ap (with_rest rest) (name_back v w fits)))
begins (Same v u) rest fits ends = var_begins v _ (Sign marks.Equal ∷ var u ∷ rest) rest refl
    (related_back v marks.Equal _ ∙ follows _ (a_word.back (spelling_of (var_key u)) rest tt tt) (ap (with_rest rest) (same_back v u fits)))
begins (Differ v u) rest fits ends = var_begins v _ (Sign marks.Unequal ∷ var u ∷ rest) rest refl
    (related_back v marks.Unequal _ ∙ follows _ (a_word.back (spelling_of (var_key u)) rest tt tt) (ap (with_rest rest) (differ_back v u fits)))
begins Taken rest fits ends = record { first = keys.Taken; more = rest; is = refl; reads = refl; plain = refl }
begins NotTaken rest fits ends = record { first = keys.Not; more = key keys.Taken ∷ rest; is = refl; reads = not_taken_back rest; plain = follows (biased false) (not_taken_back rest) refl }
begins Shared rest fits ends = record { first = keys.Shared; more = rest; is = refl; reads = refl; plain = refl }

-- ---- wishes

abbrev pub IsWish : WishPhrase → Type 0
IsWish w = IsAtom w.atom

biased_there : (prefer : Bool) (k : Key) (ts : List Token) → Yields (atom_by k ts >>= biased prefer) (λ x. IsWish x.0 × (bias prefer ++ key k ∷ ts ≡ wish x.0 ++ x.1))
biased_there prefer k ts = part (atom_there k ts) (λ a fits e. it (record { prefer = prefer; atom = a.0 }, a.1) (fits, ap (λ us. bias prefer ++ us) e ∙ sym (append_assoc (bias prefer) (atom a.0) a.1)))

wish_of_key : (k : Key) (ts : List Token) → Yields (wish_by k ts) (λ x. IsWish x.0 × (key k ∷ ts ≡ wish x.0 ++ x.1))
wish_of_key keys.Prefer ts = part (a_key.there ts) (λ k f e. record { of = λ x is. let h = (biased_there true k.0 k.1).of x is in (h.0, ap (λ us. key keys.Prefer ∷ us) e ∙ h.1) })
wish_of_key k ts = biased_there false k ts

wish_there : (ts : List Token) → Takes ts (wish_at ts) wish IsWish
unfolding wish_at
wish_there ts = record { yields = part (a_key.there ts) (λ k f e. record { of = λ x is. let h = (wish_of_key k.0 k.1).of x is in (h.0, e ∙ h.1) }) }

wish_back : (w : WishPhrase) (rest : List Token) → IsWish w → EndsSet rest → wish_at (wish w ++ rest) ≡ Some (w, rest)
unfolding wish_at
wish_back w rest fits ends = go w.prefer w.atom (begins w.atom rest fits ends) where
  go : (prefer : Bool) (a : AtomPhrase) → Begins a rest → wish_at ((bias prefer ++ atom a) ++ rest) ≡ Some (record { prefer = prefer; atom = a }, rest)
  go true a b = follows _ (a_key.back keys.Prefer (atom a ++ rest) tt tt) (ap (λ us. key_at us >>= λ k. atom_by k.0 k.1 >>= biased true) b.is ∙ follows _ (a_key.back b.first b.more tt tt) (follows _ b.reads refl))
  go false a b = ap wish_at b.is ∙ follows _ (a_key.back b.first b.more tt tt) b.plain

pub a_wish : Reads wish_at wish IsWish EndsSet
a_wish = record { there = wish_there; back = wish_back }

-- ---- wishes up to the end of the line

-- a wish, and what is read behind it
wishes_next : (w : WishPhrase) (rest ts : List Token) (more : List Token → Option (List WishPhrase)) → IsWish w → ts ≡ wish w ++ rest → ((us : List Token) → Yields (more us) (λ ws. IsSome ws × AllByRecursion IsWish ws × (us ≡ wishes ws)))
    → Yields (elim rest as (λ us. Option (List WishPhrase)) [ [] ↦ Some (w ∷ []) | _ ↦ semicolon_at rest >>= λ us. more us >>= λ ws. Some (w ∷ ws) ]) (λ ws. IsSome ws × AllByRecursion IsWish ws × (ts ≡ wishes ws))
wishes_next w [] ts more fits e yields = it (w ∷ []) (tt, (fits, tt), e ∙ append-nil (wish w))
wishes_next w (t ∷ rest) ts more fits e yields = bound (the_semicolon.there (t ∷ rest)) (λ us is. bound (yields us) (λ ws h. it (w ∷ ws) (
  tt,
  (fits, h.1),
  e ∙ ap (λ vs. wish w ++ vs) (is ∙ ap (λ vs. Sign marks.Semicolon ∷ vs) h.2) ∙ sym (between_more (Sign marks.Semicolon) wish w ws h.0),
)))

some_there : (most : ℕ) (ts : List Token) → Yields (some_wishes most ts) (λ ws. IsSome ws × AllByRecursion IsWish ws × (ts ≡ wishes ws))
some_there zero ts = nothing
some_there (suc most) ts = part (wish_there ts) (λ w fits e. wishes_next w.0 w.1 ts (some_wishes most) fits e (some_there most))

some_back : (ws : List WishPhrase) (most : ℕ) → IsSome ws → AllByRecursion IsWish ws → length ws ≤ most → some_wishes most (wishes ws) ≡ Some ws
some_back [] most some fit le = absurd some
some_back (w ∷ ws) zero some fit le = absurd (omega (arith, le))
some_back (w ∷ []) (suc most) some fit le = ap (some_wishes (suc most)) (sym (append-nil (wish w))) ∙ follows _ (wish_back w [] fit.0 tt) refl
some_back (w ∷ v ∷ ws) (suc most) some fit le = follows _ (wish_back w _ fit.0 tt) (follows _ (the_semicolon.back _) (follows _ (some_back (v ∷ ws) most tt fit.1 (omega (arith, le))) refl))

pub wishes_there : (ts : List Token) → Yields (wishes_at ts) (λ ws. AllByRecursion IsWish ws × (ts ≡ wishes ws))
unfolding wishes_at
wishes_there [] = it [] (tt, refl)
wishes_there (t ∷ ts) = record { of = λ ws is. let h = (some_there (length (t ∷ ts)) (t ∷ ts)).of ws is in (h.1, h.2) }

wishes_some : (ts : List Token) → 1 ≤ length ts → wishes_at ts ≡ some_wishes (length ts) ts
unfolding wishes_at
wishes_some [] le = absurd (omega (arith, le))
wishes_some (t ∷ ts) le = refl

atom_long : (a : AtomPhrase) → 1 ≤ length (atom a)
atom_long (Among v d) = omega arith
atom_long (NotAmong v d) = omega arith
atom_long (IsName v w) = omega arith
atom_long (Same v u) = omega arith
atom_long (Differ v u) = omega arith
atom_long Taken = omega arith
atom_long NotTaken = omega arith
atom_long Shared = omega arith

wish_long : (w : WishPhrase) → 1 ≤ length (wish w)
wish_long w = omega (arith, length-append (bias w.prefer) (atom w.atom), atom_long w.atom)

pub wishes_back : (ws : List WishPhrase) → AllByRecursion IsWish ws → wishes_at (wishes ws) ≡ Some ws
unfolding wishes_at
wishes_back [] fit = refl
wishes_back (w ∷ ws) fit = wishes_some (wishes (w ∷ ws)) (omega (arith, long)) ∙ some_back (w ∷ ws) _ tt fit (omega (arith, long)) where
  long : length (w ∷ ws) + 1 ≤ length (wishes (w ∷ ws)) + 1
  long = between_long (Sign marks.Semicolon) wish 1 (omega arith) wish_long (w ∷ ws)
