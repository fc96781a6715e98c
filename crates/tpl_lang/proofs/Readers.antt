-- What a reader reads of the first tokens, and how that was spelled: single tokens, and one part behind another.
use Rattle.std.proofs.Common.{◌≡◌, ℕ, Bool, true, false, cond, List, [], ◌∷◌, ◌++◌, Option, Some, None, option_map, refl, sym, ap, ◌∙◌, subst}
use Rattle.std.specs.Str.{bytes_eq}
use Rattle.std.proofs.lemmas.Option.{same_Some}
use Rattle.std.proofs.lemmas.Slice.Eq.{bytes_eq-Decides}
use Rattle.rv_csr.specs.declared.privilege.Priv.{Priv}
use Rattle.rv_csr.specs.declared.privilege.Priv.TheVariants as levels
use Rattle.tpl_lang.specs.declared.mark.Mark.{Mark}
use Rattle.tpl_lang.specs.declared.mark.Mark.TheVariants as marks
use Rattle.tpl_lang.specs.declared.words.Key.{Key}
use Rattle.tpl_lang.specs.declared.words.Key.TheVariants as keys
use Rattle.tpl_lang.specs.declared.words.TheConstants.{KEYS}
use Rattle.tpl_lang.specs.Reading.{outcome_by, outcome_word_at, pc_at, pc_by, priv_at, priv_by, privilege_at, privilege_by}
use Rattle.tpl_lang.specs.PartReading.{Read, ◌>>=◌, colon_at, colon_by, end_at, is_at, is_by, key_at, key_in, mark_at, name_at, number_at, open_at, semicolon_at, semicolon_by, within_at, within_by, word_at}
use Rattle.tpl_lang.specs.Grammar.{key, privilege}
use Rattle.tpl_lang.specs.Tokens.{Token, Word, Number, Sign}
use Rattle.tpl_lang.specs.Words.{is_reserved, key_among, key_of, spelling_of}
use Rattle.tpl_lang.proofs.Spelled.{words_are_read}

-- ---- what is read

-- P holds of what is read, if anything is
pub record Yields {B : Type 0} (o : Option B) (P : B → Type 0) : Type 0 where
  pub of : (y : B) → o ≡ Some y → P y

pub nothing : {B : Type 0} {P : B → Type 0} → Yields None P
nothing = record { of = λ y h. absurd (cc h) }

pub it : {B : Type 0} {P : B → Type 0} (y : B) → P y → Yields (Some y) P
it {P} y h = record { of = λ z e. subst P (same_Some y z e) h }

pub bound : {A B : Type 0} {Q : A → Type 0} {P : B → Type 0} {o : Option A} {f : A → Option B} → Yields o Q → ((x : A) → Q x → Yields (f x) P) → Yields (o >>= f) P
bound {o = None} yields h = nothing
bound {o = Some x} yields h = h x (yields.of x refl)

pub mapped : {A B : Type 0} {Q : A → Type 0} {P : B → Type 0} {o : Option A} (f : A → B) → Yields o Q → ((x : A) → Q x → P (f x)) → Yields (option_map f o) P
mapped {o = None} f yields h = nothing
mapped {o = Some x} f yields h = it (f x) (h x (yields.of x refl))

pub follows : {A B : Type 0} {o : Option A} (f : A → Option B) {x : A} {y : Option B} → o ≡ Some x → f x ≡ y → (o >>= f) ≡ y
follows f e h = ap (λ p. p >>= f) e ∙ h

-- ---- parts

-- what is read of the tokens was spelled with the first of them
pub record Takes {A : Type 0} (ts : List Token) (o : Read A) (spelled : A → List Token) (Fits : A → Type 0) : Type 0 where
  pub yields : Yields o (λ x. Fits x.0 × (ts ≡ spelled x.0 ++ x.1))

-- what is read was spelled so, and what is spelled so is read, before tokens that may stand behind it
pub record Reads {A : Type 0} (at : List Token → Read A) (spelled : A → List Token) (Fits : A → Type 0) (Ends : List Token → Type 0) : Type 0 where
  pub there : (ts : List Token) → Takes ts (at ts) spelled Fits
  pub back : (x : A) (rest : List Token) → Fits x → Ends rest → at (spelled x ++ rest) ≡ Some (x, rest)

abbrev pub Always : {A : Type 0} → A → Type 0
Always x = Unit {0}

pub part : {A B : Type 0} {ts : List Token} {o : Read A} {spelled : A → List Token} {Fits : A → Type 0} {P : B → Type 0} {f : A × List Token → Option B}
    → Takes ts o spelled Fits → ((x : A × List Token) → Fits x.0 → ts ≡ spelled x.0 ++ x.1 → Yields (f x) P) → Yields (o >>= f) P
part takes more = bound takes.yields (λ x h. more x h.0 h.1)

-- the token is skipped
pub record Skips (at : List Token → Option (List Token)) (t : Token) : Type 0 where
  pub there : (ts : List Token) → Yields (at ts) (λ rest. ts ≡ t ∷ rest)
  pub back : (rest : List Token) → at (t ∷ rest) ≡ Some rest

-- ---- single tokens

word_there : (ts : List Token) → Takes ts (word_at ts) (λ w. Word w ∷ []) Always
unfolding word_at
word_there [] = record { yields = nothing }
word_there (Word w ∷ ts) = record { yields = it (w, ts) (tt, refl) }
word_there (Number n ∷ ts) = record { yields = nothing }
word_there (Sign m ∷ ts) = record { yields = nothing }

pub a_word : Reads word_at (λ w. Word w ∷ []) Always Always
unfolding word_at
a_word = record { there = word_there; back = λ w rest f e. refl }

number_there : (ts : List Token) → Takes ts (number_at ts) (λ n. Number n ∷ []) Always
unfolding number_at
number_there [] = record { yields = nothing }
number_there (Word w ∷ ts) = record { yields = nothing }
number_there (Number n ∷ ts) = record { yields = it (n, ts) (tt, refl) }
number_there (Sign m ∷ ts) = record { yields = nothing }

pub a_number : Reads number_at (λ n. Number n ∷ []) Always Always
unfolding number_at
a_number = record { there = number_there; back = λ n rest f e. refl }

mark_there : (ts : List Token) → Takes ts (mark_at ts) (λ m. Sign m ∷ []) Always
unfolding mark_at
mark_there [] = record { yields = nothing }
mark_there (Word w ∷ ts) = record { yields = nothing }
mark_there (Number n ∷ ts) = record { yields = nothing }
mark_there (Sign m ∷ ts) = record { yields = it (m, ts) (tt, refl) }

pub a_mark : Reads mark_at (λ m. Sign m ∷ []) Always Always
unfolding mark_at
a_mark = record { there = mark_there; back = λ m rest f e. refl }

-- a word that may be declared
free : (w : List ℕ × List Token) (ts : List Token) (c : Bool) → is_reserved w.0 ≡ c → ts ≡ Word w.0 ∷ w.1 → Yields (cond c None (Some w)) (λ x. (is_reserved x.0 ≡ false) × (ts ≡ Word x.0 ∷ x.1))
free w ts true e is = nothing
free w ts false e is = it w (e, is)

pub a_name : Reads name_at (λ w. Word w ∷ []) (λ w. is_reserved w ≡ false) Always
unfolding name_at
a_name = record {
  there = λ ts. record { yields = part (a_word.there ts) (λ w f e. free w ts (is_reserved w.0) refl e) };
  back = λ w rest fits e. follows _ (a_word.back w rest tt tt) (ap (λ c. cond c None (Some (w, rest))) fits);
}

-- ---- words of the language

key_among_is : (w : List ℕ) (ks : List Key) (k : Key) → key_among w ks ≡ Some k → w ≡ spelling_of k
key_among_is w [] k h = absurd (cc h)
key_among_is w (j ∷ js) k h = go (bytes_eq (spelling_of j) w) refl h (key_among_is w js k) where
  go : (c : Bool) → bytes_eq (spelling_of j) w ≡ c → cond c (Some j) (key_among w js) ≡ Some k → (key_among w js ≡ Some k → w ≡ spelling_of k) → w ≡ spelling_of k
  go true e h rest = sym ((bytes_eq-Decides (spelling_of j) w).0 e) ∙ ap spelling_of (same_Some j k h)
  go false e h rest = rest h

pub key_is : (w : List ℕ) (k : Key) → key_of w ≡ Some k → w ≡ spelling_of k
unfolding key_of
key_is w k h = key_among_is w KEYS k h

key_of_word : (w : List ℕ) (rest ts : List Token) (o : Option Key) → key_of w ≡ o → ts ≡ Word w ∷ rest → Yields (key_in o rest) (λ x. Unit {0} × (ts ≡ key x.0 ∷ x.1))
key_of_word w rest ts None e is = nothing
key_of_word w rest ts (Some k) e is = it (k, rest) (tt, is ∙ ap (λ v. Word v ∷ rest) (key_is w k e))

pub a_key : Reads key_at (λ k. key k ∷ []) Always Always
unfolding key_at
a_key = record {
  there = λ ts. record { yields = part (a_word.there ts) (λ w f e. key_of_word w.0 w.1 ts (key_of w.0) refl e) };
  back = λ k rest f e. follows _ (a_word.back (spelling_of k) rest tt tt) (ap (λ o. key_in o rest) (words_are_read.keys k));
}

-- ---- one token that must stand there

mark_skips : (m : Mark) (by : Mark → List Token → Option (List Token)) → ((n : Mark) (ts : List Token) → Yields (by n ts) (λ rest. Sign n ∷ ts ≡ Sign m ∷ rest)) → ((ts : List Token) → by m ts ≡ Some ts)
    → Skips (λ ts. mark_at ts >>= λ n. by n.0 n.1) (Sign m)
mark_skips m by yields reads = record {
  there = λ ts. part (a_mark.there ts) (λ n f e. record { of = λ rest is. e ∙ (yields n.0 n.1).of rest is });
  back = λ rest. follows _ (a_mark.back m rest tt tt) (reads rest);
}

key_skips : (k : Key) (by : Key → List Token → Option (List Token)) → ((j : Key) (ts : List Token) → Yields (by j ts) (λ rest. key j ∷ ts ≡ key k ∷ rest)) → ((ts : List Token) → by k ts ≡ Some ts)
    → Skips (λ ts. key_at ts >>= λ j. by j.0 j.1) (key k)
key_skips k by yields reads = record {
  there = λ ts. part (a_key.there ts) (λ j f e. record { of = λ rest is. e ∙ (yields j.0 j.1).of rest is });
  back = λ rest. follows _ (a_key.back k rest tt tt) (reads rest);
}

pub the_is : Skips is_at (Sign marks.Is)
unfolding is_at
the_is = mark_skips marks.Is is_by go (λ ts. refl) where
  go : (n : Mark) (ts : List Token) → Yields (is_by n ts) (λ rest. Sign n ∷ ts ≡ Sign marks.Is ∷ rest)
  go marks.Is ts = it ts refl
  go _ ts = nothing

pub the_colon : Skips colon_at (Sign marks.Colon)
unfolding colon_at
the_colon = mark_skips marks.Colon colon_by go (λ ts. refl) where
  go : (n : Mark) (ts : List Token) → Yields (colon_by n ts) (λ rest. Sign n ∷ ts ≡ Sign marks.Colon ∷ rest)
  go marks.Colon ts = it ts refl
  go _ ts = nothing

pub the_semicolon : Skips semicolon_at (Sign marks.Semicolon)
unfolding semicolon_at
the_semicolon = mark_skips marks.Semicolon semicolon_by go (λ ts. refl) where
  go : (n : Mark) (ts : List Token) → Yields (semicolon_by n ts) (λ rest. Sign n ∷ ts ≡ Sign marks.Semicolon ∷ rest)
  go marks.Semicolon ts = it ts refl
  go _ ts = nothing

pub the_in : Skips within_at (key keys.In)
unfolding within_at
the_in = key_skips keys.In within_by go (λ ts. refl) where
  go : (j : Key) (ts : List Token) → Yields (within_by j ts) (λ rest. key j ∷ ts ≡ key keys.In ∷ rest)
  go keys.In ts = it ts refl
  go _ ts = nothing

pub the_pc : Skips pc_at (key keys.Pc)
unfolding pc_at
the_pc = key_skips keys.Pc pc_by go (λ ts. refl) where
  go : (j : Key) (ts : List Token) → Yields (pc_by j ts) (λ rest. key j ∷ ts ≡ key keys.Pc ∷ rest)
  go keys.Pc ts = it ts refl
  go _ ts = nothing

pub the_priv : Skips priv_at (key keys.Priv)
unfolding priv_at
the_priv = key_skips keys.Priv priv_by go (λ ts. refl) where
  go : (j : Key) (ts : List Token) → Yields (priv_by j ts) (λ rest. key j ∷ ts ≡ key keys.Priv ∷ rest)
  go keys.Priv ts = it ts refl
  go _ ts = nothing

pub the_outcome : Skips outcome_word_at (key keys.Outcome)
unfolding outcome_word_at
the_outcome = key_skips keys.Outcome outcome_by go (λ ts. refl) where
  go : (j : Key) (ts : List Token) → Yields (outcome_by j ts) (λ rest. key j ∷ ts ≡ key keys.Outcome ∷ rest)
  go keys.Outcome ts = it ts refl
  go _ ts = nothing

-- ---- privileges

pub a_privilege : Reads privilege_at (λ p. key (privilege p) ∷ []) Always Always
unfolding privilege_at
a_privilege = record {
  there = λ ts. record { yields = part (a_key.there ts) (λ k f e. of_key k.0 k.1 ts e) };
  back = λ p rest f e. follows _ (a_key.back (privilege p) rest tt tt) (again p rest);
}
  where
    of_key : (k : Key) (rest ts : List Token) → ts ≡ key k ∷ rest → Yields (privilege_by k rest) (λ x. Unit {0} × (ts ≡ key (privilege x.0) ∷ x.1))
    of_key keys.Machine rest ts e = it (levels.M, rest) (tt, e)
    of_key keys.Supervisor rest ts e = it (levels.S, rest) (tt, e)
    of_key keys.User rest ts e = it (levels.U, rest) (tt, e)
    of_key _ rest ts e = nothing

    again : (p : Priv) (rest : List Token) → privilege_by (privilege p) rest ≡ Some (p, rest)
    again levels.M rest = refl
    again levels.S rest = refl
    again levels.U rest = refl

-- ---- the end of the line

pub the_end : (ts : List Token) → Yields (end_at ts) (λ u. ts ≡ [])
unfolding end_at
the_end [] = it tt refl
the_end (t ∷ ts) = nothing

pub the_open : (ts : List Token) → Yields (open_at ts) (λ u. ts ≡ Sign marks.Open ∷ [])
unfolding open_at mark_at end_at
the_open (Sign marks.Open ∷ []) = it tt refl
the_open _ = nothing
