-- What the first tokens of a line are as parts of statements: numbers, words, sets, atoms.
use Rattle.std.specs.Prelude.{ℕ, zero, suc, Bool, true, false, List, [], ◌∷◌, length, Option, Some, None, if◌then◌else◌}
use Rattle.tpl_ast.specs.Leaves.{are_comparable}
use Rattle.tpl_lang.specs.declared.mark.Mark.{Mark}
use Rattle.tpl_lang.specs.declared.mark.Mark.TheVariants as marks
use Rattle.tpl_lang.specs.declared.phrase.Element.{Element}
use Rattle.tpl_lang.specs.declared.phrase.Element.TheVariants as elements
use Rattle.tpl_lang.specs.declared.phrase.Numeral.{Numeral}
use Rattle.tpl_lang.specs.declared.phrase.OutcomeElement.{OutcomeElement}
use Rattle.tpl_lang.specs.declared.phrase.OutcomeElement.TheVariants as outcomes
use Rattle.tpl_ast.specs.declared.template.Var.{Var}
use Rattle.tpl_ast.specs.declared.template.Var.TheVariants as vars
use Rattle.tpl_lang.specs.declared.words.Key.{Key}
use Rattle.tpl_lang.specs.declared.words.Key.TheVariants as keys
use Rattle.tpl_lang.specs.Phrases.{SetPhrase, Named, Listed, Domain, Numbers, Words, Outcomes, AtomPhrase, Among, NotAmong, IsName, Same, Differ, Taken, NotTaken, Shared, WishPhrase, Csr, Close}
use Rattle.tpl_lang.specs.Tokens.{Token, Word, Number, Sign}
use Rattle.tpl_lang.specs.Words.{is_reserved, key_of}

-- what is read of the first tokens, and the tokens behind it
abbrev pub Read : Type 0 → Type 0
Read A = Option (A × List Token)

infixl 10 ◌>>=◌
abbrev pub ◌>>=◌ : {A B : Type 0} → Option A → (A → Option B) → Option B
(Some x) >>= f = f x
None >>= f = None

-- ---- single tokens

abbrev pub first_at : List Token → Read Token
first_at [] = None
first_at (t ∷ ts) = Some (t, ts)

abbrev pub word_in : Token → List Token → Read (List ℕ)
word_in (Word w) ts = Some (w, ts)
word_in _ ts = None

unfoldable pub word_at : List Token → Read (List ℕ)
word_at ts = do
  t ← first_at ts
  word_in t.0 t.1

abbrev pub number_in : Token → List Token → Read Numeral
number_in (Number n) ts = Some (n, ts)
number_in _ ts = None

unfoldable pub number_at : List Token → Read Numeral
number_at ts = do
  t ← first_at ts
  number_in t.0 t.1

abbrev pub mark_in : Token → List Token → Read Mark
mark_in (Sign m) ts = Some (m, ts)
mark_in _ ts = None

unfoldable pub mark_at : List Token → Read Mark
mark_at ts = do
  t ← first_at ts
  mark_in t.0 t.1

abbrev pub key_in : Option Key → List Token → Read Key
key_in None ts = None
key_in (Some k) ts = Some (k, ts)

unfoldable pub key_at : List Token → Read Key
key_at ts = do
  w ← word_at ts
  key_in (key_of w.0) w.1

-- a word that may be declared
unfoldable pub name_at : List Token → Read (List ℕ)
name_at ts = do
  w ← word_at ts
  if is_reserved w.0 then None else Some w

abbrev pub nothing_in : List Token → Option (Unit {0})
nothing_in [] = Some tt
nothing_in (t ∷ ts) = None

-- the line ends here
unfoldable pub end_at : List Token → Option (Unit {0})
end_at ts = nothing_in ts

abbrev pub opened : Mark → List Token → Option (Unit {0})
opened marks.Open ts = end_at ts
opened _ ts = None

-- an open brace ends the line
unfoldable pub open_at : List Token → Option (Unit {0})
open_at ts = do
  m ← mark_at ts
  opened m.0 m.1

abbrev pub is_by : Mark → List Token → Option (List Token)
is_by marks.Is ts = Some ts
is_by _ ts = None

unfoldable pub is_at : List Token → Option (List Token)
is_at ts = do
  m ← mark_at ts
  is_by m.0 m.1

abbrev pub colon_by : Mark → List Token → Option (List Token)
colon_by marks.Colon ts = Some ts
colon_by _ ts = None

unfoldable pub colon_at : List Token → Option (List Token)
colon_at ts = do
  m ← mark_at ts
  colon_by m.0 m.1

abbrev pub within_by : Key → List Token → Option (List Token)
within_by keys.In ts = Some ts
within_by _ ts = None

unfoldable pub within_at : List Token → Option (List Token)
within_at ts = do
  k ← key_at ts
  within_by k.0 k.1

-- ---- sets

abbrev pub element_by : Numeral → Mark → List Token → Read (Element × Mark)
element_by low marks.Range ts = do
  high ← number_at ts
  m ← mark_at high.1
  Some ((elements.Range low high.0, m.0), m.1)
element_by low m ts = Some ((elements.One low, m), ts)

-- a number or a range, and the symbol behind it
unfoldable pub element_at : List Token → Read (Element × Mark)
element_at ts = do
  low ← number_at ts
  m ← mark_at low.1
  element_by low.0 m.0 m.1

-- at most so many parts, each with the symbol behind it: a closing brace behind the last, and a comma behind the others
abbrev pub list_of : {A : Type 0} → (List Token → Read (A × Mark)) → ℕ → List Token → Read (List A)
list_of item zero ts = None
list_of item (suc most) ts = item ts >>= λ e. elim (e.0.1) [
  | marks.Close ↦ Some (e.0.0 ∷ [], e.1)
  | marks.Comma ↦ list_of item most e.1 >>= λ es. Some (e.0.0 ∷ es.0, es.1)
  | _ ↦ None
]

abbrev pub elements_at : ℕ → List Token → Read (List Element)
elements_at most ts = list_of element_at most ts

abbrev pub is_align : Option Key → Bool
is_align (Some keys.Align) = true
is_align _ = false

abbrev pub align_by : List Token → Read (Option Numeral)
align_by (Word w ∷ ts) = if is_align (key_of w) then (number_at ts >>= λ n. Some (Some n.0, n.1)) else Some (None, Word w ∷ ts)
align_by ts = Some (None, ts)

-- `align N`, or nothing
unfoldable pub align_at : List Token → Read (Option Numeral)
align_at ts = align_by ts

abbrev pub set_by : Token → List Token → Read SetPhrase
set_by (Word w) ts = Some (Named w, ts)
set_by (Sign marks.Open) ts = do
  es ← elements_at (length ts) ts
  align ← align_at es.1
  Some (Listed es.0 align.0, align.1)
set_by _ ts = None

unfoldable pub set_at : List Token → Read SetPhrase
set_at ts = do
  t ← first_at ts
  set_by t.0 t.1

-- a word, and the symbol behind it
unfoldable pub word_part_at : List Token → Read (List ℕ × Mark)
word_part_at ts = do
  w ← word_at ts
  m ← mark_at w.1
  Some ((w.0, m.0), m.1)

abbrev pub is_retire : Option Key → Bool
is_retire (Some keys.Retire) = true
is_retire _ = false

abbrev pub outcome_in : Token → List Token → Read OutcomeElement
outcome_in (Number n) ts = Some (outcomes.Cause n, ts)
outcome_in (Word w) ts = if is_retire (key_of w) then Some (outcomes.Retire, ts) else None
outcome_in _ ts = None

unfoldable pub outcome_at : List Token → Read OutcomeElement
outcome_at ts = do
  t ← first_at ts
  outcome_in t.0 t.1

-- an outcome, and the symbol behind it
unfoldable pub outcome_part_at : List Token → Read (OutcomeElement × Mark)
outcome_part_at ts = do
  o ← outcome_at ts
  m ← mark_at o.1
  Some ((o.0, m.0), m.1)

abbrev pub braces_by : {A : Type 0} → (List Token → Read (A × Mark)) → Mark → List Token → Read (List A)
braces_by item marks.Open ts = list_of item (length ts) ts
braces_by item _ ts = None

-- names in braces
unfoldable pub names_at : List Token → Read (List (List ℕ))
names_at ts = do
  m ← mark_at ts
  braces_by word_part_at m.0 m.1

-- outcomes in braces
unfoldable pub outcomes_at : List Token → Read (List OutcomeElement)
outcomes_at ts = do
  m ← mark_at ts
  braces_by outcome_part_at m.0 m.1

-- ---- atoms

-- the variable that a key names
abbrev pub var_of : Key → Option Var
var_of keys.Op = Some vars.Op
var_of keys.Rs1 = Some vars.Rs1
var_of keys.Rs2 = Some vars.Rs2
var_of keys.Rd = Some vars.Rd
var_of keys.Imm = Some vars.Imm
var_of keys.Csr = Some vars.Csr
var_of keys.Ea = Some vars.Ea
var_of keys.A = Some vars.A
var_of keys.B = Some vars.B
var_of keys.Pa = Some vars.Pa
var_of keys.Target = Some vars.Target
var_of keys.Outcome = Some vars.Outcome
var_of _ = None

-- sets of operations and CSRs list names, and those of outcomes `retire` and causes
abbrev pub domain_at : Var → List Token → Read Domain
domain_at vars.Op ts = names_at ts >>= λ ws. Some (Words ws.0, ws.1)
domain_at vars.Csr ts = names_at ts >>= λ ws. Some (Words ws.0, ws.1)
domain_at vars.Outcome ts = outcomes_at ts >>= λ os. Some (Outcomes os.0, os.1)
domain_at _ ts = set_at ts >>= λ s. Some (Numbers s.0, s.1)

abbrev pub var_named : Option Key → Option Var
var_named None = None
var_named (Some k) = var_of k

-- operations and outcomes have no names
abbrev pub is_nameable : Var → Bool
is_nameable vars.Op = false
is_nameable vars.Outcome = false
is_nameable _ = true

abbrev pub named_equal : Var → List ℕ → Option AtomPhrase
named_equal v w = if is_nameable v then Some (IsName v w) else None

abbrev pub equal_by : Var → List ℕ → Option Var → Option AtomPhrase
equal_by v w None = named_equal v w
equal_by v w (Some u) = if are_comparable v u then Some (Same v u) else named_equal v w

-- v == WORD: two variables, or a variable and a name
unfoldable pub equal_of : Var → List ℕ → Option AtomPhrase
equal_of v w = equal_by v w (var_named (key_of w))

abbrev pub unequal_by : Var → Option Var → Option AtomPhrase
unequal_by v None = None
unequal_by v (Some u) = if are_comparable v u then Some (Differ v u) else None

unfoldable pub unequal_of : Var → List ℕ → Option AtomPhrase
unequal_of v w = unequal_by v (var_named (key_of w))

abbrev pub with_rest : {A : Type 0} → List Token → Option A → Read A
with_rest ts None = None
with_rest ts (Some a) = Some (a, ts)

abbrev pub related_by : Var → Mark → List Token → Read AtomPhrase
related_by v marks.Equal ts = word_at ts >>= λ w. with_rest w.1 (equal_of v w.0)
related_by v marks.Unequal ts = word_at ts >>= λ w. with_rest w.1 (unequal_of v w.0)
related_by v _ ts = None

abbrev pub among_by : Var → Option Key → List Token → Read AtomPhrase
among_by v (Some keys.In) ts = domain_at v ts >>= λ d. Some (Among v d.0, d.1)
among_by v (Some keys.Not) ts = within_at ts >>= λ rest. domain_at v rest >>= λ d. Some (NotAmong v d.0, d.1)
among_by v _ ts = None

abbrev pub constrained_by : Var → Token → List Token → Read AtomPhrase
constrained_by v (Word w) ts = among_by v (key_of w) ts
constrained_by v (Sign m) ts = related_by v m ts
constrained_by v (Number n) ts = None

-- what is said of a variable
unfoldable pub constrained_at : Var → List Token → Read AtomPhrase
constrained_at v ts = do
  t ← first_at ts
  constrained_by v t.0 t.1

abbrev pub taken_by : Key → List Token → Read AtomPhrase
taken_by keys.Taken ts = Some (NotTaken, ts)
taken_by _ ts = None

unfoldable pub not_taken_at : List Token → Read AtomPhrase
not_taken_at ts = do
  k ← key_at ts
  taken_by k.0 k.1

abbrev pub of_var : Option Var → List Token → Read AtomPhrase
of_var None ts = None
of_var (Some v) ts = constrained_at v ts

abbrev pub atom_by : Key → List Token → Read AtomPhrase
atom_by keys.Taken ts = Some (Taken, ts)
atom_by keys.Shared ts = Some (Shared, ts)
atom_by keys.Not ts = not_taken_at ts
atom_by k ts = of_var (var_of k) ts

abbrev pub biased : Bool → AtomPhrase × List Token → Read WishPhrase
biased prefer a = Some (record { prefer = prefer; atom = a.0 }, a.1)

abbrev pub wish_by : Key → List Token → Read WishPhrase
wish_by keys.Prefer ts = key_at ts >>= λ k. atom_by k.0 k.1 >>= biased true
wish_by k ts = atom_by k ts >>= biased false

-- an atom, with an optional `prefer` before it
unfoldable pub wish_at : List Token → Read WishPhrase
wish_at ts = do
  k ← key_at ts
  wish_by k.0 k.1

abbrev pub semicolon_by : Mark → List Token → Option (List Token)
semicolon_by marks.Semicolon ts = Some ts
semicolon_by _ ts = None

unfoldable pub semicolon_at : List Token → Option (List Token)
semicolon_at ts = do
  m ← mark_at ts
  semicolon_by m.0 m.1

-- at most so many atoms up to the end of the line, with semicolons between them
abbrev pub some_wishes : ℕ → List Token → Option (List WishPhrase)
some_wishes zero ts = None
some_wishes (suc most) ts = wish_at ts >>= λ w. elim (w.1) [
  | [] ↦ Some (w.0 ∷ [])
  | _ ↦ semicolon_at w.1 >>= λ rest. some_wishes most rest >>= λ ws. Some (w.0 ∷ ws)
]

unfoldable pub wishes_at : List Token → Option (List WishPhrase)
wishes_at [] = Some []
wishes_at ts = some_wishes (length ts) ts
