-- The grammar: with which tokens each statement is spelled.
use Rattle.std.specs.Prelude.{◌≡◌, ℕ, Bool, true, false, List, [], ◌∷◌, ◌++◌, map, Option, Some, None}
use Rattle.std.specs.List.{AllByRecursion}
use Rattle.rv_csr.specs.declared.privilege.Priv.{Priv}
use Rattle.rv_csr.specs.declared.privilege.Priv.TheVariants as levels
use Rattle.tpl_lang.specs.declared.mark.Mark.TheVariants as marks
use Rattle.tpl_lang.specs.declared.phrase.Element.{Element}
use Rattle.tpl_lang.specs.declared.phrase.Element.TheVariants as elements
use Rattle.tpl_lang.specs.declared.phrase.Numeral.{Numeral}
use Rattle.tpl_lang.specs.declared.phrase.OutcomeElement.{OutcomeElement}
use Rattle.tpl_lang.specs.declared.phrase.OutcomeElement.TheVariants as outcomes
use Rattle.tpl_ast.specs.declared.template.Var.{Var}
use Rattle.tpl_ast.specs.declared.template.Var.TheVariants as vars
use Rattle.tpl_lang.specs.declared.words.Key.{Key}
use Rattle.tpl_lang.specs.declared.words.Key.TheVariants as keys
use Rattle.tpl_lang.specs.Phrases.{SetPhrase, Named, Listed, Domain, Numbers, Words, Outcomes, AtomPhrase, Among, NotAmong, IsName, Same, Differ, Taken, NotTaken, Shared, WishPhrase, Phrase, Ram, Pool, Tables, Flags, Vectors, Set, Name, Data, Hart, Start, Csr, Reg, Body, Do, Fault, Seq, Repeat, Choose, Way, Label, Close}
use Rattle.tpl_lang.specs.Tokens.{Token, Word, Number, Sign}
use Rattle.tpl_lang.specs.Words.{is_reserved, register_of, spelling_of}

-- a word of the language
abbrev pub key : Key → Token
key k = Word (spelling_of k)

-- at least one
abbrev pub IsSome : {A : Type 0} → List A → Type 0
IsSome [] = ⊥
IsSome (x ∷ xs) = Unit {0}

-- parts with a symbol between them
abbrev pub between : {A : Type 0} → Token → (A → List Token) → List A → List Token
between mark spelled [] = []
between mark spelled (x ∷ []) = spelled x
between mark spelled (x ∷ y ∷ xs) = spelled x ++ mark ∷ between mark spelled (y ∷ xs)

-- { PART, .. }
abbrev pub braced : {A : Type 0} → (A → List Token) → List A → List Token
braced spelled xs = Sign marks.Open ∷ between (Sign marks.Comma) spelled xs ++ Sign marks.Close ∷ []

-- ---- sets

-- N, or LO..HI
abbrev pub element : Element → List Token
element (elements.One n) = Number n ∷ []
element (elements.Range low high) = Number low ∷ Sign marks.Range ∷ Number high ∷ []

-- nothing, or align N
abbrev pub align : Option Numeral → List Token
align None = []
align (Some n) = key keys.Align ∷ Number n ∷ []

-- NAME, or { ELEMENT, .. } with or without align N
abbrev pub set : SetPhrase → List Token
set (Named name) = Word name ∷ []
set (Listed es a) = braced element es ++ align a

-- a list in braces has an element
abbrev pub IsSet : SetPhrase → Type 0
IsSet (Named name) = Unit {0}
IsSet (Listed es a) = IsSome es

-- a cause, or retire
abbrev pub outcome : OutcomeElement → List Token
outcome (outcomes.Cause n) = Number n ∷ []
outcome outcomes.Retire = key keys.Retire ∷ []

abbrev pub domain : Domain → List Token
domain (Numbers s) = set s
domain (Words names) = braced (λ name. Word name ∷ []) names
domain (Outcomes os) = braced outcome os

-- ---- atoms

-- the word of a variable
abbrev pub var_key : Var → Key
var_key vars.Op = keys.Op
var_key vars.Rs1 = keys.Rs1
var_key vars.Rs2 = keys.Rs2
var_key vars.Rd = keys.Rd
var_key vars.Imm = keys.Imm
var_key vars.Csr = keys.Csr
var_key vars.Ea = keys.Ea
var_key vars.A = keys.A
var_key vars.B = keys.B
var_key vars.Pa = keys.Pa
var_key vars.Target = keys.Target
var_key vars.Outcome = keys.Outcome

abbrev pub var : Var → Token
var v = key (var_key v)

-- names in braces for op and csr, outcomes in braces for outcome, a set for the others
abbrev pub IsDomain : Var → Domain → Type 0
IsDomain vars.Op (Words names) = IsSome names
IsDomain vars.Csr (Words names) = IsSome names
IsDomain vars.Outcome (Outcomes os) = IsSome os
IsDomain vars.Op _ = ⊥
IsDomain vars.Csr _ = ⊥
IsDomain vars.Outcome _ = ⊥
IsDomain v (Numbers s) = IsSet s
IsDomain v _ = ⊥

-- two different ones of rs1, rs2 and rd, or a and b, in this order
pub data AreComparable : Var → Var → Type 0 where
  Rs1Rs2 : AreComparable vars.Rs1 vars.Rs2
  Rs1Rd : AreComparable vars.Rs1 vars.Rd
  Rs2Rs1 : AreComparable vars.Rs2 vars.Rs1
  Rs2Rd : AreComparable vars.Rs2 vars.Rd
  RdRs1 : AreComparable vars.Rd vars.Rs1
  RdRs2 : AreComparable vars.Rd vars.Rs2
  AB : AreComparable vars.A vars.B

-- a variable but op and outcome, and a word that is no variable with which it could be compared
pub record IsNamed (v : Var) (name : List ℕ) : Type 0 where
  pub op : v ≡ vars.Op → ⊥
  pub outcome : v ≡ vars.Outcome → ⊥
  pub word : (u : Var) → AreComparable v u → name ≡ spelling_of (var_key u) → ⊥

abbrev pub atom : AtomPhrase → List Token
-- v in SET
atom (Among v d) = var v ∷ key keys.In ∷ domain d
-- v not in SET
atom (NotAmong v d) = var v ∷ key keys.Not ∷ key keys.In ∷ domain d
-- v == NAME
atom (IsName v name) = var v ∷ Sign marks.Equal ∷ Word name ∷ []
-- v == u
atom (Same v u) = var v ∷ Sign marks.Equal ∷ var u ∷ []
-- v != u
atom (Differ v u) = var v ∷ Sign marks.Unequal ∷ var u ∷ []
atom Taken = key keys.Taken ∷ []
-- not taken
atom NotTaken = key keys.Not ∷ key keys.Taken ∷ []
atom Shared = key keys.Shared ∷ []

abbrev pub IsAtom : AtomPhrase → Type 0
IsAtom (Among v d) = IsDomain v d
IsAtom (NotAmong v d) = IsDomain v d
IsAtom (IsName v name) = IsNamed v name
IsAtom (Same v u) = AreComparable v u
IsAtom (Differ v u) = AreComparable v u
IsAtom _ = Unit {0}

abbrev pub bias : Bool → List Token
bias true = key keys.Prefer ∷ []
bias false = []

-- ATOM, or prefer ATOM
abbrev pub wish : WishPhrase → List Token
wish w = bias w.prefer ++ atom w.atom

-- ATOM ; ..
abbrev pub wishes : List WishPhrase → List Token
wishes ws = between (Sign marks.Semicolon) wish ws

-- ---- statements

abbrev pub numbers : List Numeral → List Token
numbers ns = map Number ns

abbrev pub privilege : Priv → Key
privilege levels.M = keys.Machine
privilege levels.S = keys.Supervisor
privilege levels.U = keys.User

-- a statement is spelled with these tokens
abbrev pub Spells : Phrase → List Token → Type 0
-- ram LO HI
Spells (Ram low high) ts = ts ≡ key keys.Ram ∷ Number low ∷ Number high ∷ []
-- pool F ..
Spells (Pool frames) ts = IsSome frames × (ts ≡ key keys.Pool ∷ numbers frames)
-- tables F ..
Spells (Tables frames) ts = IsSome frames × (ts ≡ key keys.Tables ∷ numbers frames)
-- pteflags B ..
Spells (Flags bytes) ts = IsSome bytes × (ts ≡ key keys.Pteflags ∷ numbers bytes)
-- vectors SET
Spells (Vectors s) ts = IsSet s × (ts ≡ key keys.Vectors ∷ set s)
-- set NAME = SET
Spells (Set name s) ts = (is_reserved name ≡ false) × IsSet s × (ts ≡ key keys.Set ∷ Word name ∷ Sign marks.Is ∷ set s)
-- name NAME in SET
Spells (Name name s) ts = (is_reserved name ≡ false) × IsSet s × (ts ≡ key keys.Name ∷ Word name ∷ key keys.In ∷ set s)
-- data A = W
Spells (Data address word) ts = ts ≡ key keys.Data ∷ Number address ∷ Sign marks.Is ∷ Number word ∷ []
-- hart K {
Spells (Hart k) ts = ts ≡ key keys.Hart ∷ Number k ∷ Sign marks.Open ∷ []
-- start pc P priv M
Spells (Start pc p) ts = ts ≡ key keys.Start ∷ key keys.Pc ∷ Number pc ∷ key keys.Priv ∷ key (privilege p) ∷ []
-- csr NAME = V
Spells (Csr name value) ts = ts ≡ key keys.Csr ∷ Word name ∷ Sign marks.Is ∷ Number value ∷ []
-- reg xN = V
Spells (Reg n value) ts = (word : List ℕ) × (register_of word ≡ Some n) × (ts ≡ key keys.Reg ∷ Word word ∷ Sign marks.Is ∷ Number value ∷ [])
-- body {
Spells Body ts = ts ≡ key keys.Body ∷ Sign marks.Open ∷ []
-- do ATOM ; ..
Spells (Do ws) ts = AllByRecursion (λ w. IsAtom w.atom) ws × (ts ≡ key keys.Do ∷ wishes ws)
-- fault outcome in { OUTCOME, .. }
Spells (Fault os) ts = IsSome os × (ts ≡ key keys.Fault ∷ key keys.Outcome ∷ key keys.In ∷ braced outcome os)
-- seq {
Spells Seq ts = ts ≡ key keys.Seq ∷ Sign marks.Open ∷ []
-- repeat N {
Spells (Repeat times) ts = ts ≡ key keys.Repeat ∷ Number times ∷ Sign marks.Open ∷ []
-- choose {
Spells Choose ts = ts ≡ key keys.Choose ∷ Sign marks.Open ∷ []
-- W : {
Spells (Way weight) ts = ts ≡ Number weight ∷ Sign marks.Colon ∷ Sign marks.Open ∷ []
-- label NAME
Spells (Label name) ts = (is_reserved name ≡ false) × (ts ≡ key keys.Label ∷ Word name ∷ [])
-- }
Spells Close ts = ts ≡ Sign marks.Close ∷ []
