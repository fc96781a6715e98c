-- Where a trace fails its template: the failures of each hart, and of which trace there is none.
use Rattle.std.specs.Prelude.{◌≡◌, ℕ, ◌+◌, ◌-◌, Bool, true, false, not, ◌&&◌, ◌||◌, ◌==◌, List, [], ◌∷◌, ◌++◌, length, map, Option, Some, None, slice_index_or, slice_set, take, nat_lt, min, ◌^◌, if◌then◌else◌}
use Rattle.std.specs.List.{list_all, list_any}
use Rattle.dom_set.specs.Elements.{is_in}
use Rattle.rv_csr.specs.declared.privilege.Priv.{Priv}
use Rattle.rv_csr.specs.declared.privilege.Priv.TheVariants.{U, S, M}
use Rattle.rv_hart.specs.declared.record.Outcome.{Outcome}
use Rattle.rv_hart.specs.declared.record.Outcome.TheVariants.{Retired, Trap}
use Rattle.rv_hart.specs.declared.record.Record.{Record}
use Rattle.rv_hart.specs.Registers.{no_registers, written}
use Rattle.tpl_ast.specs.declared.template.Atom.{Atom}
use Rattle.tpl_ast.specs.declared.template.Atom.TheVariants as atoms
use Rattle.tpl_ast.specs.declared.template.HartDecl.{HartDecl}
use Rattle.tpl_ast.specs.declared.template.HartState.{HartState}
use Rattle.tpl_ast.specs.declared.template.Template.{Template}
use Rattle.tpl_ast.specs.declared.template.Var.{Var}
use Rattle.tpl_ast.specs.declared.template.Var.TheVariants as vars
use Rattle.tpl_ast.specs.declared.template.Wish.{Wish}
use Rattle.tpl_ast.specs.Expansion as expansions
use Rattle.tpl_ast.specs.Expansion.{Piece, expansion_of}
use Rattle.tpl_admit.specs.declared.admission.Unmet.{Unmet}
use Rattle.tpl_admit.specs.declared.dropped.Dropped.{Dropped}
use Rattle.tpl_admit.specs.Starts.{no_state, lookup}
use Rattle.tpl_admit.specs.Truth.{holds}
use Rattle.tpl_admit.specs.Variables.{Moment, outcome_in}

-- a trace, and what it says of the template's choices, names and biases
pub record Trace : Type 0 where
  pub template : Template
  pub start : List HartState
  pub words : List (ℕ × ℕ)
  pub records : List (List Record)
  pub choices : List ℕ
  pub names : List (ℕ × ℕ)
  pub dropped : List Dropped

-- a step, and an atom of its leaf
abbrev pub Failure : Type 0
Failure = ℕ × ℕ

-- what stands for an atom where what fails is none
abbrev pub no_atom : ℕ
no_atom = 65535

-- ---- the atoms of a leaf

-- an atom on the outcome that isn't a bias
abbrev pub is_on_outcome : Var → Bool
is_on_outcome vars.Outcome = true
is_on_outcome _ = false

abbrev pub says_outcome : Atom → Bool
says_outcome (atoms.In v set) = is_on_outcome v
says_outcome (atoms.NotIn v set) = is_on_outcome v
says_outcome _ = false

abbrev pub fixes_outcome : Wish → Bool
fixes_outcome w = not w.prefer && says_outcome w.atom

-- the bias is listed as dropped
abbrev pub is_drop : ℕ → ℕ → ℕ → Dropped → Bool
is_drop hart step atom d = d.hart == hart && (d.step == step && d.atom == atom)

abbrev pub is_excused : List Dropped → ℕ → ℕ → ℕ → Wish → Bool
is_excused dropped hart step atom w = w.prefer && list_any (is_drop hart step atom) dropped

-- numbers of atoms end at 2 ^ 32 - 1
abbrev pub numbered : ℕ → ℕ
numbered n = min n (2 ^ 32 - 1)

-- atoms that are false, numbered on from a number: mandatory ones, and biases that aren't dropped
abbrev pub false_atoms : List Dropped → ℕ → ℕ → Moment → ℕ → List Wish → List ℕ
false_atoms dropped hart step m n [] = []
false_atoms dropped hart step m n (w ∷ ws) =
    let rest = false_atoms dropped hart step m (numbered (n + 1)) ws in
    if holds w.atom m || is_excused dropped hart step n w then rest else n ∷ rest

-- a leaf that says nothing of the outcome wants its instruction to retire; this atom is numbered behind the written ones
abbrev pub unretired : Moment → List Wish → List ℕ
unretired m ws = if list_any fixes_outcome ws || outcome_in m.done.outcome == 255 then [] else numbered (length ws) ∷ []

abbrev pub unmet_atoms : List Dropped → ℕ → ℕ → Moment → List Wish → List ℕ
unmet_atoms dropped hart step m ws = false_atoms dropped hart step m 0 ws ++ unretired m ws

-- ---- pieces

-- the cause of a fetch that failed
abbrev pub is_fetch_cause : ℕ → Bool
is_fetch_cause cause = cause == 1 || cause == 12

abbrev pub is_unfetched : Outcome → Bool
is_unfetched Retired = false
is_unfetched (Trap cause value to) = is_fetch_cause cause

-- what a hart's pieces are judged by: its number, the values of names, the records of the harts before it, and the dropped biases
pub record Context : Type 0 where
  pub hart : ℕ
  pub names : ℕ → Option ℕ
  pub others : List (List Record)
  pub dropped : List Dropped

-- where a hart stands: the number of its next step, its next pc, the values of its registers, and its records from there on
pub record Stand : Type 0 where
  pub step : ℕ
  pub pc : ℕ
  pub regs : List (Option ℕ)
  pub records : List Record

-- after its next record; where there is none it stays
abbrev pub went_on : Stand → List Record → Stand
went_on s [] = s
went_on s (r ∷ rs) = record { step = s.step + 1; pc = r.next_pc; regs = written r.rd s.regs; records = rs }

abbrev pub stand_after : Piece → Stand → Stand
stand_after (expansions.Leaf ws) s = went_on s s.records
stand_after (expansions.FetchFault causes) s = went_on s s.records
stand_after (expansions.Label name) s = s
stand_after expansions.Stuck s = s

abbrev pub here : Stand → List Failure
here s = (s.step, no_atom) ∷ []

abbrev pub at : Stand → List ℕ → List Failure
at s ns = map (λ n. (s.step, n)) ns

abbrev pub moment_of : Context → Stand → Record → Moment
moment_of c s r = record { done = r; regs = s.regs; names = c.names; others = c.others }

-- a leaf's record has a fetch that succeeded
abbrev pub leaf_failures : Context → Stand → List Wish → List Record → List Failure
leaf_failures c s ws [] = here s
leaf_failures c s ws (r ∷ rs) = if is_unfetched r.outcome then here s else at s (unmet_atoms c.dropped c.hart s.step (moment_of c s r) ws)

-- the record of a failing fetch has one of the causes
abbrev pub fetch_failures : Stand → List ℕ → List Record → List Failure
fetch_failures s causes [] = here s
fetch_failures s causes (r ∷ rs) = if is_unfetched r.outcome && is_in causes (outcome_in r.outcome) then [] else here s

-- the name of a label has the pc of its moment as its value
abbrev pub is_value : Option ℕ → ℕ → Bool
is_value None pc = false
is_value (Some v) pc = v == pc

abbrev pub label_failures : Context → Stand → ℕ → List Failure
label_failures c s name = if is_value (c.names name) s.pc then [] else here s

abbrev pub failures_at : Context → Piece → Stand → List Failure
failures_at c (expansions.Leaf ws) s = leaf_failures c s ws s.records
failures_at c (expansions.FetchFault causes) s = fetch_failures s causes s.records
failures_at c (expansions.Label name) s = label_failures c s name
failures_at c expansions.Stuck s = here s

-- no record is left over
abbrev pub left_over : Stand → List Record → List Failure
left_over s [] = []
left_over s (r ∷ rs) = here s

abbrev pub failures_in : Context → List Piece → Stand → List Failure
failures_in c [] s = left_over s s.records
failures_in c (p ∷ ps) s = failures_at c p s ++ failures_in c ps (stand_after p s)

-- ---- harts

abbrev pub is_same_level : Priv → Priv → Bool
is_same_level U U = true
is_same_level S S = true
is_same_level M M = true
is_same_level _ _ = false

-- the value is given
abbrev pub gives : List (ℕ × ℕ) → ℕ × ℕ → Bool
gives given e = is_value (lookup given e.0) e.1

-- a hart's start has all that the template says of it
abbrev pub starts_as : HartState → HartState → Bool
starts_as told s =
    s.pc == told.pc && (is_same_level s.privilege told.privilege
    && (s.mstatus == told.mstatus && (s.medeleg == told.medeleg && (s.satp == told.satp && list_all (gives s.places) told.places))))

-- the started words are among the given ones; they count for hart 0
abbrev pub has_words : Trace → ℕ → Bool
has_words t k = not (k == 0) || list_all (gives t.words) t.template.words

abbrev pub start_failures : Trace → ℕ → HartState → List Failure
start_failures t k told = if starts_as told (slice_index_or t.start k no_state) && has_words t k then [] else (0, no_atom) ∷ []

abbrev pub records_of : Trace → ℕ → List Record
records_of t k = slice_index_or t.records k []

abbrev pub context_of : Trace → ℕ → Context
context_of t k = record { hart = k; names = lookup t.names; others = take k t.records; dropped = t.dropped }

-- the values of registers among those of places
abbrev pub with_given : List (ℕ × ℕ) → List (Option ℕ) → List (Option ℕ)
with_given [] regs = regs
with_given (e ∷ es) regs = with_given es (if nat_lt e.0 32 then slice_set regs e.0 (Some e.1) else regs)

abbrev pub first_stand : Trace → ℕ → Stand
first_stand t k = let s = slice_index_or t.start k no_state in record { step = 0; pc = s.pc; regs = with_given s.places no_registers; records = records_of t k }

abbrev pub hart_failures : Trace → ℕ → HartDecl → List Piece → List Failure
hart_failures t k h pieces = start_failures t k h.start ++ failures_in (context_of t k) pieces (first_stand t k)

abbrev pub at_hart : ℕ → Failure → Unmet
at_hart k f = record { hart = k; step = f.0; atom = f.1 }

-- no choice is left over behind the last hart
abbrev pub choices_over : Trace → ℕ → List ℕ → List Unmet
choices_over t k [] = []
choices_over t k (n ∷ ns) = at_hart (k - 1) (length (records_of t (k - 1)), no_atom) ∷ []

-- the harts from one on, with the numbers that are left for their choices; behind a body that got stuck nothing is judged
abbrev pub failures_from : Trace → ℕ → List HartDecl → Option (List ℕ) → List Unmet
failures_from t k hs None = []
failures_from t k [] (Some choices) = choices_over t k choices
failures_from t k (h ∷ hs) (Some choices) =
    let laid = expansion_of h.body.items choices in
    map (at_hart k) (hart_failures t k h laid.pieces) ++ failures_from t (k + 1) hs laid.left

-- all failures, by hart
abbrev pub failures_of : Trace → List Unmet
failures_of t = failures_from t 0 t.template.harts (Some t.choices)

-- the template admits the trace
abbrev pub IsAdmitted : Trace → Type 0
IsAdmitted t = failures_of t ≡ []

-- ---- the least failure

-- by hart, step and atom
abbrev pub comes_before : Unmet → Unmet → Bool
comes_before f g = nat_lt f.hart g.hart || (f.hart == g.hart && (nat_lt f.step g.step || (f.step == g.step && nat_lt f.atom g.atom)))

abbrev pub lesser : Option Unmet → Unmet → Option Unmet
lesser None f = Some f
lesser (Some g) f = if comes_before f g then Some f else Some g

abbrev pub least_among : List Unmet → Option Unmet → Option Unmet
least_among [] least = least
least_among (f ∷ fs) least = least_among fs (lesser least f)

-- the least failure of a trace, and none where it has none
abbrev pub least_failure : Trace → Option Unmet
least_failure t = least_among (failures_of t) None
