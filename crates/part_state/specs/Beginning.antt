-- How a test begins: as its template says, with nothing done.
use Rattle.std.specs.Prelude.{◌≡◌, ℕ, ◌*◌, ◌/◌, ◌%◌, ◌<◌, if◌then◌else◌, List, [], ◌∷◌, length, map, replicate, None, slice_index_or}
use Rattle.rv_mem.specs.declared.words.Seen.TheVariants.{Untouched, Vacant}
use Rattle.rv_mem.specs.Part.{valued}
use Rattle.rv_mem.specs.Ram.{in_ram}
use Rattle.tpl_ast.specs.declared.template.HartDecl.{HartDecl}
use Rattle.tpl_ast.specs.declared.template.HartState.{HartState}
use Rattle.tpl_ast.specs.declared.template.Region.{Region}
use Rattle.tpl_ast.specs.declared.template.Template.{Template}
use Rattle.tpl_admit.specs.Starts.{fixed_in, no_state, lookup}
use Rattle.tpl_ast.specs.States.{is_in_ram}
use Rattle.part_machine.specs.Whole.{Bare, Whole, given, IsNew, no_hart, hart_of, word_given}
use Rattle.part_state.specs.Meaning.{value_of_key, held_in, IsFit}

-- the state in which hart k starts
abbrev pub start_in : List HartDecl → ℕ → HartState
start_in decls k = slice_index_or (map (λ d. d.start) decls) k no_state

-- hart k as a state gives it: its fixed parts, and just the values of the state's places
pub record IsHartOf (k : ℕ) (s : HartState) (b : Bare) : Type 0 where
  pub fit : IsFit b
  pub pc : b.pc ≡ s.pc
  pub privilege : b.privilege ≡ s.privilege
  pub mstatus : b.csrs.mstatus ≡ s.mstatus
  pub medeleg : b.csrs.medeleg ≡ s.medeleg
  pub satp : b.csrs.satp ≡ s.satp
  pub number : b.csrs.hart ≡ k
  pub places : (key : ℕ) → value_of_key b key ≡ lookup s.places key

-- each hart as its declaration says
pub record AreHartsOf (decls : List HartDecl) (harts : List Bare) : Type 0 where
  pub count : length harts ≡ length decls
  pub each : (k : ℕ) → k < length decls → IsHartOf k (start_in decls k) (slice_index_or harts k no_hart)

-- words with their first values, as pairs of address and value, one after another
abbrev pub words_given : List (ℕ × ℕ) → Whole → Whole
words_given [] w = w
words_given (e ∷ es) w = words_given es (word_given e.0 e.1 w)

-- each of them is aligned, and has no value before it is given
abbrev pub CanGive : List (ℕ × ℕ) → Whole → Type 0
CanGive [] w = Unit {0}
CanGive (e ∷ es) w = (e.0 % 4 ≡ 0) × (w.memory (e.0 / 4) ≡ Untouched) × CanGive es (word_given e.0 e.1 w)

-- the words were given to harts over RAM that did nothing yet
pub record IsBegunFrom (harts : List Bare) (ram : List (ℕ × ℕ)) (names : ℕ) (words : List (ℕ × ℕ)) (w : Whole) : Type 0 where
  pub first : Whole
  pub new : IsNew harts ram names first
  pub is : w ≡ words_given words first

-- RAM as pairs of the ends of a template's regions
abbrev pub ends_of : List Region → List (ℕ × ℕ)
ends_of ram = map (λ r. (r.low, r.high)) ram

-- a template's words, as pairs of number and value
abbrev pub numbered : List (ℕ × ℕ) → List (ℕ × ℕ)
numbered words = map (λ e. (e.0 / 4, e.1)) words

-- a template's harts, RAM and words, of which nothing more is known; nothing was done
pub record IsBegun (t : Template) (w : Whole) : Type 0 where
  pub count : length w.harts ≡ length t.harts
  pub first : w.first ≡ w.harts
  pub fixed : (k : ℕ) → k < length t.harts → (held_in (hart_of k w) w.memory).fixed ≡ fixed_in t.ram k (start_in t.harts k)
  pub places : (k key : ℕ) → k < length t.harts → value_of_key (hart_of k w) key ≡ lookup (start_in t.harts k).places key
  pub ends : w.ram ≡ ends_of t.ram
  pub ram : (n : ℕ) → in_ram w.ram n ≡ is_in_ram t.ram (n * 4)
  pub listed : w.words ≡ numbered t.words
  pub words : (n : ℕ) → given w.words n ≡ lookup t.words (n * 4)
  pub memory : (n : ℕ) → w.memory n ≡ (if is_in_ram t.ram (n * 4) then valued (lookup t.words (n * 4)) else Vacant)
  pub traces : w.traces ≡ replicate (length t.harts) []
  pub names : w.names ≡ replicate (length t.names) None
  pub choices : w.choices ≡ []
  pub dropped : w.dropped ≡ []
