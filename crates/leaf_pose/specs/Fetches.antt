-- The problems of fetches, from the ways of a fetch.
use Rattle.std.specs.Prelude.{◌≡◌, ℕ, Bool, true, nat_eq, if◌then◌else◌, List, [], ◌∷◌, ◌++◌, Option, Some, None, All, slice_index}
use Rattle.dom_set.specs.Elements.{is_in}
use Rattle.rv_csr.specs.Causes.{number_of}
use Rattle.rv_csr.specs.Table.{register_at}
use Rattle.rv_script.specs.declared.place.Place.TheVariants.{Csr}
use Rattle.fd_prob.specs.declared.problem.Case.{Case as ACase}
use Rattle.fd_prob.specs.declared.problem.Problem.{Problem}
use Rattle.fd_prob.specs.declared.slot.Slot.{Slot}
use Rattle.fd_prob.specs.declared.slot.Slot.TheVariants as slots
use Rattle.fd_prob.specs.Fitting.{IsCase}
use Rattle.fd_prob.specs.Slots.{slot_number}
use Rattle.leaf_link.specs.Turns.{Turn, is_first_form, is_second_form}
use Rattle.leaf_link.specs.Cases.{Case}
use Rattle.leaf_link.specs.Kinds.{always}
use Rattle.leaf_link.specs.Answers.{IsProblemOf}
use Rattle.leaf_link.specs.FetchRows.{AreFetchRows, FetchRow, fetch_cases}
use Rattle.leaf_link.specs.FaultRows.{fault_cases}
use Rattle.leaf_link.specs.FetchAnswers.{IsFetchProblem, fetch_draw, fetch_space, is_fetched_slot}
use Rattle.fetch_ways.specs.declared.way.FetchEnd.{FetchEnd}
use Rattle.fetch_ways.specs.declared.way.FetchEnd.TheVariants as ends
use Rattle.fetch_ways.specs.declared.way.FetchWay.{FetchWay}
use Rattle.fetch_ways.specs.Ways.{AreFetchWays}
use Rattle.leaf_stand.specs.declared.shape.End.{End}
use Rattle.leaf_stand.specs.declared.shape.End.TheVariants.{Retires, Traps}
use Rattle.leaf_stand.specs.declared.stand.Stand.{Stand}
use Rattle.data_bytes.specs.Sets.{IsSetOf}
use Rattle.leaf_stand.specs.Stands.{also_at, csr_held}
use Rattle.leaf_pose.specs.Posed.{FitsMore}

-- the stand tells what the trap of a fetch rests on, the sets are the forms of new entries, and there are so many pairs of them
pub record IsFetchStand (s : Stand) (t : Turn) (first second : List ℕ) (space : ℕ) : Type 0 where
  pub privilege : t.fixed.privilege ≡ s.privilege
  pub medeleg : t.fixed.medeleg ≡ s.csrs.medeleg
  pub csrs : (addr : ℕ) → t.known (Csr addr) ≡ csr_held s.csrs (register_at addr)
  pub vectors : t.vectors ≡ s.vectors.now
  pub pairs : fetch_space t ≡ space
  pub firsts : IsSetOf (is_first_form t) first
  pub seconds : IsSetOf (is_second_form t) second

-- THE CASES OF WAYS
-- the entries are the way's, and all other variables are 0, but the vector of a fetch that fails
abbrev pub entries_at : Turn → FetchWay → End → Slot → ℕ → Bool
entries_at t way end slots.FirstPte v = is_in way.first v
entries_at t way end slots.SecondPte v = is_in way.second v
entries_at t way end slots.Vector v = also_at t end slots.Vector v
entries_at t way end _ v = nat_eq v 0

abbrev pub entries_case : Turn → FetchWay → End → Case
entries_case t way end = record { op = 0; doms = entries_at t way end; holds = always }

-- the ways of a `do` leaf are those that lead somewhere
abbrev pub fetch_end : FetchEnd → Option End
fetch_end (ends.At pa) = Some Retires
fetch_end (ends.Fails cause) = None

-- those of a `fault` leaf fail with a cause that it lists
abbrev pub fault_end : List ℕ → FetchEnd → Option End
fault_end causes (ends.At pa) = None
fault_end causes (ends.Fails cause) = if is_in causes (number_of cause) then Some (Traps cause) else None

-- the case of a way that is one of the leaf's
abbrev pub case_by : Turn → FetchWay → Option End → List Case
case_by t way None = []
case_by t way (Some end) = entries_case t way end ∷ []

abbrev pub cases_by : (FetchEnd → Option End) → Turn → List FetchWay → List Case
cases_by to t [] = []
cases_by to t (way ∷ ways) = case_by t way (to way.end) ++ cases_by to t ways

-- cases came to others, and just those cases of the definition
pub record AddsCases (old new : List ACase) (ds : List Case) : Type 0 where
  pub shape : All IsCase old → All IsCase new
  pub fits : FitsMore old new ds
  pub rest : List ACase
  pub behind : new ≡ old ++ rest

-- of the draws of a turn those for the two entries and for the vector
abbrev pub AreFetchPivots : List ℕ → List ℕ → Type 0
AreFetchPivots draws pivots = (s : Slot) → is_fetched_slot s ≡ true → slice_index pivots (slot_number s) ≡ fetch_draw draws s

-- THE PROBLEMS
-- the problem of the fetch of a `do` leaf, at every turn that the stand tells and that has these ways
abbrev pub PosesFetch : Stand → List ℕ → List ℕ → ℕ → List FetchWay → List ℕ → Problem → Type 0
PosesFetch s first second pairs ways draws p =
    (t : Turn) (rows : List FetchRow) → IsFetchStand s t first second pairs → AreFetchWays t ways → AreFetchRows t rows → IsFetchProblem t draws p × IsProblemOf p (fetch_cases t rows)

-- the problem of a `fault` leaf that lists these causes
abbrev pub PosesFault : Stand → List ℕ → List ℕ → ℕ → List FetchWay → List ℕ → List ℕ → Problem → Type 0
PosesFault s first second pairs ways draws causes p =
    (t : Turn) (rows : List FetchRow) → IsFetchStand s t first second pairs → AreFetchWays t ways → AreFetchRows t rows → IsFetchProblem t draws p × IsProblemOf p (fault_cases t (is_in causes) rows)
