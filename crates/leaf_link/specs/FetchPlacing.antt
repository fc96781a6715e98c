-- Which of the values of a fetch each of its new places has, told from the place alone; and what the step of a fetch that fails keeps.
use Rattle.std.specs.Prelude.{◌≡◌, ℕ, Bool, true, nat_eq, if◌then◌else◌, Some}
use Rattle.rv_script.specs.declared.place.Place.{Place}
use Rattle.rv_script.specs.declared.place.Place.TheVariants.{Reg, Csr, Word}
use Rattle.rv_script.specs.Bytes.{word_address}
use Rattle.rv_script.specs.Folds.{Known}
use Rattle.sv_walk.specs.Translation.{root_address}
use Rattle.rv_hart.specs.Changes.{outcome_of}
use Rattle.rv_hart.specs.Machine.{fetch_view}
use Rattle.tpl_admit.specs.Admitting.{is_unfetched}
use Rattle.fd_prob.specs.declared.slot.Slot.TheVariants as slots
use Rattle.leaf_link.specs.Turns.{Turn}
use Rattle.leaf_link.specs.Values.{Values}
use Rattle.leaf_link.specs.Fetches.{IsFetchCandidate}
use Rattle.leaf_link.specs.Faults.{IsFaultCandidate}
use Rattle.leaf_link.specs.FetchAnswers.{fault_key, fetch_key}
use Rattle.leaf_link.specs.Placing.{AreTwoWords, KeepsSatp}

-- the word of the root entry of the pc
abbrev pub root_word : Turn → ℕ
root_word t = word_address (root_address (fetch_view t.fixed) t.fixed.pc)

-- where the root entry is the word at `root`: a word is the root entry or the second one, a CSR is the vector of a trap
abbrev pub entry_value : Values → ℕ → Place → ℕ
entry_value x root (Word addr) = if nat_eq addr root then x slots.FirstPte else x slots.SecondPte
entry_value x root (Csr addr) = x slots.Vector
entry_value x root (Reg n) = 0

-- of the fetch of a `do` leaf, and of the step of a `fault` leaf
abbrev pub FetchPlacesHaveValues : Type 0
FetchPlacesHaveValues = (t : Turn) (new : Known) → (w : IsFetchCandidate t new) → (place : Place) (v : ℕ) → new place ≡ Some v → v ≡ entry_value (fetch_key t new w) (root_word t) place

abbrev pub FaultPlacesHaveValues : Type 0
FaultPlacesHaveValues =
    (t : Turn) (causes : ℕ → Bool) (new : Known) → (w : IsFaultCandidate t causes new) → (place : Place) (v : ℕ) → new place ≡ Some v → v ≡ entry_value (fault_key t causes new w) (root_word t) place

-- they start the root entry and one other word at most
abbrev pub FetchWordsAreTwo : Type 0
FetchWordsAreTwo = (t : Turn) (new : Known) → IsFetchCandidate t new → AreTwoWords new (root_word t)

abbrev pub FaultWordsAreTwo : Type 0
FaultWordsAreTwo = (t : Turn) (causes : ℕ → Bool) (new : Known) → IsFaultCandidate t causes new → AreTwoWords new (root_word t)

-- a step whose fetch fails does not write satp
abbrev pub FaultsKeepSatp : Type 0
FaultsKeepSatp = (t : Turn) (causes : ℕ → Bool) (new : Known) → (w : IsFaultCandidate t causes new) → KeepsSatp w.change.control

-- and it ends as one whose fetch failed
abbrev pub FaultsAreUnfetched : Type 0
FaultsAreUnfetched = (t : Turn) (causes : ℕ → Bool) (new : Known) → (w : IsFaultCandidate t causes new) → is_unfetched (outcome_of t.fixed w.change.control) ≡ true
