-- The step of an answer that is found can be made, and the entries of a fetch can be given.
use Rattle.std.proofs.Common.{◌≡◌, ℕ, Bool, true, false, not, ◌&&◌, eqb, if◌then◌else◌, List, Option, Some, None, refl, sym, ap, ◌∙◌, subst, arith}
use Rattle.std.proofs.Math.Path.{fun_ext}
use Rattle.rv_isa.specs.Encoding.{word_of}
use Rattle.rv_isa.specs.Numbers.{op_numbered}
use Rattle.rv_script.specs.declared.place.Place.{Place}
use Rattle.rv_script.specs.declared.place.Place.TheVariants.{Reg, Csr, Word}
use Rattle.rv_script.specs.Logs.{value_or}
use Rattle.foot_map.specs.declared.touch.Touch.{Touch}
use Rattle.sv_walk.specs.declared.entry.View.{View}
use Rattle.sv_walk.specs.Entry.{is_invalid, is_pointer}
use Rattle.sv_walk.specs.Translation.{is_translated, root_address, second_address}
use Rattle.rv_hart.specs.Fixed.{Fixed}
use Rattle.rv_hart.specs.Machine.{data_view}
use Rattle.rv_script.specs.Folds.{Entry, Known}
use Rattle.fd_prob.specs.declared.slot.Slot.{Slot}
use Rattle.fd_prob.specs.declared.slot.Slot.TheVariants as slots
use Rattle.part_machine.specs.Whole.{Whole, fixed_in, hart_of}
use Rattle.leaf_link.specs.Answers.{values_in}
use Rattle.leaf_link.specs.Faults.{fault_values}
use Rattle.leaf_link.specs.Fetches.{fetch_values}
use Rattle.leaf_link.specs.Placing.{IsInstruction, ValuesAreInstructions, is_second, place_value, PlacesHaveValues}
use Rattle.leaf_link.specs.Problems.{key_of}
use Rattle.leaf_link.specs.Turns.{Turn}
use Rattle.leaf_link.specs.Values.{Values, instr_in}
use Rattle.turn_laws.specs.Entered.{FetchCandidatesAreWalked}
use Rattle.turn_laws.specs.Given.{Setting, known_at, turn_at}
use Rattle.turn_laws.specs.Played.{CandidatesArePlayed, FaultsArePlayed}
use Rattle.leaf_turn.specs.declared.taking.DataWalk.{DataWalk}
use Rattle.leaf_turn.specs.Answers.{IsFound, is_at, new_at, second_of, value_started, walk_of, word_value}
use Rattle.leaf_link.specs.FetchPlacing.{FaultPlacesHaveValues, FetchPlacesHaveValues, entry_value}
use Rattle.leaf_turn.specs.Entering.{entries_at, root_at}
use Rattle.leaf_turn.specs.Finding.{FaultsArePlayable, FetchesAreEnterable, FoundArePlayable}

same_values : (k : ℕ) (w : Whole) (pa : ℕ) (x : Values) → (f : IsFound k w pa x) → key_of (turn_at f.setting f.feet k w) f.leaf (new_at k w x) f.candidate ≡ x
same_values k w pa x f = fun_ext (λ (s : Slot). sym (f.values s))

-- where entries stand, as a test and as its turns have them
told_value : (k : ℕ) (w : Whole) (s : Setting) (feet : List Touch) (x : Values) (pa : ℕ) (place : Place) → place_value (turn_at s feet k w) x pa place ≡ value_started (walk_of k w x) x pa place
told_value k w s feet x pa (Reg n) = refl
told_value k w s feet x pa (Csr addr) = refl
told_value k w s feet x pa (Word addr) = ap (λ (v : ℕ). if eqb addr pa then word_of (instr_in x) else v) (by_view (is_translated (data_view f)))
  where
    f : Fixed
    f = fixed_in (hart_of k w) w.memory

    root : ℕ
    root = root_address (data_view f) (x slots.Ea)

    entry : ℕ
    entry = value_or (known_at k w (Word root)) (x slots.FirstPte)

    second_same : (b : Bool) → (if b && eqb addr (second_address (x slots.Ea) entry) then x slots.SecondPte else x slots.DataWord) ≡ (if is_at (if b then Some (second_address (x slots.Ea) entry) else None) addr then x slots.SecondPte else x slots.DataWord)
    second_same true = refl
    second_same false = refl

    by_view : (b : Bool) → (if b then (if eqb addr root then x slots.FirstPte else if is_second (x slots.Ea) entry addr then x slots.SecondPte else x slots.DataWord) else x slots.DataWord)
        ≡ word_value (if b then Some (record { root = root; second = second_of (x slots.Ea) entry }) else None) x addr
    by_view false = refl
    by_view true = ap (λ (v : ℕ). if eqb addr root then x slots.FirstPte else v) (second_same (not (is_invalid entry) && is_pointer entry))

-- what the parts of the walk say, it says
pub walk_made : (k : ℕ) (w : Whole) (x : Values) (view : View) (ea root entry : ℕ) (second : Option ℕ) → view ≡ data_view (fixed_in (hart_of k w) w.memory) → ea ≡ x slots.Ea → root ≡ root_address view ea → entry ≡ value_or (known_at k w (Word root)) (x slots.FirstPte)
    → second ≡ second_of ea entry → is_translated view ≡ true → Some (record { root = root; second = second }) ≡ walk_of k w x
walk_made k w x view ea root entry second v e r n s translated =
    let f = fixed_in (hart_of k w) w.memory in
    let at : root ≡ root_address (data_view f) (x slots.Ea) = r ∙ ap (λ (u : View). root_address u ea) v ∙ ap (root_address (data_view f)) e in
    let held : entry ≡ value_or (known_at k w (Word (root_address (data_view f) (x slots.Ea)))) (x slots.FirstPte) = n ∙ ap (λ (m : ℕ). value_or (known_at k w (Word m)) (x slots.FirstPte)) at in
    let is : second ≡ second_of (x slots.Ea) (value_or (known_at k w (Word (root_address (data_view f) (x slots.Ea)))) (x slots.FirstPte)) = s ∙ ap (λ (m : ℕ). second_of m entry) e ∙ ap (second_of (x slots.Ea)) held in
    let plain : is_translated (data_view f) ≡ true = sym (ap is_translated v) ∙ translated in
    ap (λ (m : ℕ). made (Some (record { root = m; second = second }))) at ∙ ap (λ (o : Option ℕ). made (Some (record { root = root_address (data_view f) (x slots.Ea); second = o }))) is
    ∙ sym (ap (λ (b : Bool). if b then made (Some (record { root = root_address (data_view f) (x slots.Ea); second = second_of (x slots.Ea) (value_or (known_at k w (Word (root_address (data_view f) (x slots.Ea)))) (x slots.FirstPte)) })) else None) plain)
  where
    made : Option DataWalk → Option DataWalk
    made o = o

pub found_are_playable : PlacesHaveValues → ValuesAreInstructions → CandidatesArePlayed → FoundArePlayable
found_are_playable places instructions played k w pa x f =
    let t : Turn = turn_at f.setting f.feet k w in
    record {
      setting = f.setting;
      feet = f.feet;
      log = f.candidate.log;
      change = f.candidate.change;
      vectors = f.vectors;
      footprint = f.footprint;
      aligned = f.fetched.aligned;
      played = played t f.leaf (new_at k w x) f.candidate;
      values = λ place v new.
          places t f.walk pa f.leaf (new_at k w x) f.fetched f.words f.candidate place v new
          ∙ ap (λ (y : Values). place_value t y pa place) (same_values k w pa x f) ∙ told_value k w f.setting f.feet x pa place;
      instruction = subst IsInstruction (same_values k w pa x f) (instructions t f.leaf (new_at k w x) f.candidate).0;
    }

-- ---- a fetch that fails

-- all fields of an instruction are 0, as those of `lui x0, 0`
fault_instruction : (t : Turn) (log : List Entry) → IsInstruction (fault_values t log)
unfolding op_numbered
fault_instruction t log = record { number = omega arith; fits = (omega arith, refl, refl, omega arith, refl, refl) }

pub faults_are_playable : FaultPlacesHaveValues → FaultsArePlayed → FaultsArePlayable
faults_are_playable places played k w s feet causes draws nodes x vectors footprint aligned answer =
    let t : Turn = turn_at s feet k w in
    let new : Known = new_at k w (values_in x) in
    let c = answer.1.is in
    let is : values_in x ≡ fault_values t c.log = fun_ext answer.1.are_values in
    record {
      setting = s;
      feet = feet;
      log = c.log;
      change = c.change;
      vectors = vectors;
      footprint = footprint;
      aligned = aligned;
      played = played t causes new c;
      values = λ place v h. places t causes new c place v h ∙ ap (λ (y : Values). entry_value y (root_at k w) place) (sym is);
      instruction = subst IsInstruction (sym is) (fault_instruction t c.log);
    }

-- ---- a fetch that succeeds

pub fetches_are_enterable : FetchPlacesHaveValues → FetchCandidatesAreWalked → FetchesAreEnterable
fetches_are_enterable places walked k w s feet draws nodes x vectors footprint aligned answer =
    let t : Turn = turn_at s feet k w in
    let new : Known = entries_at k w (values_in x) in
    let c = answer.1.is in
    let is : values_in x ≡ fetch_values t c.log = fun_ext answer.1.are_values in
    record {
      setting = s;
      feet = feet;
      log = c.log;
      pa = c.pa;
      vectors = vectors;
      aligned = aligned;
      footprint = footprint;
      walked = walked t new c;
      free = c.meets.free;
      values = λ place v h. places t new c place v h ∙ ap (λ (y : Values). entry_value y (root_at k w) place) (sym is);
    }
