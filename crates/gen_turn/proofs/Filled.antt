-- The registers of a hart as admission follows them: those that are known of it, and of the others the values that the start will give them.
use Rattle.std.proofs.Common.{◌≡◌, ℕ, zero, suc, ◌+◌, ◌<◌, ◌≤◌, Bool, ltb, if◌then◌else◌, List, length, length-set, get_or-set_other, get_or-set_same, Option, Some, None, refl, sym, ap, ◌∙◌, inl, inr, arith}
use Rattle.std.specs.Option.{option_or}
use Rattle.std.specs.Prelude.{slice_index_or, slice_set}
use Rattle.std.proofs.lemmas.Bool.{cases_eq, cases_lt, eq-eqb, lt-ltb, ne_eqb}
use Rattle.rv_script.specs.declared.access.Access.{Access}
use Rattle.rv_script.specs.declared.place.Place.{Place}
use Rattle.rv_script.specs.declared.place.Place.TheVariants.{Reg}
use Rattle.rv_script.specs.Folds.{Known}
use Rattle.rv_script.specs.Logs.{or_else}
use Rattle.rv_hart.specs.declared.record.Change.{Change}
use Rattle.rv_hart.specs.Changes.{IsSoundWrite, csrs_after, given_by}
use Rattle.rv_hart.specs.Fixed.{fixed_csrs}
use Rattle.rv_hart.specs.Registers.{written}
use Rattle.part_laws.specs.Partial.{Partial, advanced, held_after}
use Rattle.part_machine.specs.Whole.{Whole}
use Rattle.part_state.specs.Meaning.{IsTest, partial_of}
use Rattle.part_state.proofs.Keys.{none_low}
use Rattle.leaf_link.specs.Candidates.{registers_from}
use Rattle.turn_laws.specs.Given.{CanGive, all_given, given_to, known_at}
use Rattle.turn_laws.specs.Laws.{IsStartOn}
use Rattle.turn_laws.proofs.Places.{held, known}
use Rattle.turn_laws.proofs.Starts.{gives_registers}
use Rattle.gen_turn.proofs.MoreTruth.{IsKnownIn}

-- what the end's start gives to the registers of hart k is the third argument
pub record IsFilled (p : Partial) (k : ℕ) (given : ℕ → Option ℕ) (regs : List (Option ℕ)) : Type 0 where
  pub size : length regs ≡ 32
  pub zero : slice_index_or regs 0 None ≡ Some 0
  pub each : (n : ℕ) → 0 < n → n < 32 → slice_index_or regs n None ≡ or_else ((p.harts k).places n) (given n)

-- a register that is known of a hart
pub register_held : (k : ℕ) (w : Whole) → IsTest w → k < length w.harts → (n : ℕ) → 0 < n → n < 32 → known_at k w (Reg n) ≡ ((partial_of w).harts k).places n
register_held k w test l n some small =
    held k w test l (Reg n)
    ∙ ap (λ (b : Bool). if b then Some 0 else (if ltb n 32 then ((partial_of w).harts k).places n else None)) (ne_eqb n 0 (λ e. absurd (omega (arith, e, some))))
    ∙ ap (λ (b : Bool). if b then ((partial_of w).harts k).places n else None) (lt-ltb n 32 small)

-- ---- places are given

filled_one : (o o' g f : Option ℕ) → o' ≡ or_else o g → ((v : ℕ) → g ≡ Some v → f ≡ Some v) → or_else o f ≡ or_else o' f
filled_one (Some u) o' g f is gives = sym (ap (λ (x : Option ℕ). or_else x f) is)
filled_one None o' None f is gives = sym (ap (λ (x : Option ℕ). or_else x f) is)
filled_one None o' (Some v) f is gives = gives v refl ∙ sym (ap (λ (x : Option ℕ). or_else x f) is)

pub given_filled : (k : ℕ) (es : List (Place × ℕ)) (w : Whole) (q : Partial) (regs : List (Option ℕ)) → IsTest w → IsTest (all_given k es w) → k < length w.harts → k < length (all_given k es w).harts → CanGive k es w
    → IsStartOn (partial_of (all_given k es w)) q → IsFilled (partial_of w) k (q.start k).places regs → IsFilled (partial_of (all_given k es w)) k (q.start k).places regs
given_filled k es w q regs test new l more can on filled = record {
  size = filled.size;
  zero = filled.zero;
  each = λ n some small.
      filled.each n some small
      ∙ filled_one (((partial_of w).harts k).places n) (((partial_of (all_given k es w)).harts k).places n) (given_to es (Reg n)) ((q.start k).places n)
      (sym (register_held k (all_given k es w) new more n some small) ∙ known k es w test l can (Reg n) small ∙ ap (λ (o : Option ℕ). or_else o (given_to es (Reg n))) (register_held k w test l n some small))
      (λ v h. on.places k n v (gives_registers k es w n v test l can h));
}

-- ---- a step

one_written : (rd : Option (ℕ × ℕ)) (o f : Option ℕ) (regs : List (Option ℕ)) (n : ℕ) → length regs ≡ 32 → IsSoundWrite rd → slice_index_or regs n None ≡ or_else o f
    → slice_index_or (written rd regs) n None ≡ or_else (option_or (given_by rd None n) o) f
one_written None None f regs n size sound h = h
one_written None (Some u) f regs n size sound h = h
one_written (Some rd) o f regs n size sound h = elim (cases_eq rd.0 n) [
  | inl same ↦
      ap (λ (i : ℕ). slice_index_or (slice_set regs rd.0 (Some rd.1)) i None) (sym same)
      ∙ get_or-set_same regs rd.0 (Some rd.1) None (let s = (sound rd refl).1 in omega (arith, s, size))
      ∙ sym (ap (λ (b : Bool). or_else (option_or (if b then Some rd.1 else None) o) f) (eq-eqb rd.0 n same))
  | inr apart ↦
      get_or-set_other regs rd.0 n (Some rd.1) None (λ e. apart (sym e)) ∙ h
      ∙ sym (ap (λ (b : Bool). or_else (option_or (if b then Some rd.1 else None) o) f) (ne_eqb rd.0 n apart) ∙ none_first o)
]
  where
    none_first : (o : Option ℕ) → or_else (option_or None o) f ≡ or_else o f
    none_first None = refl
    none_first (Some u) = refl

size_written : (rd : Option (ℕ × ℕ)) (regs : List (Option ℕ)) → length (written rd regs) ≡ length regs
size_written None regs = refl
size_written (Some rd) regs = length-set regs rd.0 (Some rd.1)

zero_written : (rd : Option (ℕ × ℕ)) (regs : List (Option ℕ)) → IsSoundWrite rd → slice_index_or (written rd regs) 0 None ≡ slice_index_or regs 0 None
zero_written None regs sound = refl
zero_written (Some rd) regs sound = get_or-set_other regs rd.0 0 (Some rd.1) None (λ e. let s = (sound rd refl).0 in absurd (omega (arith, s, e)))

pub step_filled : (k : ℕ) (xs : List Access) (c : Change) (p : Partial) (given : ℕ → Option ℕ) (regs : List (Option ℕ)) → IsSoundWrite c.rd → IsFilled p k given regs → IsFilled (advanced k xs c p) k given (written c.rd regs)
step_filled k xs c p given regs sound filled = record {
  size = size_written c.rd regs ∙ filled.size;
  zero = zero_written c.rd regs sound ∙ filled.zero;
  each = λ n some small.
      one_written c.rd ((p.harts k).places n) (given n) regs n filled.size sound (filled.each n some small)
      ∙ ap (λ (o : Option ℕ). or_else (option_or (given_by c.rd o n) ((p.harts k).places n)) (given n))
      (sym (none_low (csrs_after (p.harts k).fixed.privilege (p.harts k).fixed.pc c.control (fixed_csrs (p.harts k).fixed)) n (omega (arith, small))))
      ∙ ap (λ (b : Bool). or_else ((if b then held_after c (p.harts k) else p.harts k).places n) (given n)) (sym (eq-eqb k k refl));
}

-- ---- what is known at a step is known to admission

pub registers_in : (f : Known) (first n i : ℕ) → i < n → slice_index_or (registers_from f first n) i None ≡ f (Reg (first + i))
registers_in f first zero i lt = absurd (omega (arith, lt))
registers_in f first (suc n) zero lt = ap (λ (m : ℕ). f (Reg m)) (omega arith)
registers_in f first (suc n) (suc i) lt = registers_in f (suc first) n i (omega (arith, lt)) ∙ ap (λ (m : ℕ). f (Reg m)) (omega arith)

pub registers_past : (f : Known) (first n i : ℕ) → n ≤ i → slice_index_or (registers_from f first n) i None ≡ None
registers_past f first zero i le = refl
registers_past f first (suc n) zero le = absurd (omega (arith, le))
registers_past f first (suc n) (suc i) le = registers_past f (suc first) n i (omega (arith, le))

pub registers_zero : (f : Known) (n i : ℕ) → i < n → slice_index_or (registers_from f 0 n) i None ≡ f (Reg i)
registers_zero f n i lt = registers_in f 0 n i lt ∙ ap (λ (m : ℕ). f (Reg m)) (omega arith)

or_known : (o f : Option ℕ) (v : ℕ) → o ≡ Some v → or_else o f ≡ Some v
or_known o f v h = ap (λ (x : Option ℕ). or_else x f) h

pub known_filled : (k : ℕ) (w : Whole) (given : ℕ → Option ℕ) (regs : List (Option ℕ)) (f : Known) → IsTest w → k < length w.harts → ((i : ℕ) → i < 32 → f (Reg i) ≡ known_at k w (Reg i)) → IsFilled (partial_of w) k given regs
    → (i : ℕ) → IsKnownIn (slice_index_or (registers_from f 0 32) i None) (slice_index_or regs i None)
known_filled k w given regs f test l same filled i v h = elim (cases_lt i 32) [
  | inl small ↦ go i small (sym (registers_zero f 32 i small ∙ same i small) ∙ h)
  | inr past ↦ absurd (cc (sym (registers_past f 0 32 i past) ∙ h))
]
  where
    go : (i : ℕ) → i < 32 → known_at k w (Reg i) ≡ Some v → slice_index_or regs i None ≡ Some v
    go zero small e = filled.zero ∙ sym (held k w test l (Reg 0)) ∙ e
    go (suc i) small e = filled.each (suc i) (omega arith) small ∙ or_known _ (given (suc i)) v (sym (register_held k w test l (suc i) (omega arith) small) ∙ e)
