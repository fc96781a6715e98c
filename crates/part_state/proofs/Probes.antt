-- What a look at the next step tells.
use Rattle.std.proofs.Common.{◌≡◌, ℕ, List, refl, sym, ap, ◌∙◌, subst}
use Rattle.rv_mem.specs.declared.words.Seen.{Seen}
use Rattle.rv_script.specs.declared.access.Access.{Access}
use Rattle.rv_script.specs.declared.place.Place.{Place}
use Rattle.rv_script.specs.Folds.{Answer, Answer.Does as DoesSo, Answer.Missing as Lacks, Answer.Nowhere, answer_on}
use Rattle.rv_hart.specs.declared.hart.Hart.{Hart}
use Rattle.rv_hart.specs.declared.record.Change.{Change}
use Rattle.rv_hart.specs.declared.record.Record.{Record}
use Rattle.rv_hart.specs.declared.record.Stepped.{Stepped}
use Rattle.rv_hart.specs.declared.record.Stepped.TheVariants.{Did, Missing, Outside}
use Rattle.rv_hart.specs.Fixed.{Fixed}
use Rattle.rv_hart.specs.Machine.{script}
use Rattle.rv_hart.specs.View.{known, fixed_of, shown}
use Rattle.rv_hart.specs.Whole.{record_of}
use Rattle.foot_map.specs.declared.clash.Clash.{Clash}
use Rattle.part_clash.specs.Clashes.{IsStepClash, IsLeastStepClash, HasNoStepClash}
use Rattle.tpl_admit.specs.Races.{footprints_of}
use Rattle.part_laws.specs.Partial.{advanced}
use Rattle.part_machine.specs.Whole.{Bare, bare, fixed_in, next_in, Whole, hart_of, records_of, record_in, next_of, IsReady}
use Rattle.part_state.specs.Meaning.{partial_of, IsTest, IsClear}
use Rattle.part_laws.proofs.Advance.{own_records, other_records}
use Rattle.part_state.proofs.Feet.{IsMore}
use Rattle.part_state.proofs.Clear.{clear_more, clash_races}

-- ---- answers as `look` shows them

shown_missing : (f : Fixed) (a : Answer Access Change) (place : Place) → shown f a ≡ Missing place → a ≡ Lacks place
shown_missing f (DoesSo xs c) place e = absurd (cc e)
shown_missing f (Lacks p) place e = let same : p ≡ place = cc e in ap (λ (q : Place). let b : Answer Access Change = Lacks q in b) same
shown_missing f Nowhere place e = absurd (cc e)

shown_outside : (f : Fixed) (a : Answer Access Change) → shown f a ≡ Outside → a ≡ Nowhere
shown_outside f (DoesSo xs c) e = absurd (cc e)
shown_outside f (Lacks p) e = absurd (cc e)
shown_outside f Nowhere e = refl

pub record IsDid (f : Fixed) (a : Answer Access Change) (r : Record) : Type 0 where
  pub accesses : List Access
  pub change : Change
  pub does : a ≡ DoesSo accesses change
  pub is : r ≡ record_of f accesses change

shown_did : (f : Fixed) (a : Answer Access Change) (r : Record) → shown f a ≡ Did r → IsDid f a r
shown_did f (DoesSo xs c) r e = let same : record_of f xs c ≡ r = cc e in record { accesses = xs; change = c; does = refl; is = sym same }
shown_did f (Lacks p) r e = absurd (cc e)
shown_did f Nowhere r e = absurd (cc e)

-- the answer of a hart of the code, by values
pub look_missing : (h : Hart) (at : ℕ → Seen) (result : Stepped) (b : Bare) (place : Place) → result ≡ shown (fixed_of h at) (answer_on (known h at) (script (fixed_of h at))) → bare h ≡ b → result ≡ Missing place → next_in b at ≡ Lacks place
look_missing h at result b place answer is told = ap (λ (q : Bare). next_in q at) (sym is) ∙ shown_missing (fixed_of h at) (answer_on (known h at) (script (fixed_of h at))) place (sym answer ∙ told)

pub look_outside : (h : Hart) (at : ℕ → Seen) (result : Stepped) (b : Bare) → result ≡ shown (fixed_of h at) (answer_on (known h at) (script (fixed_of h at))) → bare h ≡ b → result ≡ Outside → next_in b at ≡ Nowhere
look_outside h at result b answer is told = ap (λ (q : Bare). next_in q at) (sym is) ∙ shown_outside (fixed_of h at) (answer_on (known h at) (script (fixed_of h at))) (sym answer ∙ told)

pub look_did : (h : Hart) (at : ℕ → Seen) (result : Stepped) (b : Bare) (r : Record) → result ≡ shown (fixed_of h at) (answer_on (known h at) (script (fixed_of h at))) → bare h ≡ b → result ≡ Did r → IsDid (fixed_in b at) (next_in b at) r
look_did h at result b r answer is told =
    let did : IsDid (fixed_of h at) (answer_on (known h at) (script (fixed_of h at))) r = shown_did (fixed_of h at) (answer_on (known h at) (script (fixed_of h at))) r (sym answer ∙ told) in
    subst (λ (q : Bare). IsDid (fixed_in q at) (next_in q at) r) is did

-- ---- clear or not

pub ready : (k : ℕ) (w : Whole) (r : Record) → IsDid (fixed_in (hart_of k w) w.memory) (next_of k w) r → IsReady k w
ready k w r did = record { accesses = did.accesses; change = did.change; does = did.does }

same_answer : (a : Answer Access Change) (xs ys : List Access) (c d : Change) → a ≡ DoesSo xs c → a ≡ DoesSo ys d → (xs ≡ ys) × (c ≡ d)
same_answer a xs ys c d e f = let both : DoesSo xs c ≡ DoesSo ys d = sym e ∙ f in (list both, change both)
  where
    list : DoesSo xs c ≡ DoesSo ys d → xs ≡ ys
    list e = cc e

    change : DoesSo xs c ≡ DoesSo ys d → c ≡ d
    change e = cc e

pub told_record : (k : ℕ) (w : Whole) (r : Record) → IsDid (fixed_in (hart_of k w) w.memory) (next_of k w) r → (xs : List Access) (c : Change) → next_of k w ≡ DoesSo xs c → r ≡ record_in (hart_of k w) w.memory xs c
told_record k w r did xs c next =
    let same = same_answer (next_of k w) did.accesses xs did.change c did.does next in
    did.is ∙ ap (λ (ys : List Access). record_in (hart_of k w) w.memory ys did.change) same.0 ∙ ap (λ (d : Change). record_in (hart_of k w) w.memory xs d) same.1

more : (k : ℕ) (w : Whole) (xs : List Access) (c : Change) → IsMore k xs (footprints_of (λ j. records_of j w)) (footprints_of (advanced k xs c (partial_of w)).records)
more k w xs c =
    let p = partial_of w in
    let r : Record = record_of (p.harts k).fixed xs c in
    record { here = own_records p k r; there = other_records p k r }

-- the accesses of the record are those of the step
same_accesses : (k : ℕ) (w : Whole) (r : Record) → IsDid (fixed_in (hart_of k w) w.memory) (next_of k w) r → (xs : List Access) (c : Change) → next_of k w ≡ DoesSo xs c → r.accesses ≡ xs
same_accesses k w r did xs c next = ap (λ (q : Record). q.accesses) (told_record k w r did xs c next)

pub clear : (k : ℕ) (w : Whole) (r : Record) → IsTest w → IsDid (fixed_in (hart_of k w) w.memory) (next_of k w) r → HasNoStepClash w.feet k r.accesses → IsClear k w
clear k w r test did none = λ xs c next.
    clear_more k xs w.feet (footprints_of (λ j. records_of j w)) (footprints_of (advanced k xs c (partial_of w)).records) (more k w xs c) test.foot test.test.race_free
    (subst (λ (ys : List Access). HasNoStepClash w.feet k ys) (same_accesses k w r did xs c next) none)

pub clashes : (k : ℕ) (w : Whole) (r : Record) (t : Clash) → IsTest w → IsDid (fixed_in (hart_of k w) w.memory) (next_of k w) r → IsLeastStepClash w.feet k r.accesses t → IsClear k w → ⊥
clashes k w r t test did least clear' =
    let is : r.accesses ≡ did.accesses = ap (λ (q : Record). q.accesses) did.is in
    clash_races k did.accesses w.feet (footprints_of (λ j. records_of j w)) (footprints_of (advanced k did.accesses did.change (partial_of w)).records) t (more k w did.accesses did.change) test.foot
    (subst (λ (ys : List Access). IsStepClash w.feet k ys t) is least.clash) (clear' did.accesses did.change did.does)

pub least_of : (k : ℕ) (w : Whole) (r : Record) (t : Clash) → IsDid (fixed_in (hart_of k w) w.memory) (next_of k w) r → IsLeastStepClash w.feet k r.accesses t → (xs : List Access) (c : Change) → next_of k w ≡ DoesSo xs c → IsLeastStepClash w.feet k xs t
least_of k w r t did least xs c next = subst (λ (ys : List Access). IsLeastStepClash w.feet k ys t) (same_accesses k w r did xs c next) least
