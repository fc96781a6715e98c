-- What is written to control and status registers.
use Rattle.std.proofs.Common.{◌≡◌, ℕ, ◌<◌, ◌^◌, ◌&&◌, ⊎_elim, inl, inr, Bool, true, false, nat_eq, All, List, [], ◌∷◌, Option, Some, None, IsTrue, length, refl, sym, ap, ◌∙◌, subst, eqb-true}
use Rattle.std.specs.List.{filter}
use Rattle.std.specs.Prelude.{◌↔◌, if◌then◌else◌}
use Rattle.dom_set.specs.Elements.{is_in, is_within}
use Rattle.rv_csr.specs.Table.{is_legal_at}
use Rattle.fd_prob.specs.declared.problem.Assignment.{Assignment}
use Rattle.fd_prob.specs.declared.slot.Slot.{Slot}
use Rattle.fd_prob.specs.declared.slot.Slot.TheVariants as slots
use Rattle.fd_prob.specs.Relations.{is_none_or_legal, value_of}
use Rattle.word_sets.specs.declared.sources.Made.{Made}
use Rattle.word_sets.specs.declared.changes.Change.{Change}
use Rattle.fd_narrow.specs.Narrowing.{IsInside, domain_in}
use Rattle.word_sets.specs.Internal.Sources.{CanBe, IsLegalSource, made}
use Rattle.set_sums.specs.Internal.Spans.{IsOfRanges}
use Rattle.fd_narrow.specs.Internal.Steps.{IsValueIn, Leaves}
use Rattle.fd_narrow.specs.Internal.Writes.{IsLegalFrom, IsLegalOperand, by_register}
use Rattle.word_sets.specs.Internal.Changes.{changed}
use Rattle.fd_narrow.proofs.Compositions.{weakened}
use Rattle.set_sums.proofs.Members.{element, is_in-filter, joined}
use Rattle.fd_narrow.proofs.Sameness.{none_in}
use Rattle.set_sums.proofs.Spans.{true_or_false}
use Rattle.fd_narrow.proofs.Totals.{there}

-- what is written, where something is, and else that nothing is
if_written : (b : Bool) (csr n : ℕ) → b ≡ false → IsTrue (is_none_or_legal csr (if b then None else Some n)) → IsTrue (is_legal_at csr n)
if_written true csr n e h = absurd (cc e)
if_written false csr n e h = h

pub sources_narrow : (a b : List (List ℕ)) (csr : ℕ) (how : Made) (zero : Bool) (s t : Slot) (known : Option ℕ) (set : List ℕ) → ((x : Assignment) → IsInside a x → CanBe known (value_of x t)) → ((x : Assignment) → IsInside a x → value_of x t < 2 ^ 32) → ((v : ℕ) → v < 2 ^ 32 → IsTrue (is_in set v) ↔ IsLegalSource csr how known zero v) → Leaves (IsValueIn s set) a b → Leaves (IsLegalFrom csr how zero s t) a b
sources_narrow a b csr how zero s t known set can words is leaves = weakened (IsValueIn s set) (IsLegalFrom csr how zero s t) a b
    (λ x inside from small. (is (value_of x s) small).1 (⊎_elim inl (λ k. inr (value_of x t, words x inside, can x inside, k)) from)) leaves

pub old_narrows : (a b : List (List ℕ)) (csr : ℕ) (how : Made) (change : Change) (zero : Bool) (s : Slot) → ((old operand : ℕ) → made how old operand ≡ changed change old operand) → ((x : Assignment) → IsInside a x → (zero && nat_eq (value_of x s) 0) ≡ false) → Leaves (IsLegalFrom csr how false slots.OldCsr s) a b → Leaves (IsLegalOperand csr change zero s) a b
old_narrows a b csr how change zero s makes writes leaves = weakened (IsLegalFrom csr how false slots.OldCsr s) (IsLegalOperand csr change zero s) a b
    (λ x inside h. inr (subst (λ (n : ℕ). IsTrue (is_legal_at csr n)) (sym (makes (value_of x slots.OldCsr) (value_of x s))) (if_written (zero && nat_eq (value_of x s) 0) csr (changed change (value_of x slots.OldCsr) (value_of x s)) (writes x inside) h))) leaves

pub operand_narrows : (a b : List (List ℕ)) (csr : ℕ) (how : Made) (change : Change) (zero : Bool) (s : Slot) → ((old operand : ℕ) → made how operand old ≡ changed change old operand) → Leaves (IsLegalFrom csr how zero s slots.OldCsr) a b → Leaves (IsLegalOperand csr change zero s) a b
operand_narrows a b csr how change zero s makes leaves = weakened (IsLegalFrom csr how zero s slots.OldCsr) (IsLegalOperand csr change zero s) a b
    (λ x inside h. ⊎_elim inl
    (λ writes. inr (subst (λ (n : ℕ). IsTrue (is_legal_at csr n)) (sym (makes (value_of x slots.OldCsr) (value_of x s))) (if_written (zero && nat_eq (value_of x s) 0) csr (changed change (value_of x slots.OldCsr) (value_of x s)) writes h)))
    (true_or_false (zero && nat_eq (value_of x s) 0))) leaves

pub register_narrows : (a b : List (List ℕ)) (csr : ℕ) (change : Change) → ((x : Assignment) → IsInside a x → nat_eq (value_of x slots.Rs1) 0 ≡ false) → Leaves (IsLegalOperand csr change false slots.A) a b → Leaves (λ x. IsTrue (is_none_or_legal csr (by_register change x))) a b
register_narrows a b csr change writes leaves = weakened (IsLegalOperand csr change false slots.A) (λ x. IsTrue (is_none_or_legal csr (by_register change x))) a b
    (λ x inside h. if_written (nat_eq (value_of x slots.Rs1) 0) csr (changed change (value_of x slots.OldCsr) (value_of x slots.A)) (writes x inside) h) leaves

pub rs1_narrows : (a b : List (List ℕ)) (csr : ℕ) (how : Made) (change : Change) (known : Option ℕ) (set operands some x0 : List ℕ) → ((old operand : ℕ) → made how operand old ≡ changed change old operand) → ((x : Assignment) → IsInside a x → CanBe known (value_of x slots.OldCsr)) → ((x : Assignment) → IsInside a x → value_of x slots.OldCsr < 2 ^ 32) → ((v : ℕ) → v < 2 ^ 32 → IsTrue (is_in set v) ↔ IsLegalSource csr how known false v) → operands ≡ domain_in a slots.A → All (λ v. v < 2 ^ 32) operands → some ≡ filter (is_in set) operands → length some ≡ 0 → IsOfRanges ((0, 0) ∷ []) x0 → Leaves (IsValueIn slots.Rs1 x0) a b → Leaves (λ x. IsTrue (is_none_or_legal csr (by_register change x))) a b
rs1_narrows a b csr how change known set operands some x0 makes can words is at_a all_words filtered none is_x0 leaves = weakened (IsValueIn slots.Rs1 x0) (λ x. IsTrue (is_none_or_legal csr (by_register change x))) a b
    (λ x inside h small. ⊎_elim
    (λ k. is_x0.all (value_of x slots.Rs1) small (subst (λ (n : ℕ). IsTrue (is_within ((0, 0) ∷ []) n)) (sym (eqb-true (value_of x slots.Rs1) 0 k)) refl))
    (λ k. absurd (missed x inside (if_written (nat_eq (value_of x slots.Rs1) 0) csr (changed change (value_of x slots.OldCsr) (value_of x slots.A)) k h)))
    (true_or_false (nat_eq (value_of x slots.Rs1) 0))) leaves where
      missed : (x : Assignment) → IsInside a x → IsTrue (is_legal_at csr (changed change (value_of x slots.OldCsr) (value_of x slots.A))) → ⊥
      missed x inside legal =
          let here : IsTrue (is_in operands (value_of x slots.A)) = there a slots.A operands x at_a inside in
          let word : value_of x slots.A < 2 ^ 32 = element (λ v. v < 2 ^ 32) operands (value_of x slots.A) all_words here in
          let source : IsTrue (is_in set (value_of x slots.A)) = (is (value_of x slots.A) word).1 (inr (value_of x slots.OldCsr, words x inside, can x inside, subst (λ (n : ℕ). IsTrue (is_legal_at csr n)) (sym (makes (value_of x slots.OldCsr) (value_of x slots.A))) legal)) in
          let still : IsTrue (is_in some (value_of x slots.A)) = ap (λ (d : List ℕ). is_in d (value_of x slots.A)) filtered ∙ is_in-filter (is_in set) operands (value_of x slots.A) ∙ joined (is_in set (value_of x slots.A)) (is_in operands (value_of x slots.A)) source here in
          cc (still, none_in some none (value_of x slots.A))
