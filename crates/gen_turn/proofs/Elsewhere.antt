-- The harts other than that of a leaf turn stay as they were, and what is known of them is still words.
use Rattle.std.proofs.Common.{◌≡◌, ◌≢◌, ℕ, ◌%◌, ◌^◌, ◌<◌, List, [], ◌∷◌, None, slice_index_or, refl, sym, ap, ◌∙◌, subst, inl, inr}
use Rattle.std.proofs.lemmas.Bool.{cases_eq}
use Rattle.std.proofs.lemmas.List.{get_or-set_other}
use Rattle.rv_csr.specs.declared.access.CsrAccess.{CsrAccess}
use Rattle.rv_csr.specs.declared.access.CsrAccess.TheVariants.{Granted, Denied, Outside as NotModelled}
use Rattle.rv_csr.specs.declared.table.Register.TheVariants.{Sstatus, Satp, Mstatus, Medeleg, Mhartid, Lazy}
use Rattle.rv_csr.specs.State.{lazy_value_at}
use Rattle.rv_csr.specs.Status.{sstatus_of}
use Rattle.rv_script.specs.declared.place.Place.{Place}
use Rattle.rv_script.specs.declared.place.Place.TheVariants.{Reg, Csr, Word}
use Rattle.rv_hart.specs.declared.record.Record.{Record}
use Rattle.part_machine.specs.Whole.{Bare, Whole, bare_after, fixed_in, hart_of, no_hart, with_csr, with_register}
use Rattle.part_state.specs.Meaning.{place_given}
use Rattle.leaf_link.specs.Values.{Values, fixed_value}
use Rattle.leaf_link.specs.Ways.{AreWords}
use Rattle.turn_laws.specs.Given.{all_given, known_at}
use Rattle.leaf_turn.specs.Answers.{IsTakenBy}
use Rattle.gen_turn.specs.Grounds.{IsOfWords}

-- ---- a step that is taken

module _ (k j : ℕ) (other : j ≢ k) where
  one_stays : (place : Place) (v : ℕ) (w : Whole) → hart_of j (place_given k place v w) ≡ hart_of j w
  one_stays (Reg n) v w = get_or-set_other w.harts k j (with_register n v (hart_of k w)) no_hart other
  one_stays (Csr addr) v w = get_or-set_other w.harts k j (with_csr addr v (hart_of k w)) no_hart other
  one_stays (Word addr) v w = refl

  pub all_stay : (es : List (Place × ℕ)) (w : Whole) → hart_of j (all_given k es w) ≡ hart_of j w
  all_stay [] w = refl
  all_stay (e ∷ es) w = all_stay es (place_given k e.0 e.1 w) ∙ one_stays e.0 e.1 w

  pub hart_stays : (x : Values) (r : Record) (old new : Whole) → IsTakenBy k x r old new → hart_of j new ≡ hart_of j old
  hart_stays x r old new t =
      ap (λ (w : Whole). hart_of j w) t.now
      ∙ get_or-set_other t.given.harts k j (bare_after t.change (hart_of k t.given)) no_hart other
      ∙ ap (λ (w : Whole). hart_of j w) t.places.is
      ∙ all_stay t.places.places old

-- ---- words

module _ (k j : ℕ) (old new : Whole) (same : hart_of j new ≡ hart_of j old) where
  same_fixed : (access : CsrAccess) → fixed_value (fixed_in (hart_of j new) new.memory) access ≡ fixed_value (fixed_in (hart_of j old) old.memory) access
  same_fixed Denied = refl
  same_fixed NotModelled = refl
  same_fixed (Granted (Lazy register)) = refl
  same_fixed (Granted Satp) = ap (λ (b : Bare). b.csrs.satp) same
  same_fixed (Granted Mstatus) = ap (λ (b : Bare). b.csrs.mstatus) same
  same_fixed (Granted Medeleg) = ap (λ (b : Bare). b.csrs.medeleg) same
  same_fixed (Granted Mhartid) = ap (λ (b : Bare). b.csrs.hart) same
  same_fixed (Granted Sstatus) = ap (λ (b : Bare). sstatus_of b.csrs.mstatus) same

  -- of memory they are words by what is known of the other hart
  words_stay : IsOfWords k new → IsOfWords j old → IsOfWords j new
  words_stay now before = record {
    aligned = ap (λ (b : Bare). b.pc % 4) same ∙ before.aligned;
    known = go;
    fixed = λ access. subst (λ (n : ℕ). n < 2 ^ 32) (sym (same_fixed access)) (before.fixed access);
  }
    where
      go : AreWords (known_at j new)
      go (Reg n) v h = before.known (Reg n) v (ap (λ (b : Bare). slice_index_or b.regs n None) (sym same) ∙ h)
      go (Csr addr) v h = before.known (Csr addr) v (ap (λ (b : Bare). lazy_value_at b.csrs addr) (sym same) ∙ h)
      go (Word addr) v h = now.known (Word addr) v h

pub all_words : (k : ℕ) (old new : Whole) → ((j : ℕ) → j ≢ k → hart_of j new ≡ hart_of j old) → IsOfWords k new → (j : ℕ) → IsOfWords j old → IsOfWords j new
all_words k old new others now j before = elim (cases_eq j k) [
  | inl same ↦ subst (λ (i : ℕ). IsOfWords i new) (sym same) now
  | inr other ↦ words_stay k j old new (others j other) now before
]
