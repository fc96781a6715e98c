-- A translation asks for its first entry and then for its second.
use Rattle.std.proofs.Common.{◌≡◌, ℕ, suc, if◌then◌else◌, Bool, true, false, refl, arith}
use Rattle.rv_script.specs.Script.{Question.OfMemory, Script, Script.Ask, Script.Done}
use Rattle.sv_walk.specs.declared.entry.Kind.{Kind}
use Rattle.sv_walk.specs.declared.entry.View.{View}
use Rattle.sv_walk.specs.Entry.{access_cause}
use Rattle.sv_walk.specs.Translation.{Fails, translated, from_root, from_pointer, is_in_ram, is_translated, root_address, root_label, second_address, second_end, second_label}
use Rattle.rv_script.specs.Labels.{label_number, Between}
use Rattle.rv_script.proofs.Plays.{lower}

pub if_between : {A : Type 0} (n m : ℕ) (b : Bool) (s t : Script A) → Between n m s → Between n m t → Between n m (if b then s else t)
if_between n m true s t h k = h
if_between n m false s t h k = k

pointer_between : (n : ℕ) (ram : ℕ → Bool) (v : View) (kind : Kind) (va entry : ℕ) → label_number (second_label kind) ≡ suc n → Between (suc n) (suc (suc n)) (from_pointer ram v kind va entry)
unfolding from_pointer
pointer_between n ram v kind va entry two = elim (is_in_ram ram (second_address va entry)) as (λ b. Between (suc n) (suc (suc n)) (if b then Ask (OfMemory (second_label kind) (second_address va entry) 4) (λ second. Done (second_end ram v kind va second)) else Done (Fails (access_cause kind)))) [
  | true ↦ (omega (arith, two), omega (arith, two), refl, λ second. tt)
  | false ↦ tt
]

root_between : (n : ℕ) (ram : ℕ → Bool) (v : View) (kind : Kind) (va entry : ℕ) → label_number (second_label kind) ≡ suc n → Between (suc n) (suc (suc n)) (from_root ram v kind va entry)
unfolding from_root
root_between n ram v kind va entry two = let h = pointer_between n ram v kind va entry two in search (if_between, h)

pub translated_between : (n : ℕ) (ram : ℕ → Bool) (v : View) (kind : Kind) (va : ℕ) → label_number (root_label kind) ≡ n → label_number (second_label kind) ≡ suc n → Between n (suc (suc n)) (translated ram v kind va)
unfolding translated
translated_between n ram v kind va one two = if_between n (suc (suc n)) (is_translated v) _ _
    (elim (is_in_ram ram (root_address v va)) as (λ b. Between n (suc (suc n)) (if b then Ask (OfMemory (root_label kind) (root_address v va) 4) (λ root. from_root ram v kind va root) else Done (Fails (access_cause kind)))) [
      | true ↦ (omega (arith, one), omega (arith, one), refl, λ root. lower (suc n) (suc (label_number (root_label kind))) (suc (suc n)) (from_root ram v kind va root) (omega (arith, one)) (root_between n ram v kind va root two))
      | false ↦ tt
    ])
    tt
