-- A step rests on the registers and CSRs that it needs and on the bytes of its accesses.
use Rattle.std.proofs.Common.{◌≡◌, ℕ, ◌/◌, ◌^◌, ◌<◌, List, Some, refl, sym, ap, ◌∙◌, subst, arith}
use Rattle.std.proofs.lemmas.Bool.{and_parts, eqb-true}
use Rattle.rv_script.specs.declared.access.Access.{Access}
use Rattle.rv_script.specs.Bytes.{byte_at, part_of, word_address}
use Rattle.rv_script.specs.Folds.{Entry, Sight, accesses_of, asked_of, result_of}
use Rattle.rv_script.specs.Laws.{IsSeenAlike}
use Rattle.rv_script.specs.Lists.{HasItem}
use Rattle.rv_script.specs.Script.{Question, Question.OfRegister, Question.OfCsr, Question.OfMemory, Question.ToMemory, access_of, place_of, role_of}
use Rattle.rv_script.proofs.Local.{seen_value}
use Rattle.rv_hart.specs.Fixed.{Fixed}
use Rattle.rv_hart.specs.Local.{LocalByBytes, RestsAlike}
use Rattle.rv_hart.specs.Machine.{script}
use Rattle.rv_hart.specs.Whole.{Step, WholeHart, needed_places, sight_of, sighted_step_of}
use Rattle.rv_hart.proofs.Entries.{entry_access, entry_place, planned_accesses, step_local}

alike_at : (h g : WholeHart) (words other : ℕ → ℕ) (s : Step) → ((n : ℕ) → words n < 2 ^ 32) → ((n : ℕ) → other n < 2 ^ 32) → RestsAlike h g words other s
    → (q : Question) (v : ℕ) → v ≡ sight_of h.file words q → HasItem (needed_places h words) (place_of q) → ((x : Access) → access_of q v ≡ Some x → HasItem s.did.accesses x) → IsSeenAlike q v (sight_of g.file other q)
alike_at h g words other s small little alike (OfRegister label n) v is needed at = alike.places (place_of (OfRegister label n)) needed refl ∙ sym is
alike_at h g words other s small little alike (OfCsr label addr) v is needed at = alike.places (place_of (OfCsr label addr)) needed refl ∙ sym is
alike_at h g words other s small little alike (ToMemory addr size value) v is needed at = tt
alike_at h g words other s small little alike (OfMemory label addr size) v is needed at = (
  subst (λ (n : ℕ). n < 2 ^ 32) (sym is) (small (word_address addr / 4)),
  little (word_address addr / 4),
  λ b u.
      let word : word_address addr / 4 ≡ b / 4 = let w : b / 4 ≡ addr / 4 = eqb-true (b / 4) (addr / 4) (and_parts _ _ u).0 in omega (arith, w) in
      ap (λ (n : ℕ). byte_at b (other n)) word
      ∙ alike.bytes (record { role = role_of label; addr = addr; size = size; value = part_of addr size v }) b (at (record { role = role_of label; addr = addr; size = size; value = part_of addr size v }) refl) u
      ∙ ap (λ (n : ℕ). byte_at b (words n)) (sym word)
      ∙ ap (byte_at b) (sym is),
)

pub local_by_bytes : LocalByBytes
local_by_bytes h g words other s small little is alike =
    let see : Sight = sight_of h.file words in
    let log : List Entry = asked_of (script h.fixed) see in
    let accesses : s.did.accesses ≡ accesses_of (script h.fixed) see = planned_accesses h.fixed (accesses_of (script h.fixed) see) (result_of (script h.fixed) see) s is in
    ap (λ (f : Fixed). sighted_step_of f (sight_of g.file other)) alike.fixed
    ∙ step_local h.fixed see (sight_of g.file other) s is
    (λ e at. alike_at h g words other s small little alike e.question e.value (seen_value (script h.fixed) see e at) (entry_place log e at) (λ x told. subst (λ (xs : List Access). HasItem xs x) (sym accesses) (entry_access log e x at told)))
