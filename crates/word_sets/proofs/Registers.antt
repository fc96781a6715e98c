-- The registers for which words are legal, and their addresses.
use Rattle.std.proofs.Common.{◌≡◌, ◌==◌, ℕ, ◌<◌, ◌≤◌, ◌^◌, ◌&&◌, ◌||◌, Bool, true, false, List, [], ◌∷◌, Option, Some, IsTrue, refl, sym, ◌∙◌, subst, arith}
use Rattle.std.specs.List.{find, list_any}
use Rattle.std.specs.Prelude.{if◌then◌else◌}
use Rattle.std.proofs.lemmas.Bool.Decides.{nat_tests}
use Rattle.dom_set.specs.Elements.{is_in, is_within}
use Rattle.rv_csr.specs.declared.table.Register.{Register}
use Rattle.rv_csr.specs.Table.{address_of, is_legal_at, is_legal_for, registers}
use Rattle.set_sums.specs.Internal.Spans.{IsOfRanges}
use Rattle.set_sums.proofs.Members.{joined, right, same}

pub no_register : (n v : ℕ) → 2 ^ 16 ≤ n → is_legal_at n v ≡ false
no_register n v h = grind (arith, nat_tests)

-- where a word is legal there is a register
legal_found : (test : Register → Bool) (all : List Register) (n : ℕ) → IsTrue (is_legal_for (find test all) n) → IsTrue (list_any test all)
legal_found test [] n h = absurd (cc h)
legal_found test (register ∷ all) n h = first_or_later (test register) (find test all) (list_any test all) h (legal_found test all n) where
  first_or_later : (b : Bool) (rest : Option Register) (later : Bool) → IsTrue (is_legal_for (if b then Some register else rest) n) → (IsTrue (is_legal_for rest n) → IsTrue later) → IsTrue (b || later)
  first_or_later true rest later k f = refl
  first_or_later false rest later k f = f k

pub at_addresses : (word : ℕ) (all : List Register) (ranges : List (ℕ × ℕ)) (set : List ℕ) → all ≡ registers → ((v : ℕ) → is_within ranges v ≡ (list_any (λ register. address_of register == v) all && is_legal_at v word)) → IsOfRanges ranges set → (v : ℕ) → v < 2 ^ 32 → is_in set v ≡ is_legal_at v word
at_addresses word all ranges set are within is v small = same (is_in set v) (is_legal_at v word)
    (λ h. right (list_any (λ register. address_of register == v) all) (is_legal_at v word) (sym (within v) ∙ is.within v h))
    (λ h. is.all v small (within v ∙ joined (list_any (λ register. address_of register == v) all) (is_legal_at v word) (subst (λ (some : List Register). IsTrue (list_any (λ register. address_of register == v) some)) (sym are) (legal_found (λ register. address_of register == v) registers word h)) h))
