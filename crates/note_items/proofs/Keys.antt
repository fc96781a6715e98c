-- Keys of lazy places and causes are small.
use Rattle.std.proofs.Common.{◌≡◌, ℕ, ◌<◌, true, ltb, leb, eqb, refl, arith, inl, inr}
use Rattle.std.specs.Prelude.{IsTrue, ◌&&◌}
use Rattle.std.specs.List.{list_any}
use Rattle.rv_csr.specs.Causes.{causes, number_of, is_cause}
use Rattle.rv_csr.specs.Table.{lazy_csrs, csr_key}
use Rattle.tpl_ast.specs.States.{is_key}
use Rattle.note_items.proofs.Booleans.{and_true, or_true, any_below, any_below_of}
use Rattle.std.proofs.lemmas.Bool.{ltb-true}

pub key_small : (key : ℕ) → is_key key ≡ true → key < 0x1344
key_small key h =
    elim (or_true (leb 1 key && ltb key 32) (list_any (λ addr. eqb key (csr_key addr)) lazy_csrs) h) [
      | inl r ↦ let lt = ltb-true key 32 (and_true (leb 1 key) (ltb key 32) r).1 in omega arith
      | inr c ↦ any_below csr_key 0x1344 key lazy_csrs refl c
    ]

pub key_below : (key : ℕ) → IsTrue (is_key key) → key < 0x2000
key_below key h = let k = key_small key h in omega arith

pub cause_small : (n : ℕ) → is_cause n ≡ true → n < 16
cause_small n h = any_below_of number_of 16 n causes refl h
