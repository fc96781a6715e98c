-- The number that a typed getter reads.
use Rattle.std.proofs.Common.{◌≡◌, ◌∙◌, ◌^◌, ◌≤◌, ◌-◌, ℕ, Bool, cond, true, false, List, Option, Some, None, refl, sym, ap, arith}
use Rattle.std.specs.Prelude.{Result, Ok, Err, option_and_then}
use Rattle.std.specs.Str.Parse.{ParsesUnsigned, digits_value, without_leading_plus}
use Rattle.clap.specs.Words.{ReadsOne, Text, one_text, rows_of}
use Rattle.clap.specs.ValueTests.{is_unsigned_in}
use Rattle.clap.specs.declared.builder.value_parser.ValueParser.TheVariants.{Unsigned}
use Rattle.clap.specs.declared.parser.matches.Found.{Found}
use Rattle.clap.proofs.ValueTestLemmas.{Accepts-accepts, accepts-Accepts}
use Rattle.clap.proofs.WalkLemmas.{one_text-rows}
use Rattle.tool_words.specs.Commands.{number_in, number_of}

-- a text that `from_str` reads spells the number, and one that it refuses spells none
module _ {E : Type 0} (G : List ℕ → Result ℕ E → Type 0) (bits : ℕ) (only : (u : List ℕ) (x : Result ℕ E) → G u x → ParsesUnsigned bits 10 u x) (some : 1 ≤ 2 ^ bits) (few : 2 ^ bits ≤ 2 ^ 64) where
  reads : (t : Text) (r : Option ℕ) → ReadsOne G t r → r ≡ number_of bits t
  reads t (Some v) h =
      let parsed = only t (Ok v) h in
      let small : digits_value 10 (without_leading_plus t) ≤ 2 ^ bits - 1 = omega arith in
      let in_range : is_unsigned_in 0 (2 ^ bits - 1) t ≡ true = Accepts-accepts false (Unsigned 0 (2 ^ bits - 1)) t (parsed.0.0, omega arith, omega arith, small) in
      rw in_range (ap Some parsed.1)
  reads t None h = go (is_unsigned_in 0 (2 ^ bits - 1) t) refl
    where
      go : (b : Bool) → is_unsigned_in 0 (2 ^ bits - 1) t ≡ b → None ≡ cond b (Some (digits_value 10 (without_leading_plus t))) None
      go false e = refl
      go true e =
          let given = accepts-Accepts false (Unsigned 0 (2 ^ bits - 1)) t e in
          absurd (only t (Err h.0) h.1 (given.0, omega arith))

  pub number_read : (f : Found) (id : Text) (r : Option ℕ) → (one_text f id ≡ None → r ≡ None) → ((t : Text) → one_text f id ≡ Some t → ReadsOne G t r) → r ≡ number_in bits id (rows_of f)
  number_read f id r none value = go (one_text f id) refl ∙ ap (option_and_then (number_of bits)) (one_text-rows f id)
    where
      go : (o : Option Text) → one_text f id ≡ o → r ≡ option_and_then (number_of bits) (one_text f id)
      go None e = none e ∙ sym (ap (option_and_then (number_of bits)) e)
      go (Some t) e = reads t r (value t e) ∙ sym (ap (option_and_then (number_of bits)) e)
