-- The plain words of the commands.
use Rattle.std.proofs.Common.{◌≡◌, ◌∙◌, ◌^◌, ◌-◌, ◌<◌, ◌≤◌, ◌==◌, ℕ, Bool, cond, drop, true, false, List, [], ◌∷◌, Option, Some, None, refl, sym, ap, subst, codes, arith}
use Rattle.std.specs.Prelude.{fold}
use Rattle.std.specs.Option.{option_map_or}
use Rattle.std.specs.Str.Parse.{IsNumeral, digits_value, without_leading_plus}
use Rattle.std.proofs.lemmas.Bool.{ne_eqb}
use Rattle.std.proofs.lemmas.Option.{same_Some}
use Rattle.std.proofs.lemmas.Str.Parse.{digit_from_value}
use Rattle.clap.specs.Faults.{bundle_fault, defaults_fault, flag_word_fault, level_fault, step_fault, turn_fault, walk_fault}
use Rattle.clap.specs.Kinds.{Kinds, or_else}
use Rattle.clap.specs.Lexer.{long_of}
use Rattle.clap.specs.Simple.{Shape, new_app}
use Rattle.clap.specs.ValueTests.{accepts, is_unsigned_in}
use Rattle.clap.specs.Walk.{Held, Row, Step, Text, Walk, after_step, finished, idle, long_or_other, nothing_held, one_of, rows_after, settled_rows, short_or_plain, trailing, walk, walk_from, walked}
use Rattle.clap.specs.declared.builder.value_parser.ValueParser.TheVariants.{Unsigned}
use Rattle.clap.specs.declared.error.kind.ErrorKind.TheVariants as kind
use Rattle.clap.proofs.ValueTestLemmas.{Accepts-accepts}
use Rattle.tool_words.specs.App.{demo_app, exec_app, gen_app, nodes_rule, order_rule, seed_rule, turns_rule}
use Rattle.tool_words.specs.Commands.{number_of}
use Rattle.tool_words.specs.Forms.{AreDigitsOf}
use Rattle.tool_words.proofs.Leaves.{as_built, leaf}
use Rattle.tool_words.proofs.Plain.{all_pass, IsOption, IsValue, at, level_passes, pair_passes, pair_walk}

-- ---- numerals

no_plus : (word : Text) → IsNumeral 10 word → without_leading_plus word ≡ word
no_plus [] h = refl
no_plus (d ∷ ds) h =
    let plain : (d == 43) ≡ false = ne_eqb _ _ (λ e. omega (arith, digit_from_value d h.1.0)) in
    ap (λ (b : Bool). drop (cond b 1 0) (d ∷ ds)) plain

-- a numeral is taken where its number lies in the range
pub numeral_taken : (least most n : ℕ) (word : Text) → AreDigitsOf n word → n < 2 ^ 64 → least ≤ n → n ≤ most → accepts false (Unsigned least most) word ≡ true
numeral_taken least most n word are small low high =
    let same = no_plus word are.digits in
    let value : digits_value 10 (without_leading_plus word) ≡ n = ap (digits_value 10) same ∙ are.value in
    Accepts-accepts false (Unsigned least most) word (subst (IsNumeral 10) (sym same) are.digits, omega arith, omega arith, omega arith)

-- and is read as its number
pub numeral_read : (bits n : ℕ) (word : Text) → AreDigitsOf n word → n < 2 ^ 64 → n ≤ 2 ^ bits - 1 → number_of bits word ≡ Some n
numeral_read bits n word are small few =
    let value : digits_value 10 (without_leading_plus word) ≡ n = ap (digits_value 10) (no_plus word are.digits) ∙ are.value in
    let taken : is_unsigned_in 0 (2 ^ bits - 1) word ≡ true = numeral_taken 0 (2 ^ bits - 1) n word are small (omega arith) few in
    ap (λ (b : Bool). cond b (Some (digits_value 10 (without_leading_plus word))) None) taken ∙ ap Some value

-- and as no other
pub numeral_only : (bits n m : ℕ) (word : Text) → AreDigitsOf n word → number_of bits word ≡ Some m → m ≡ n
numeral_only bits n m word are read = go (is_unsigned_in 0 (2 ^ bits - 1) word) read
  where
    value : digits_value 10 (without_leading_plus word) ≡ n
    value = ap (digits_value 10) (no_plus word are.digits) ∙ are.value

    go : (b : Bool) → cond b (Some (digits_value 10 (without_leading_plus word))) None ≡ Some m → m ≡ n
    go true e = sym (same_Some _ _ e) ∙ value
    go false e = cc

-- a value that is taken settles its option
settles : (b : Bool) → b ≡ true → or_else (cond b [] (kind.ValueValidation ∷ [])) [] ≡ []
settles b taken = ap (λ (b : Bool). or_else (cond b [] (kind.ValueValidation ∷ [])) []) taken

-- ---- gen

abbrev gen_shape : Shape
gen_shape = leaf gen_app.top

seed_option : IsOption gen_shape (codes "--seed") (codes "seed")
unfolding walked
seed_option = record { arg = as_built seed_rule; own = refl; same = refl; one = refl; opens = λ rows pending. refl; settles = λ rows pending. refl }

nodes_option : IsOption gen_shape (codes "--nodes") (codes "nodes")
unfolding walked
nodes_option = record { arg = as_built nodes_rule; own = refl; same = refl; one = refl; opens = λ rows pending. refl; settles = λ rows pending. refl }

turns_option : IsOption gen_shape (codes "--turns") (codes "turns")
unfolding walked
turns_option = record { arg = as_built turns_rule; own = refl; same = refl; one = refl; opens = λ rows pending. refl; settles = λ rows pending. refl }

abbrev seed_taken : Text → Type 0
seed_taken word = accepts false (Unsigned 0 0xffff_ffff_ffff_ffff) word ≡ true

abbrev nodes_taken : Text → Type 0
nodes_taken word = accepts false (Unsigned 1 1000000000) word ≡ true

abbrev turns_taken : Text → Type 0
turns_taken word = accepts false (Unsigned 1 1000000) word ≡ true

-- these words behind `gen` give these texts
pub record Gives (words : List Text) (seed nodes turns : Text) : Type 0 where
  pub passes : seed_taken seed → nodes_taken nodes → turns_taken turns → level_fault gen_shape [] nothing_held words false [] ≡ []
  pub seed_is : one_of (codes "seed") (rows_after gen_shape.rules [] words) ≡ Some seed
  pub nodes_is : one_of (codes "nodes") (rows_after gen_shape.rules [] words) ≡ Some nodes
  pub turns_is : one_of (codes "turns") (rows_after gen_shape.rules [] words) ≡ Some turns

-- words whose walk ends here give what stands here
abbrev ends_here : List Text → Walk → Type 0
ends_here words w = walk gen_shape.rules [] nothing_held words ≡ w

-- the rows after a pending value
abbrev more : List Row → Text → Text → List Row
more rows id word = settled_rows gen_shape.rules (Some (id, word ∷ [])) rows

abbrev pair_to : (flag id word : Text) → IsOption gen_shape flag id → IsValue word → (rows : List Row) (pending : Option (Text × List Text)) (rest : List Text)
    → fold (walked gen_shape.rules []) (at rows pending) (flag ∷ word ∷ rest) ≡ fold (walked gen_shape.rules []) (at (settled_rows gen_shape.rules pending rows) (Some (id, word ∷ []))) rest
pair_to flag id word is_option is rows pending rest = pair_walk gen_shape flag id word is_option is rows pending rest

module _ (seed : Text) (seed_value : IsValue seed) where
  abbrev seeded : List Text → List Text
  seeded words = codes "--seed" ∷ seed ∷ words

  seed_passes : (rest : List Text) → walk_fault gen_shape [] (at [] (Some (codes "seed", seed ∷ []))) rest ≡ [] → walk_fault gen_shape [] (at [] None) (seeded rest) ≡ []
  seed_passes rest later = pair_passes gen_shape (codes "--seed") (codes "seed") seed seed_option seed_value [] None rest refl later

  pub seed_alone : Gives (seeded []) seed (codes "67108864") (codes "65536")
  unfolding defaults_fault walk_fault
  seed_alone =
      let ends : ends_here (seeded []) (at [] (Some (codes "seed", seed ∷ []))) = pair_to (codes "--seed") (codes "seed") seed seed_option seed_value [] None [] in
      record {
        passes = λ s n t. level_passes gen_shape (seeded []) (at [] (Some (codes "seed", seed ∷ []))) ends (seed_passes [] refl) (settles _ s) refl refl;
        seed_is = ap (λ (w : Walk). one_of (codes "seed") (finished gen_shape.rules w.held)) ends;
        nodes_is = ap (λ (w : Walk). one_of (codes "nodes") (finished gen_shape.rules w.held)) ends;
        turns_is = ap (λ (w : Walk). one_of (codes "turns") (finished gen_shape.rules w.held)) ends;
      }

  abbrev first_rows : List Row
  first_rows = more [] (codes "seed") seed

  module _ (nodes : Text) (nodes_value : IsValue nodes) where
    pub with_nodes : Gives (seeded (codes "--nodes" ∷ nodes ∷ [])) seed nodes (codes "65536")
    unfolding defaults_fault walk_fault
    with_nodes =
        let end = at first_rows (Some (codes "nodes", nodes ∷ [])) in
        let ends : ends_here (seeded (codes "--nodes" ∷ nodes ∷ [])) end = pair_to (codes "--seed") (codes "seed") seed seed_option seed_value [] None (codes "--nodes" ∷ nodes ∷ [])
        ∙ pair_to (codes "--nodes") (codes "nodes") nodes nodes_option nodes_value [] (Some (codes "seed", seed ∷ [])) [] in
        record {
          passes = λ s n t. level_passes gen_shape (seeded (codes "--nodes" ∷ nodes ∷ [])) end ends
              (seed_passes (codes "--nodes" ∷ nodes ∷ []) (pair_passes gen_shape (codes "--nodes") (codes "nodes") nodes nodes_option nodes_value [] (Some (codes "seed", seed ∷ [])) [] (settles _ s) refl))
              (settles _ n) refl refl;
          seed_is = ap (λ (w : Walk). one_of (codes "seed") (finished gen_shape.rules w.held)) ends;
          nodes_is = ap (λ (w : Walk). one_of (codes "nodes") (finished gen_shape.rules w.held)) ends;
          turns_is = ap (λ (w : Walk). one_of (codes "turns") (finished gen_shape.rules w.held)) ends;
        }

  module _ (turns : Text) (turns_value : IsValue turns) where
    pub with_turns : Gives (seeded (codes "--turns" ∷ turns ∷ [])) seed (codes "67108864") turns
    unfolding defaults_fault walk_fault
    with_turns =
        let end = at first_rows (Some (codes "turns", turns ∷ [])) in
        let ends : ends_here (seeded (codes "--turns" ∷ turns ∷ [])) end = pair_to (codes "--seed") (codes "seed") seed seed_option seed_value [] None (codes "--turns" ∷ turns ∷ [])
        ∙ pair_to (codes "--turns") (codes "turns") turns turns_option turns_value [] (Some (codes "seed", seed ∷ [])) [] in
        record {
          passes = λ s n t. level_passes gen_shape (seeded (codes "--turns" ∷ turns ∷ [])) end ends
              (seed_passes (codes "--turns" ∷ turns ∷ []) (pair_passes gen_shape (codes "--turns") (codes "turns") turns turns_option turns_value [] (Some (codes "seed", seed ∷ [])) [] (settles _ s) refl))
              (settles _ t) refl refl;
          seed_is = ap (λ (w : Walk). one_of (codes "seed") (finished gen_shape.rules w.held)) ends;
          nodes_is = ap (λ (w : Walk). one_of (codes "nodes") (finished gen_shape.rules w.held)) ends;
          turns_is = ap (λ (w : Walk). one_of (codes "turns") (finished gen_shape.rules w.held)) ends;
        }

  module _ (nodes turns : Text) (nodes_value : IsValue nodes) (turns_value : IsValue turns) where
    pub nodes_turns : Gives (seeded (codes "--nodes" ∷ nodes ∷ codes "--turns" ∷ turns ∷ [])) seed nodes turns
    unfolding defaults_fault walk_fault
    nodes_turns =
        let last = codes "--turns" ∷ turns ∷ [] in
        let rest = codes "--nodes" ∷ nodes ∷ last in
        let end = at (more first_rows (codes "nodes") nodes) (Some (codes "turns", turns ∷ [])) in
        let ends : ends_here (seeded rest) end = pair_to (codes "--seed") (codes "seed") seed seed_option seed_value [] None rest
        ∙ (pair_to (codes "--nodes") (codes "nodes") nodes nodes_option nodes_value [] (Some (codes "seed", seed ∷ [])) last
        ∙ pair_to (codes "--turns") (codes "turns") turns turns_option turns_value first_rows (Some (codes "nodes", nodes ∷ [])) []) in
        record {
          passes = λ s n t. level_passes gen_shape (seeded rest) end ends
              (seed_passes rest (pair_passes gen_shape (codes "--nodes") (codes "nodes") nodes nodes_option nodes_value [] (Some (codes "seed", seed ∷ [])) last (settles _ s)
              (pair_passes gen_shape (codes "--turns") (codes "turns") turns turns_option turns_value first_rows (Some (codes "nodes", nodes ∷ [])) [] (settles _ n) refl)))
              (settles _ t) refl refl;
          seed_is = ap (λ (w : Walk). one_of (codes "seed") (finished gen_shape.rules w.held)) ends;
          nodes_is = ap (λ (w : Walk). one_of (codes "nodes") (finished gen_shape.rules w.held)) ends;
          turns_is = ap (λ (w : Walk). one_of (codes "turns") (finished gen_shape.rules w.held)) ends;
        }

    pub turns_nodes : Gives (seeded (codes "--turns" ∷ turns ∷ codes "--nodes" ∷ nodes ∷ [])) seed nodes turns
    unfolding defaults_fault walk_fault
    turns_nodes =
        let last = codes "--nodes" ∷ nodes ∷ [] in
        let rest = codes "--turns" ∷ turns ∷ last in
        let end = at (more first_rows (codes "turns") turns) (Some (codes "nodes", nodes ∷ [])) in
        let ends : ends_here (seeded rest) end = pair_to (codes "--seed") (codes "seed") seed seed_option seed_value [] None rest
        ∙ (pair_to (codes "--turns") (codes "turns") turns turns_option turns_value [] (Some (codes "seed", seed ∷ [])) last
        ∙ pair_to (codes "--nodes") (codes "nodes") nodes nodes_option nodes_value first_rows (Some (codes "turns", turns ∷ [])) []) in
        record {
          passes = λ s n t. level_passes gen_shape (seeded rest) end ends
              (seed_passes rest (pair_passes gen_shape (codes "--turns") (codes "turns") turns turns_option turns_value [] (Some (codes "seed", seed ∷ [])) last (settles _ s)
              (pair_passes gen_shape (codes "--nodes") (codes "nodes") nodes nodes_option nodes_value first_rows (Some (codes "turns", turns ∷ [])) [] (settles _ t) refl)))
              (settles _ n) refl refl;
          seed_is = ap (λ (w : Walk). one_of (codes "seed") (finished gen_shape.rules w.held)) ends;
          nodes_is = ap (λ (w : Walk). one_of (codes "nodes") (finished gen_shape.rules w.held)) ends;
          turns_is = ap (λ (w : Walk). one_of (codes "turns") (finished gen_shape.rules w.held)) ends;
        }

-- ---- exec

abbrev exec_shape : Shape
exec_shape = leaf exec_app.top

order_option : IsOption exec_shape (codes "--order") (codes "order")
unfolding walked
order_option = record { arg = as_built order_rule; own = refl; same = refl; one = refl; opens = λ rows pending. refl; settles = λ rows pending. refl }

module _ (order : Text) (is : IsValue order) where
  order_ends : walk exec_shape.rules [] nothing_held (codes "--order" ∷ order ∷ []) ≡ at [] (Some (codes "order", order ∷ []))
  order_ends = pair_walk exec_shape (codes "--order") (codes "order") order order_option is [] None []

  pub order_passes : seed_taken order → level_fault exec_shape [] nothing_held (codes "--order" ∷ order ∷ []) false [] ≡ []
  unfolding defaults_fault walk_fault
  order_passes taken = level_passes exec_shape (codes "--order" ∷ order ∷ []) (at [] (Some (codes "order", order ∷ []))) order_ends
      (pair_passes exec_shape (codes "--order") (codes "order") order order_option is [] None [] refl refl) (settles _ taken) refl refl

  pub order_is : one_of (codes "order") (rows_after exec_shape.rules [] (codes "--order" ∷ order ∷ [])) ≡ Some order
  order_is = ap (λ (w : Walk). one_of (codes "order") (finished exec_shape.rules w.held)) order_ends

-- ---- demo

abbrev demo_shape : Shape
demo_shape = leaf demo_app.top

module _ (steps : Text) (is : IsValue steps) where
  abbrev steps_end : Walk
  steps_end = record (at [] (Some (codes "steps", steps ∷ []))) { position = 2 }

  steps_walked : walked demo_shape.rules [] (walk_from nothing_held) steps ≡ steps_end
  unfolding walked
  steps_walked =
      ap (λ (b : Bool). ends (cond b (nothing_held, trailing 1) (long_or_other demo_shape.rules idle steps (long_of steps) nothing_held))) is.no_dashes
      ∙ ap (λ (o : Option (Text × Option Text)). ends (long_or_other demo_shape.rules idle steps o nothing_held)) is.no_long
      ∙ ap (λ (o : Option Text). ends (short_or_plain demo_shape.rules idle steps o nothing_held)) is.no_short
    where
      ends : Held × Step → Walk
      ends step = after_step demo_shape.rules steps (walk_from nothing_held) step.0 step.1

  steps_turn : turn_fault demo_shape [] (walk_from nothing_held) steps ≡ []
  steps_turn =
      ap (λ (b : Bool). ends (cond b [] (flag_word_fault demo_shape.rules false (long_of steps) steps nothing_held)) (cond b (nothing_held, trailing 1) (long_or_other demo_shape.rules idle steps (long_of steps) nothing_held))) is.no_dashes
      ∙ ap (λ (o : Option (Text × Option Text)). ends (flag_word_fault demo_shape.rules false o steps nothing_held) (long_or_other demo_shape.rules idle steps o nothing_held)) is.no_long
      ∙ ap (λ (o : Option Text). ends (option_map_or (λ flags. bundle_fault demo_shape.rules false flags nothing_held) o []) (short_or_plain demo_shape.rules idle steps o nothing_held)) is.no_short
    where
      ends : Kinds → Held × Step → Kinds
      ends fault step = or_else fault (step_fault demo_shape 1 step.0 step.1)

  pub steps_passes : accepts false (Unsigned 0 2000) steps ≡ true → level_fault demo_shape [] nothing_held (steps ∷ []) false [] ≡ []
  unfolding defaults_fault walk_fault
  steps_passes taken = level_passes demo_shape (steps ∷ []) steps_end steps_walked (all_pass (turn_fault demo_shape [] (walk_from nothing_held) steps) [] steps_turn refl) (settles _ taken) refl refl

  pub steps_is : one_of (codes "steps") (rows_after demo_shape.rules [] (steps ∷ [])) ≡ Some steps
  steps_is = ap (λ (w : Walk). one_of (codes "steps") (finished demo_shape.rules w.held)) steps_walked

-- ---- replay and show

pub replay_passes : level_fault (leaf (new_app (codes "replay")).top) [] nothing_held [] false [] ≡ []
unfolding defaults_fault walk_fault
replay_passes = refl

pub show_passes : level_fault (leaf (new_app (codes "show")).top) [] nothing_held [] false [] ≡ []
unfolding defaults_fault walk_fault
show_passes = refl
