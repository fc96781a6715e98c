-- What accepted words behind the name of a command ask for.
use Rattle.std.proofs.Common.{◌≡◌, ◌∙◌, ◌^◌, ◌-◌, ◌≤◌, ◌||◌, ℕ, Bool, cond, not, true, false, List, [], ◌∷◌, Option, Some, None, refl, sym, ap, subst, inl, inr, arith, codes, true≢false}
use Rattle.std.specs.Prelude.{find, option_and_then, option_map, slice_get}
use Rattle.std.specs.List.{AllByRecursion as Each}
use Rattle.std.specs.Option.{option_map_or}
use Rattle.std.specs.Str.{bytes_eq}
use Rattle.std.specs.Str.Parse.{digits_value, without_leading_plus}
use Rattle.std.proofs.lemmas.Option.{same_Some}
use Rattle.std.proofs.lemmas.Slice.Eq.{bytes_eq-Decides}
use Rattle.clap.specs.Facts.{explicit_source, parser_of_value}
use Rattle.clap.specs.Faults.{level_fault}
use Rattle.clap.specs.Simple.{Shape, built_leaf, filled, help_rule, inherited, with_index, marked_built, new_app, with_leaf_noted}
use Rattle.clap.specs.Takes.{is_given}
use Rattle.clap.specs.Values.{read_as, reading_of}
use Rattle.clap.specs.ValueTests.{accepts, is_unsigned_in}
use Rattle.clap.specs.Walk.{Row, Rule, Text, arg_by_id, has_row, nothing_held, one_of, row_text, rows_after, settled, walk, with_default}
use Rattle.clap.specs.declared.builder.value_parser.Reading.TheVariants.{AsWritten}
use Rattle.clap.specs.declared.builder.value_parser.ValueParser.{ValueParser}
use Rattle.clap.specs.declared.builder.value_parser.ValueParser.TheVariants.{Unsigned}
use Rattle.clap.specs.declared.error.kind.ErrorKind.TheVariants as kind
use Rattle.clap.proofs.ValueTestLemmas.{Accepts-accepts, accepts-Accepts}
use Rattle.tool_words.specs.App.{demo_app, exec_app, gen_app, nodes_rule, order_rule, seed_rule, steps_rule, testgen_app, turns_rule}
use Rattle.tool_words.specs.Commands.{asked_by, effort_in, number_in, number_of}
use Rattle.tool_words.specs.Forms.{IsInRange, name_of}
use Rattle.tool_words.specs.declared.command.Command.{Command}
use Rattle.tool_words.specs.declared.command.Command.TheVariants.{Gen, Replay, Exec, Show, Demo}
use Rattle.tool_words.specs.declared.command.Effort.{Effort}
use Rattle.tool_words.proofs.Walking.{AreGood, IsFine, IsGood, found_in, level_good, row_stays, row_there}

-- ---- numbers

-- a text that a range of numbers takes spells one of them
pub spelled : (i : Bool) (least most bits : ℕ) (t : Text) → most ≤ 2 ^ bits - 1 → accepts i (Unsigned least most) t ≡ true
    → (n : ℕ) × (number_of bits t ≡ Some n) × (least ≤ n) × (n ≤ most)
spelled i least most bits t few accepted =
    let a = accepts-Accepts i (Unsigned least most) t accepted in
    let all : is_unsigned_in 0 (2 ^ bits - 1) t ≡ true = Accepts-accepts i (Unsigned 0 (2 ^ bits - 1)) t (a.0, a.1, omega arith, omega arith) in
    (digits_value 10 (without_leading_plus t), rw all refl, a.2, a.3)

-- the argument of a good row has a number in its range
number_good : (c : List Rule) (rows : List Row) (id : Text) (a : Rule) (least most bits : ℕ) → AreGood c rows → arg_by_id c id ≡ Some a → a.parser ≡ Some (Unsigned least most)
    → most ≤ 2 ^ bits - 1 → (r : Row) → find (λ r. bytes_eq r.id id) rows ≡ Some r → (n : ℕ) × (number_in bits id rows ≡ Some n) × (least ≤ n) × (n ≤ most)
number_good c rows id a least most bits good own parser few r found =
    let here = found_in (IsGood c) (λ r. bytes_eq r.id id) rows r good found in
    let same_id : r.id ≡ id = (bytes_eq-Decides r.id id).0 here.1 in
    let same : here.0.arg ≡ a = same_Some _ _ (sym here.0.is ∙ ap (arg_by_id c) same_id ∙ own) in
    let is : parser_of_value here.0.arg.parser ≡ Unsigned least most = ap (λ (x : Rule). parser_of_value x.parser) same ∙ ap parser_of_value parser in
    let accepted : accepts here.0.arg.ignore_case (Unsigned least most) here.0.value ≡ true = subst (λ (p : ValueParser). accepts here.0.arg.ignore_case p here.0.value ≡ true) is here.0.accepted in
    let reads : r.reading ≡ AsWritten = here.0.reading ∙ ap reading_of is in
    let text : row_text r ≡ Some here.0.value = λ i. option_map (read_as (reads i)) (slice_get (here.0.values i) 0) in
    let one : one_of id rows ≡ Some here.0.value = ap (option_and_then row_text) found ∙ text in
    let n = spelled here.0.arg.ignore_case least most bits here.0.value few accepted in
    (n.0, ap (option_and_then (number_of bits)) one ∙ n.1, n.2, n.3)

row_given : (id : Text) (rows : List Row) → is_given id rows ≡ true → (r : Row) × (find (λ r. bytes_eq r.id id) rows ≡ Some r)
row_given id rows e = go (find (λ r. bytes_eq r.id id) rows) refl e
  where
    go : (o : Option Row) → find (λ r. bytes_eq r.id id) rows ≡ o → option_map_or (λ r. explicit_source r.source) o false ≡ true → (r : Row) × (find (λ r. bytes_eq r.id id) rows ≡ Some r)
    go None f e = absurd (true≢false (sym e))
    go (Some r) f e = (r, f)

row_found : (id : Text) (rows : List Row) → has_row id rows ≡ true → (r : Row) × (find (λ r. bytes_eq r.id id) rows ≡ Some r)
row_found id [] e = absurd (true≢false (sym e))
row_found id (x ∷ rows) e = go (bytes_eq x.id id) e (λ f. row_found id rows f)
  where
    go : (b : Bool) → (b || has_row id rows) ≡ true → (has_row id rows ≡ true → (r : Row) × (find (λ r. bytes_eq r.id id) rows ≡ Some r))
        → (r : Row) × (cond b (Some x) (find (λ r. bytes_eq r.id id) rows) ≡ Some r)
    go true e more = (x, refl)
    go false e more = more e

needed : (b : Bool) → cond (not b || false) (kind.MissingRequiredArgument ∷ []) [] ≡ [] → b ≡ true
needed true e = refl
needed false e = cc

-- ---- the commands, as they are built

abbrev above : Shape
above = with_leaf_noted (marked_built testgen_app.top)

abbrev pub leaf : Shape → Shape
leaf s = built_leaf (inherited above s)

-- the matches ask for a command with the name of the subcommand, with its numbers in their ranges
abbrev pub Answers : Shape → List Row → Type 0
Answers s rows = (c : Command) × (asked_by s.name rows ≡ Some c) × IsInRange c × (s.name ≡ name_of c)

abbrev pub Asks : Shape → Type 0
Asks s = (words : List Text) → level_fault s [] nothing_held words false [] ≡ [] → Answers s (rows_after s.rules [] words)

abbrev gen_shape : Shape
gen_shape = leaf gen_app.top

gen_fine : Each (IsFine gen_shape.rules) gen_shape.rules
gen_fine = (
  inl (record { action = refl; range = refl; own = refl; defaults = inl refl }),
  (
    inl (record { action = refl; range = refl; own = refl; defaults = inr (codes "67108864", refl, refl) }),
    (
      inl (record { action = refl; range = refl; own = refl; defaults = inr (codes "65536", refl, refl) }),
      (inr (record { kind = kind.DisplayHelp; others = []; fails = λ values rows. refl; defaults = refl }), tt),
    ),
  ),
)

abbrev pub as_built : Rule → Rule
as_built a = with_index 1 (filled a)

pub gen_asks : Asks gen_shape
gen_asks words e =
    let rows = rows_after gen_shape.rules [] words in
    let level = level_good gen_shape gen_fine words refl e in
    let seed_row = row_given (codes "seed") rows (needed (is_given (codes "seed") rows) level.1) in
    let seed = number_good gen_shape.rules rows (codes "seed") (as_built seed_rule) 0 0xffff_ffff_ffff_ffff 64 level.0 refl refl (omega arith) seed_row.0 seed_row.1 in
    let first = with_default (settled gen_shape.rules (walk gen_shape.rules [] nothing_held words).held).rows (as_built seed_rule) in
    let second = with_default first (as_built nodes_rule) in
    let third = with_default second (as_built turns_rule) in
    let nodes_row = row_found (codes "nodes") rows (row_stays (codes "nodes") (as_built help_rule) third (row_stays (codes "nodes") (as_built turns_rule) second (row_there (as_built nodes_rule) (codes "67108864") first refl))) in
    let nodes = number_good gen_shape.rules rows (codes "nodes") (as_built nodes_rule) 1 1000000000 64 level.0 refl refl (omega arith) nodes_row.0 nodes_row.1 in
    let turns_row = row_found (codes "turns") rows (row_stays (codes "turns") (as_built help_rule) third (row_there (as_built turns_rule) (codes "65536") second refl)) in
    let turns = number_good gen_shape.rules rows (codes "turns") (as_built turns_rule) 1 1000000 64 level.0 refl refl (omega arith) turns_row.0 turns_row.1 in
    let effort : Effort = record { seed = seed.0; nodes = nodes.0; turns = turns.0 } in
    (Gen effort, ap (option_map (λ x. Gen x)) (effort_of seed.0 nodes.0 turns.0 rows seed.1 nodes.1 turns.1), (omega (arith, seed.3), nodes.2, nodes.3, turns.2, turns.3), refl)
  where
    effort_of : (seed nodes turns : ℕ) (rows : List Row) → number_in 64 (codes "seed") rows ≡ Some seed → number_in 64 (codes "nodes") rows ≡ Some nodes → number_in 64 (codes "turns") rows ≡ Some turns
        → effort_in rows ≡ Some (record { seed = seed; nodes = nodes; turns = turns })
    effort_of seed nodes turns rows a b c =
        λ i. option_and_then (λ s. option_and_then (λ n. option_map (λ t. record { seed = s; nodes = n; turns = t }) (c i)) (b i)) (a i)

abbrev exec_shape : Shape
exec_shape = leaf exec_app.top

exec_fine : Each (IsFine exec_shape.rules) exec_shape.rules
exec_fine = (
  inl (record { action = refl; range = refl; own = refl; defaults = inl refl }),
  (inr (record { kind = kind.DisplayHelp; others = []; fails = λ values rows. refl; defaults = refl }), tt),
)

pub exec_asks : Asks exec_shape
exec_asks words e =
    let rows = rows_after exec_shape.rules [] words in
    let level = level_good exec_shape exec_fine words refl e in
    let row = row_given (codes "order") rows (needed (is_given (codes "order") rows) level.1) in
    let order = number_good exec_shape.rules rows (codes "order") (as_built order_rule) 0 0xffff_ffff_ffff_ffff 64 level.0 refl refl (omega arith) row.0 row.1 in
    (Exec order.0, ap (option_map (λ n. Exec n)) order.1, omega (arith, order.3), refl)

abbrev demo_shape : Shape
demo_shape = leaf demo_app.top

demo_fine : Each (IsFine demo_shape.rules) demo_shape.rules
demo_fine = (
  inl (record { action = refl; range = refl; own = refl; defaults = inl refl }),
  (inr (record { kind = kind.DisplayHelp; others = []; fails = λ values rows. refl; defaults = refl }), tt),
)

pub demo_asks : Asks demo_shape
demo_asks words e =
    let rows = rows_after demo_shape.rules [] words in
    let level = level_good demo_shape demo_fine words refl e in
    let row = row_given (codes "steps") rows (needed (is_given (codes "steps") rows) level.1) in
    let steps = number_good demo_shape.rules rows (codes "steps") (as_built steps_rule) 0 2000 32 level.0 refl refl (omega arith) row.0 row.1 in
    (Demo steps.0, ap (option_map (λ n. Demo n)) steps.1, steps.3, refl)

pub replay_asks : Asks (leaf (new_app (codes "replay")).top)
replay_asks words e = (Replay, refl, tt, refl)

pub show_asks : Asks (leaf (new_app (codes "show")).top)
show_asks words e = (Show, refl, tt, refl)
