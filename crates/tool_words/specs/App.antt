-- The command line, as `clap` knows it: five subcommands, one of which is required, and a row for each argument.
use Rattle.std.specs.Prelude.{ℕ, List, [], ◌∷◌, Some, true, codes}
use Rattle.clap.specs.Words.{App, Rule, new_app, new_rule, with_rule, with_subcommand}
use Rattle.clap.specs.declared.builder.ArgAction.TheVariants.{Set}
use Rattle.clap.specs.declared.builder.value_parser.ValueParser.TheVariants.{Unsigned}

-- an argument that takes one number between two bounds
abbrev pub number_rule : List ℕ → ℕ → ℕ → Rule
number_rule id least most = record (new_rule id) { action = Some Set; parser = Some (Unsigned least most) }

-- `--seed N`, required: any number below 2 ^ 64
abbrev pub seed_rule : Rule
seed_rule = record (number_rule (codes "seed") 0 0xffff_ffff_ffff_ffff) { long = Some (codes "seed"); required = true }

-- `--nodes N`: 1 to 1,000,000,000, and 67,108,864 where it is not given
abbrev pub nodes_rule : Rule
nodes_rule = record (number_rule (codes "nodes") 1 1000000000) { long = Some (codes "nodes"); defaults = codes "67108864" ∷ [] }

-- `--turns N`: 1 to 1,000,000, and 65,536 where it is not given
abbrev pub turns_rule : Rule
turns_rule = record (number_rule (codes "turns") 1 1000000) { long = Some (codes "turns"); defaults = codes "65536" ∷ [] }

-- `--order N`, required: any number below 2 ^ 64
abbrev pub order_rule : Rule
order_rule = record (number_rule (codes "order") 0 0xffff_ffff_ffff_ffff) { long = Some (codes "order"); required = true }

-- `N`, required: 0 to 2,000
abbrev pub steps_rule : Rule
steps_rule = record (number_rule (codes "steps") 0 2000) { required = true }

abbrev pub gen_app : App
gen_app = with_rule (with_rule (with_rule (new_app (codes "gen")) seed_rule) nodes_rule) turns_rule

abbrev pub exec_app : App
exec_app = with_rule (new_app (codes "exec")) order_rule

abbrev pub demo_app : App
demo_app = with_rule (new_app (codes "demo")) steps_rule

-- the name alone, and that a subcommand has to be given
abbrev pub name_app : App
name_app = let app = new_app (codes "testgen") in record app { top = record app.top { subcommand_required = true } }

abbrev pub testgen_app : App
testgen_app = with_subcommand (with_subcommand (with_subcommand (with_subcommand (with_subcommand name_app gen_app.top) (new_app (codes "replay")).top) exec_app.top) (new_app (codes "show")).top) demo_app.top
