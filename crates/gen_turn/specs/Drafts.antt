-- A test that is being made for a template, and the turns of its leaves.
use Rattle.std.specs.Prelude.{ℕ, Bool, true, List, slice_get}
use Rattle.tpl_ast.specs.declared.template.Atom.{Atom}
use Rattle.tpl_ast.specs.declared.template.Template.{Template}
use Rattle.tpl_ast.specs.declared.template.Var.TheVariants as vars
use Rattle.part_machine.specs.Whole.{Whole}
use Rattle.leaf_link.specs.Cases.{all_tests}
use Rattle.leaf_link.specs.Turns.{Turn}
use Rattle.leaf_turn.specs.Grounds.{declared_set}
use Rattle.turn_laws.specs.Given.{Setting, turn_at}
use Rattle.gen_turn.specs.Touches.{touches_from}

-- a template, the budget of each problem, and the test so far
pub record Drafted : Type 0 where
  pub template : Template
  pub nodes : ℕ
  pub now : Whole

abbrev pub drafted : Template → ℕ → Whole → Drafted
drafted t nodes w = record { template = t; nodes = nodes; now = w }

-- the same draft with another test
abbrev pub at_test : Drafted → Whole → Drafted
at_test d w = record { template = d.template; nodes = d.nodes; now = w }

-- what a template lets a step start, with the values that an untouched source may have
abbrev pub setting_of : Template → (ℕ → Bool) → Setting
setting_of t sources = record {
  pool = t.pool;
  tables = t.tables;
  flags = t.flags;
  vectors = t.vectors;
  sets = λ n. declared_set (slice_get t.names n);
  sources = sources;
}

abbrev pub turn_with : Drafted → (ℕ → Bool) → ℕ → Turn
turn_with d sources k = turn_at (setting_of d.template sources) (touches_from 0 d.now.traces) k d.now

-- the turn of a leaf of hart k, whose mandatory atoms say what an untouched source may have
abbrev pub turn_of : Drafted → List Atom → ℕ → Turn
turn_of d leaf k = turn_with d (all_tests (turn_with d (λ v. true) k) leaf vars.A) k
