-- What the search for a test sees of a draft, as plain data, and by what it is changed.
use Rattle.std.specs.Prelude.{◌≡◌, ℕ}
use Rattle.tpl_ast.specs.declared.template.Item.{Item}
use Rattle.tpl_ast.specs.declared.template.Template.{Template}
use Rattle.part_state.specs.State.{Test, data_of, whole}
use Rattle.gen_search.specs.Search.{Rules, Turned, Turned.Taken, Turned.NoneFits, Turned.Spent}
use Rattle.gen_turn.specs.Drafts.{Drafted, drafted}
use Rattle.gen_turn.specs.Grounds.{CanTake}
use Rattle.gen_turn.specs.Turns.{IsTurnedTo, chosen_at, labelled_at}

-- a template, the budget of each problem, and the test so far
pub record Shown : Type 0 where
  pub template : Template
  pub nodes : ℕ
  pub now : Test

abbrev pub shown : Template → ℕ → Test → Shown
shown t nodes now = record { template = t; nodes = nodes; now = now }

abbrev pub draft_of : Shown → Drafted
draft_of s = drafted s.template s.nodes (whole s.now)

abbrev pub shown_as : Drafted → Shown
shown_as d = shown d.template d.nodes (data_of d.now)

abbrev pub turn_shown : Turned Drafted → Turned Shown
turn_shown (Taken d) = Taken (shown_as d)
turn_shown NoneFits = NoneFits
turn_shown Spent = Spent

-- leaf turns, labels and choices
abbrev pub draft_rules : Rules Shown
draft_rules = record {
  turn = λ k leaf draws s r. (turned : Turned Drafted) × IsTurnedTo (draft_of s) k leaf draws turned × (r ≡ turn_shown turned);
  label = λ k n s. shown_as (labelled_at k n (draft_of s));
  way = λ way s. shown_as (chosen_at way (draft_of s));
}

abbrev pub can_be_taken : Shown → ℕ → Item → Type 0
can_be_taken s = CanTake (draft_of s)
