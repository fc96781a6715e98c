-- A walk through a body, as the code makes it.
use Rattle.std.specs.Prelude.{◌≡◌, ℕ, ◌≤◌, length, List, [], ◌∷◌, ◌++◌, map, Option, Some, None, option_map, Vec}
use Rattle.std.specs.Global.{Global}
use Rattle.std.specs.List.{AllByRecursion, slice_get}
use Rattle.tpl_ast.specs.Expansion.{Expanded, Expanding, Piece, expansion_of, stuck}
use Rattle.tpl_ast.specs.declared.template.Item.{Item}
use Rattle.tpl_admit.specs.declared.admission.Unmet.{Unmet}
use Rattle.tpl_admit.specs.declared.judging.Context.{Context as AContext}
use Rattle.tpl_admit.specs.declared.judging.Walk.{Walk}
use Rattle.tpl_admit.specs.declared.judging.Trace.{Trace as ATrace}
use Rattle.tpl_admit.specs.Admitting.{Context, Failure, Stand, failures_at, here, least_among, stand_after, Trace, at_hart}
use Rattle.tpl_admit.specs.Starts.{lookup}
use Rattle.tpl_ast.specs.Limits.{most_harts, most_records}

abbrev pub context : AContext → Context
context c = record { hart = c.hart; names = lookup c.names.now; others = c.others.now; dropped = c.dropped.now }

-- where a hart stands, the least failure so far, and the numbers that are left for choices, None where it got stuck
pub record Walked : Type 0 where
  pub at : Stand
  pub least : Option Unmet
  pub left : Option (List ℕ)

abbrev pub walked : Walk → Walked
walked w = record {
  at = record { step = w.step; pc = w.pc; regs = w.regs; records = w.records.now };
  least = w.least;
  left = option_map (λ c. c.now) w.choices;
}

-- the alternative that a choice takes, over items
abbrev pub taken_of : Option (ℕ × Vec Item Global) → Expanding
taken_of None choices = stuck
taken_of (Some way) choices = expansion_of way.1.items choices

abbrev pub chosen_of : List (ℕ × Vec Item Global) → Expanding
chosen_of ways [] = stuck
chosen_of ways (n ∷ choices) = taken_of (slice_get ways n) choices

abbrev pub stands_after : List Piece → Stand → Stand
stands_after [] s = s
stands_after (p ∷ ps) s = stands_after ps (stand_after p s)

abbrev pub piece_failures : Context → List Piece → Stand → List Failure
piece_failures c [] s = []
piece_failures c (p ∷ ps) s = failures_at c p s ++ piece_failures c ps (stand_after p s)

abbrev pub noted : Context → List Failure → Option Unmet → Option Unmet
noted c fs least = least_among (map (at_hart c.hart) fs) least

abbrev pub passed : Context → Expanded → Walked → Walked
passed c l w = record { at = stands_after l.pieces w.at; least = noted c (piece_failures c l.pieces w.at) w.least; left = l.left }

-- behind a body
abbrev pub through : Context → Expanding → Walked → Walked
through c x w = elim (w.left) [
  | None ↦ w
  | Some choices ↦ passed c (x choices) w
]

-- behind one piece
abbrev pub one_passed : Context → Piece → Walked → Walked
one_passed c p w = record { at = stand_after p w.at; least = noted c (failures_at c p w.at) w.least; left = w.left }

-- behind a choice that took no alternative
abbrev pub stopped : Context → Walked → Walked
stopped c w = record { at = w.at; least = noted c (here w.at) w.least; left = None }

-- the code's trace
abbrev pub trace : ATrace → Trace
trace t = record {
  template = t.template.now;
  start = t.start.now;
  words = t.words.now;
  records = t.records.now;
  choices = t.choices.now;
  names = t.names.now;
  dropped = t.dropped.now;
}

-- as many starts and traces as the template has harts, no more than a test may have, and no trace is longer than all may be together
pub record IsWithinLimits (t : Trace) : Type 0 where
  pub harts : length t.template.harts ≤ most_harts
  pub start : length t.start ≡ length t.template.harts
  pub records : length t.records ≡ length t.template.harts
  pub steps : AllByRecursion (λ rs. length rs ≤ most_records) t.records
