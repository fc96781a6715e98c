-- Where a walk stands, as the code keeps it.
use Rattle.std.specs.Prelude.{◌≡◌, ℕ, ◌+◌, ◌*◌, ◌≤◌, ◌<◌, ◌^◌, true, List, [], ◌∷◌, ◌++◌, length, drop, Option, Some, None, Vec}
use Rattle.std.specs.Global.{Global}
use Rattle.std.specs.List.{slice_get}
use Rattle.tpl_ast.specs.declared.template.HartDecl.{HartDecl}
use Rattle.tpl_ast.specs.declared.template.Item.{Item}
use Rattle.gen_search.specs.declared.place.Block.{Block}
use Rattle.gen_search.specs.declared.place.Place.{Place}
use Rattle.gen_search.specs.declared.choice.Choice.{Choice}
use Rattle.gen_search.specs.declared.draws.Tally.{Tally}
use Rattle.gen_search.specs.Search.{Rules, Outcome, Dead, OrElse, Tries, numbered, cyclically, of_hart, all_items, copies}
use Rattle.tpl_ast.specs.Choices.{are_ways_fit}
use Rattle.gen_search.specs.Fit.{AreFit}
use Rattle.gen_search.specs.Steps.{steps_of_body}

-- ---- what is left to do

abbrev pub laid_block : ℕ → Block → List (ℕ × Item)
laid_block hart b = of_hart hart b.items.now ++ copies b.again (of_hart hart b.body.now)

-- the blocks of a hart, the outermost first
abbrev pub laid_blocks : ℕ → List Block → List (ℕ × Item)
laid_blocks hart [] = []
laid_blocks hart (b ∷ bs) = laid_blocks hart bs ++ laid_block hart b

abbrev pub laid : Place → List (ℕ × Item)
laid p = laid_blocks p.hart p.blocks.items ++ all_items (p.hart + 1) p.later.now

-- ---- how many steps are left

abbrev pub steps_of_block : Block → ℕ
steps_of_block b = 1 + steps_of_body b.items.now + b.again * (1 + steps_of_body b.body.now)

abbrev pub steps_of_blocks : List Block → ℕ
steps_of_blocks [] = 0
steps_of_blocks (b ∷ bs) = steps_of_block b + steps_of_blocks bs

abbrev pub steps_of_harts : List HartDecl → ℕ
steps_of_harts [] = 0
steps_of_harts (h ∷ hs) = 2 + steps_of_body h.body.items + steps_of_harts hs

abbrev pub steps_left : Place → ℕ
steps_left p = steps_of_blocks p.blocks.items + steps_of_harts p.later.now

-- ---- open choices

-- the alternatives that were not tried yet, with their numbers
abbrev pub untried : Choice → List (ℕ × Vec Item Global)
untried c = drop c.tried (cyclically c.picked (numbered 0 c.ways.now))

-- what the alternatives that are left end with, from the whole that stood before the choice
abbrev pub ComesBack : {W : Type 0} → Rules W → ℕ → List (ℕ × Vec Item Global) → Place → Option W → Tally → Outcome W → Type 0
ComesBack rules turns ways place None t o = o ≡ Dead t
ComesBack rules turns ways place (Some whole) t o = Tries rules turns place.hart ways (laid place) whole t o

-- what some outcomes lead to inside of open choices, the outermost first, whose wholes have their marks for numbers
abbrev pub Inside : {W : Type 0} → Rules W → ℕ → List W → List Choice → (Outcome W → Type 0) → Outcome W → Type 0
Inside rules turns ws [] first = first
Inside rules turns ws (c ∷ cs) first = OrElse (Inside rules turns ws cs first) (ComesBack rules turns (untried c) c.place (slice_get ws c.mark))

-- marks ascend, from a number up to another
abbrev pub AreMarked : ℕ → List Choice → ℕ → Type 0
AreMarked low [] high = low ≤ high
AreMarked low (c ∷ cs) high = (low ≤ c.mark) × AreMarked c.mark cs high

-- a choice can be come back to
pub record IsOpen (c : Choice) : Type 0 where
  pub picked : c.picked < length c.ways.now
  pub tried : c.tried ≤ length c.ways.now
  pub few : length c.ways.now < 2 ^ 32
  pub ways : are_ways_fit c.ways.now ≡ true
  pub place : AreFit (laid c.place)
  pub counted : c.place.hart + length c.place.later.now < 2 ^ 32

abbrev pub AreOpen : List Choice → Type 0
AreOpen [] = Unit {0}
AreOpen (c ∷ cs) = IsOpen c × AreOpen cs

-- all alternatives of these choices were tried
abbrev pub AreTried : List Choice → Type 0
AreTried [] = Unit {0}
AreTried (c ∷ cs) = (length c.ways.now ≤ c.tried) × AreTried cs

-- a choice stands behind others, and those inside of it were tried
pub record IsInside (all others : List Choice) (c : Choice) : Type 0 where
  pub inner : List Choice
  pub are : all ≡ others ++ (c ∷ inner)
  pub tried : AreTried inner
