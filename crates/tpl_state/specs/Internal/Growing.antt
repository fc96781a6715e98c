-- A body that grows line by line.
use Rattle.std.specs.Prelude.{ℕ, Bool, true, false, ◌&&◌, nat_lt, not, List, [], ◌∷◌, ◌++◌, length, Vec}
use Rattle.std.specs.Global.{Global}
use Rattle.std.specs.List.{list_any}
use Rattle.tpl_ast.specs.declared.template.Item.{Item}
use Rattle.tpl_ast.specs.Bodies.{BodyLine, EnterSeq, EnterRepeat, EnterChoose, EnterWay, Leave, lines_of_body}
use Rattle.tpl_lang.specs.Known as language
use Rattle.tpl_lang.specs.Known.{OpenedBlock}
use Rattle.tpl_lang.specs.Statements.{closing}
use Rattle.tpl_lang.specs.Faults.{is_choice, is_in_choice}
use Rattle.tpl_state.specs.declared.body.Block.{Block}
use Rattle.tpl_state.specs.declared.body.Block.TheVariants as blocks
use Rattle.tpl_state.specs.declared.body.OpenBlock.{OpenBlock}

-- what is seen of a body that grows: its lines, and its open blocks, innermost first
pub record Grown : Type 0 where
  pub lines : List BodyLine
  pub blocks : List OpenedBlock

-- the lines of alternatives
abbrev pub lines_of_alternatives : List (ℕ × Vec Item Global) → List BodyLine
lines_of_alternatives [] = []
lines_of_alternatives (w ∷ ws) = EnterWay w.0 ∷ lines_of_body w.1.items ++ Leave ∷ lines_of_alternatives ws

-- the lines of a block that isn't closed
abbrev pub lines_of_block : Block → List BodyLine
lines_of_block (blocks.Whole items) = lines_of_body items.items
lines_of_block (blocks.Sequence items) = EnterSeq ∷ lines_of_body items.items
lines_of_block (blocks.Times times items) = EnterRepeat times ∷ lines_of_body items.items
lines_of_block (blocks.Choice line ways) = EnterChoose line ∷ lines_of_alternatives ways.items
lines_of_block (blocks.Alternative weight items) = EnterWay weight ∷ lines_of_body items.items

-- the same of blocks, each in the one before it
abbrev pub lines_of_open : List OpenBlock → List BodyLine
lines_of_open [] = []
lines_of_open (b ∷ bs) = lines_of_block b.block ++ lines_of_open bs

abbrev pub kind_of : Block → language.Block
kind_of (blocks.Whole items) = language.Whole
kind_of (blocks.Sequence items) = language.Sequence
kind_of (blocks.Times times items) = language.Times times
kind_of (blocks.Choice line ways) = language.Choice
kind_of (blocks.Alternative weight items) = language.Alternative weight

abbrev pub ways_of : Block → ℕ
ways_of (blocks.Choice line ways) = length ways.items
ways_of _ = 0

abbrev pub is_weighted : Block → Bool
is_weighted (blocks.Choice line ways) = list_any (λ w. nat_lt 0 w.0) ways.items
is_weighted _ = false

abbrev pub open_of : OpenBlock → OpenedBlock
open_of b = record { block = kind_of b.block; length = b.length; ways = ways_of b.block; weighted = is_weighted b.block }

-- blocks, each in the one before it, on those around them, innermost first
abbrev pub stacked : List OpenBlock → List OpenedBlock → List OpenedBlock
stacked [] os = os
stacked (b ∷ bs) os = stacked bs (open_of b ∷ os)

-- a block may stand directly in the first of these
abbrev pub fits_in : language.Block → List OpenedBlock → Bool
fits_in language.Whole [] = true
fits_in language.Whole (o ∷ os) = false
fits_in b [] = false
fits_in (language.Alternative w) (o ∷ os) = is_choice o.block
fits_in language.Sequence (o ∷ os) = not (is_choice o.block)
fits_in (language.Times n) (o ∷ os) = not (is_choice o.block)
fits_in language.Choice (o ∷ os) = not (is_choice o.block)

-- the body is the outermost block; each alternative stands directly in a choice, and nothing else does
abbrev pub is_nested : List OpenedBlock → Bool
is_nested [] = true
is_nested (o ∷ os) = fits_in o.block os && is_nested os

abbrev pub is_whole : language.Block → Bool
is_whole language.Whole = true
is_whole _ = false

-- the innermost block is the body itself
abbrev pub is_body_closable : List OpenedBlock → Bool
is_body_closable [] = false
is_body_closable (o ∷ os) = is_whole o.block

-- the blocks that are open when the innermost is closed
abbrev pub closed : List OpenedBlock → List OpenedBlock
closed [] = []
closed (o ∷ os) = closing o.block o.length os
