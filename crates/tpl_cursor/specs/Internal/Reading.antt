-- What a reader of tokens returns, against what is read by the grammar.
use Rattle.std.specs.Prelude.{◌≡◌, List, Option, Some, None, Result, Ok, Err}
use Rattle.tpl_lang.specs.Tokens.{Token}
use Rattle.tpl_lang.specs.PartReading.{Read}
use Rattle.tpl_cursor.specs.declared.stop.Stop.{Stop}
use Rattle.tpl_cursor.specs.declared.stop.Stop.TheVariants.{Memory, Unexpected}

-- nothing is said where memory ran out
abbrev pub Fails : {Y : Type 0} → Stop → Option Y → Type 0
Fails Memory read = Unit {0}
Fails Unexpected read = read ≡ None

-- what a reader returned, seen by view, is what is read
abbrev pub Gives : {X Y : Type 0} → (X → Y) → Result X Stop → Option Y → Type 0
Gives view (Ok x) read = read ≡ Some (view x)
Gives view (Err e) read = Fails e read

-- the same, with the tokens behind it
abbrev pub Reads : {X Y : Type 0} → (X → Y) → Result X Stop → List Token → Read Y → Type 0
Reads view (Ok x) rest read = read ≡ Some (view x, rest)
Reads view (Err e) rest read = Fails e read

-- tokens that have to stand there were passed
abbrev pub Passes : {X : Type 0} → Result X Stop → List Token → Option (List Token) → Type 0
Passes (Ok x) rest read = read ≡ Some rest
Passes (Err e) rest read = Fails e read
