-- Lists without their last item.
use Rattle.std.specs.Prelude.{◌-◌, List, length, take}

abbrev pub but_last : {A : Type 0} → List A → List A
but_last xs = take (length xs - 1) xs
