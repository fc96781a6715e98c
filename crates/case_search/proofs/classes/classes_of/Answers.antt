use Rattle.std.proofs.Common.{refl}
use Rattle.case_search.proofs.classes.classes_of.Goals as goal

pub returns-then-is_one_register : goal.returns-then-is_one_register
returns-then-is_one_register c op x hold = c.joined.ensures x (c.same_classes-classes.ensures op x hold) (c.if-is_one_register.ensures refl op x hold)
