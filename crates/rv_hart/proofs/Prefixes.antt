-- Accesses before an answer.
use Rattle.std.proofs.Common.{◌≡◌, List, [], ap, append-nil}
use Rattle.rv_script.specs.Folds.{Answer.Does, prefixed}

pub prefixed_none : {L A : Type 0} (a : A) (xs : List L) → prefixed xs (Does [] a) ≡ Does xs a
prefixed_none a xs = ap (λ ys. Does ys a) (append-nil xs)
