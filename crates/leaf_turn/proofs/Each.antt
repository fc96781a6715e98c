-- What holds of all operations holds of each.
use Rattle.std.proofs.Common.{◌≡◌, Bool, true, List, [], ◌∷◌, subst, inl, inr}
use Rattle.std.specs.List.{list_all}
use Rattle.std.proofs.lemmas.Bool.{and_parts}
use Rattle.rv_isa.specs.declared.operation.Op.{Op}
use Rattle.rv_script.specs.Lists.{HasItem}

pub every : (test : Op → Bool) (xs : List Op) → list_all test xs ≡ true → (op : Op) → HasItem xs op → test op ≡ true
every test [] h op i = absurd i
every test (x ∷ xs) h op i =
    let p = and_parts (test x) (list_all test xs) h in
    elim i [ inl same ↦ subst (λ (o : Op). test o ≡ true) same p.0 | inr later ↦ every test xs p.1 op later ]
