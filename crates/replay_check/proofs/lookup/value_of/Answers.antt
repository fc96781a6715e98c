use Rattle.std.proofs.Common.{ℕ, sym, rules}
use Rattle.std.proofs.lemmas.List.Sorted.{answers_always}
use Rattle.replay_check.proofs.Keys.{key_found, key_missed}
use Rattle.replay_check.proofs.lookup.value_of.Goals as goal

pub returns-in-Ok : goal.returns-in-Ok
returns-in-Ok c =
    let found = c.in-Ok.ensures.position (λ (y : ℕ × ℕ). y.0) (answers_always _ _ _ (λ f a r g called. search rules)) in
    sym (key_found c.args.pairs.now c.args.key c.in-Ok.i (0, 0) c.requires c.in-Ok.ensures.bound (found (0, 0)))

pub returns-in-Err : goal.returns-in-Err
returns-in-Err c =
    let missed = c.in-Err.ensures.position (λ (y : ℕ × ℕ). y.0) (answers_always _ _ _ (λ f a r g called. search rules)) in
    sym (key_missed c.args.pairs.now c.args.key c.in-Err.field-0 c.requires missed)
