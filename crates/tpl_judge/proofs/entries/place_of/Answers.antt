use Rattle.std.proofs.Common.{◌≡◌, true, false, rules}
use Rattle.std.specs.List.Sorted.{IsPartitionPoint}
use Rattle.std.proofs.lemmas.List.Sorted.{IsPartitionPoint-from_clause}
use Rattle.tpl_judge.proofs.Searches.{is_up_to, placed, up_to_parted}
use Rattle.tpl_judge.proofs.entries.place_of.Goals as goal

pub returns-clause-place : goal.returns-clause-place
returns-clause-place c =
    let test = is_up_to c.args.key in
    let point : IsPartitionPoint (λ e. test e ≡ true) (λ e. test e ≡ false) c.args.entries.now c.partition_point.result =
    IsPartitionPoint-from_clause test _ _ c.partition_point.ensures.partitioned (up_to_parted c.args.entries.now c.args.key c.requires.ascending) (λ a r q k. search rules) in
    placed c.args.entries.now c.args.key c.partition_point.result (search rules) point
