use Rattle.std.proofs.Common.{◌≡◌, true, false, Some, None, length, refl, sym, ap, ◌∙◌, rules}
use Rattle.std.specs.List.{slice_get}
use Rattle.std.specs.List.Sorted.{IsPartitionPoint}
use Rattle.std.proofs.lemmas.List.Sorted.{IsPartitionPoint-from_clause}
use Rattle.std.proofs.lemmas.Option.{slice_get_past, slice_get_read}
use Rattle.tpl_judge.proofs.Searches.{below_parted, found, is_below, value_there}
use Rattle.tpl_judge.proofs.entries.value_of.Goals as goal

pub returns-in-None : goal.returns-in-None
returns-in-None c =
    let test = is_below c.args.key in
    let point : IsPartitionPoint (λ e. test e ≡ true) (λ e. test e ≡ false) c.args.entries.now c.partition_point-at.result =
    IsPartitionPoint-from_clause test _ _ c.partition_point-at.ensures.partitioned (below_parted c.args.entries.now c.args.key c.requires.ascending) (λ a r q k. search rules) in
    let none : slice_get c.args.entries.now c.partition_point-at.result ≡ None = slice_get_past c.args.entries.now c.partition_point-at.result (search rules) in
    ap (value_there c.args.key) (sym none)
    ∙ found c.args.entries.now c.args.key c.partition_point-at.result c.requires.ascending point

pub returns-in-Some : goal.returns-in-Some
returns-in-Some c =
    let test = is_below c.args.key in
    let point : IsPartitionPoint (λ e. test e ≡ true) (λ e. test e ≡ false) c.args.entries.now c.partition_point-at.result =
    IsPartitionPoint-from_clause test _ _ c.partition_point-at.ensures.partitioned (below_parted c.args.entries.now c.args.key c.requires.ascending) (λ a r q k. search rules) in
    let some : slice_get c.args.entries.now c.partition_point-at.result ≡ Some c.in-Some.entry.now = slice_get_read c.args.entries.now (length c.args.entries.now) c.partition_point-at.result c.in-Some.entry.now refl (search rules) (search rules) in
    c.value_in.ensures
    ∙ ap (value_there c.args.key) (sym some)
    ∙ found c.args.entries.now c.args.key c.partition_point-at.result c.requires.ascending point
