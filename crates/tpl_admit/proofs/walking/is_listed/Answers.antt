use Rattle.std.proofs.Common.{◌≡◌, true, false, Some, None, length, refl, sym, ap, ◌∙◌, rules}
use Rattle.std.specs.List.{slice_get}
use Rattle.std.specs.List.Sorted.{IsPartitionPoint}
use Rattle.std.proofs.lemmas.List.Sorted.{IsPartitionPoint-from_clause}
use Rattle.std.proofs.lemmas.Option.{slice_get_past, slice_get_read}
use Rattle.tpl_admit.specs.Internal.Ordered.{stands_before}
use Rattle.tpl_admit.proofs.Drops.{found, is_drop_at, parted}
use Rattle.tpl_admit.proofs.walking.is_listed.Goals as goal

pub returns-in-None : goal.returns-in-None
returns-in-None c =
    let before = stands_before c.args.hart c.args.step c.args.atom in
    let point : IsPartitionPoint (λ d. before d ≡ true) (λ d. before d ≡ false) c.args.dropped.now c.partition_point-at.result =
    IsPartitionPoint-from_clause before _ _ c.partition_point-at.ensures.partitioned (parted c.args.dropped.now c.args.hart c.args.step c.args.atom c.requires) (λ a r q k. search rules) in
    let none : slice_get c.args.dropped.now c.partition_point-at.result ≡ None = slice_get_past c.args.dropped.now c.partition_point-at.result (search rules) in
    ap (is_drop_at c.args.hart c.args.step c.args.atom) (sym none)
    ∙ found c.args.dropped.now c.args.hart c.args.step c.args.atom c.partition_point-at.result c.requires point

pub returns-in-Some : goal.returns-in-Some
returns-in-Some c =
    let before = stands_before c.args.hart c.args.step c.args.atom in
    let point : IsPartitionPoint (λ d. before d ≡ true) (λ d. before d ≡ false) c.args.dropped.now c.partition_point-at.result =
    IsPartitionPoint-from_clause before _ _ c.partition_point-at.ensures.partitioned (parted c.args.dropped.now c.args.hart c.args.step c.args.atom c.requires) (λ a r q k. search rules) in
    let some : slice_get c.args.dropped.now c.partition_point-at.result ≡ Some c.in-Some.one.now = slice_get_read c.args.dropped.now (length c.args.dropped.now) c.partition_point-at.result c.in-Some.one.now refl (search rules) (search rules) in
    c.is_drop.ensures
    ∙ ap (is_drop_at c.args.hart c.args.step c.args.atom) (sym some)
    ∙ found c.args.dropped.now c.args.hart c.args.step c.args.atom c.partition_point-at.result c.requires point
