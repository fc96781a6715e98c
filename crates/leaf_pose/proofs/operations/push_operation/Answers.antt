use Rattle.std.proofs.Common.{◌≡◌, List, sym, ◌∙◌, ap, subst, true, false}
use Rattle.leaf_stand.specs.declared.way.Way.{Way}
use Rattle.leaf_stand.specs.Kinds.{kind_of}
use Rattle.leaf_pose.specs.Posed.{Adds}
use Rattle.leaf_stand.specs.Posed.{is_data, is_listed, stand_cases, stand_ways, ways_at}
use Rattle.leaf_link.specs.Cases.{Way as AWay}
use Rattle.leaf_stand.specs.Internal.Ways.{AreWaysOf, way_cases, ways_by}
use Rattle.leaf_stand.proofs.Branching.{are_ways, ways_back, ways_there}
use Rattle.leaf_stand.proofs.Fits.{not_allowed}
use Rattle.leaf_pose.proofs.Granting.{listed_where, operand_where}
use Rattle.leaf_pose.proofs.Steps.{nothing_added, plain_ways, same_adds}
use Rattle.leaf_pose.proofs.operations.push_operation.Goals as goal

pub returns-then-not-allows : goal.returns-then-not-allows
returns-then-not-allows c =
    nothing_added c.args.stand.now c.args.leaf.now c.args.shaped.now (stand_cases c.args.stand.now c.args.leaf.now c.args.op (ways_at c.args.stand.now c.args.leaf.now c.args.op))
    (not_allowed c.args.stand.now c.args.leaf.now c.args.op (ways_at c.args.stand.now c.args.leaf.now c.args.op) (sym c.allows.ensures ∙ c.if-not-allows.true))

pub push_csrs-requires-clause-csr : goal.push_csrs-requires-clause-csr
push_csrs-requires-clause-csr c = operand_where c.args.op (sym c.has_csr.ensures ∙ c.if-has_csr.true)

pub returns-then-has_csr : goal.returns-then-has_csr
returns-then-has_csr c =
    let s = c.args.stand.now in
    let leaf = c.args.leaf.now in
    let op = c.args.op in
    subst (λ (l : List AWay). Adds s leaf c.args.shaped.now c.push_csrs.new.shaped (stand_cases s leaf op l)) (sym (plain_ways s leaf op (sym c.is_data.ensures ∙ c.if-is_data.false))) c.in_ok-push_csrs.ensures

pub push_ways-requires-clause-built : goal.push_ways-requires-clause-built
push_ways-requires-clause-built c = listed_where c.args.op (sym c.has_csr.ensures ∙ c.if-has_csr.false) (sym c.is_data.ensures ∙ c.if-is_data.false)

pub push_ways-requires-clause-ways : goal.push_ways-requires-clause-ways
push_ways-requires-clause-ways c =
    let e : c.ways_by-ways.result.now ≡ ways_by c.args.stand.now (kind_of c.args.op) = c.ways_by-ways.ensures ∙ ap (ways_by c.args.stand.now) c.kind_of.ensures in
    subst (λ (l : List Way). AreWaysOf c.args.stand.now c.args.op l) (sym e)
    (are_ways c.args.stand.now c.args.op (listed_where c.args.op (sym c.has_csr.ensures ∙ c.if-has_csr.false) (sym c.is_data.ensures ∙ c.if-is_data.false)))

pub returns : goal.returns
returns c =
    let s = c.args.stand.now in
    let leaf = c.args.leaf.now in
    let op = c.args.op in
    let plain : is_data (kind_of op) ≡ false = sym c.is_data.ensures ∙ c.if-is_data.false in
    let built : is_listed (kind_of op) ≡ true = listed_where op (sym c.has_csr.ensures ∙ c.if-has_csr.false) plain in
    let e : c.ways_by-ways.result.now ≡ ways_by s (kind_of op) = c.ways_by-ways.ensures ∙ ap (ways_by s) c.kind_of.ensures in
    subst (λ (l : List AWay). Adds s leaf c.args.shaped.now c.push_ways.new.shaped (stand_cases s leaf op l)) (sym (plain_ways s leaf op plain))
    (same_adds s leaf c.args.shaped.now c.push_ways.new.shaped (way_cases s leaf op (ways_by s (kind_of op))) (stand_cases s leaf op (stand_ways s op)) (ways_there s leaf op built) (ways_back s leaf op built)
    (subst (λ (l : List Way). Adds s leaf c.args.shaped.now c.push_ways.new.shaped (way_cases s leaf op l)) e c.in_ok-push_ways.ensures))
