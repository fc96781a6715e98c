use Rattle.std.proofs.Common.{◌+◌, ◌/◌, ◌^◌, ◌<◌, ◌≤◌}
use Rattle.row_parts.specs.Classes.{low_bit}
use Rattle.row_parts.proofs.TableParts.{few_entries, from_first, below_end}
use Rattle.row_parts.proofs.classes.ClassPartChoice.judge.Goals as goal

pub cover-requires-clause-few : goal.cover-requires-clause-few
cover-requires-clause-few c = rw (c.power-count.ensures.value, c.low-low.ensures.value) (few_entries c.args.self.now.level c.args.start c.args.bits c.requires.grain c.requires.aligned c.requires.within)

pub returns-clause-all : goal.returns-clause-all
returns-clause-all c = λ is y from to.
    let first : c.args.start / 2 ^ c.low-low.result ≤ y / 2 ^ low_bit c.args.self.now.level = rw c.low-low.ensures.value (from_first c.args.self.now.level c.args.start y from) in
    let end : y / 2 ^ low_bit c.args.self.now.level < c.args.start / 2 ^ c.low-low.result + c.power-count.result = rw (c.power-count.ensures.value, c.low-low.ensures.value) (below_end c.args.self.now.level c.args.start c.args.bits y c.requires.grain c.requires.aligned to) in
    c.cover.ensures.all is (y / 2 ^ low_bit c.args.self.now.level) first end

pub returns-clause-none : goal.returns-clause-none
returns-clause-none c = λ is y from to.
    let first : c.args.start / 2 ^ c.low-low.result ≤ y / 2 ^ low_bit c.args.self.now.level = rw c.low-low.ensures.value (from_first c.args.self.now.level c.args.start y from) in
    let end : y / 2 ^ low_bit c.args.self.now.level < c.args.start / 2 ^ c.low-low.result + c.power-count.result = rw (c.power-count.ensures.value, c.low-low.ensures.value) (below_end c.args.self.now.level c.args.start c.args.bits y c.requires.grain c.requires.aligned to) in
    c.cover.ensures.none is (y / 2 ^ low_bit c.args.self.now.level) first end
