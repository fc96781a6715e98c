use Rattle.std.proofs.Common.{◌<◌, ◌^◌, get_or, arith}
use Rattle.std.proofs.lemmas.List.{get_or_default}
use Rattle.case_search.proofs.search.words.Goals as goal

pub returns : goal.returns
returns c = λ i d lt. let word : get_or c.args.values.now i 0 < 2 ^ 32 = omega (arith, c.type_inv.values i) in omega (arith, word, get_or_default c.args.values.now i d 0 lt)
