use Rattle.std.proofs.Common.{◌∙◌}
use Rattle.rv_script.specs.Script.{access_of}
use Rattle.rv_script.specs.Folds.{by_known}
use Rattle.rv_script.proofs.Wholes.{whole}
use Rattle.sv_walk.specs.Translation.{translated}
use Rattle.sv_walk.specs.Clauses.{known_words, ram_of, sight_of}
use Rattle.sv_walk.proofs.Wholes.{answered, extends}
use Rattle.sv_walk.proofs.walking.walk.Goals as goal

pub returns-clause-answer : goal.returns-clause-answer
returns-clause-answer g c = λ known knows. c.translate-outcome.ensures.answer ∙ answered (g.M.Words.at c.args.m.now) (ram_of (g.M.Words.at c.args.m.now)) c.args.v c.args.kind c.args.va known knows

pub returns-clause-whole : goal.returns-clause-whole
returns-clause-whole g c = λ words has.
    c.translate-outcome.ensures.answer
    ∙ whole access_of (translated (ram_of (g.M.Words.at c.args.m.now)) c.args.v c.args.kind c.args.va) (by_known (known_words (g.M.Words.at c.args.m.now))) (sight_of words) (extends (g.M.Words.at c.args.m.now) words has)
