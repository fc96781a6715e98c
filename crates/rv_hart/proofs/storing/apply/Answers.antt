use Rattle.std.proofs.Common.{◌≡◌, ◌/◌, ◌<◌, ◌^◌, sym, ◌∙◌, rules}
use Rattle.rv_mem.specs.declared.words.Seen.TheVariants.{Known}
use Rattle.rv_hart.proofs.Stores.{applied}
use Rattle.rv_hart.proofs.storing.apply.Goals as goal

pub returns-in-Known : goal.returns-in-Known
returns-in-Known g c =
    let small : c.in-Known.field-0 < 2 ^ 32 = search rules in
    let here : g.M.Words.at c.args.m.now (c.args.x.now.addr / 4) ≡ Known c.in-Known.field-0 = sym c.word_of.ensures.number ∙ c.in-Known.is in
    applied c.args.x.now (g.M.Words.at c.args.m.now) (g.M.Words.at c.store.new.m) c.in-Known.field-0 c.in-Store.is here
    (c.store.ensures.word c.in-Known.field-0 small here) c.store.ensures.others
