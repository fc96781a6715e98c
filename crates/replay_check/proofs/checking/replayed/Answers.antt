use Rattle.std.proofs.Common.{ℕ, List, ap, ◌∙◌, subst}
use Rattle.rv_hart.specs.declared.record.Record.{Record}
use Rattle.tpl_ast.specs.declared.template.HartState.{HartState}
use Rattle.tpl_admit.specs.Starts.{fixed_in, word_of, first_memory, lookup}
use Rattle.replay_check.specs.Internal.Replay.{TakesAll, StraysAt}
use Rattle.replay_check.proofs.Ends.{replayed_right, replayed_end, replayed_wrong}
use Rattle.replay_check.proofs.checking.replayed.Goals as goal

pub returns-in-None-clause-right : goal.returns-in-None-clause-right
returns-in-None-clause-right c =
    let cert = c.args.cert.now in
    let h = c.hart_in-hart.result in
    let ram = cert.template.ram in
    let known = λ (key : ℕ). c.hart_in-hart.ensures.known key ∙ ap (λ (s : HartState). lookup s.places key) c.start_state.ensures.state in
    let fixed = c.hart_in-hart.ensures.fixed ram ∙ ap (λ (n : ℕ). fixed_in ram n c.start_state.result.now) c.from.ensures ∙ ap (λ (s : HartState). fixed_in ram c.args.k s) c.start_state.ensures.state in
    replayed_right cert c.args.k h c.take_all.new.hart known fixed
    (subst (λ (rs : List Record). TakesAll ram (word_of cert) (first_memory cert) h c.take_all.new.hart rs) c.trace.ensures.records
    (c.take_all.ensures.right ram (word_of cert) (first_memory cert) c.requires.memory c.in-None.is))

pub returns-in-None-clause-end : goal.returns-in-None-clause-end
returns-in-None-clause-end c =
    let cert = c.args.cert.now in
    let h = c.hart_in-hart.result in
    let ram = cert.template.ram in
    let known = λ (key : ℕ). c.hart_in-hart.ensures.known key ∙ ap (λ (s : HartState). lookup s.places key) c.start_state.ensures.state in
    let fixed = c.hart_in-hart.ensures.fixed ram ∙ ap (λ (n : ℕ). fixed_in ram n c.start_state.result.now) c.from.ensures ∙ ap (λ (s : HartState). fixed_in ram c.args.k s) c.start_state.ensures.state in
    replayed_end cert c.args.k h c.take_all.new.hart known fixed
    (subst (λ (rs : List Record). TakesAll ram (word_of cert) (first_memory cert) h c.take_all.new.hart rs) c.trace.ensures.records
    (c.take_all.ensures.right ram (word_of cert) (first_memory cert) c.requires.memory c.in-None.is))

pub returns-in-Some-clause-wrong : goal.returns-in-Some-clause-wrong
returns-in-Some-clause-wrong c =
    let cert = c.args.cert.now in
    let h = c.hart_in-hart.result in
    let ram = cert.template.ram in
    let w = c.in-Some.wrong in
    let known = λ (key : ℕ). c.hart_in-hart.ensures.known key ∙ ap (λ (s : HartState). lookup s.places key) c.start_state.ensures.state in
    let fixed = c.hart_in-hart.ensures.fixed ram ∙ ap (λ (n : ℕ). fixed_in ram n c.start_state.result.now) c.from.ensures ∙ ap (λ (s : HartState). fixed_in ram c.args.k s) c.start_state.ensures.state in
    replayed_wrong cert c.args.k h w.kind w.step known fixed
    (subst (λ (rs : List Record). StraysAt ram (word_of cert) (first_memory cert) h rs w.kind w.step) c.trace.ensures.records
    (c.in-Some.ensures.wrong ram (word_of cert) (first_memory cert) c.requires.memory))
