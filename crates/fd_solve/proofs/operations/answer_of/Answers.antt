use Rattle.std.proofs.Common.{ℕ, ◌<◌, ◌≤◌, ◌∙◌, subst}
use Rattle.fd_prob.specs.Spaces.{space}
use Rattle.fd_solve.specs.Internal.Marks.{whole_of}
use Rattle.fd_solve.proofs.FirstCases.{same_space}
use Rattle.fd_solve.proofs.operations.answer_of.Goals as goal

pub returns-then-nodes-space : goal.returns-then-nodes-space
returns-then-nodes-space c = subst (λ (n : ℕ). c.args.nodes < n) (c.space.ensures ∙ same_space (whole_of c.args.marked.now) c.args.marked.now.firsts.now c.requires.sound.firsts) c.if-nodes-space.true

pub returns : goal.returns
returns c =
    let within : space (whole_of c.args.marked.now) ≤ c.args.nodes = subst (λ (n : ℕ). n ≤ c.args.nodes) (c.space.ensures ∙ same_space (whole_of c.args.marked.now) c.args.marked.now.firsts.now c.requires.sound.firsts) c.if-nodes-space.false in
    c.in_ok-solved.ensures.solved c.args.nodes within
