use Rattle.dom_set.specs.Elements.{is_in}
use Rattle.std.proofs.Common.{List, ℕ, true, subst}
use Rattle.leaf_pose.specs.Extras.{AreJoined}
use Rattle.leaf_pose.proofs.AddressRows.{empty_row, one_row, there_set}
use Rattle.leaf_pose.proofs.extras.push_row.Goals as goal

pub returns-then-is_empty : goal.returns-then-is_empty
returns-then-is_empty c =
    empty_row (is_in c.args.wanted.now) c.args.way.now c.args.rows.now.items c.in_ok-ea.ea
    (there_set (is_in c.args.wanted.now) c.args.way.now c.in-At.base c.in-At.mask c.in_ok-there.there c.in_ok-met.met c.in_ok-ea.ea c.in-At.is c.in_ok-there.ensures c.in_ok-met.ensures c.in_ok-ea.ensures) (c.is_empty.ensures.0 c.if-is_empty.true)

pub returns : goal.returns
returns c =
    one_row (is_in c.args.wanted.now) c.args.way.now c.args.rows.now.items c.put_row.new.rows.items c.in_ok-ea.ea c.in_ok-word.word
    (there_set (is_in c.args.wanted.now) c.args.way.now c.in-At.base c.in-At.mask c.in_ok-there.there c.in_ok-met.met c.in_ok-ea.ea c.in-At.is c.in_ok-there.ensures c.in_ok-met.ensures c.in_ok-ea.ensures) c.in_ok-word.ensures
    (subst (λ (l : List ℕ). AreJoined true (record { ea = c.in_ok-ea.ea; root = c.args.way.now.first; leaf = l; word = c.in_ok-word.word }) c.args.rows.now.items c.put_row.new.rows.items) c.in_ok-leaf.ensures
    (subst (λ (l : List ℕ). AreJoined true (record { ea = c.in_ok-ea.ea; root = l; leaf = c.in_ok-leaf.leaf; word = c.in_ok-word.word }) c.args.rows.now.items c.put_row.new.rows.items) c.in_ok-root.ensures c.in_ok-put_row.ensures))
