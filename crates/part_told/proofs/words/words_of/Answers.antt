use Rattle.std.proofs.Common.{◌<◌, ◌^◌, ℕ, List, sym, ap, ◌∙◌, subst, map}
use Rattle.std.specs.List.{AllByRecursion}
use Rattle.std.specs.Map.Iter.{deref_pair}
use Rattle.std.proofs.lemmas.Cmp.{nat_cmp_total}
use Rattle.std.proofs.lemmas.Map.Iter.{btree_map_turn, iter_end}
use Rattle.part_told.specs.Words.{at_address}
use Rattle.part_told.proofs.Listed.{lists, addresses_more}
use Rattle.part_told.proofs.Smalls.{all_more}
use Rattle.part_told.proofs.words.words_of.Goals as goal

pub push_word-requires : goal.push_word-requires
push_word-requires c =
    let turn = btree_map_turn deref_pair c.loop-n.yielded c.into_iter-n-iterator.result c.loop-n.n-iterator c.next.new.self c.next.result (c.in-Some.n, c.in-Some.value) c.loop-n.yielded_by c.in-Some.is c.next.ensures.steps nat_cmp_total
    c.in_ok-values.values c.into_iter-n-iterator.ensures.into_iter_gives.0 c.in_ok-values.ensures.ordered in
    c.requires c.in-Some.n.now c.in-Some.value.now (sym (c.in_ok-values.ensures.values c.in-Some.n.now) ∙ turn.1)

pub loop-n-preserved : goal.loop-n-preserved
loop-n-preserved c = record {
  pairs = addresses_more deref_pair c.loop-n.yielded (c.in-Some.n, c.in-Some.value) c.loop-n.pairs c.push_word.new.pairs c.loop-n.invariant.pairs c.in_ok-push_word.ensures.pushed;
  small = subst (λ (ps : List (ℕ × ℕ)). AllByRecursion (λ e. e.1 < 2 ^ 32) ps) (sym c.in_ok-push_word.ensures.pushed) (all_more (λ (e : ℕ × ℕ). e.1 < 2 ^ 32) c.loop-n.pairs (at_address (c.in-Some.n.now, c.in-Some.value.now)) c.loop-n.invariant.small c.in_ok-push_word.ensures.word);
}

pub returns : goal.returns
returns c = λ ram inside.
    let end = iter_end deref_pair c.in_ok-values.values.entries c.loop-n.yielded c.into_iter-n-iterator.result c.loop-n.n-iterator c.next.new.self c.next.result c.into_iter-n-iterator.ensures.into_iter_gives.0 c.loop-n.yielded_by c.in-None.is c.next.ensures.steps in
    lists ram c.args.words.now c.loop-n.pairs c.in_ok-values.values c.in_ok-values.ensures.ordered c.in_ok-values.ensures.values (c.loop-n.invariant.pairs ∙ ap (map at_address) end.0) c.loop-n.invariant.small inside
