use Rattle.std.proofs.Common.{ℕ, ◌&&◌, ◌||◌, List, ap, ◌∙◌, refl}
use Rattle.rv_mem.specs.Frames.{in_frames}
use Rattle.leaf_link.specs.Cases.{is_some_word}
use Rattle.leaf_turn.specs.Grounds.{is_free_fetch}
use Rattle.part_state.specs.State.{here}
use Rattle.leaf_turn.proofs.Grounding.{stand_tells}
use Rattle.leaf_turn.proofs.stand.stand_of.Goals as goal

pub returns-clause-stand : goal.returns-clause-stand
returns-clause-stand c = λ s feet walk leads setting sources footprint.
    stand_tells c.args.t.now c.args.hart (here c.args.part.now) c.feet.result.now _ c.args.pa s feet walk c.is_test.ensures c.requires.hart leads (record {
      hart = c.hart-state.ensures;
      aligned = c.requires.aligned;
      word = c.word_at-word.ensures;
      fetches = c.may_fetch.ensures ∙ ap (λ (p : List ℕ). is_free_fetch c.feet.result.now c.args.hart c.args.pa && (is_some_word c.word_at-word.result || in_frames p c.args.pa)) c.as_slice.ensures;
      pairs = c.requires.pairs;
      vectors = refl;
      names = c.requires.names;
      footprint = c.feet.ensures;
      others = c.requires.others;
      accesses = c.requires.accesses;
    }) setting sources footprint

pub returns-clause-feet : goal.returns-clause-feet
returns-clause-feet c = (c.feet.result.now, c.feet.ensures)
