-- What is found for a leaf can be taken.
use Rattle.std.proofs.Common.{◌++◌}
use Rattle.leaf_turn.specs.Finding.{AnswersAreFound}

pub answers_are_found : AnswersAreFound
answers_are_found k w s feet walk pa leaf kept draws nodes x vectors footprint posed answer =
    let least = answer.1 in
    record {
      setting = s;
      feet = feet;
      leaf = leaf ++ kept;
      walk = walk;
      vectors = vectors;
      footprint = footprint;
      fetched = posed.fetched;
      candidate = least.is;
      values = least.are_values;
      words = posed.words;
    }
