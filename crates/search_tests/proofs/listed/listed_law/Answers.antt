use Rattle.std.proofs.Common.{refl, sym, ◌∙◌}
use Rattle.gen_search.specs.Draws.{words}
use Rattle.search_tests.specs.Listed.{turned_by}
use Rattle.search_tests.proofs.listed.listed_law.Goals as goal

pub returns-clause-still : goal.returns-clause-still
returns-clause-still c = record {
  turn = λ hart line leaf g whole next is can gives other item also. also;
  label = λ hart name whole can other item also. also;
  way = λ n whole other item also. also;
}

pub returns-clause-one_answer : goal.returns-clause-one_answer
returns-clause-one_answer c = λ hart line leaf g whole a b is can first second. first ∙ sym second

pub returns-clause-some_answer : goal.returns-clause-some_answer
returns-clause-some_answer c = λ hart line leaf g whole is can. (turned_by hart leaf (words 16 g) whole, refl)
