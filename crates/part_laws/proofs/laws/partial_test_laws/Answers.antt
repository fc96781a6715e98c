use Rattle.part_laws.proofs.Finish.{finish, begun}
use Rattle.part_laws.proofs.Advance.{advance}
use Rattle.part_laws.proofs.Next.{next}
use Rattle.part_laws.proofs.Late.{fresh_test, late_place, late_word}
use Rattle.part_laws.proofs.laws.partial_test_laws.Goals as goal

pub returns-clause-fresh : goal.returns-clause-fresh
returns-clause-fresh c = fresh_test

pub returns-clause-place : goal.returns-clause-place
returns-clause-place c = late_place

pub returns-clause-word : goal.returns-clause-word
returns-clause-word c = late_word

pub returns-clause-advance : goal.returns-clause-advance
returns-clause-advance c = advance

pub returns-clause-finish : goal.returns-clause-finish
returns-clause-finish c = finish

pub returns-clause-begun : goal.returns-clause-begun
returns-clause-begun c = begun

pub returns-clause-next : goal.returns-clause-next
returns-clause-next c = next
