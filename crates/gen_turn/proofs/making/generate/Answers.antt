use Rattle.gen_turn.proofs.Made.{given_up, made, same_harts, same_ram}
use Rattle.gen_turn.proofs.making.generate.Goals as goal

pub finish-requires-clause-harts : goal.finish-requires-clause-harts
finish-requires-clause-harts c = same_harts c.args.template c.args.seed c.args.nodes c.args.turns c.in_ok-part.field-0 c.in_ok-part.ensures c.in-Done.is

pub finish-requires-clause-ram : goal.finish-requires-clause-ram
finish-requires-clause-ram c = same_ram c.args.template c.args.seed c.args.nodes c.args.turns c.in_ok-part.field-0 c.in_ok-part.ensures c.in-Done.is

pub returns-in-Ok : goal.returns-in-Ok
returns-in-Ok c =
    made c.args.template c.args.seed c.args.nodes c.args.turns c.in_ok-part.field-0 c.in_ok-part.ensures c.in-Ok.certificate c.requires c.done_tests_are_certified.ensures.admitted c.done_tests_are_certified.ensures.fit c.sound_certificates_are_faithful.ensures.faithful c.in-Ok.ensures.tells c.in-Ok.ensures.sound (c.in-Ok.ensures.well_formed c.requires) c.in-Done.is

pub returns : goal.returns
returns c = given_up c.args.template c.args.seed c.args.nodes c.args.turns c.in_ok-part.field-0 c.in_ok-part.ensures c.in-GaveUp.none_fits c.in-GaveUp.spent c.in-GaveUp.last_line c.in-GaveUp.is
