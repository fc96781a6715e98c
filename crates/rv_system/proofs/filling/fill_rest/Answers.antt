use Rattle.std.proofs.Common.{◌∙◌}
use Rattle.given_start.specs.Knowledge.{known_of}
use Rattle.rv_system.proofs.Filled.{all_given}
use Rattle.rv_system.proofs.filling.fill_rest.Goals as goal

pub returns-clause-registers : goal.returns-clause-registers
returns-clause-registers c = (all_given (known_of c.args.hart.now) (known_of c.fill_registers.new.hart) (known_of c.fill_csrs.new.hart) c.args.fill c.fill_registers.ensures.known c.fill_csrs.ensures.known).registers

pub returns-clause-csrs : goal.returns-clause-csrs
returns-clause-csrs c = (all_given (known_of c.args.hart.now) (known_of c.fill_registers.new.hart) (known_of c.fill_csrs.new.hart) c.args.fill c.fill_registers.ensures.known c.fill_csrs.ensures.known).csrs

pub returns-clause-others : goal.returns-clause-others
returns-clause-others c = (all_given (known_of c.args.hart.now) (known_of c.fill_registers.new.hart) (known_of c.fill_csrs.new.hart) c.args.fill c.fill_registers.ensures.known c.fill_csrs.ensures.known).others

pub returns-clause-fixed : goal.returns-clause-fixed
returns-clause-fixed c = λ ram. c.fill_csrs.ensures.fixed ram ∙ c.fill_registers.ensures.fixed ram
