use Rattle.std.proofs.Common.{◌∙◌}
use Rattle.tpl_admit.specs.Starts.{lookup}
use Rattle.given_start.specs.Knowledge.{known_of}
use Rattle.rv_system.proofs.Filled.{AreGiven, given_as, given_known, given_value}
use Rattle.rv_system.proofs.filling.filled_hart.Goals as goal

pub returns : goal.returns
returns c =
    let start = lookup c.args.state.now.places in
    let h = c.fill_rest.new.hart in
    let given : AreGiven start (known_of h) c.args.fill =
    given_as (known_of c.hart_in-hart.result) start (known_of h) c.args.fill c.hart_in-hart.ensures.known
    (record { registers = c.fill_rest.ensures.registers; csrs = c.fill_rest.ensures.csrs; others = c.fill_rest.ensures.others }) in
    record {
      fixed = λ ram. c.fill_rest.ensures.fixed ram ∙ c.hart_in-hart.ensures.fixed ram;
      values = given_value start (known_of h) c.args.fill given;
      known = given_known start (known_of h) c.args.fill given;
      registers = c.count_registers.ensures;
    }
