use Rattle.std.proofs.Common.{List, [], None, Some, ap, ◌∙◌, sym, rules}
use Rattle.std.proofs.lemmas.Option.{get_or_from_slice_get}
use Rattle.rv_hart.specs.Fixed.{Fixed}
use Rattle.tpl_ast.specs.declared.template.Region.{Region}
use Rattle.part_state.proofs.Declared.{known_at_is}
use Rattle.part_state.proofs.starting.started_hart.Goals as goal

pub returns : goal.returns
returns c =
    let h = c.hart_in-hart.result in
    let none : List Region = [] in
    let fixed = c.hart_in-hart.ensures.fixed none in
    record {
      fit = record {
        size = search rules;
        zero = get_or_from_slice_get h.regs 0 (Some 0) None h.zero;
        lazy = c.legal_values.ensures.lazy.size;
      };
      pc = ap (λ (f : Fixed). f.pc) fixed;
      privilege = ap (λ (f : Fixed). f.privilege) fixed;
      mstatus = ap (λ (f : Fixed). f.mstatus) fixed;
      medeleg = ap (λ (f : Fixed). f.medeleg) fixed;
      satp = ap (λ (f : Fixed). f.satp) fixed;
      number = ap (λ (f : Fixed). f.number) fixed;
      places = λ key. sym (known_at_is h.regs h.csrs key) ∙ c.hart_in-hart.ensures.known key;
    }
