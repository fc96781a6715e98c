-- Values in the domains of an operation are of that operation.
use Rattle.std.proofs.Common.{◌≡◌, Some, ap, ◌∙◌}
use Rattle.std.proofs.lemmas.Bool.{and_parts}
use Rattle.rv_isa.specs.Encoding.{word_of}
use Rattle.rv_isa.specs.Reading.{decoded}
use Rattle.rv_isa.specs.Numbers.{op_numbered}
use Rattle.rv_isa.proofs.Codec.{encoded_read}
use Rattle.rv_script.specs.Logs.{value_or}
use Rattle.fd_prob.specs.declared.slot.Slot.TheVariants as slots
use Rattle.leaf_link.specs.Values.{instr_in}
use Rattle.leaf_link.specs.Cases.{code_at, uses_address}
use Rattle.leaf_link.specs.Ways.{DomainsAreOfOperations}
use Rattle.leaf_link.proofs.Numbers.{op_back}
use Rattle.leaf_link.proofs.Formats.{fields_read}
use Rattle.leaf_link.proofs.Both.{small_from}

pub domains_are_of_operations : DomainsAreOfOperations
domains_are_of_operations t pa leaf s x number base =
    let op_is : (instr_in x).op ≡ s.op = ap op_numbered number ∙ op_back s.op in
    let d : decoded (value_or (code_at t pa) (word_of (instr_in x))) ≡ Some (instr_in x) = fields_read (code_at t pa) s.op x op_is number (record {
      op_in = (and_parts _ _ (base slots.Op)).0;
      rs1_in = (and_parts _ _ (base slots.Rs1)).0;
      rs2_in = (and_parts _ _ (base slots.Rs2)).0;
      imm_in = (and_parts _ _ (base slots.Imm)).0;
      rd_in = (and_parts _ _ (base slots.Rd)).0;
      csr_in = (and_parts _ _ (base slots.Csr)).0;
    }) in
    record { op_is = op_is; fits = (encoded_read (value_or (code_at t pa) (word_of (instr_in x))) (instr_in x) d).fits; small = small_from (uses_address s) _ (x slots.Ea) (base slots.Ea) }
