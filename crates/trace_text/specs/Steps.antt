-- The line of a step.
use Rattle.std.specs.Prelude.{ℕ, List, [], ◌++◌, Option, Some, None, codes}
use Rattle.std.specs.List.{flat_map, enumerate_from}
use Rattle.std.specs.Fmt.{decimal}
use Rattle.rv_script.specs.declared.access.Access.{Access}
use Rattle.rv_csr.specs.declared.privilege.Priv.{Priv}
use Rattle.rv_hart.specs.declared.record.Outcome.{Outcome}
use Rattle.rv_hart.specs.declared.record.Outcome.TheVariants.{Retired, Trap}
use Rattle.rv_hart.specs.declared.record.Record.{Record}
use Rattle.trace_text.specs.Numbers.{hex8, letter, role_name}

-- ` ROLE@A:SIZE=V`
unfoldable pub access_text : Access → List ℕ
access_text a = codes " " ++ role_name a.role ++ codes "@" ++ hex8 a.addr ++ codes ":" ++ decimal a.size ++ codes "=" ++ hex8 a.value

unfoldable pub accesses_text : List Access → List ℕ
accesses_text accesses = flat_map access_text accesses

-- `retire`, or `trap C V to P`
unfoldable pub outcome_text : Outcome → List ℕ
outcome_text Retired = codes "retire"
outcome_text (Trap cause value to) = codes "trap " ++ decimal cause ++ codes " " ++ hex8 value ++ codes " to " ++ letter to

-- ` xR=V` where a register was written
unfoldable pub rd_text : Option (ℕ × ℕ) → List ℕ
rd_text None = []
rd_text (Some (n, value)) = codes " x" ++ decimal n ++ codes "=" ++ hex8 value

-- `step K I pc PC `
unfoldable pub step_head : ℕ → ℕ → ℕ → List ℕ
step_head hart step pc = codes "step " ++ decimal hart ++ codes " " ++ decimal step ++ codes " pc " ++ hex8 pc ++ codes " "

-- `P W `
unfoldable pub fetched_text : Priv → ℕ → List ℕ
fetched_text privilege word = letter privilege ++ codes " " ++ hex8 word ++ codes " "

-- ` next PC`
unfoldable pub step_end : ℕ → List ℕ
step_end next = codes " next " ++ hex8 next ++ codes "\n"

-- step number I of hart K
unfoldable pub step_line : ℕ → ℕ → Record → List ℕ
step_line hart step r = step_head hart step r.pc ++ fetched_text r.privilege r.word ++ outcome_text r.outcome ++ rd_text r.rd ++ accesses_text r.accesses ++ step_end r.next_pc

-- the steps of hart K, numbered from 0
unfoldable pub steps_text : ℕ → List Record → List ℕ
steps_text hart records = flat_map (λ p. step_line hart p.0 p.1) (enumerate_from 0 records)
