use Rattle.tool_texts.proofs.demonstrating.checked.Goals as goal

pub unreachable-requires : goal.unreachable-requires
unreachable-requires c =
    c.one_verdict.ensures.valid c.args.test.now c.in-Ok-No.field-0-0 c.in-Ok-No.field-0-1 c.in-Ok-No.field-0-2 (c.in-Ok-No.ensures.no c.in-Ok-No.field-0-0 c.in-Ok-No.field-0-1 c.in-Ok-No.field-0-2 c.in-Ok-No.field-0-is) c.requires.valid
