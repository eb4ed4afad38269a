use Rattle.cil_blocks.proofs.inheritance.all_opened.Goals as goal

pub returns : goal.returns
returns c = (
  c.in_ok-opened.ensures (c.one_target.ensures c.args.statements.now c.requires.nested c.in_ok-check_blocks.ensures.1),
  c.in_ok-check_blocks.ensures.1,
)
