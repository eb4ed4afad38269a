use Rattle.cil_syntax.specs.Program.{program_of}
use Rattle.cil_blocks.proofs.DoubledLemmas.{if_ok}
use Rattle.cil_blocks.proofs.MemberLemmas.{named_given}
use Rattle.cil_blocks.proofs.reach.named_of.Goals as goal

pub returns : goal.returns
returns c =
    if_ok _ _ c.named_among.result
    (λ named kept. named_given (program_of c.args.statements.now) c.args.parts.now c.args.targets.now c.args.seed c.as_slice.result.now c.in_ok-all.all.items named.items
    c.as_slice.ensures.value c.in_ok-all.ensures kept)
    c.named_among.ensures
