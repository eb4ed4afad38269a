use Rattle.cil_syntax.specs.Program.{program_of}
use Rattle.cil_blocks.proofs.MemberLemmas.{are_members}
use Rattle.cil_blocks.proofs.reach.members_of.Goals as goal

pub returns : goal.returns
returns c =
    are_members (program_of c.args.statements.now) c.args.parts.now c.args.targets.now c.args.seed c.as_slice.result.now c.in_ok-named.named.items c.in_ok-open_blocks.open_blocks.items _
    c.as_slice.ensures.value c.in_ok-named.ensures c.in_ok-open_blocks.ensures c.by_own_name.ensures.same c.by_own_name.ensures.sorted c.by_own_name-2.ensures.same
    c.by_own_name-2.ensures.sorted
