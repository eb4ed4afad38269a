use Rattle.std.proofs.Common.{sym}
use Rattle.cil_syntax.specs.Program.{program_of}
use Rattle.cil_blocks.proofs.ProgramLemmas.{program_length}
use Rattle.cil_blocks.proofs.TargetLemmas.{are_blocks}
use Rattle.cil_blocks.proofs.targets.blocks_of.Goals as goal

pub returns : goal.returns
returns c =
    are_blocks (program_of c.args.statements.now) _ c.args.spaces.now.numbers _ _ (sym (program_length c.args.statements.now)) c.in_ok-blocks.ensures c.by_namespace.ensures.same c.by_namespace.ensures.sorted
