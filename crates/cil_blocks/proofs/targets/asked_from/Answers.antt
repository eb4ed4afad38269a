use Rattle.std.proofs.Common.{subst, sym}
use Rattle.cil_syntax.specs.Program.{program_of}
use Rattle.cil_blocks.specs.Entries.{statement_at}
use Rattle.cil_blocks.specs.Namespaces.{IsNumber}
use Rattle.cil_blocks.proofs.FirstNamed.{asked_globally, asked_here}
use Rattle.cil_blocks.proofs.WrittenLemmas.{round_written}
use Rattle.cil_blocks.proofs.targets.asked_from.Goals as goal

pub returns-then-global : goal.returns-then-global
returns-then-global c =
    asked_globally c.args.spaces.now.namespaces (statement_at (program_of c.args.statements.now) c.args.number).context.space c.args.global c.if-global.true

pub returns-else-global : goal.returns-else-global
returns-else-global c =
    let here = (statement_at (program_of c.args.statements.now) c.args.number).context.space in
    asked_here c.args.spaces.now.namespaces here c.args.global c.round.result c.if-global.false
    (subst (IsNumber c.args.spaces.now.namespaces here) (sym c.round.ensures)
    (round_written c.args.statements.now c.requires.nested c.args.spaces.now c.requires.written c.args.number))
