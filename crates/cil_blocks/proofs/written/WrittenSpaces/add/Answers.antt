use Rattle.std.proofs.Common.{sym, subst}
use Rattle.cil_syntax.specs.Program.{program_of}
use Rattle.cil_blocks.specs.Entries.{statement_at}
use Rattle.cil_blocks.specs.Namespaces.{IsNumber}
use Rattle.cil_blocks.proofs.WrittenLemmas.{round_upto, written_more}
use Rattle.cil_blocks.proofs.written.WrittenSpaces.add.Goals as goal

pub number_inside-requires-clause-round : goal.number_inside-requires-clause-round
number_inside-requires-clause-round c =
    subst (IsNumber c.args.self.now.namespaces (statement_at (program_of c.args.statements.now) c.args.number).context.space) (sym c.round-round.ensures)
    (round_upto c.args.statements.now c.requires.nested c.args.self.now c.args.number c.requires.before)

pub returns : goal.returns
returns c =
    written_more (program_of c.args.statements.now) c.args.number c.in_ok-inside.inside c.args.self.now
    (record { namespaces = c.number_inside.new.namespaces; numbers = c.push.new.self }) c.requires.before c.in_ok-inside.ensures.grown c.in_ok-push.ensures.pushed c.in_ok-inside.ensures.numbered
