use Rattle.std.proofs.Common.{sym, subst, refl}
use Rattle.cil_syntax.specs.Program.{program_of}
use Rattle.cil_blocks.specs.Entries.{statement_at}
use Rattle.cil_blocks.specs.Namespaces.{IsNumber}
use Rattle.cil_blocks.proofs.WrittenLemmas.{inherited_inside, round_written, written_stays}
use Rattle.cil_blocks.proofs.placing.Source.inside.Goals as goal

pub returns-in_ok-space-in-None-clause-written : goal.returns-in_ok-space-in-None-clause-written
returns-in_ok-space-in-None-clause-written c =
    written_stays (program_of c.args.self.now.statements.now) c.args.spaces.now (record { namespaces = c.number.new.self; numbers = c.args.spaces.now.numbers })
    c.in_ok-space-in-None.ensures.once c.in_ok-space-in-None.ensures.grown refl c.requires.written

pub returns-in-Some-clause-inside : goal.returns-in-Some-clause-inside
returns-in-Some-clause-inside c =
    let ws = program_of c.args.self.now.statements.now in
    inherited_inside ws c.args.spaces.now.namespaces c.args.outer c.args.number c.in-Some.block c.round.result c.inherited_at.result c.in-Some.is c.inherited_at.ensures
    (subst (IsNumber c.args.spaces.now.namespaces (statement_at ws c.in-Some.block).context.space) (sym c.round.ensures)
    (round_written c.args.self.now.statements.now c.requires.nested c.args.spaces.now c.requires.written c.in-Some.block))
