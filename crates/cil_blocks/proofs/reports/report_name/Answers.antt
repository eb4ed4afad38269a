use Rattle.std.proofs.Common.{◌++◌, sym, ◌∙◌, ap}
use Rattle.cil_syntax.specs.Written.{Written, named_in_front}
use Rattle.cil_syntax.specs.Forms.{name_in_front}
use Rattle.cil_syntax.specs.Program.{program_of}
use Rattle.cil_syntax.specs.Terms.{Terms}
use Rattle.cil_syntax.specs.declared.term.Word.{Word}
use Rattle.cil_blocks.specs.Entries.{statement_at}
use Rattle.cil_blocks.specs.Reports.{fault_of_name}
use Rattle.cil_base.specs.Places.{not_there, there_as}
use Rattle.cil_blocks.proofs.NameLemmas.{args_some, at_none}
use Rattle.cil_blocks.proofs.ReportLemmas.{no_name_fault, none_added}
use Rattle.cil_blocks.proofs.reports.report_name.Goals as goal

pub returns-in_default : goal.returns-in_default
returns-in_default c =
    none_added c.args.faults.now.items _
    (no_name_fault (statement_at (program_of c.args.statements.now) c.args.number)
    (ap (λ (w : Written). name_in_front w.statement.args)
    (at_none c.args.statements.now c.requires.nested c.args.number (not_there c.args.statements.now c.args.number c.in_default.ensures.lookup.3))))

pub returns-in_default-declared_name : goal.returns-in_default-declared_name
returns-in_default-declared_name c =
    let there = there_as c.args.statements.now c.args.number c.in-Some.statement.now c.in-Some.ensures.lookup.3.0 c.in-Some.ensures.lookup.1 in
    none_added c.args.faults.now.items _
    (no_name_fault (statement_at (program_of c.args.statements.now) c.args.number)
    (ap name_in_front (args_some c.args.statements.now c.requires.nested c.args.number c.in-Some.statement.now there) ∙ c.in_default-declared_name.ensures))

pub returns : goal.returns
returns c =
    let there = there_as c.args.statements.now c.args.number c.in-Some.statement.now c.in-Some.ensures.lookup.3.0 c.in-Some.ensures.lookup.1 in
    c.in_ok-report.ensures
    ∙ ap (λ (ts : Terms Word). c.args.faults.now.items ++ fault_of_name (statement_at (program_of c.args.statements.now) c.args.number).context.space (named_in_front ts))
    (sym (args_some c.args.statements.now c.requires.nested c.args.number c.in-Some.statement.now there ∙ c.in-Some-declared_name.ensures.1))
