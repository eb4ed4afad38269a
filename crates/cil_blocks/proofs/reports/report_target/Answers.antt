use Rattle.std.proofs.Common.{◌++◌, ◌∷◌, [], List, ℕ, sym, ◌∙◌, ap}
use Rattle.cil_syntax.specs.Written.{Written}
use Rattle.cil_syntax.specs.Program.{program_of}
use Rattle.cil_faults.specs.Reported.{fault_at}
use Rattle.cil_syntax.specs.Said.{all_said}
use Rattle.cil_blocks.specs.Contents.{first_word}
use Rattle.cil_blocks.specs.Entries.{statement_at}
use Rattle.cil_blocks.specs.Reports.{fault_of_word}
use Rattle.cil_base.specs.Places.{not_there, there_as}
use Rattle.cil_blocks.proofs.NameLemmas.{args_some, at_none}
use Rattle.cil_blocks.proofs.ReportLemmas.{no_target_fault, none_added}
use Rattle.cil_blocks.proofs.TargetsSo.{no_word, some_word}
use Rattle.cil_blocks.proofs.reports.report_target.Goals as goal

pub returns-in_default : goal.returns-in_default
returns-in_default c =
    none_added c.args.faults.now.items _
    (no_target_fault c.args.code (statement_at (program_of c.args.statements.now) c.args.number)
    (ap (λ (w : Written). first_word w.statement.args)
    (at_none c.args.statements.now c.requires.nested c.args.number (not_there c.args.statements.now c.args.number c.in_default.ensures.lookup.3))))

pub returns-in_default-word_and_terms : goal.returns-in_default-word_and_terms
returns-in_default-word_and_terms c =
    let there = there_as c.args.statements.now c.args.number c.in-Some.statement.now c.in-Some.ensures.lookup.3.0 c.in-Some.ensures.lookup.1 in
    none_added c.args.faults.now.items _
    (no_target_fault c.args.code (statement_at (program_of c.args.statements.now) c.args.number)
    (ap first_word (args_some c.args.statements.now c.requires.nested c.args.number c.in-Some.statement.now there)
    ∙ ap (λ ts. first_word (all_said c.in-Some.statement.now.at.«module» ts)) (sym c.as_slice.ensures.value)
    ∙ no_word (all_said c.in-Some.statement.now.at.«module» c.as_slice.result.now) c.in_default-word_and_terms.ensures))

pub returns : goal.returns
returns c =
    let there = there_as c.args.statements.now c.args.number c.in-Some.statement.now c.in-Some.ensures.lookup.3.0 c.in-Some.ensures.lookup.1 in
    c.in_ok-report.ensures
    ∙ ap (λ (bytes : List ℕ). c.args.faults.now.items ++ fault_at c.args.code c.in-Some-word_and_terms.front.word.at (statement_at (program_of c.args.statements.now) c.args.number).context.space bytes ∷ []) c.as_slice-2.ensures
    ∙ ap (λ o. c.args.faults.now.items ++ fault_of_word c.args.code (statement_at (program_of c.args.statements.now) c.args.number).context.space o)
    (sym (ap first_word (args_some c.args.statements.now c.requires.nested c.args.number c.in-Some.statement.now there)
    ∙ ap (λ ts. first_word (all_said c.in-Some.statement.now.at.«module» ts)) (sym c.as_slice.ensures.value)
    ∙ some_word (all_said c.in-Some.statement.now.at.«module» c.as_slice.result.now) _ c.in-Some-word_and_terms.front.word c.in-Some-word_and_terms.ensures))
