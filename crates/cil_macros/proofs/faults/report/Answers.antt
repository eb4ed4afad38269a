use Rattle.std.proofs.Common.{◌∙◌, List, Some, ap, arith, length, sym}
use Rattle.cil_syntax.proofs.NodesJudged.{on_ok}
use Rattle.cil_blocks.specs.declared.namespaces.Space.{Space}
use Rattle.cil_blocks.specs.Namespaces.{space_at}
use Rattle.cil_macros.specs.declared.placed_word.PlacedWord.{PlacedWord}
use Rattle.cil_macros.proofs.CallLemmas.{placed_there}
use Rattle.cil_macros.proofs.FaultLemmas.{nothing_told, told_there}
use Rattle.cil_macros.proofs.faults.report.Goals as goal

pub returns-in_default : goal.returns-in_default
returns-in_default c = λ p e. nothing_told p c.args.wrong c.args.faults.now.items (c.in_default.ensures p e)

pub report_causes-requires : goal.report_causes-requires
report_causes-requires c =
    let p = placed_there c.args.source.now.spaces.now c.args.brought.now.entries.items c.args.at c.requires.within in
    let h = (c.space_at.ensures p.0 p.1).within in
    let l = ap length c.namespaces.ensures in
    omega (arith, h, l)

pub returns : goal.returns
returns c =
    on_ok c.report_causes.result _ _
    (λ told p e.
    let front = c.in-Some.ensures p e in
    told_there p c.args.wrong c.args.faults.now.items c.report_causes.new.faults.items (space_at c.namespaces.result.now c.space_at.result) c.in-Some.front.word
    (ap (λ (ns : List Space). space_at ns c.space_at.result) c.namespaces.ensures ∙ (c.space_at.ensures p e).is)
    (front.first ∙ ap Some (sym (ap (λ (w : PlacedWord). w.word) front.is))) told)
    c.report_causes.ensures
