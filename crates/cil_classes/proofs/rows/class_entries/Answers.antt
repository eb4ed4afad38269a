use Rattle.std.proofs.Common.{List, ap, arith, length, subst, ◌<◌, ◌∙◌}
use Rattle.std.proofs.lemmas.List.{length-replicate}
use Rattle.std.proofs.lemmas.Result.{IfOk-from_err}
use Rattle.cil_names.specs.declared.entry.Entry.{Entry}
use Rattle.cil_classes.proofs.rows.class_entries.Goals as goal

pub returns-in_err-places-clause-len : goal.returns-in_err-places-clause-len
returns-in_err-places-clause-len c = IfOk-from_err c.from_residual.result _ c.from_residual.ensures.0

pub returns-in_err-places-clause-entries : goal.returns-in_err-places-clause-entries
returns-in_err-places-clause-entries c = IfOk-from_err c.from_residual.result _ c.from_residual.ensures.0

pub loop-d-init : goal.loop-d-init
loop-d-init c = (
  ap length (c.in_ok-places.ensures.items_if_clones_equal (λ y e. e)) ∙ length-replicate c.len.result 0 ∙ c.len.ensures ∙ c.args.numbering.now.sections.classes.ok.0,
  λ d e l. absurd (omega (arith, l)),
)

pub loop-d-preserved : goal.loop-d-preserved
loop-d-preserved c = (c.note_class.ensures.len, c.note_class.ensures.noted c.loop-d.invariant.1)

pub returns-clause-entries : goal.returns-clause-entries
returns-clause-entries c = λ d e l. c.loop-d.invariant.1 d e (let over = c.loop-d-test.false in let same = ap length c.entries-d-end.ensures.value in omega (arith, l, over, same))

pub returns-clause-len : goal.returns-clause-len
returns-clause-len c = c.loop-d.invariant.0

pub note_class-requires-clause-within : goal.note_class-requires-clause-within
note_class-requires-clause-within c = subst (λ (es : List Entry). c.loop-d.d < length es) c.entries-d-end.ensures.value c.loop-d-test.true
