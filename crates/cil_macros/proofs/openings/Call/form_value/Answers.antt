use Rattle.std.proofs.Common.{◌∙◌, ap, sym}
use Rattle.cil_faults.specs.Spots.{spot_at}
use Rattle.cil_macros.specs.declared.meant.Meant.{Meant}
use Rattle.cil_syntax.specs.Said.{all_said}
use Rattle.cil_macros.proofs.ArgumentValues.{form_says, list_value_says}
use Rattle.cil_macros.proofs.openings.Call.form_value.Goals as goal

pub returns-then-not-may_be_list : goal.returns-then-not-may_be_list
returns-then-not-may_be_list c = λ op.
    let call = c.args.self.now in
    form_says call.scene.now call.at c.args.kind (spot_at c.args.«module» c.args.at) op (all_said c.args.«module» c.args.parts.now) c.string.result
    (sym c.if-not-may_be_list.true ∙ c.may_be_list.ensures)
    (ap (λ (m : Meant). m.at) c.string.ensures ∙ c.of.ensures) (ap (λ (m : Meant). m.bytes) c.string.ensures ∙ c.string_in.ensures c.args.«module»)
    (ap (λ (m : Meant). m.scope) c.string.ensures)

pub returns : goal.returns
returns c = λ op.
    let call = c.args.self.now in
    list_value_says call.scene.now call.at c.args.kind c.args.«module» (spot_at c.args.«module» c.args.at) op c.args.parts.now c.in_ok-list.list
    (sym c.if-not-may_be_list.false ∙ c.may_be_list.ensures) c.in_ok-list.ensures
