use Rattle.std.proofs.Common.{◌∙◌, ap, subst, sym}
use Rattle.cil_syntax.specs.Said.{all_said, said_of}
use Rattle.cil_syntax.specs.Terms.{Form, Leaf}
use Rattle.cil_syntax.proofs.SaidLemmas.{form_said, leaf_said, name_said}
use Rattle.cil_faults.specs.Spots.{spot_at}
use Rattle.cil_blocks.proofs.DoubledLemmas.{if_ok}
use Rattle.cil_macros.specs.declared.meant.Argument.TheVariants as arguments
use Rattle.cil_macros.specs.declared.meant.Meant.{Meant}
use Rattle.cil_macros.specs.Scene.{SaysValue}
use Rattle.cil_macros.proofs.ArgumentValues.{name_says}
use Rattle.cil_macros.proofs.openings.Call.argument_value.Goals as goal

pub returns-in-Leaf : goal.returns-in-Leaf
returns-in-Leaf c =
    let call = c.args.self.now in
    if_ok _ _ c.word_value.result
    (λ value so.
    subst (λ t. SaysValue call.scene.now call.at c.args.kind t value)
    (ap Leaf c.in_module.ensures ∙ sym (ap (said_of c.args.«module») c.in-Leaf.is ∙ leaf_said c.args.«module» c.in-Leaf.word)) so)
    c.word_value.ensures

pub returns-in-Name : goal.returns-in-Name
returns-in-Name c =
    let call = c.args.self.now in
    subst (λ t. SaysValue call.scene.now call.at c.args.kind t (arguments.Plain c.string.result))
    (sym (ap (said_of c.args.«module») c.in-Name.is ∙ name_said c.args.«module» c.in-Name.at c.in-Name.bytes))
    (name_says call.scene.now call.at c.args.kind (spot_at c.args.«module» c.in-Name.at) c.in-Name.bytes c.string.result (ap (λ (m : Meant). m.at) c.string.ensures ∙ c.of.ensures)
    (ap (λ (m : Meant). m.bytes) c.string.ensures ∙ c.as_slice.ensures) (ap (λ (m : Meant). m.scope) c.string.ensures))

pub returns-in-Form : goal.returns-in-Form
returns-in-Form c =
    let call = c.args.self.now in
    if_ok _ _ c.form_value.result
    (λ value so.
    subst (λ t. SaysValue call.scene.now call.at c.args.kind t value)
    (ap (λ ts. Form (spot_at c.args.«module» c.in-Form.at) c.in-Form.field-0 (all_said c.args.«module» ts)) c.as_slice-in-Form.ensures.value
    ∙ sym (ap (said_of c.args.«module») c.in-Form.is ∙ form_said c.args.«module» c.in-Form.at c.in-Form.field-0 c.in-Form.parts)) (so c.in-Form.field-0))
    c.form_value.ensures
