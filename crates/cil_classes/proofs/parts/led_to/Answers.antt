use Rattle.std.proofs.Common.{subst, sym}
use Rattle.std.proofs.lemmas.Result.{IfOk-weaker}
use Rattle.cil_syntax.specs.Said.{word_in}
use Rattle.cil_names.specs.Unresolved.{term_with}
use Rattle.cil_classes.specs.Parts.{AreLed}
use Rattle.cil_classes.proofs.FormedLemmas.{first_meant, leaf_with, name_no_leaf, name_no_list}
use Rattle.cil_classes.proofs.LeadLemmas.{led_nowhere}
use Rattle.cil_classes.proofs.parts.led_to.Goals as goal

pub returns-in-Leaf : goal.returns-in-Leaf
returns-in-Leaf c =
    let k = c.args.known.now in
    let m = c.args.«module» in
    let w = c.in-Leaf.field-0 in
    IfOk-weaker c.named_nodes.result _ _
    (λ from led xs names f known nodes begin.
    subst (λ t. AreLed k xs c.args.nodes.now t from.items) (sym (leaf_with f m c.args.term.now w c.in-Leaf.is))
    (led xs names (f (word_in m w)) known nodes (first_meant k f m c.args.term.now w c.args.words.now c.in-Leaf.is begin)))
    c.named_nodes.ensures

pub returns-in-Name : goal.returns-in-Name
returns-in-Name c = λ xs names f known nodes begin.
    let m = c.args.«module» in
    led_nowhere c.args.known.now xs names known c.args.nodes.now nodes (term_with f m c.args.term.now) _ c.new.ensures.items (name_no_leaf f m c.args.term.now _ _ c.in-Name.is) (name_no_list f m c.args.term.now _ _ c.in-Name.is)

pub returns-in-Form : goal.returns-in-Form
returns-in-Form c =
    IfOk-weaker c.mapped_nodes.result _ _ (λ from led xs names f known nodes begin. led xs names f known nodes begin (_, _, _, c.in-Form.is)) c.mapped_nodes.ensures
