use Rattle.std.proofs.Common.{[], ◌∷◌, ◌++◌, ◌∙◌, ap, arith}
use Rattle.cil_syntax.proofs.NodesJudged.{on_ok}
use Rattle.cil_macros.specs.declared.listed.Part.TheVariants as kept_parts
use Rattle.cil_macros.proofs.AskLemmas.{all_written, one_written, writes_form, writes_leaf, writes_name}
use Rattle.cil_macros.proofs.term_parts.+terms.Goals as goal

pub push_terms-loop-term-preserved : goal.push_terms-loop-term-preserved
push_terms-loop-term-preserved t c =
    one_written c.args.«module» c.args.terms.now c.args.parts.now.items c.loop-term.term-index c.loop-term.parts.items c.push_term.new.parts.items c.term-item.result c.loop-term-test.true
    c.term-item.is c.in_ok-push_term.ensures c.loop-term.invariant

pub push_terms-returns : goal.push_terms-returns
push_terms-returns t c =
    let over = c.loop-term-test.false in
    all_written c.args.«module» c.args.terms.now c.args.parts.now.items c.loop-term.term-index c.loop-term.parts.items (omega (arith, over)) c.loop-term.invariant

pub push_term-returns-in-Leaf : goal.push_term-returns-in-Leaf
push_term-returns-in-Leaf t c =
    on_ok c.push_part.result _ _
    (writes_leaf c.args.«module» c.args.term.now c.args.parts.now.items c.push_part.new.parts.items c.in-Leaf.word c.in-Leaf.is _ c.written_word.ensures) c.push_part.ensures

pub push_term-returns-in-Name : goal.push_term-returns-in-Name
push_term-returns-in-Name t c =
    on_ok c.push_part-in-Name.result _ _
    (writes_name c.args.«module» c.args.term.now c.args.parts.now.items c.push_part-in-Name.new.parts.items c.in-Name.at c.in-Name.bytes c.in-Name.is c.of.result c.of-in-Name.result c.of.ensures
    (c.of-in-Name.ensures ∙ c.as_slice.ensures)) c.push_part-in-Name.ensures

pub push_term-returns-in_ok-push_terms-in-Form : goal.push_term-returns-in_ok-push_terms-in-Form
push_term-returns-in_ok-push_terms-in-Form t c =
    on_ok c.push_part-in-Form-2.result _ _
    (writes_form c.args.«module» c.args.term.now c.args.parts.now.items c.push_part-in-Form-2.new.parts.items c.in-Form.at c.in-Form.op c.in-Form.items c.in-Form.is c.as_slice-in-Form.result.now
    c.as_slice-in-Form.ensures.value c.push_part-in-Form.new.parts.items c.push_terms.new.parts.items
    (c.in_ok-push_part-in-Form.ensures ∙ ap (λ x. c.args.parts.now.items ++ kept_parts.Opens x c.in-Form.op ∷ []) c.of-in-Form.ensures)
    c.in_ok-push_terms-in-Form.ensures) c.push_part-in-Form-2.ensures
