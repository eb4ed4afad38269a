use Rattle.std.proofs.Common.{◌++◌, ◌∷◌, [], ap, ◌∙◌}
use Rattle.std.proofs.lemmas.Result.{on_ok_weaker}
use Rattle.cil_macros.specs.declared.listed.Part.TheVariants as kept_parts
use Rattle.cil_macros.specs.Items.{all_placed, word_at}
use Rattle.cil_names.proofs.UnresolvedLemmas.{walked_all, walked_on}
use Rattle.cil_names.proofs.WrittenPartLemmas.{all_parts_at, form_written, leaf_written, more_parts, name_written, none_parts, parts_at}
use Rattle.cil_names.proofs.written_parts.+terms.Goals as goal

pub push_term-returns-in-Leaf : goal.push_term-returns-in-Leaf
push_term-returns-in-Leaf t c =
    let i = c.args.instances.now in
    on_ok_weaker c.push_part.result
    (leaf_written (word_at i c.args.there.at) c.args.there.«module» (all_placed i) c.args.term.now c.args.parts.now.items _ c.in-Leaf.word c.in-Leaf.is c.word_there.result c.word_there.ensures)
    c.push_part.ensures

pub push_term-returns-in-Name : goal.push_term-returns-in-Name
push_term-returns-in-Name t c =
    let i = c.args.instances.now in
    on_ok_weaker c.push_part-in-Name.result
    (name_written (word_at i c.args.there.at) c.args.there.«module» (all_placed i) c.args.term.now c.args.parts.now.items _ c.in-Name.at c.in-Name.bytes c.in-Name.is c.of.result c.of-in-Name.result
    c.of.ensures (c.of-in-Name.ensures ∙ c.as_slice.ensures))
    c.push_part-in-Name.ensures

pub push_term-returns-in_ok-push_terms-in-Form : goal.push_term-returns-in_ok-push_terms-in-Form
push_term-returns-in_ok-push_terms-in-Form t c =
    let i = c.args.instances.now in
    on_ok_weaker c.push_part-in-Form-2.result
    (form_written (word_at i c.args.there.at) c.args.there.«module» (all_placed i) c.args.term.now c.args.parts.now.items _ c.in-Form.at c.in-Form.op c.in-Form.items c.in-Form.is
    c.as_slice-in-Form.result.now c.as_slice-in-Form.ensures.value c.push_part-in-Form.new.parts.items c.push_terms.new.parts.items
    (c.in_ok-push_part-in-Form.ensures ∙ ap (λ x. c.args.parts.now.items ++ kept_parts.Opens x c.in-Form.op ∷ []) c.of-in-Form.ensures) c.in_ok-push_terms-in-Form.ensures)
    c.push_part-in-Form-2.ensures

pub push_terms-loop-term-preserved : goal.push_terms-loop-term-preserved
push_terms-loop-term-preserved t c =
    let f = word_at c.args.instances.now c.args.there.at in
    let m = c.args.there.«module» in
    walked_on (parts_at f m) (all_parts_at f m) (none_parts f m) (more_parts f m) c.args.terms.now c.loop-term.term-index _ _ _ _ _ c.loop-term-test.true c.term-item.is c.loop-term.invariant
    c.in_ok-push_term.ensures

pub push_terms-returns : goal.push_terms-returns
push_terms-returns t c =
    let f = word_at c.args.instances.now c.args.there.at in
    let m = c.args.there.«module» in
    walked_all (parts_at f m) (all_parts_at f m) (none_parts f m) (more_parts f m) c.args.terms.now c.loop-term.term-index _ _ c.loop-term-test.false c.loop-term.invariant
