use Rattle.std.proofs.Common.{[], ◌∷◌, ◌++◌, ◌∙◌, ap, subst, sym}
use Rattle.std.specs.Prelude.{codes}
use Rattle.cil_syntax.specs.declared.kind.Language.TheVariants as languages
use Rattle.cil_syntax.specs.declared.term.Op.TheVariants as ops
use Rattle.cil_syntax.specs.Readings.{read_expression}
use Rattle.cil_syntax.specs.Said.{said_of}
use Rattle.cil_syntax.specs.Shapes.{set_of}
use Rattle.cil_syntax.specs.Spelling.{same_bytes}
use Rattle.cil_syntax.proofs.NodesJudged.{on_ok}
use Rattle.cil_faults.specs.Spots.{spot_at}
use Rattle.cil_macros.specs.declared.listed.Part.TheVariants as kept_parts
use Rattle.cil_macros.specs.Fits.{read_as}
use Rattle.cil_macros.specs.ListForms.{kept_cells}
use Rattle.cil_macros.specs.Parameters.{sound}
use Rattle.cil_macros.specs.Puts.{AsksInside}
use Rattle.cil_macros.proofs.ListLemmas.{name_unread, no_set}
use Rattle.cil_macros.proofs.AskLemmas.{all_put, one_put, one_puts, puts_all, puts_set_form, puts_set_word, range_puts, term_unread, two_puts, unheaded_puts, union_puts_so}
use Rattle.cil_macros.proofs.list_parts.+sets.Goals as goal

pub push_set-returns-then-is_all : goal.push_set-returns-then-is_all
push_set-returns-then-is_all t c =
    on_ok c.push_part-then-is_all.result _ _
    (puts_all c.args.sign c.args.«module» c.args.argument.now c.in-Leaf.word c.in-Leaf.is
    (sym c.if-is_all.true ∙ c.is_all.ensures ∙ ap (λ b. same_bytes b (codes "all")) c.as_slice.ensures)
    c.args.parts.now.items c.push_part.new.parts.items c.push_part-then-is_all.new.parts.items
    (c.in_ok-push_part-in-Leaf.ensures ∙ ap (λ x. c.args.parts.now.items ++ kept_parts.Opens x ops.All ∷ []) c.of.ensures)) c.push_part-then-is_all.ensures

pub push_set-returns-else-is_all : goal.push_set-returns-else-is_all
push_set-returns-else-is_all t c =
    on_ok c.push_word.result _ _
    (puts_set_word c.args.sign c.args.«module» c.args.argument.now c.in-Leaf.word c.in-Leaf.is
    (sym c.if-is_all.false ∙ c.is_all.ensures ∙ ap (λ b. same_bytes b (codes "all")) c.as_slice.ensures)
    c.args.parts.now.items c.push_word.new.parts.items) c.push_word.ensures

pub push_set-returns-in-Name : goal.push_set-returns-in-Name
push_set-returns-in-Name t c =
    term_unread (read_as (set_of c.args.sign) (said_of c.args.«module» c.args.argument.now))
    (name_unread (set_of c.args.sign) (λ bt bytes. no_set bt bytes c.args.sign) c.args.«module» c.args.argument.now c.in-Name.field-0 c.in-Name.field-1 c.in-Name.is)
    c.args.parts.now.items c.args.parts.now.items

pub push_set-returns-in_ok-push_set_items-in-Form : goal.push_set-returns-in_ok-push_set_items-in-Form
push_set-returns-in_ok-push_set_items-in-Form t c =
    on_ok c.push_part-in-Form-2.result _ _
    (puts_set_form c.args.sign c.args.«module» c.args.argument.now c.in-Form.at c.in-Form.field-0 c.set_op-op.result c.in-Form.items c.in-Form.is
    c.as_slice-in-Form.result.now c.as_slice-in-Form.ensures.value (c.set_op-op.ensures c.args.«module» (spot_at c.args.«module» c.in-Form.at))
    c.args.parts.now.items c.push_part-in-Form.new.parts.items c.push_set_items.new.parts.items c.push_part-in-Form-2.new.parts.items
    (c.in_ok-push_part-in-Form.ensures ∙ ap (λ x. c.args.parts.now.items ++ kept_parts.Opens x c.set_op-op.result ∷ []) c.of-in-Form.ensures)
    (subst (λ xs. AsksInside (sound (read_expression (spot_at c.args.«module» c.in-Form.at) (languages.Sets c.args.sign) (kept_cells c.args.«module» xs)))
    c.push_part-in-Form.new.parts.items c.push_set_items.new.parts.items) (c.as_slice-in-Form-2.ensures.value ∙ sym c.as_slice-in-Form.ensures.value)
    (c.in_ok-push_set_items-in-Form.ensures (spot_at c.args.«module» c.in-Form.at)))) c.push_part-in-Form-2.ensures

pub push_set_items-returns-in_default : goal.push_set_items-returns-in_default
push_set_items-returns-in_default t c =
    on_ok c.push_sets.result _ _
    (λ so at. unheaded_puts c.args.«module» c.args.items.now c.args.sign at (c.in_default.ensures c.args.«module») c.args.parts.now.items c.push_sets.new.parts.items so)
    c.push_sets.ensures

pub push_set_items-returns-in-One : goal.push_set_items-returns-in-One
push_set_items-returns-in-One t c =
    on_ok c.push_sets-in-One.result _ _
    (λ so at. one_puts c.args.«module» c.args.items.now c.args.sign at c.in-Some.word.now c.set_head.result c.set_head.ensures (c.in-Some.ensures c.args.«module») c.in-One.is
    c.args.parts.now.items c.push_sets-in-One.new.parts.items so) c.push_sets-in-One.ensures

pub push_set_items-returns-in-Two : goal.push_set_items-returns-in-Two
push_set_items-returns-in-Two t c =
    on_ok c.push_sets-in-Two.result _ _
    (λ so at. two_puts c.args.«module» c.args.items.now c.args.sign at c.in-Some.word.now c.set_head.result c.set_head.ensures (c.in-Some.ensures c.args.«module») c.in-Two.is
    c.args.parts.now.items c.push_sets-in-Two.new.parts.items so) c.push_sets-in-Two.ensures

pub push_set_items-returns-in-Range : goal.push_set_items-returns-in-Range
push_set_items-returns-in-Range t c =
    on_ok c.push_words.result _ _
    (λ so at. range_puts c.args.«module» c.args.items.now c.args.sign at c.in-Some.word.now c.set_head.result c.set_head.ensures (c.in-Some.ensures c.args.«module») c.in-Range.is
    c.args.parts.now.items c.push_words.new.parts.items so) c.push_words.ensures

pub push_set_items-returns-in-Union : goal.push_set_items-returns-in-Union
push_set_items-returns-in-Union t c =
    on_ok c.push_sets-in-Union.result _ _
    (λ so at. union_puts_so c.args.«module» c.args.items.now c.args.sign at c.in-Some.word.now c.set_head.result c.set_head.ensures (c.in-Some.ensures c.args.«module») c.in-Union.is
    c.args.parts.now.items c.push_sets-in-Union.new.parts.items so) c.push_sets-in-Union.ensures

pub push_sets-loop-index-preserved : goal.push_sets-loop-index-preserved
push_sets-loop-index-preserved t c =
    one_put (set_of c.args.sign) c.args.«module» c.args.items.now c.args.skipped c.args.parts.now.items c.loop-index.index c.loop-index.parts.items
    c.push_set.new.parts.items c.index-items-index.result c.loop-index-test.true c.index-items-index.is c.in_ok-push_set.ensures c.loop-index.invariant

pub push_sets-returns : goal.push_sets-returns
push_sets-returns t c =
    all_put (set_of c.args.sign) c.args.«module» c.args.items.now c.args.skipped c.args.parts.now.items c.loop-index.index c.loop-index.parts.items
    c.loop-index-test.false c.loop-index.invariant
