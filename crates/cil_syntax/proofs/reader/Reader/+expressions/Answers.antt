use Rattle.std.proofs.Common.{true, false, subst}
use Rattle.std.specs.Prelude.{map}
use Rattle.cil_sexpr.specs.View.{nodes_of}
use Rattle.cil_syntax.specs.Around.{space_of}
use Rattle.cil_syntax.specs.Laid.{items_of}
use Rattle.cil_syntax.specs.Readings.{cells_of, read_row}
use Rattle.cil_syntax.specs.Shapes.{expression}
use Rattle.cil_syntax.specs.Spoken.{part_of}
use Rattle.cil_syntax.specs.Told.{TellAll}
use Rattle.std.proofs.lemmas.List.{take_rest}
use Rattle.cil_syntax.proofs.Expressed.{listed_told, others_told, others_stop, behind_told, behind_stops, nothing_behind, row_behind, operands_wrong, operands_told, others_wrong, one_other, sets_other, empty_by, some_by}
use Rattle.cil_syntax.proofs.ItemsRead.{more_read, stop_told, all_read, many_more, many_end}
use Rattle.cil_syntax.proofs.reader.Reader.+expressions.Goals as goal

pub read_expression-returns-in-List : goal.read_expression-returns-in-List
read_expression-returns-in-List t c =
    listed_told c.args.self.now.text.now c.args.self.now.number (space_of c.args.self.now.place.now) c.args.node.now c.in-List.span c.args.language c.read_expression_list.result c.in-List.items
    c.as_slice.result.now _ _ c.in-List.is c.as_slice.ensures.value c.read_expression_list.ensures

pub read_expression_list-returns-in_err-parts : goal.read_expression_list-returns-in_err-parts
read_expression_list-returns-in_err-parts t c =
    others_stop c.args.self.now.number (space_of c.args.self.now.place.now) c.args.at c.args.language c.args.self.now.text.now c.args.nodes.now _ _ _ _
    c.in_default.ensures c.in_err-parts.ensures c.from_residual.ensures.1

pub read_expression_list-returns-in_default : goal.read_expression_list-returns-in_default
read_expression_list-returns-in_default t c =
    others_told c.args.self.now.number (space_of c.args.self.now.place.now) c.args.at c.args.language c.args.self.now.text.now c.args.nodes.now c.other_op.result _ _ c.in_ok-parts.parts
    c.in_default.ensures c.other_op.ensures c.in_ok-parts.ensures

pub read_expression_list-returns-in_err-parts-2 : goal.read_expression_list-returns-in_err-parts-2
read_expression_list-returns-in_err-parts-2 t c =
    behind_stops c.args.self.now.number (space_of c.args.self.now.place.now) c.args.at c.args.language c.args.self.now.text.now c.args.nodes.now c.in-Some.head c.in-Some.ensures _ _
    c.in_ok-report_untaken.ensures _ _ _ c.in_err-parts-2.ensures c.from_residual-in_err-parts-2.ensures.1

pub read_expression_list-returns : goal.read_expression_list-returns
read_expression_list-returns t c =
    behind_told c.args.self.now.number (space_of c.args.self.now.place.now) c.args.at c.args.language c.args.self.now.text.now c.args.nodes.now c.in-Some.head c.in-Some.ensures _ _
    c.in_ok-report_untaken.ensures _ c.in_ok-parts-2.parts c.in_ok-parts-2.ensures

pub read_others-returns-then-is_of_sets : goal.read_others-returns-then-is_of_sets
read_others-returns-then-is_of_sets t c =
    sets_other c.args.self.now.number (space_of c.args.self.now.place.now) c.args.language c.args.self.now.text.now c.args.nodes.now _ _ _ c.is_of_sets.result c.is_of_sets.ensures c.if-is_of_sets.true
    c.read_expressions.ensures

pub read_others-returns-then-nodes-ne1 : goal.read_others-returns-then-nodes-ne1
read_others-returns-then-nodes-ne1 t c =
    others_wrong c.args.self.now.number (space_of c.args.self.now.place.now) c.args.language c.args.self.now.text.now c.args.nodes.now _ c.is_of_sets.result c.is_of_sets.ensures c.if-is_of_sets.false
    c.if-nodes-ne1.true

pub read_others-returns : goal.read_others-returns
read_others-returns t c =
    one_other c.args.self.now.number (space_of c.args.self.now.place.now) c.args.language c.args.self.now.text.now c.args.nodes.now _ _ _ c.is_of_sets.result c.is_of_sets.ensures c.if-is_of_sets.false
    c.if-nodes-ne1.false c.read_expressions-2.ensures

pub read_behind-returns-then-is_empty : goal.read_behind-returns-then-is_empty
read_behind-returns-then-is_empty t c =
    nothing_behind c.args.self.now.number (space_of c.args.self.now.place.now) c.args.language c.args.self.now.text.now c.args.nodes.now _ _ (empty_by _ _ c.is_empty.ensures c.if-is_empty.true)

pub read_behind-returns-then-nodes-ne2 : goal.read_behind-returns-then-nodes-ne2
read_behind-returns-then-nodes-ne2 t c =
    rw c.in-One.is
    (operands_wrong c.args.self.now.number (space_of c.args.self.now.place.now) c.args.language c.args.self.now.text.now c.args.nodes.now true _ (some_by _ _ c.is_empty.ensures c.if-is_empty.false) c.if-nodes-ne2.true)

pub read_behind-returns-then-nodes-ne3 : goal.read_behind-returns-then-nodes-ne3
read_behind-returns-then-nodes-ne3 t c =
    rw c.in-Two.is
    (operands_wrong c.args.self.now.number (space_of c.args.self.now.place.now) c.args.language c.args.self.now.text.now c.args.nodes.now false _ (some_by _ _ c.is_empty.ensures c.if-is_empty.false) c.if-nodes-ne3.true)

pub read_behind-returns-else-nodes-ne2 : goal.read_behind-returns-else-nodes-ne2
read_behind-returns-else-nodes-ne2 t c =
    rw c.in-One.is
    (operands_told c.args.self.now.number (space_of c.args.self.now.place.now) c.args.language c.args.self.now.text.now c.args.nodes.now true _ _ _ c.if-nodes-ne2.false c.read_expressions.ensures)

pub read_behind-returns-else-nodes-ne3 : goal.read_behind-returns-else-nodes-ne3
read_behind-returns-else-nodes-ne3 t c =
    rw c.in-Two.is
    (operands_told c.args.self.now.number (space_of c.args.self.now.place.now) c.args.language c.args.self.now.text.now c.args.nodes.now false _ _ _ c.if-nodes-ne3.false c.read_expressions-in-Two.ensures)

pub read_behind-returns-in-Parts : goal.read_behind-returns-in-Parts
read_behind-returns-in-Parts t c =
    rw c.in-Parts.is
    (row_behind c.args.self.now.number (space_of c.args.self.now.place.now) c.args.language c.args.self.now.text.now c.args.nodes.now _ c.read_parts.result c.args.faults.now.items c.read_parts.new.faults.items (some_by _ _ c.is_empty.ensures c.if-is_empty.false)
    (subst (λ ks. TellAll c.args.self.now.number (space_of c.args.self.now.place.now) (read_row (items_of (map part_of c.in-Parts.parts.now)) (cells_of c.args.self.now.number (nodes_of c.args.self.now.text.now ks))) c.args.faults.now.items c.read_parts.new.faults.items c.read_parts.result)
    (take_rest c.args.nodes.now 1) c.read_parts.ensures))

pub read_expressions-returns-in_err-term : goal.read_expressions-returns-in_err-term
read_expressions-returns-in_err-term t c =
    stop_told c.args.self.now.number (space_of c.args.self.now.place.now) _ _ _ _ _ _ _ _ _ _ c.loop-index.invariant
    (many_more c.args.self.now.number c.args.self.now.text.now c.args.nodes.now (expression c.args.language) _ _ c.loop-index-test.true c.index-nodes-index.is)
    c.in_err-term.ensures c.from_residual-in_err-term.ensures.1

pub read_expressions-loop-index-preserved : goal.read_expressions-loop-index-preserved
read_expressions-loop-index-preserved t c =
    more_read c.args.self.now.number (space_of c.args.self.now.place.now) _ _ _ _ _ _ _ _ c.in_ok-term.term _ c.loop-index.invariant
    (many_more c.args.self.now.number c.args.self.now.text.now c.args.nodes.now (expression c.args.language) _ _ c.loop-index-test.true c.index-nodes-index.is)
    c.in_ok-term.ensures c.in_ok-push.ensures.items

pub read_expressions-returns : goal.read_expressions-returns
read_expressions-returns t c =
    all_read c.args.self.now.number (space_of c.args.self.now.place.now) _ _ _ _ c.loop-index.terms c.loop-index.invariant
    (many_end c.args.self.now.number c.args.self.now.text.now c.args.nodes.now (expression c.args.language) _ c.loop-index-test.false)
