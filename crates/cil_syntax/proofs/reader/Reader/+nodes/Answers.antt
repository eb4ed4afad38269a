use Rattle.std.proofs.Common.{◌∙◌, ap, drop, subst, sym}
use Rattle.std.proofs.lemmas.List.{take_rest}
use Rattle.std.specs.Prelude.{Some, Err}
use Rattle.cil_sexpr.specs.View.{nodes_of}
use Rattle.cil_syntax.specs.Laid.{row_of}
use Rattle.cil_syntax.specs.Readings.{cells_of, read_row}
use Rattle.cil_syntax.specs.Told.{AreTold, TellAll}
use Rattle.cil_sexpr.specs.View.{node_of}
use Rattle.cil_syntax.specs.Laid.{shape_of}
use Rattle.cil_syntax.proofs.ItemsRead.{more_read, stop_told, all_read, many_more, many_end, items_more, items_end, wrong_length}
use Rattle.cil_syntax.proofs.Laid.{read_as, row_as, name_view, looked_up_view, expression_view, fixed_view, left_out_view, any_view, listed_view, tagged_view, items_view, many_view, first_told, second_told, first_row_told, second_row_told, led_told, not_led_told, statements_told}
use Rattle.cil_syntax.proofs.Behind.{short_told, first_stops, second_stops, then_told}
use Rattle.cil_syntax.proofs.Expressed.{list_told, list_stops, untagged_told, tagged_told, tagged_stops}
use Rattle.cil_syntax.proofs.Unread.{unread_told, object_told, anything_told}
use Rattle.cil_syntax.specs.Around.{space_of}
use Rattle.cil_syntax.proofs.reader.Reader.+nodes.Goals as goal

pub read_items-returns-then-nodes-shapes : goal.read_items-returns-then-nodes-shapes
read_items-returns-then-nodes-shapes t c = wrong_length shape_of c.args.self.now.number (space_of c.args.self.now.place.now) c.args.self.now.text.now c.args.nodes.now c.args.shapes.now _ c.if-nodes-shapes.true

pub read_items-returns-in_err-term : goal.read_items-returns-in_err-term
read_items-returns-in_err-term t c =
    stop_told c.args.self.now.number (space_of c.args.self.now.place.now) _ _ _ _ _ _ _ _ _ _ c.loop-index.invariant
    (items_more c.args.self.now.number c.args.self.now.text.now c.args.nodes.now shape_of c.args.shapes.now c.if-nodes-shapes.false _ _ _ c.loop-index-test.true c.index-nodes-index.is c.index-shapes-index.is)
    c.in_err-term.ensures c.from_residual-in_err-term.ensures.1

pub read_items-loop-index-preserved : goal.read_items-loop-index-preserved
read_items-loop-index-preserved t c =
    more_read c.args.self.now.number (space_of c.args.self.now.place.now) _ _ _ _ _ _ _ _ c.in_ok-term.term _ c.loop-index.invariant
    (items_more c.args.self.now.number c.args.self.now.text.now c.args.nodes.now shape_of c.args.shapes.now c.if-nodes-shapes.false _ _ _ c.loop-index-test.true c.index-nodes-index.is c.index-shapes-index.is)
    c.in_ok-term.ensures c.in_ok-push.ensures.items

pub read_items-returns : goal.read_items-returns
read_items-returns t c =
    all_read c.args.self.now.number (space_of c.args.self.now.place.now) _ _ _ _ c.loop-index.terms c.loop-index.invariant
    (items_end c.args.self.now.number c.args.self.now.text.now c.args.nodes.now shape_of c.args.shapes.now c.if-nodes-shapes.false _ c.loop-index-test.false)

pub read_many-returns-in_err-term : goal.read_many-returns-in_err-term
read_many-returns-in_err-term t c =
    stop_told c.args.self.now.number (space_of c.args.self.now.place.now) _ _ _ _ _ _ _ _ _ _ c.loop-node.invariant
    (many_more c.args.self.now.number c.args.self.now.text.now c.args.nodes.now (shape_of c.args.shape.now) _ _ c.loop-node-test.true c.node-item.is)
    c.in_err-term.ensures c.from_residual-in_err-term.ensures.1

pub read_many-loop-node-preserved : goal.read_many-loop-node-preserved
read_many-loop-node-preserved t c =
    more_read c.args.self.now.number (space_of c.args.self.now.place.now) _ _ _ _ _ _ _ _ c.in_ok-term.term _ c.loop-node.invariant
    (many_more c.args.self.now.number c.args.self.now.text.now c.args.nodes.now (shape_of c.args.shape.now) _ _ c.loop-node-test.true c.node-item.is)
    c.in_ok-term.ensures c.in_ok-push.ensures.items

pub read_many-returns : goal.read_many-returns
read_many-returns t c =
    all_read c.args.self.now.number (space_of c.args.self.now.place.now) _ _ _ _ c.loop-node.terms c.loop-node.invariant
    (many_end c.args.self.now.number c.args.self.now.text.now c.args.nodes.now (shape_of c.args.shape.now) _ c.loop-node-test.false)

pub read_node-returns-in-DeclaredName : goal.read_node-returns-in-DeclaredName
read_node-returns-in-DeclaredName t c =
    read_as c.args.self.now.number (space_of c.args.self.now.place.now) (node_of c.args.self.now.text.now c.args.node.now) c.args.shape.now _ _ _ c.read_name.result
    (ap shape_of c.in-DeclaredName.is ∙ name_view) c.read_name.ensures

pub read_node-returns-in-LookedUp : goal.read_node-returns-in-LookedUp
read_node-returns-in-LookedUp t c =
    read_as c.args.self.now.number (space_of c.args.self.now.place.now) (node_of c.args.self.now.text.now c.args.node.now) c.args.shape.now _ _ _ c.read_looked_up.result
    (ap shape_of c.in-LookedUp.is ∙ looked_up_view _) c.read_looked_up.ensures

pub read_node-returns-in-Expression : goal.read_node-returns-in-Expression
read_node-returns-in-Expression t c =
    read_as c.args.self.now.number (space_of c.args.self.now.place.now) (node_of c.args.self.now.text.now c.args.node.now) c.args.shape.now _ _ _ c.read_expression.result
    (ap shape_of c.in-Expression.is ∙ expression_view _) c.read_expression.ensures

pub read_node-returns-in-Fixed : goal.read_node-returns-in-Fixed
read_node-returns-in-Fixed t c =
    read_as c.args.self.now.number (space_of c.args.self.now.place.now) (node_of c.args.self.now.text.now c.args.node.now) c.args.shape.now _ _ _ c.read_fixed.result
    (ap shape_of c.in-Fixed.is ∙ fixed_view _ _) c.read_fixed.ensures

pub read_node-returns-in-LeftOut : goal.read_node-returns-in-LeftOut
read_node-returns-in-LeftOut t c =
    read_as c.args.self.now.number (space_of c.args.self.now.place.now) (node_of c.args.self.now.text.now c.args.node.now) c.args.shape.now _ _ _ c.read_this_left_out.result
    (ap shape_of c.in-LeftOut.is ∙ left_out_view _) c.read_this_left_out.ensures

pub read_node-returns-in-AnyLeftOut : goal.read_node-returns-in-AnyLeftOut
read_node-returns-in-AnyLeftOut t c =
    read_as c.args.self.now.number (space_of c.args.self.now.place.now) (node_of c.args.self.now.text.now c.args.node.now) c.args.shape.now _ _ _ c.read_any_left_out.result
    (ap shape_of c.in-AnyLeftOut.is ∙ any_view) c.read_any_left_out.ensures

pub read_node-returns-in-ListOf : goal.read_node-returns-in-ListOf
read_node-returns-in-ListOf t c =
    read_as c.args.self.now.number (space_of c.args.self.now.place.now) (node_of c.args.self.now.text.now c.args.node.now) c.args.shape.now _ _ _ c.read_list.result
    (ap shape_of c.in-ListOf.is ∙ listed_view _ _) c.read_list.ensures

pub read_node-returns-in-Tagged : goal.read_node-returns-in-Tagged
read_node-returns-in-Tagged t c =
    read_as c.args.self.now.number (space_of c.args.self.now.place.now) (node_of c.args.self.now.text.now c.args.node.now) c.args.shape.now _ _ _ c.read_tagged.result
    (ap shape_of c.in-Tagged.is ∙ tagged_view _ _ _) c.read_tagged.ensures

pub read_row-returns-in-Items : goal.read_row-returns-in-Items
read_row-returns-in-Items t c =
    row_as c.args.self.now.number (space_of c.args.self.now.place.now) (cells_of c.args.self.now.number (nodes_of c.args.self.now.text.now c.args.nodes.now)) c.args.row.now _ _ _ c.read_items.result
    (ap row_of c.in-Items.is ∙ items_view _) c.read_items.ensures

pub read_row-returns-in-Many : goal.read_row-returns-in-Many
read_row-returns-in-Many t c =
    row_as c.args.self.now.number (space_of c.args.self.now.place.now) (cells_of c.args.self.now.number (nodes_of c.args.self.now.text.now c.args.nodes.now)) c.args.row.now _ _ _ c.read_many.result
    (ap row_of c.in-Many.is ∙ many_view _) c.read_many.ensures

pub read_list-returns-in_err-parts : goal.read_list-returns-in_err-parts
read_list-returns-in_err-parts t c =
    list_stops c.args.self.now.number (space_of c.args.self.now.place.now) c.args.self.now.text.now c.args.node.now c.in-List.span c.in-List.items c.as_slice.result.now c.in-List.is
    c.as_slice.ensures.value c.args.op (row_of c.args.row.now) _ _ _ _ c.in_err-parts.ensures c.from_residual.ensures.1

pub read_list-returns : goal.read_list-returns
read_list-returns t c =
    list_told c.args.self.now.number (space_of c.args.self.now.place.now) c.args.self.now.text.now c.args.node.now c.in-List.span c.in-List.items c.as_slice.result.now c.in-List.is
    c.as_slice.ensures.value c.args.op (row_of c.args.row.now) _ _ c.in_ok-parts.parts c.in_ok-parts.ensures

pub read_node-returns-then-is_meant : goal.read_node-returns-then-is_meant
read_node-returns-then-is_meant t c =
    first_told c.args.self.now.number (space_of c.args.self.now.place.now) (node_of c.args.self.now.text.now c.args.node.now) c.args.shape.now c.in-Either.first c.in-Either.second c.in-Either.is _ _ _ c.is_meant.result
    (c.is_meant.ensures c.args.self.now.number) c.if-is_meant.true c.read_node.ensures

pub read_node-returns-else-is_meant : goal.read_node-returns-else-is_meant
read_node-returns-else-is_meant t c =
    second_told c.args.self.now.number (space_of c.args.self.now.place.now) (node_of c.args.self.now.text.now c.args.node.now) c.args.shape.now c.in-Either.first c.in-Either.second c.in-Either.is _ _ _ c.is_meant.result
    (c.is_meant.ensures c.args.self.now.number) c.if-is_meant.false c.read_node-in-Either.ensures

pub read_row-returns-then-nodes-first : goal.read_row-returns-then-nodes-first
read_row-returns-then-nodes-first t c =
    first_row_told c.args.self.now.number (space_of c.args.self.now.place.now) c.args.self.now.text.now c.args.nodes.now c.args.row.now c.in-OneOf.first c.in-OneOf.second c.in-OneOf.is _ _ _
    c.if-nodes-first.true c.read_items-then-nodes-first.ensures

pub read_row-returns-else-nodes-first : goal.read_row-returns-else-nodes-first
read_row-returns-else-nodes-first t c =
    second_row_told c.args.self.now.number (space_of c.args.self.now.place.now) c.args.self.now.text.now c.args.nodes.now c.args.row.now c.in-OneOf.first c.in-OneOf.second c.in-OneOf.is _ _ _
    c.if-nodes-first.false c.read_items-in-OneOf.ensures

pub read_node-returns-in-Unread : goal.read_node-returns-in-Unread
read_node-returns-in-Unread t c =
    unread_told c.args.self.now.number (space_of c.args.self.now.place.now) (node_of c.args.self.now.text.now c.args.node.now) c.args.shape.now _ _ c.keep.result c.in-Unread.is
    (c.keep.ensures c.args.faults.now.items)

pub read_node-returns-in-ObjectName : goal.read_node-returns-in-ObjectName
read_node-returns-in-ObjectName t c =
    object_told c.args.self.now.number (space_of c.args.self.now.place.now) (node_of c.args.self.now.text.now c.args.node.now) c.args.shape.now _ _ c.keep_name.result c.in-ObjectName.is
    (c.keep_name.ensures c.args.faults.now.items)

pub read_row-returns-in-Anything : goal.read_row-returns-in-Anything
read_row-returns-in-Anything t c = anything_told c.args.self.now.number (space_of c.args.self.now.place.now) _ c.args.row.now _ c.new.result c.in-Anything.is c.new.ensures.items

pub read_row-returns-then-is_led : goal.read_row-returns-then-is_led
read_row-returns-then-is_led t c =
    led_told c.args.self.now.number (space_of c.args.self.now.place.now) _ c.args.row.now c.in-Led.shape c.in-Led.first c.in-Led.second c.in-Led.is _ _ _ c.is_led.result
    (c.is_led.ensures c.args.self.now.number) c.if-is_led.true c.read_row-then-is_led.ensures

pub read_row-returns-else-is_led : goal.read_row-returns-else-is_led
read_row-returns-else-is_led t c =
    not_led_told c.args.self.now.number (space_of c.args.self.now.place.now) _ c.args.row.now c.in-Led.shape c.in-Led.first c.in-Led.second c.in-Led.is _ _ _ c.is_led.result
    (c.is_led.ensures c.args.self.now.number) c.if-is_led.false c.read_row-in-Led.ensures

pub read_row-returns-in-Statements : goal.read_row-returns-in-Statements
read_row-returns-in-Statements t c =
    statements_told c.args.self.now.number (space_of c.args.self.now.place.now) _ c.args.row.now _ _ _ c.in-Statements.is (c.read_statements.ensures c.args.faults.now.items)

pub read_tagged-returns-then-not-is_this_word : goal.read_tagged-returns-then-not-is_this_word
read_tagged-returns-then-not-is_this_word t c =
    untagged_told c.args.self.now.number (space_of c.args.self.now.place.now) c.args.self.now.text.now c.args.node.now c.in-List.span c.in-List.items c.as_slice.result.now c.in-List.is c.as_slice.ensures.value c.args.word.now c.args.op _ c.in-Some.first.now c.in-Some.ensures.value c.is_this_word.result (c.is_this_word.ensures c.args.self.now.number) _ c.if-not-is_this_word.true

pub read_tagged-returns-in_err-parts : goal.read_tagged-returns-in_err-parts
read_tagged-returns-in_err-parts t c =
    tagged_stops c.args.self.now.number (space_of c.args.self.now.place.now) c.args.self.now.text.now c.args.node.now c.in-List.span c.in-List.items c.as_slice.result.now c.in-List.is c.as_slice.ensures.value c.args.word.now c.args.op _ c.in-Some.first.now c.in-Some.ensures.value c.is_this_word.result (c.is_this_word.ensures c.args.self.now.number) _ _ _ _ c.if-not-is_this_word.false (subst (λ ks. TellAll c.args.self.now.number (space_of c.args.self.now.place.now) (read_row (row_of c.args.row.now) (cells_of c.args.self.now.number (nodes_of c.args.self.now.text.now ks))) c.args.faults.now.items c.read_row.new.faults.items (Err c.in_err-parts.field-0.0)) (take_rest c.as_slice-2.result.now 1 ∙ ap (drop 1) (c.as_slice-2.ensures.value ∙ sym c.as_slice.ensures.value)) c.in_err-parts.ensures) c.from_residual.ensures.1

pub read_tagged-returns : goal.read_tagged-returns
read_tagged-returns t c =
    tagged_told c.args.self.now.number (space_of c.args.self.now.place.now) c.args.self.now.text.now c.args.node.now c.in-List.span c.in-List.items c.as_slice.result.now c.in-List.is c.as_slice.ensures.value c.args.word.now c.args.op _ c.in-Some.first.now c.in-Some.ensures.value c.is_this_word.result (c.is_this_word.ensures c.args.self.now.number) _ _ c.in_ok-parts.parts c.if-not-is_this_word.false (subst (λ ks. AreTold c.args.self.now.number (space_of c.args.self.now.place.now) (read_row (row_of c.args.row.now) (cells_of c.args.self.now.number (nodes_of c.args.self.now.text.now ks))) c.args.faults.now.items c.read_row.new.faults.items (Some c.in_ok-parts.parts)) (take_rest c.as_slice-2.result.now 1 ∙ ap (drop 1) (c.as_slice-2.ensures.value ∙ sym c.as_slice.ensures.value)) c.in_ok-parts.ensures)

pub read_row-returns-then-nodes-shapes : goal.read_row-returns-then-nodes-shapes
read_row-returns-then-nodes-shapes t c =
    short_told c.args.self.now.number (space_of c.args.self.now.place.now) c.args.self.now.text.now c.args.nodes.now c.args.row.now c.in-Then.shapes c.in-Then.row c.in-Then.is _ c.if-nodes-shapes.true

pub read_row-returns-in_err-first-in-Then : goal.read_row-returns-in_err-first-in-Then
read_row-returns-in_err-first-in-Then t c =
    first_stops c.args.self.now.number (space_of c.args.self.now.place.now) c.args.self.now.text.now c.args.nodes.now c.args.row.now c.in-Then.shapes c.in-Then.row c.in-Then.is _ _ _ _
    c.if-nodes-shapes.false c.in_err-first-in-Then.ensures c.from_residual.ensures.1

pub read_row-returns-in_err-second-in-Then : goal.read_row-returns-in_err-second-in-Then
read_row-returns-in_err-second-in-Then t c =
    second_stops c.args.self.now.number (space_of c.args.self.now.place.now) c.args.self.now.text.now c.args.nodes.now c.args.row.now c.in-Then.shapes c.in-Then.row c.in-Then.is _ _ _ c.in_ok-first-in-Then.first _ _
    c.if-nodes-shapes.false c.in_ok-first-in-Then.ensures c.in_err-second-in-Then.ensures c.from_residual-in_err-second-in-Then.ensures.1

pub read_row-returns-in_ok-append-in-Then : goal.read_row-returns-in_ok-append-in-Then
read_row-returns-in_ok-append-in-Then t c =
    then_told c.args.self.now.number (space_of c.args.self.now.place.now) c.args.self.now.text.now c.args.nodes.now c.args.row.now c.in-Then.shapes c.in-Then.row c.in-Then.is _ _ _
    c.in_ok-first-in-Then.first c.in_ok-second-in-Then.second c.append.new.self c.if-nodes-shapes.false c.in_ok-first-in-Then.ensures c.in_ok-second-in-Then.ensures c.in_ok-append-in-Then.ensures.items
