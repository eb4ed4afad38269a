use Rattle.std.proofs.Common.{◌≡◌, length, refl, ap, rules, sym, ◌∙◌, subst}
use Rattle.std.specs.Prelude.{Some, if◌then◌else◌}
use Rattle.cil_syntax.specs.Table.{behind, branched}
use Rattle.cil_sexpr.specs.View.{node_of, nodes_of}
use Rattle.cil_sexpr.specs.Tree.{inner_of}
use Rattle.cil_syntax.specs.Program.{has_body, statement_of}
use Rattle.cil_syntax.specs.Standpoints.{found_behind, found_from, opened, opening_by}
use Rattle.cil_syntax.specs.Entries.{body_of}
use Rattle.cil_syntax.specs.Told.{AreJudged, StandsIn}
use Rattle.cil_syntax.specs.Written.{inside_of}
use Rattle.cil_syntax.proofs.Heads.{word_view, quoted_view, list_view}
use Rattle.cil_syntax.proofs.NodesJudged.{none_judged, one_more_judged, all_judged, none_forked, one_more_forked, all_forked, inside_is, nothing_judged, nothing_at_all, judged_none, judged_plain, judged_body, some_body, on_ok}
use Rattle.cil_syntax.proofs.Programs.{inside_stands}
use Rattle.cil_syntax.proofs.reader.Reader.+bodies.Goals as goal

pub judge_all-loop-index-init : goal.judge_all-loop-index-init
judge_all-loop-index-init t c context stands =
    none_judged c.args.self.now.number context c.args.self.now.text.now c.args.nodes.now c.args.statements.now.items c.args.faults.now.items _ c.args.skipped refl

pub judge_all-loop-index-preserved : goal.judge_all-loop-index-preserved
judge_all-loop-index-preserved t c context stands =
    one_more_judged c.args.self.now.number context c.args.self.now.text.now c.args.nodes.now c.args.statements.now.items c.args.faults.now.items _
    c.loop-index.index _ _ _ _ c.args.self.now.place.now c.index-nodes-index.result stands (c.loop-index.invariant context stands) c.loop-index-test.true c.index-nodes-index.is
    (c.in_ok-judge_in.ensures context)

pub judge_all-returns : goal.judge_all-returns
judge_all-returns t c context stands =
    all_judged c.args.self.now.number context c.args.self.now.text.now c.args.nodes.now c.args.statements.now.items c.args.faults.now.items _
    c.loop-index.index _ _ (c.loop-index.invariant context stands) c.loop-index-test.false

pub judge_in-returns-in_default : goal.judge_in-returns-in_default
judge_in-returns-in_default t c context stands =
    judged_none c.args.self.now.number context (node_of c.args.self.now.text.now c.args.node.now) c.args.self.now.place.now c.args.statements.now.items
    c.args.faults.now.items _ stands c.in_ok-statement.field-0 c.in_default.is (c.in_ok-statement.ensures context stands.around)

pub judge_branches-loop-index-init : goal.judge_branches-loop-index-init
judge_branches-loop-index-init t c context stands =
    none_forked c.args.self.now.number context c.args.self.now.text.now c.args.nodes.now c.args.statements.now.items c.args.faults.now.items _ c.args.skipped refl

pub judge_branches-loop-index-preserved : goal.judge_branches-loop-index-preserved
judge_branches-loop-index-preserved t c context stands =
    one_more_forked c.args.self.now.number context c.args.self.now.text.now c.args.nodes.now c.args.statements.now.items c.args.faults.now.items _
    c.loop-index.index _ _ _ _ c.args.self.now.place.now c.index-nodes-index.result stands (c.loop-index.invariant context stands) c.loop-index-test.true c.index-nodes-index.is
    (c.in_ok-judge_branch.ensures context)

pub judge_branches-returns : goal.judge_branches-returns
judge_branches-returns t c context stands =
    all_forked c.args.self.now.number context c.args.self.now.text.now c.args.nodes.now c.args.statements.now.items c.args.faults.now.items _
    c.loop-index.index _ _ (c.loop-index.invariant context stands) c.loop-index-test.false

pub judge_branch-returns-in-Word : goal.judge_branch-returns-in-Word
judge_branch-returns-in-Word t c context stands =
    let m = c.args.self.now.number in
    let text = c.args.self.now.text.now in
    nothing_judged m _ _ _
    (inside_is m context (node_of text c.args.node.now)
    ∙ ap (found_behind m (opened context 1)) (ap (λ x. inner_of (node_of text x)) c.in-Word.is ∙ ap inner_of (word_view text c.in-Word.field-0))
    ∙ nothing_at_all m (opened context 1))

pub judge_branch-returns-in-Quoted : goal.judge_branch-returns-in-Quoted
judge_branch-returns-in-Quoted t c context stands =
    let m = c.args.self.now.number in
    let text = c.args.self.now.text.now in
    nothing_judged m _ _ _
    (inside_is m context (node_of text c.args.node.now)
    ∙ ap (found_behind m (opened context 1)) (ap (λ x. inner_of (node_of text x)) c.in-Quoted.is ∙ ap inner_of (quoted_view text c.in-Quoted.field-0))
    ∙ nothing_at_all m (opened context 1))

pub judge_branch-returns-in-List : goal.judge_branch-returns-in-List
judge_branch-returns-in-List t c =
    let m = c.args.self.now.number in
    let text = c.args.self.now.text.now in
    on_ok c.judge_all.result _ _
    (λ all context stands.
    subst (λ fs. AreJudged m fs c.args.statements.now.items c.judge_all.new.statements.items c.args.faults.now.items c.judge_all.new.faults.items)
    (sym (inside_is m context (node_of text c.args.node.now)
    ∙ ap (found_behind m (opened context 1))
    (ap (λ x. inner_of (node_of text x)) c.in-List.is ∙ ap inner_of (list_view text c.in-List.field-0 c.in-List.items) ∙ ap (nodes_of text) (sym c.as_slice.ensures.value))))
    (all context stands))
    c.judge_all.ensures

pub judge_body-returns-in-Word : goal.judge_body-returns-in-Word
judge_body-returns-in-Word t c context stands =
    let m = c.args.self.now.number in
    let text = c.args.self.now.text.now in
    let opening = opening_by context (body_of c.args.body) in
    nothing_judged m _ _ _
    (ap (found_behind m opening) (ap (λ x. inner_of (node_of text x)) c.in-Word.is ∙ ap inner_of (word_view text c.in-Word.field-0)) ∙ nothing_at_all m opening)

pub judge_body-returns-in-Quoted : goal.judge_body-returns-in-Quoted
judge_body-returns-in-Quoted t c context stands =
    let m = c.args.self.now.number in
    let text = c.args.self.now.text.now in
    let opening = opening_by context (body_of c.args.body) in
    nothing_judged m _ _ _
    (ap (found_behind m opening) (ap (λ x. inner_of (node_of text x)) c.in-Quoted.is ∙ ap inner_of (quoted_view text c.in-Quoted.field-0)) ∙ nothing_at_all m opening)

pub judge_body-returns-then-body : goal.judge_body-returns-then-body
judge_body-returns-then-body t c =
    let m = c.args.self.now.number in
    let text = c.args.self.now.text.now in
    let k = c.args.body.skipped in
    on_ok c.judge_branches.result _ _
    (λ all context stands.
    subst (λ fs. AreJudged m fs c.args.statements.now.items c.judge_branches.new.statements.items c.args.faults.now.items c.judge_branches.new.faults.items)
    (sym (ap (found_behind m (opening_by context (body_of c.args.body)))
    (ap (λ x. inner_of (node_of text x)) c.in-List.is ∙ ap inner_of (list_view text c.in-List.field-0 c.in-List.items) ∙ ap (nodes_of text) (sym c.as_slice.ensures.value))
    ∙ ap (λ b. found_behind m (opening_by context (if b then branched k else behind k c.args.body.nesting)) (nodes_of text c.as_slice.result.now)) c.if-body.true))
    (all context stands))
    c.judge_branches.ensures

pub judge_body-returns-else-body : goal.judge_body-returns-else-body
judge_body-returns-else-body t c =
    let m = c.args.self.now.number in
    let text = c.args.self.now.text.now in
    let k = c.args.body.skipped in
    on_ok c.judge_all.result _ _
    (λ all context stands.
    subst (λ fs. AreJudged m fs c.args.statements.now.items c.judge_all.new.statements.items c.args.faults.now.items c.judge_all.new.faults.items)
    (sym (ap (found_behind m (opening_by context (body_of c.args.body)))
    (ap (λ x. inner_of (node_of text x)) c.in-List.is ∙ ap inner_of (list_view text c.in-List.field-0 c.in-List.items) ∙ ap (nodes_of text) (sym c.as_slice-in-List.ensures.value))
    ∙ ap (λ b. found_behind m (opening_by context (if b then branched k else behind k c.args.body.nesting)) (nodes_of text c.as_slice-in-List.result.now)) c.if-body.false))
    (all context stands))
    c.judge_all.ensures

pub judge_in-returns-in_default-body : goal.judge_in-returns-in_default-body
judge_in-returns-in_default-body t c =
    let m = c.args.self.now.number in
    let n = node_of c.args.self.now.text.now c.args.node.now in
    let start = c.args.statements.now.items in
    on_ok c.push_statement.result _ _
    (λ pushed context stands.
    let judged = c.in_ok-statement.ensures context stands.around in
    subst (λ ss. AreJudged m (found_from m context n) start ss c.args.faults.now.items c.judge.new.faults.items) (sym pushed)
    (judged_plain m context n c.args.self.now.place.now start c.args.faults.now.items _ stands c.in-Some.statement (judged.under c.in-Some.statement c.in-Some.is) c.in_ok-statement.field-0 c.in-Some.is judged
    c.in_default-body.ensures.body))
    c.push_statement.ensures

pub judge_in-returns : goal.judge_in-returns
judge_in-returns t c =
    let m = c.args.self.now.number in
    let n = node_of c.args.self.now.text.now c.args.node.now in
    let outer = c.args.self.now.place.now in
    let start = c.args.statements.now.items in
    let s = c.in-Some.statement in
    let b = c.in-Some-body.body in
    let count = c.len.ensures in
    let kept : c.len.result ≡ length start = search (rules, count) in
    let body = c.in-Some-body.ensures.body in
    let pushed = c.in_ok-push_statement.ensures in
    on_ok c.judge_body.result _ _
    (λ all context stands.
    let judged = c.in_ok-statement.ensures context stands.around in
    let under = judged.under s c.in-Some.is in
    let inner_context = inside_of context (statement_of s) in
    let round = c.in_ok-place.ensures.round context stands.around (c.in-Some-body.ensures.nesting context.nesting) in
    let inner = inside_stands context outer start stands s under c.in_ok-place.place (c.in_ok-place.ensures.under ∙ ap (λ j. Some j) kept) round
    (ap has_body body ∙ some_body b.branched b.skipped b.nesting) in
    judged_body m context n outer start c.args.faults.now.items _ stands s under c.in_ok-statement.field-0 c.in-Some.is judged c.judge_body.new.statements.items c.judge_body.new.faults.items
    (body_of b) body
    (subst (λ ss. AreJudged m (found_behind m (opening_by inner_context (body_of b)) (inner_of n)) ss c.judge_body.new.statements.items
    c.judge.new.faults.items c.judge_body.new.faults.items)
    pushed
    (all inner_context (subst (StandsIn inner_context c.in_ok-place.place) (sym pushed) inner))))
    c.judge_body.ensures
