use Rattle.std.proofs.Common.{sym, ◌∙◌, true, false}
use Rattle.cil_syntax.proofs.Languages.{found_next, found_none}
use Rattle.cil_syntax.proofs.language.first_head.Goals as goal

pub returns-then-begins_with : goal.returns-then-begins_with
returns-then-begins_with c = λ language m.
    c.loop-head.invariant language m
    ∙ found_next language c.args.text.now c.args.nodes.now c.args.heads.now m c.loop-head.head-index _ true c.loop-head-test.true
    (sym c.if-begins_with.true ∙ c.begins_with.ensures m)

pub loop-head-preserved : goal.loop-head-preserved
loop-head-preserved c = λ language m.
    c.loop-head.invariant language m
    ∙ found_next language c.args.text.now c.args.nodes.now c.args.heads.now m c.loop-head.head-index _ false c.loop-head-test.true
    (sym c.if-begins_with.false ∙ c.begins_with.ensures m)

pub returns : goal.returns
returns c = λ language m.
    c.loop-head.invariant language m ∙ found_none language c.args.text.now c.args.nodes.now c.args.heads.now m c.loop-head.head-index c.loop-head-test.false
