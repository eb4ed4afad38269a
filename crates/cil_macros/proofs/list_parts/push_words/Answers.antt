use Rattle.cil_syntax.specs.Shapes.{looked_up}
use Rattle.cil_macros.proofs.AskLemmas.{all_put, one_put}
use Rattle.cil_macros.proofs.list_parts.push_words.Goals as goal

pub loop-index-preserved : goal.loop-index-preserved
loop-index-preserved c =
    one_put (looked_up c.args.sign) c.args.«module» c.args.items.now c.args.skipped c.args.parts.now.items c.loop-index.index c.loop-index.parts.items
    c.push_word.new.parts.items c.index-items-index.result c.loop-index-test.true c.index-items-index.is c.in_ok-push_word.ensures c.loop-index.invariant

pub returns : goal.returns
returns c =
    all_put (looked_up c.args.sign) c.args.«module» c.args.items.now c.args.skipped c.args.parts.now.items c.loop-index.index c.loop-index.parts.items
    c.loop-index-test.false c.loop-index.invariant
