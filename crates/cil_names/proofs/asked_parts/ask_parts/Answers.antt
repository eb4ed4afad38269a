use Rattle.std.proofs.Common.{◌∙◌, arith}
use Rattle.std.proofs.lemmas.List.{drop_all}
use Rattle.cil_names.proofs.AskedPartLemmas.{all_asked}
use Rattle.cil_names.proofs.asked_parts.ask_parts.Goals as goal

pub loop-at-preserved : goal.loop-at-preserved
loop-at-preserved c = λ ps. c.in_ok-at.ensures.asked ps ∙ c.loop-at.invariant ps

pub loop-at-smaller : goal.loop-at-smaller
loop-at-smaller c = let later = c.in_ok-at.ensures.later in let test = c.loop-at-test.true in omega (arith, later, test)

pub returns : goal.returns
returns c = λ ps. all_asked ps _ _ _ (drop_all c.loop-at.at c.args.parts.now c.loop-at-test.false) (c.loop-at.invariant ps)
