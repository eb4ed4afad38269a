use Rattle.std.proofs.Common.{◌-◌, ◌+◌, sym, ap, ◌∙◌, arith}
use Rattle.std.specs.Prelude.{Some}
use Rattle.cil_base.specs.Places.{there_as}
use Rattle.cil_mls.proofs.PairLemmas.{next_all, next_none, next_step}
use Rattle.cil_mls.proofs.pairs.push_neighbours.Goals as goal

pub loop-at-init : goal.loop-at-init
loop-at-init c = (omega arith, next_none c.args.standing.now c.args.words.now c.args.edges.now.items)

pub loop-at-preserved : goal.loop-at-preserved
loop-at-preserved c =
    let at = c.loop-at.at in
    let first = c.loop-at.invariant.0 in
    let below = c.loop-at-test.true in (
      omega (arith, first),
      next_step c.args.standing.now c.args.words.now at (at - 1) (at + 1) (omega (arith, first)) (omega arith) _ _
          (there_as c.args.words.now (at - 1) _ (omega (arith, first, below)) c.index-words-at.is ∙ ap Some (sym c.entry.ensures))
          (there_as c.args.words.now at _ below c.index-words-at-in-loop-at.is ∙ ap Some (sym c.entry-in-loop-at.ensures)) _ _ _ c.loop-at.invariant.1 c.in_ok-push_pair.ensures,
    )

pub returns : goal.returns
returns c = next_all c.args.standing.now c.args.words.now c.loop-at.at c.loop-at-test.false _ _ c.loop-at.invariant.1
