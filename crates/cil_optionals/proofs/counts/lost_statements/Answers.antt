use Rattle.std.proofs.Common.{rules, true, false, ◌∙◌, arith}
use Rattle.cil_names.specs.Entries.{is_in}
use Rattle.cil_optionals.proofs.CountLemmas.{lost_step}
use Rattle.cil_optionals.proofs.counts.lost_statements.Goals.{then-is_lost+in_ok-count, else-is_lost}
use Rattle.cil_optionals.proofs.counts.lost_statements.Goals as goal

pub loop-at-preserved : goal.loop-at-preserved
loop-at-preserved c =
    elim c.if-is_lost.branch [
      | then-is_lost+in_ok-count w ↦
          lost_step c.args.instances.now (is_in c.args.enabled.now) c.loop-at.at (search rules) true w.if-is_lost.ensures c.loop-at.count c.if-is_lost.count c.loop-at.invariant
          (w.count-is ∙ w.in_ok-count.ensures)
      | else-is_lost w ↦
          lost_step c.args.instances.now (is_in c.args.enabled.now) c.loop-at.at (search rules) false w.if-is_lost.ensures c.loop-at.count c.if-is_lost.count c.loop-at.invariant
          (let e = w.count-is in omega (arith, e))
    ]
