use Rattle.std.proofs.Common.{rules, arith}
use Rattle.cil_macros.specs.Items.{all_placed}
use Rattle.cil_names.specs.Asked.{wanted_by}
use Rattle.cil_names.specs.Unresolved.{faults_of_all}
use Rattle.cil_names.specs.declared.asked.Asked.{Asked}
use Rattle.cil_names.proofs.AskedLemmas.{no_more, one_more}
use Rattle.cil_words.specs.Judged.{could_by, items_by, row_by, space_by}
use Rattle.cil_words.proofs.JudgeLemmas.{counted, stand_in}
use Rattle.cil_words.proofs.judge.Judge.tell.Goals as goal

pub loop-one-preserved : goal.loop-one-preserved
loop-one-preserved c =
    let j = c.args.self.now in
    let g = wanted_by (all_placed j.instances.now) in
    let len = c.len.ensures (all_placed j.instances.now) in (
      counted g c.args.asked.now c.loop-one.one-index _ _ _ _ c.loop-one-test.true c.one-item.is c.loop-one.invariant.0 (search (rules, arith, len)),
      λ es s is are.
          one_more (λ (one : Asked). faults_of_all (items_by j) s (space_by j c.args.at) (g one)) c.args.asked.now c.loop-one.one-index _ _ _ _ _ c.loop-one-test.true c.one-item.is
          (c.loop-one.invariant.1 es s is are)
          (c.in_ok-tell_one.ensures es s is
          (stand_in g (could_by j es) c.args.asked.now (row_by j c.args.at) c.loop-one.one-index _ _ _ are c.loop-one-test.true c.one-item.is c.loop-one.invariant.0)),
    )

pub returns : goal.returns
returns c = λ es s is are.
    let j = c.args.self.now in
    no_more (λ (one : Asked). faults_of_all (items_by j) s (space_by j c.args.at) (wanted_by (all_placed j.instances.now) one)) c.args.asked.now c.loop-one.one-index _ _ c.loop-one-test.false
    (c.loop-one.invariant.1 es s is are)
