use Rattle.std.proofs.Common.{◌∙◌, ◌++◌, ap, arith, rules}
use Rattle.cil_macros.specs.Items.{all_placed, scoped_by}
use Rattle.cil_macros.specs.declared.placed_word.PlacedWord.{PlacedWord}
use Rattle.cil_names.specs.Resolves.{Permission as APermission}
use Rattle.cil_names.specs.Unresolved.{faults_of_wanted}
use Rattle.cil_names.proofs.AskedLemmas.{no_more, one_more}
use Rattle.cil_words.specs.Judged.{could_by, items_by, row_by, space_by}
use Rattle.cil_words.proofs.JudgeLemmas.{judged_so, live_is, permission_there, stand_behind}
use Rattle.cil_words.proofs.judge.Judge.tell_permissions.Goals as goal

pub loop-permission-preserved : goal.loop-permission-preserved
loop-permission-preserved c =
    let j = c.args.self.now in
    let ps = all_placed j.instances.now in
    let k = c.loop-permission.permission-index in
    let so = c.loop-permission.invariant.0 in (
      search (rules, arith, so),
      λ es s w is resolved stand.
          let p = APermission w (scoped_by ps c.permission-item.result) in
          one_more (λ (q : PlacedWord). faults_of_wanted (items_by j) s (space_by j c.args.at) (APermission w (scoped_by ps q))) c.args.permissions.now k _ _ _ _ _ c.loop-permission-test.true
          c.permission-item.is (c.loop-permission.invariant.1 es s w is resolved stand)
          (c.in_ok-unless_live.ensures
          ∙ ap (λ l. c.loop-permission.faults.items ++ l)
          (judged_so (items_by j) s (space_by j c.args.at) p _ resolved
          (live_is j es s is p _
          (stand_behind ps w c.args.permissions.now (could_by j es) (row_by j c.args.at) c.args.number k _ c.permission-item.result stand
          (permission_there c.args.permissions.now k c.permission-item.result _ c.loop-permission-test.true c.permission-item.is) (search (rules, arith, so)))))),
    )

pub returns : goal.returns
returns c = λ es s w is resolved stand.
    let j = c.args.self.now in
    no_more (λ (q : PlacedWord). faults_of_wanted (items_by j) s (space_by j c.args.at) (APermission w (scoped_by (all_placed j.instances.now) q))) c.args.permissions.now
    c.loop-permission.permission-index _ _ c.loop-permission-test.false (c.loop-permission.invariant.1 es s w is resolved stand)
