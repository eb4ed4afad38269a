use Rattle.std.specs.Prelude.{Contains}
use Rattle.std.proofs.Common.{◌∙◌, ◌<◌, ◌≤◌, arith, length, map, subst, sym}
use Rattle.cil_faults.proofs.RefusalLemmas.{answers_alike}
use Rattle.cil_blocks.specs.Namespaces.{AreNamespaces}
use Rattle.cil_macros.specs.Items.{item_at, items_in}
use Rattle.cil_macros.proofs.ItemLemmas.{item_got}
use Rattle.cil_names.specs.Entries.{is_declared_in, is_in}
use Rattle.cil_names.specs.Faults.{ResolveFault}
use Rattle.cil_names.specs.Unresolved.{faults_in}
use Rattle.cil_names.proofs.FillLemmas.{all_back, all_there, told_on}
use Rattle.cil_names.proofs.ScopeLemmas.{all_passed}
use Rattle.cil_words.proofs.judge.judged.Goals as goal

pub loop-at-preserved : goal.loop-at-preserved
loop-at-preserved c =
    let i = c.args.instances.now in
    let xs = items_in i in
    let s = is_in c.args.enabled.now in
    let at = c.loop-at.at in
    let x = item_at i at in
    let within : at < length xs = let h = c.loop-at-test.true in let n = c.len-at-end.ensures.items in omega (arith, h, n) in
    told_on (faults_in xs s) xs at x within (item_got i at within x) c.loop-at.faults.items c.instance.new.faults.items _ c.loop-at.invariant
    (c.in_ok-instance.ensures c.args.names.now s (record {
      namespaces = subst AreNamespaces c.namespaces.ensures.value c.namespaces.ensures.once;
      entries = c.requires.entries;
      asks = c.requires.asks;
      declared = c.as_slice-2.ensures.value ∙ c.in_ok-declared.ensures ∙ (λ i. map (is_declared_in (is_in (c.as_slice.ensures i))) (c.entries.ensures.value i));
    }))

pub returns : goal.returns
returns c =
    let xs = items_in c.args.instances.now in
    let s = is_in c.args.enabled.now in
    let over : length xs ≤ c.loop-at.at = let h = c.loop-at-test.false in let n = c.len-at-end.ensures.items in omega (arith, h, n) in
    let all = all_passed (faults_in xs s) xs c.loop-at.at over c.loop-at.faults.items _ c.loop-at.invariant in
    answers_alike (Contains c.loop-at.faults.items) (ResolveFault s xs) (λ done. Unit {0}) (λ f told. all_there xs s f (subst (λ l. Contains l f) all told))
    (λ f fault. subst (λ l. Contains l f) (sym all) (all_back xs s f fault)) c.refuse.result c.refuse.ensures.told
