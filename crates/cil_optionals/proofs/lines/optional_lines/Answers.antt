use Rattle.std.proofs.Common.{◌<◌, ◌≤◌, ◌++◌, length, arith, ap, subst}
use Rattle.std.specs.List.Sorted.{IsPermutation}
use Rattle.cil_macros.specs.Items.{item_at, items_in}
use Rattle.cil_macros.proofs.ItemLemmas.{items_left}
use Rattle.cil_names.specs.Entries.{is_in}
use Rattle.cil_optionals.specs.Lines.{lines_from}
use Rattle.cil_optionals.proofs.LineLemmas.{all_lines, one_more}
use Rattle.cil_optionals.proofs.lines.optional_lines.Goals as goal

pub push_optional-requires : goal.push_optional-requires
push_optional-requires c = let t = c.loop-at-test.true in let n = c.len-at-end.ensures.items in omega (arith, t, n)

pub loop-at-init : goal.loop-at-init
loop-at-init c = ap (λ ls. ls ++ lines_from (is_in c.args.enabled.now) 0 (items_in c.args.instances.now)) c.new-lines.ensures.items

pub loop-at-preserved : goal.loop-at-preserved
loop-at-preserved c =
    let i = c.args.instances.now in
    let at = c.loop-at.at in
    let within : at < length (items_in i) = let t = c.loop-at-test.true in let n = c.len-at-end.ensures.items in omega (arith, t, n) in
    one_more (is_in c.args.enabled.now) (items_in i) at (item_at i at) _ _ (items_left i at within) c.in_ok-push_optional.ensures c.loop-at.invariant

pub returns : goal.returns
returns c =
    let i = c.args.instances.now in
    let over : length (items_in i) ≤ c.loop-at.at = let t = c.loop-at-test.false in let n = c.len-at-end.ensures.items in omega (arith, t, n) in
    record {
      same = subst (λ ls. IsPermutation ls c.sort_unstable.new.self.items) (all_lines (is_in c.args.enabled.now) (items_in i) c.loop-at.at _ over c.loop-at.invariant) c.sort_unstable.ensures.permutation;
      sorted = c.sort_unstable.ensures.sorted;
    }
