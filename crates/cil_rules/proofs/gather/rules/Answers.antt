use Rattle.std.specs.Prelude.{option_map}
use Rattle.std.proofs.Common.{◌≡◌, ◌<◌, ◌∙◌, ap, length, map, subst, sym, arith}
use Rattle.std.proofs.lemmas.Option.{slice_get-map}
use Rattle.cil_macros.specs.Items.{item_at, items_in}
use Rattle.cil_macros.proofs.ItemLemmas.{item_there}
use Rattle.cil_conditions.specs.known.Known.{row_in}
use Rattle.cil_rules.specs.Listed.{AreRulesOf}
use Rattle.cil_rules.proofs.BehindLemmas.{all_rules, more_rules, no_rules}
use Rattle.cil_rules.proofs.gather.rules.Goals as goal

pub loop-at-init : goal.loop-at-init
loop-at-init c = λ names known apart standing classes given branches. subst (AreRulesOf _ _ _ _ 0) (sym c.in_ok-rules.ensures.items) (no_rules _ _ _ _)

pub loop-at-preserved : goal.loop-at-preserved
loop-at-preserved c =
    let k = c.args.known.now in
    let i = c.args.instances.now in
    let at = c.loop-at.at in
    let within : at < length (items_in i) = let t = c.loop-at-test.true in let n = c.len-at-end.ensures.items in omega (arith, t, n) in
    let row = c.row-words.ensures (map (row_in k) (items_in i)) (row_in k (item_at i at)) c.requires.table (slice_get-map (row_in k) (items_in i) at ∙ ap (option_map (row_in k)) (item_there i at within)) in
    λ names known apart standing classes given branches. more_rules _ _ _ (item_at i) at _ _ (c.loop-at.invariant names known apart standing classes given branches)
    (c.in_ok-push_in_branch.ensures names known apart standing classes given branches row)

pub returns : goal.returns
returns c = λ names known apart standing classes given branches.
    let n = c.len-at-end.ensures.items in
    let all : c.loop-at.at ≡ length (items_in c.args.instances.now) = let f = c.loop-at-test.false in omega (arith, f, n) in
    all_rules _ _ _ _ _ _ _ _ all c.of.ensures (c.loop-at.invariant names known apart standing classes given branches)
