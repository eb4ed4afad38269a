use Rattle.std.specs.Prelude.{option_map}
use Rattle.std.proofs.Common.{◌≡◌, ◌<◌, ◌∙◌, ap, length, map, arith, subst}
use Rattle.std.proofs.lemmas.Option.{slice_get-map}
use Rattle.cil_known.specs.macros.Items.{item_at, items_in}
use Rattle.cil_known.proofs.macros_lemmas.ItemLemmas.{item_there}
use Rattle.cil_known.specs.Known.{row_in}
use Rattle.cil_conditions.specs.Gathered.{AreFound}
use Rattle.cil_conditions.proofs.FoundLemmas.{nothing_found}
use Rattle.cil_conditions.proofs.found.found_in.Goals as goal

pub loop-at-init : goal.loop-at-init
loop-at-init c = nothing_found c.args.instances.now c.args.known.now c.new-found.result.items c.new-found.ensures.items

pub push_found-requires-clause-row : goal.push_found-requires-clause-row
push_found-requires-clause-row c =
    let k = c.args.known.now in
    let i = c.args.instances.now in
    let at = c.loop-at.at in
    let within : at < length (items_in i) = let t = c.loop-at-test.true in let n = c.len-at-end.ensures.items in omega (arith, t, n) in
    c.row-words.ensures (map (row_in k) (items_in i)) (row_in k (item_at i at)) c.requires.table (slice_get-map (row_in k) (items_in i) at ∙ ap (option_map (row_in k)) (item_there i at within))

pub returns : goal.returns
returns c =
    let xs = items_in c.args.instances.now in
    let all : c.loop-at.at ≡ length xs = let f = c.loop-at-test.false in let e = c.loop-at.auto.at-end in let n = c.len-at-end.ensures.items in omega (arith, f, e, n) in
    subst (λ n. AreFound c.args.instances.now c.args.known.now n c.loop-at.found.items) all c.loop-at.invariant
