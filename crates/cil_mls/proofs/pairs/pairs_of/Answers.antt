use Rattle.std.specs.Prelude.{option_map, take}
use Rattle.std.proofs.Common.{◌<◌, ◌∙◌, ap, length, map, subst, sym, arith}
use Rattle.std.proofs.lemmas.Option.{slice_get-map}
use Rattle.cil_attrs.specs.macros.Items.{item_at, items_in}
use Rattle.cil_attrs.proofs.macros_lemmas.ItemLemmas.{item_there, items_taken}
use Rattle.cil_attrs.specs.known.Known.{row_in}
use Rattle.cil_mls.proofs.PairLemmas.{LeadIn, all_in, more_in, none_in}
use Rattle.cil_mls.proofs.pairs.pairs_of.Goals as goal

pub loop-at-init : goal.loop-at-init
loop-at-init c =
    let xs = items_in c.args.instances.now in
    subst (LeadIn c.args.known.now c.args.standing.now c.args.keyword xs (take 0 xs)) (sym c.new-edges.ensures.items) (none_in c.args.known.now c.args.standing.now c.args.keyword xs)

pub push_statement-requires-clause-row : goal.push_statement-requires-clause-row
push_statement-requires-clause-row c =
    let k = c.args.known.now in
    let i = c.args.instances.now in
    let at = c.loop-at.at in
    let within : at < length (items_in i) = let t = c.loop-at-test.true in let n = c.len-at-end.ensures.items in omega (arith, t, n) in
    c.row-words.ensures (map (row_in k) (items_in i)) (row_in k (item_at i at)) c.requires.table (slice_get-map (row_in k) (items_in i) at ∙ ap (option_map (row_in k)) (item_there i at within))

pub loop-at-preserved : goal.loop-at-preserved
loop-at-preserved c =
    let i = c.args.instances.now in
    let at = c.loop-at.at in
    let within : at < length (items_in i) = let t = c.loop-at-test.true in let n = c.len-at-end.ensures.items in omega (arith, t, n) in
    more_in c.args.known.now c.args.standing.now c.args.keyword (items_in i) at (item_at i at) (items_taken i at within) _ _ c.loop-at.invariant c.in_ok-push_statement.ensures

pub returns : goal.returns
returns c =
    let n = c.len-at-end.ensures.items in
    let f = c.loop-at-test.false in
    all_in c.args.known.now c.args.standing.now c.args.keyword (items_in c.args.instances.now) c.loop-at.at (omega (arith, f, n)) _ c.loop-at.invariant
