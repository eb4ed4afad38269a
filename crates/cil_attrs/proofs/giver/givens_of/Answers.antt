use Rattle.std.specs.Prelude.{[], option_map}
use Rattle.std.proofs.Common.{refl, ◌<◌, ◌∙◌, ap, length, map, subst, sym, arith}
use Rattle.std.proofs.lemmas.Option.{slice_get-map}
use Rattle.cil_known.specs.macros.Items.{item_at, items_in}
use Rattle.cil_known.proofs.macros_lemmas.ItemLemmas.{item_there, items_taken}
use Rattle.cil_known.specs.Known.{row_in}
use Rattle.cil_attrs.specs.Givers.{AreGifts}
use Rattle.cil_attrs.proofs.GiverLemmas.{all_gifts, gift_more, no_gifts, none_more}
use Rattle.cil_attrs.proofs.giver.givens_of.Goals as goal
use Rattle.cil_attrs.proofs.giver.givens_of.Goals.{in-Some+in_ok-push, in_default}

pub loop-at-init : goal.loop-at-init
loop-at-init c = λ names which known is.
    subst (AreGifts c.args.known.now (items_in c.args.instances.now) which c.args.instances.now []) (sym c.new-givens.ensures.items)
    (no_gifts c.args.known.now (items_in c.args.instances.now) which c.args.instances.now)

pub loop-at-preserved : goal.loop-at-preserved
loop-at-preserved c =
    let k = c.args.known.now in
    let i = c.args.instances.now in
    let at = c.loop-at.at in
    let within : at < length (items_in i) = let t = c.loop-at-test.true in let n = c.len-at-end.ensures.items in omega (arith, t, n) in
    let x = item_at i at in
    let row = c.row.ensures (map (row_in k) (items_in i)) (row_in k x) c.requires.table (slice_get-map (row_in k) (items_in i) at ∙ ap (option_map (row_in k)) (item_there i at within)) in
    elim c.match-given_at.branch [
      | in-Some+in_ok-push w ↦ rw w.givens-is (λ names which known is. gift_more k (items_in i) which i (items_in i) at x (items_taken i at within) c.loop-at.givens.items
          (c.loop-at.invariant names which known is) w.in-Some.given _ (rw w.in-Some.is at c.given_at.ensures.at) (rw w.in-Some.is at c.given_at.ensures.gift (items_in i) names which known is row) within refl w.in_ok-push.ensures.items)
      | in_default w ↦ rw w.givens-is (λ names which known is. none_more k (items_in i) which i (items_in i) at x (items_taken i at within) c.loop-at.givens.items
          (c.loop-at.invariant names which known is) (rw w.in_default.is at c.given_at.ensures.gift (items_in i) names which known is row))
    ]

pub returns : goal.returns
returns c = λ names which known is.
    all_gifts c.args.known.now (items_in c.args.instances.now) which c.args.instances.now (items_in c.args.instances.now) c.loop-at.at c.loop-at.givens.items
    (c.loop-at.invariant names which known is) (let t = c.loop-at-test.false in let n = c.len-at-end.ensures.items in omega (arith, t, n))
