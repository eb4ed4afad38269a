use Rattle.std.proofs.Common.{rules, ◌≡◌, suc, arith}
use Rattle.cil_base.specs.Places.{there_as}
use Rattle.cil_blocks.proofs.PlaceLemmas.{place_next, place_past, top_of}
use Rattle.cil_blocks.proofs.places.place_at.Goals as goal

pub returns-in_err-before : goal.returns-in_err-before
returns-in_err-before c =
    let none = c.in_err-before.ensures in
    let top = top_of c.args.kept.now c.args.number (omega (arith, none)) in
    search (rules, top)

pub returns-in_err-place : goal.returns-in_err-place
returns-in_err-place c =
    let (positive, is) = c.in_ok-before.ensures in
    let over = c.in_err-place.ensures.lookup.3 in
    let top = place_past c.args.kept.now c.args.number (omega (arith, positive, is, over)) in
    search (rules, top)

pub returns : goal.returns
returns c =
    let (positive, is) = c.in_ok-before.ensures in
    let there = there_as c.args.kept.now c.in_ok-before.before c.in_ok-place.place.now c.in_ok-place.ensures.lookup.3.0 c.in_ok-place.ensures.lookup.1 in
    place_next c.args.kept.now c.in_ok-before.before c.args.number c.in_ok-place.place.now c.requires there
    (let e : c.args.number ≡ suc c.in_ok-before.before = omega (arith, positive, is) in e)
