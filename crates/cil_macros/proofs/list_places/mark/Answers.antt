use Rattle.std.proofs.Common.{◌+◌, ap, arith, length, refl, slice_set, subst, true}
use Rattle.cil_base.specs.Places.{there_as}
use Rattle.cil_macros.specs.ListPlaces.{SaysWrong}
use Rattle.cil_macros.proofs.ListMarkLemmas.{body_below, call_within, next_right, next_without_lists, next_wrong}
use Rattle.cil_macros.proofs.list_places.mark.Goals as goal

pub returns-in_default : goal.returns-in_default
returns-in_default c =
    let s = c.args.scene.now in
    let e = there_as s.brought.now.entries.items c.args.rank c.index-called.result.now c.requires.within c.index-called.ensures in
    let h = body_below s c.args.openings.now c.requires.opened c.args.rank c.index-called.result.now e in
    let many = c.requires.opened.many in
    let gone = c.in_default.ensures.lookup.3 in
    absurd (omega (arith, h, many, gone))

pub returns-then-not-opening : goal.returns-then-not-opening
returns-then-not-opening c =
    let s = c.args.scene.now in
    let e = there_as s.brought.now.entries.items c.args.rank c.index-called.result.now c.requires.within c.index-called.ensures in
    let o = there_as c.args.openings.now c.index-called.result.now.body c.in-Some.opening.now c.in-Some.ensures.lookup.3.0 c.in-Some.ensures.lookup.1 in
    next_without_lists s c.args.openings.now c.requires.opened c.args.rank c.index-called.result.now e c.args.marks.now.items c.args.marks.now.items refl c.in-Some.opening.now o c.if-not-opening.true

pub index-body-requires : goal.index-body-requires
index-body-requires c =
    let s = c.args.scene.now in
    let e = there_as s.brought.now.entries.items c.args.rank c.index-called.result.now c.requires.within c.index-called.ensures in
    let h = body_below s c.args.openings.now c.requires.opened c.args.rank c.index-called.result.now e in
    let l = s.brought.now.bodies.ok.0 in
    omega (arith, h, l)

pub returns-then-not-wrong : goal.returns-then-not-wrong
returns-then-not-wrong c =
    let s = c.args.scene.now in
    let e = there_as s.brought.now.entries.items c.args.rank c.index-called.result.now c.requires.within c.index-called.ensures in
    next_right s c.args.openings.now c.requires.opened c.args.rank c.index-called.result.now e c.args.marks.now.items c.args.marks.now.items refl c.in_ok-wrong.wrong
    (subst (λ n. SaysWrong s (n + c.args.rank) c.in_ok-wrong.wrong) (ap length c.entries.ensures.same) c.in_ok-wrong.ensures) c.if-not-wrong.true

pub index_mut-requires : goal.index_mut-requires
index_mut-requires c =
    let s = c.args.scene.now in
    let e = there_as s.brought.now.entries.items c.args.rank c.index-called.result.now c.requires.within c.index-called.ensures in
    let h = body_below s c.args.openings.now c.requires.opened c.args.rank c.index-called.result.now e in
    let b = there_as s.brought.now.bodies.items c.index-called.result.now.body c.index-body.result.now h c.index-body.ensures in
    let k = call_within s c.args.openings.now c.requires.opened c.args.rank c.index-called.result.now e c.args.marks.now.items c.args.marks.now.items c.index-body.result.now b c.requires.places in
    let l = c.args.marks.now.ok.0 in
    omega (arith, k, l)

pub returns : goal.returns
returns c =
    let s = c.args.scene.now in
    let e = there_as s.brought.now.entries.items c.args.rank c.index-called.result.now c.requires.within c.index-called.ensures in
    let h = body_below s c.args.openings.now c.requires.opened c.args.rank c.index-called.result.now e in
    let b = there_as s.brought.now.bodies.items c.index-called.result.now.body c.index-body.result.now h c.index-body.ensures in
    let new = slice_set c.args.marks.now.items c.index-body.result.now.call true in
    let k = call_within s c.args.openings.now c.requires.opened c.args.rank c.index-called.result.now e c.args.marks.now.items new c.index-body.result.now b c.requires.places in
    next_wrong s c.args.openings.now c.requires.opened c.args.rank c.index-called.result.now e c.args.marks.now.items new c.index-body.result.now b c.in_ok-wrong.wrong
    (subst (λ n. SaysWrong s (n + c.args.rank) c.in_ok-wrong.wrong) (ap length c.entries.ensures.same) c.in_ok-wrong.ensures) c.if-not-wrong.false k refl
