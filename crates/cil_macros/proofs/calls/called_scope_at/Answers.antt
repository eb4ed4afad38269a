use Rattle.std.proofs.Common.{◌∙◌, ap, arith, length, sym}
use Rattle.cil_blocks.specs.Places.{entries_in}
use Rattle.cil_blocks.proofs.EntryLemmas.{standings_length}
use Rattle.cil_macros.specs.Macros.{all_standing}
use Rattle.cil_macros.specs.Walks.{written_in}
use Rattle.cil_macros.proofs.ScopeLemmas.{added_left, begun_left, left_closed}
use Rattle.cil_macros.proofs.calls.called_scope_at.Goals as goal

pub loop-body-init : goal.loop-body-init
loop-body-init c =
    begun_left c.args.spaces.now c.requires.standings c.requires.namespaces c.args.brought.now.entries.items c.args.at c.clear.new.self c.clear.ensures
    c.requires.within

pub loop-body-smaller : goal.loop-body-smaller
loop-body-smaller c =
    let s = c.args.spaces.now in
    let l = ap length c.entries-standing.ensures.same in
    let m = standings_length (written_in s) (entries_in s) in
    let before = (c.in-Some.ensures.body (written_in s) (all_standing s) (m ∙ sym l) c.requires.brought.bodies).before in
    let near = c.scope_place-place.ensures.near in
    omega (arith, before, near)

pub scope_place-place-requires-clause-within : goal.scope_place-place-requires-clause-within
scope_place-place-requires-clause-within c =
    let s = c.args.spaces.now in
    let l = ap length c.entries-standing.ensures.same in
    let m = standings_length (written_in s) (entries_in s) in
    let before = (c.in-Some.ensures.body (written_in s) (all_standing s) (m ∙ sym l) c.requires.brought.bodies).before in
    let within = c.loop-body.invariant.within in
    omega (arith, before, within)

pub loop-body-preserved : goal.loop-body-preserved
loop-body-preserved c =
    let s = c.args.spaces.now in
    let l = ap length c.entries-standing.ensures.same in
    let m = standings_length (written_in s) (entries_in s) in
    added_left s c.requires.standings c.requires.namespaces c.args.brought.now.entries.items c.args.at c.loop-body.place c.in-Some.body.now
    (c.in-Some.ensures.body (written_in s) (all_standing s) (m ∙ sym l) c.requires.brought.bodies) c.loop-body.scope c.add_scope.new.scope c.in_ok-add_scope.ensures
    c.scope_place-place.result c.scope_place-place.ensures c.loop-body.invariant

pub returns : goal.returns
returns c =
    let s = c.args.spaces.now in
    let l = ap length c.entries-standing.ensures.same in
    let m = standings_length (written_in s) (entries_in s) in
    let h = c.in_default.ensures.body (written_in s) (all_standing s) (m ∙ sym l) c.requires.brought.bodies in
    left_closed s c.requires.standings c.requires.namespaces c.args.brought.now.entries.items c.args.at c.loop-body.place c.loop-body.scope c.add_scope-2.new.scope
    c.close.new.self c.requires.behind (omega (arith, h, l)) c.loop-body.invariant c.in_ok-add_scope-2.ensures c.in_ok-close.ensures
