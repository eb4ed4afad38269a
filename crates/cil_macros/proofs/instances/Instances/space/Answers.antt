use Rattle.std.proofs.Common.{arith}
use Rattle.cil_macros.specs.Items.{placed_at}
use Rattle.cil_macros.proofs.PlacedLemmas.{global_number, placed_so}
use Rattle.cil_macros.proofs.instances.Instances.space.Goals as goal

pub returns-then-at-len : goal.returns-then-at-len
returns-then-at-len c =
    let h = c.if-at-len.true in
    let l = c.len.ensures.places in
    global_number c.args.self.now c.args.at (omega (arith, h, l))

pub space_at-requires-clause-standings : goal.space_at-requires-clause-standings
space_at-requires-clause-standings c = c.self.invariant.0.standings

pub space_at-requires-clause-brought : goal.space_at-requires-clause-brought
space_at-requires-clause-brought c = c.self.invariant.0.brought

pub space_at-requires-clause-within : goal.space_at-requires-clause-within
space_at-requires-clause-within c =
    let h = c.if-at-len.false in
    let l = rw (← c.self.view_is) at c.len.ensures.places in
    omega (arith, h, l)

pub returns : goal.returns
returns c =
    let h = c.if-at-len.false in
    let l = c.len.ensures.places in
    let placed = placed_so c.args.self.now c.args.at (omega (arith, h, l)) in
    rw (← c.self.view_is) (c.space_at.ensures (placed_at (c.self.inside.spaces.now, c.self.inside.brought.entries.items) c.args.at) (rw (← c.self.view_is) at placed))
