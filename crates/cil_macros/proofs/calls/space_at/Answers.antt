use Rattle.std.proofs.Common.{◌∙◌, ap, arith, length, subst, sym}
use Rattle.cil_blocks.specs.Namespaces.{IsNumber}
use Rattle.cil_blocks.specs.Places.{entries_in, spaces_in}
use Rattle.cil_blocks.proofs.EntryLemmas.{standings_length}
use Rattle.cil_macros.specs.Macros.{all_standing}
use Rattle.cil_macros.specs.Placed.{Placed}
use Rattle.cil_macros.specs.Walks.{written_in}
use Rattle.cil_macros.proofs.CallLemmas.{brought_to, stood_at}
use Rattle.cil_macros.proofs.calls.space_at.Goals as goal

pub standing_space-requires-clause-standing : goal.standing_space-requires-clause-standing
standing_space-requires-clause-standing c =
    let h = c.if-at-standing.true in
    let l = ap length c.entries-standing.ensures.same in
    omega (arith, h, l)

pub returns-then-at-standing : goal.returns-then-at-standing
returns-then-at-standing c = λ p e.
    let s = c.args.spaces.now in
    let h = c.if-at-standing.true in
    let l = ap length c.entries-standing.ensures.same in
    let x = stood_at s c.args.brought.now.entries.items c.args.at (omega (arith, h, l)) p e in
    subst (λ (q : Placed). IsNumber (spaces_in s) q.standing.space c.standing_space.result) (sym x.2) (c.standing_space.ensures x.0 x.1)

pub unreachable-requires : goal.unreachable-requires
unreachable-requires c =
    let s = c.args.spaces.now in
    let behind = c.if-at-standing.false in
    let l = ap length c.entries-standing.ensures.same in
    let m = standings_length (written_in s) (entries_in s) in
    let before = c.in_default.ensures.body (written_in s) (all_standing s) (m ∙ sym l) c.requires.brought.bodies in
    omega (arith, behind, before)

pub returns : goal.returns
returns c = λ p e.
    let s = c.args.spaces.now in
    let l = ap length c.entries-standing.ensures.same in
    let m = standings_length (written_in s) (entries_in s) in
    brought_to s c.args.brought.now.entries.items c.args.brought.now.bodies.items c.requires.brought.spaces c.args.at c.in-Some.body.now c.in-Some.ensures.kept
    (c.in-Some.ensures.body (written_in s) (all_standing s) (m ∙ sym l) c.requires.brought.bodies) p e
