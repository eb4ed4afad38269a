use Rattle.std.proofs.Common.{◌≡◌, ◌-◌, List, ap, arith, length, subst}
use Rattle.std.specs.Prelude.{Some, slice_get}
use Rattle.cil_base.specs.Places.{there_as}
use Rattle.cil_blocks.specs.Contents.{Standing}
use Rattle.cil_blocks.specs.Entries.{standings_of}
use Rattle.cil_blocks.specs.declared.entry.Entry.{Entry}
use Rattle.cil_macros.specs.Nearest.{IsOpenedBy}
use Rattle.cil_macros.specs.Walks.{written_in}
use Rattle.cil_macros.proofs.NestingLemmas.{brought_inside, stands_opened}
use Rattle.cil_macros.proofs.nesting.opener_at.Goals as goal

pub returns-then-at-entries : goal.returns-then-at-entries
returns-then-at-entries c =
    let s = c.args.spaces.now in
    let h = c.if-at-entries.true in
    let l = ap length c.entries-entries.ensures.same in
    stands_opened s c.args.brought.now.entries.items c.args.at (omega (arith, h, l)) c.opener_of.result c.opener_of.ensures.lower
    (subst (λ (es : List Entry). (m : Standing) → slice_get (standings_of (written_in s) es) c.args.at ≡ Some m → IsOpenedBy (written_in s) (standings_of (written_in s) es) m c.opener_of.result)
    c.entries-entries.ensures.same (c.opener_of.ensures.opened (written_in s)))

pub returns : goal.returns
returns c =
    let s = c.args.spaces.now in
    let cs = c.args.brought.now.entries.items in
    let h = c.if-at-entries.false in
    let l = ap length c.entries-entries.ensures.same in
    let within = c.requires.within in
    let d = c.index-called.result.now in
    let j = c.args.at - length c.entries-entries.result.now in
    brought_inside s cs c.args.brought.now.bodies.items c.requires.brought.bodies c.args.at j d (omega (arith, h, l)) (there_as cs j d (omega (arith, h, l, within)) c.index-called.ensures)
