use Rattle.std.proofs.Common.{◌∙◌, ◌+◌, ap, arith, false, true}
use Rattle.cil_syntax.specs.Program.{program_of}
use Rattle.cil_blocks.specs.Contents.{same_spot}
use Rattle.cil_blocks.specs.Entries.{standings_of}
use Rattle.cil_blocks.proofs.EntryLemmas.{standings_length}
use Rattle.cil_macros.proofs.ChainLemmas.{came_before, came_here}
use Rattle.cil_macros.proofs.FirstLemmas.{never_came}
use Rattle.cil_macros.proofs.chain.is_repeated.Goals as goal

pub returns-then-is_same_spot : goal.returns-then-is_same_spot
returns-then-is_same_spot c =
    let ws = program_of c.args.statements.now in
    let ss = standings_of ws c.args.entries.now in
    let b = c.in-Some.ensures ws ss (standings_length ws c.args.entries.now) c.requires.bodies in
    c.loop-body.invariant.1 true (came_here ws ss c.args.brought.now.entries.items c.args.called c.loop-body.place c.in-Some.body.now b
    (c.if-is_same_spot.ensures ∙ ap (same_spot c.args.called) (c.spot_of.ensures b.so.opened.macro b.so.is_macro)))

pub loop-body-smaller : goal.loop-body-smaller
loop-body-smaller c =
    let ws = program_of c.args.statements.now in
    let ss = standings_of ws c.args.entries.now in
    (c.in-Some.ensures ws ss (standings_length ws c.args.entries.now) c.requires.bodies).before

pub loop-body-preserved : goal.loop-body-preserved
loop-body-preserved c =
    let ws = program_of c.args.statements.now in
    let ss = standings_of ws c.args.entries.now in
    let b = c.in-Some.ensures ws ss (standings_length ws c.args.entries.now) c.requires.bodies in
    let h = b.before in
    let within = c.loop-body.invariant.0 in (
      omega (arith, h, within),
      λ r so. c.loop-body.invariant.1 r (came_before ws ss c.args.brought.now.entries.items c.args.called c.loop-body.place c.in-Some.body.now b
          (c.if-is_same_spot.ensures ∙ ap (same_spot c.args.called) (c.spot_of.ensures b.so.opened.macro b.so.is_macro)) r so),
    )

pub returns : goal.returns
returns c =
    let ws = program_of c.args.statements.now in
    let ss = standings_of ws c.args.entries.now in
    let cs = c.args.brought.now.entries.items in
    let l = standings_length ws c.args.entries.now in
    let h = c.loop-body.invariant.0 in
    c.loop-body.invariant.1 false
    (never_came ws ss cs c.args.brought.now.bodies.items c.requires.bodies c.requires.firsts.in_turn c.args.called c.first_body-first.result
    (c.first_body-first.ensures ss c.requires.firsts) c.loop-body.place (omega (arith, h, l))
    (λ j d e f. c.in_default.ensures ws ss l c.requires.bodies j d (e ∙ ap (λ n. n + j) l) f))
