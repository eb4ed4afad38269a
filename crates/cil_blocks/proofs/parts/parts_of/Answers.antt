use Rattle.std.proofs.Common.{arith, length, refl, sym, ◌∙◌, ap}
use Rattle.std.specs.Prelude.{Some}
use Rattle.cil_syntax.specs.Program.{program_of}
use Rattle.cil_base.specs.Places.{is_there}
use Rattle.cil_blocks.proofs.PartLemmas.{all_parts, part_added, within_so}
use Rattle.cil_blocks.proofs.ProgramLemmas.{program_length}
use Rattle.cil_blocks.proofs.parts.parts_of.Goals as goal

pub add-requires : goal.add-requires
add-requires c =
    let h = c.loop-i-test.true in
    within_so c.args.statements.now c.requires c.loop-i.i (length c.loop-i.parts.inside.items) c.index-statements-i.result c.index-statements-i.result.under
    (is_there c.args.statements.now c.loop-i.i c.index-statements-i.result (omega (arith, h)) ∙ ap Some (sym c.index-statements-i.is)) refl c.loop-i.invariant.counted

pub loop-i-preserved : goal.loop-i-preserved
loop-i-preserved c =
    let h = c.loop-i-test.true in
    part_added c.args.statements.now c.requires c.loop-i.i c.index-statements-i.result c.loop-i.parts _
    (is_there c.args.statements.now c.loop-i.i c.index-statements-i.result (omega (arith, h)) ∙ ap Some (sym c.index-statements-i.is)) c.loop-i.invariant c.in_ok-add.ensures.tops c.in_ok-add.ensures.inside c.in_ok-add.ensures.length

pub returns : goal.returns
returns c =
    let l = program_length c.args.statements.now in
    let h = c.loop-i-test.false in
    let e = c.loop-i.auto.i-end in
    all_parts (program_of c.args.statements.now) c.loop-i.i c.loop-i.parts (omega (arith, l, h, e)) c.loop-i.invariant
