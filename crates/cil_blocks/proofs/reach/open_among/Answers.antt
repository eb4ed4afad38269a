use Rattle.std.proofs.Common.{get_or, refl}
use Rattle.cil_syntax.specs.Program.{program_of}
use Rattle.cil_blocks.specs.Doubled.{only_if}
use Rattle.cil_blocks.specs.Seeds.{IsOpen}
use Rattle.cil_blocks.proofs.Kept.{all_kept, kept_more, only_those}
use Rattle.cil_blocks.proofs.reach.open_among.Goals as goal

pub loop-number-preserved : goal.loop-number-preserved
loop-number-preserved c =
    let number = get_or c.args.numbers.now c.loop-number.number-index 0 in
    kept_more (IsOpen (program_of c.args.statements.now)) c.args.numbers.now c.loop-number.number-index number 0 c.loop-number.found.items (only_if c.is_open.result number) _
    c.loop-number-test.true refl (only_those (IsOpen (program_of c.args.statements.now)) c.is_open.result number c.is_open.ensures.1 c.is_open.ensures.0) c.loop-number.invariant
    c.in_ok-push_if.ensures

pub returns : goal.returns
returns c =
    all_kept (IsOpen (program_of c.args.statements.now)) c.args.numbers.now c.loop-number.number-index c.loop-number.found.items c.loop-number-test.false c.loop-number.invariant
