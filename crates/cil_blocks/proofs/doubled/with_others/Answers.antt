use Rattle.std.proofs.Common.{get_or, refl}
use Rattle.cil_blocks.specs.Doubled.{only_if}
use Rattle.cil_blocks.specs.WrittenSpaces.{numbered_name}
use Rattle.cil_blocks.proofs.DoubledLemmas.{HasMatch, are_matched, matched_so}
use Rattle.cil_blocks.proofs.Kept.{all_kept, kept_more, only_those}
use Rattle.cil_blocks.proofs.doubled.with_others.Goals as goal

pub loop-number-preserved : goal.loop-number-preserved
loop-number-preserved c =
    let key = numbered_name c.args.statements.now c.args.spaces.now.numbers in
    let number = get_or c.args.named.now c.loop-number.number-index 0 in
    let so = matched_so key c.args.named.now number c.written_alike-alike.result.now c.has_other.result c.written_alike-alike.ensures c.has_other.ensures in
    kept_more (HasMatch key c.args.named.now) c.args.named.now c.loop-number.number-index number 0 c.loop-number.found.items (only_if c.has_other.result number) _
    c.loop-number-test.true refl (only_those (HasMatch key c.args.named.now) c.has_other.result number so.0 so.1) c.loop-number.invariant c.in_ok-push_if.ensures

pub returns : goal.returns
returns c =
    let key = numbered_name c.args.statements.now c.args.spaces.now.numbers in
    are_matched key c.args.named.now c.args.named.now c.loop-number.found.items
    (all_kept (HasMatch key c.args.named.now) c.args.named.now c.loop-number.number-index c.loop-number.found.items c.loop-number-test.false c.loop-number.invariant)
