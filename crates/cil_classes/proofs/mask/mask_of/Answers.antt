use Rattle.std.proofs.Common.{arith}
use Rattle.cil_classes.proofs.MaskLemmas.{plain_mask}
use Rattle.cil_classes.proofs.mask.mask_of.Goals as goal

pub returns-in-Some : goal.returns-in-Some
returns-in-Some c = λ f m permissions rising len are.
    let few = c.requires in
    plain_mask f m permissions rising c.args.term.now c.args.words.now c.in-Some.plain.now c.bits_of.result (omega arith) are (c.in-Some.ensures m) c.bits_of.ensures
