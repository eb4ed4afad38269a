use Rattle.cil_decide.proofs.ChangeLemmas.{one_bit}
use Rattle.cil_decide.proofs.change.mask_of.Goals as goal

pub returns-in-Some : goal.returns-in-Some
returns-in-Some c = one_bit c.args.permissions.now c.args.name.now c.in-Some.number c.requires.few c.in-Some.ensures.found
