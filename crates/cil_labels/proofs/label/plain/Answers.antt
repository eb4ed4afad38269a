use Rattle.cil_mls.proofs.PartLemmas.{not_parted}
use Rattle.cil_labels.proofs.label.plain.Goals as goal

pub returns-in-Some : goal.returns-in-Some
returns-in-Some c = λ w. not_parted 58 c.args.text.now _ _ w c.in-Some.ensures
