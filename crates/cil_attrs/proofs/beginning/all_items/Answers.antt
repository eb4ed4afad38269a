use Rattle.cil_attrs.proofs.BegunLemmas.{every_item}
use Rattle.cil_attrs.proofs.beginning.all_items.Goals as goal

pub returns-clause-every : goal.returns-clause-every
returns-clause-every c = λ k xs sections which e. every_item k xs sections which c.args.names.now c.in_ok-all.all e c.in_ok-all.ensures
