use Rattle.cil_modset.proofs.InstallLemmas.{offered_modules}
use Rattle.cil_modset.proofs.set.ModuleSet.install.Goals as goal

pub invariant_of-self-2 : goal.invariant_of-self-2
invariant_of-self-2 c = offered_modules c.self.inside.texts c.args.text.now c.add.result c.add.new.self c.self.invariant c.add.ensures
