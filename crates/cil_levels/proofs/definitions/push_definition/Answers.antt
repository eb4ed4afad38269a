use Rattle.cil_levels.proofs.DefinedLemmas.{no_definition, one_definition}
use Rattle.cil_levels.proofs.definitions.push_definition.Goals as goal

pub returns-in_default : goal.returns-in_default
returns-in_default c = λ are. no_definition c.args.known.now c.args.instances.now c.args.at c.args.all.now.items c.in_default.ensures are

pub returns : goal.returns
returns c = λ are. one_definition c.args.known.now c.args.instances.now c.args.at c.in-Some.set c.args.all.now.items _ c.in_ok-push.ensures.items c.in-Some.ensures are
