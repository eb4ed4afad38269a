use Rattle.cil_syntax.proofs.ClashLemmas.{set_named}
use Rattle.cil_syntax.proofs.clashes.parameter_set.Goals as goal

pub returns : goal.returns
returns c = set_named c.args.terms.now c.in_ok-parameters.parameters.items c.as_slice.result.now c.set_of.result c.as_slice.ensures.value c.in_ok-parameters.ensures c.set_of.ensures
