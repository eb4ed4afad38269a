use Rattle.std.proofs.Common.{◌∙◌}
use Rattle.cil_index.proofs.SetLemmas.{key_empty, key_one, key_several}
use Rattle.cil_index.proofs.sets.Sets.key.Goals as goal

pub returns-then-set-eq0 : goal.returns-then-set-eq0
returns-then-set-eq0 c = key_empty _ _ _ c.self.view_is c.args.other c.args.set c.if-set-eq0.true

pub returns-then-set-ones : goal.returns-then-set-ones
returns-then-set-ones c = key_several _ _ _ c.self.view_is c.args.other c.args.set c.if-set-ones.true c.self.invariant.0

pub returns : goal.returns
returns c = c.type_key.ensures ∙ key_one _ _ _ c.self.view_is c.args.other c.args.set c.if-set-eq0.false c.if-set-ones.false
