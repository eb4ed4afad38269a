use Rattle.std.proofs.Common.{subst}
use Rattle.cil_macros.specs.Items.{Kept, items_in}
use Rattle.cil_macros.specs.Rounds.{AreNested}
use Rattle.cil_macros.proofs.RoundLemmas.{all_nested}
use Rattle.cil_macros.proofs.instances.Instances.are_nested.Goals as goal

pub returns : goal.returns
returns c = record { nested = subst (λ (i : Kept). AreNested (items_in i)) c.self.view_is (all_nested c.self.inside.spaces.now c.self.inside.brought c.self.invariant.0) }
