use Rattle.std.proofs.Common.{arith}
use Rattle.cil_blocks.proofs.PlaceLemmas.{chosen_more, global_more}
use Rattle.cil_blocks.proofs.places.Places.push_global.Goals as goal

pub invariant_of-self-2 : goal.invariant_of-self-2
invariant_of-self-2 c = chosen_more c.self.inside.kept.items c.self.inside.which c.push.new.self 0 c.self.invariant (omega arith) c.in_ok-push.ensures.pushed

pub returns : goal.returns
returns c = rw (← c.self.view_is) (global_more c.self.inside.kept.items c.self.inside.which c.push.new.self c.in_ok-push.ensures.pushed)
