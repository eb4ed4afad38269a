use Rattle.std.proofs.Common.{rules}
use Rattle.cil_macros.proofs.PlacedLemmas.{items_many}
use Rattle.cil_macros.proofs.instances.Instances.len.Goals as goal

pub returns-clause-items : goal.returns-clause-items
returns-clause-items c = rw (← c.self.view_is) (rw (items_many (c.self.inside.spaces.now, c.self.inside.brought.entries.items)) (search rules))
