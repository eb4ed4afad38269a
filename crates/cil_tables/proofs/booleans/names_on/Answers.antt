use Rattle.std.proofs.Common.{refl}
use Rattle.std.specs.Prelude.{Contains}
use Rattle.cil_base.specs.Sorted.{lists_of}
use Rattle.cil_base.specs.Lists.{text_cmp}
use Rattle.cil_base.proofs.SortedLists.{sorted_names}
use Rattle.cil_tables.proofs.booleans.names_on.Goals as goal

pub returns : goal.returns
returns c =
    lists_of text_cmp (Contains c.in_ok-on.on.items) _ c.dedup.new.self.items (λ name. (c.in_ok-on.ensures name).0) (λ name. (c.in_ok-on.ensures name).1)
    (sorted_names _ _ _ _ c.sort_unstable.ensures.permutation c.sort_unstable.ensures.sorted c.dedup.ensures.filtered refl)
