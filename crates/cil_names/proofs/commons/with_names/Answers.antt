use Rattle.std.proofs.Common.{refl, subst}
use Rattle.std.specs.Prelude.{Contains, List, ℕ}
use Rattle.cil_base.specs.Lists.{Lists, text_cmp}
use Rattle.cil_base.proofs.SortedLists.{sorted_names}
use Rattle.cil_names.proofs.commons.with_names.Goals as goal

pub returns : goal.returns
returns c =
    subst (λ (l : List (List ℕ)). Lists text_cmp (Contains l) c.dedup.new.self.items) c.in_ok-push_copies.ensures
    (sorted_names _ _ _ _ c.sort_unstable.ensures.permutation c.sort_unstable.ensures.sorted c.dedup.ensures.filtered refl)
