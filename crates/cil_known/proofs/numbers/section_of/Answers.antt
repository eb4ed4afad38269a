use Rattle.std.proofs.Common.{subst, refl}
use Rattle.std.specs.Prelude.{Contains, List, ℕ}
use Rattle.cil_base.specs.Lists.{Lists, text_cmp}
use Rattle.cil_names.specs.Entries.{is_in}
use Rattle.cil_known.proofs.NumberLemmas.{section_lists}
use Rattle.cil_base.proofs.SortedLists.{sorted_names}
use Rattle.cil_known.proofs.numbers.section_of.Goals as goal

pub returns : goal.returns
returns c =
    section_lists c.args.namespaces.now c.args.entries.now (is_in c.args.enabled.now) c.args.kind c.dedup.new.self.items
    (subst (λ (l : List (List ℕ)). Lists text_cmp (Contains l) c.dedup.new.self.items) c.in_ok-names.ensures
    (sorted_names _ _ _ _ c.sort_unstable.ensures.permutation c.sort_unstable.ensures.sorted c.dedup.ensures.filtered refl))
