-- Lists of sets, made by a sort and a removal of repeats.
use Rattle.std.proofs.Common.{◌≡◌, ℕ, List, [], subst, sym}
use Rattle.std.specs.Prelude.{Contains}
use Rattle.std.specs.declared.cmp.Ordering.{Ordering}
use Rattle.std.specs.declared.cmp.Ordering.TheVariants.{Equal}
use Rattle.std.specs.Cmp.{IsTotalOrder}
use Rattle.std.specs.List.Retain.{DiffersFromLast, IsFiltered}
use Rattle.std.specs.List.Sorted.{IsPermutation, IsSorted}
use Rattle.std.specs.Ordering.{eq_by_cmp}
use Rattle.std.proofs.lemmas.Cmp.{nat_list_cmp_total}
use Rattle.std.proofs.lemmas.List.Filters.{dedup_is}
use Rattle.std.proofs.lemmas.Map.Lookups.{exact_bytes}
use Rattle.cil_base.specs.Lists.{Lists, text_cmp}
use Rattle.cil_base.specs.Sorted.{lists_sorted}

-- what stays of some items, sorted and without repeats, is their list
pub sorted_list : {X : Type 0} (order : X → X → Ordering) → IsTotalOrder order → ((a b : X) → order a b ≡ Equal → a ≡ b) → (xs ys zs : List X)
    → IsPermutation xs ys → IsSorted order ys → IsFiltered (DiffersFromLast (eq_by_cmp order)) [] ys zs → Lists order (Contains xs) zs
sorted_list order total exact xs ys zs moved sorted kept =
    subst (Lists order (Contains xs)) (sym (dedup_is (eq_by_cmp order) ys zs kept)) (lists_sorted order total exact xs ys moved sorted)

pub sorted_names : (xs ys zs ws : List (List ℕ)) → IsPermutation xs ys → IsSorted text_cmp ys → IsFiltered (DiffersFromLast (eq_by_cmp text_cmp)) [] ys zs → ws ≡ zs
    → Lists text_cmp (Contains xs) ws
sorted_names xs ys zs ws moved sorted kept same =
    subst (Lists text_cmp (Contains xs)) (sym same) (sorted_list text_cmp nat_list_cmp_total exact_bytes xs ys zs moved sorted kept)
