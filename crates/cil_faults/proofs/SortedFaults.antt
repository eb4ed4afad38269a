-- Lists of faults, made by a sort and a removal of repeats.
use Rattle.std.specs.Prelude.{◌≡◌, ◌<◌, ◌⊎◌, List, [], ◌∷◌, ◌++◌, length, Contains}
use Rattle.std.proofs.Common.{sym, subst, arith, inl, inr, length-append}
use Rattle.std.specs.Ordering.{eq_by_cmp}
use Rattle.std.specs.List.Retain.{DiffersFromLast, IsFiltered}
use Rattle.std.specs.List.Sorted.{IsPermutation, IsSorted}
use Rattle.std.proofs.lemmas.List.Filters.{dedup_is}
use Rattle.std.proofs.lemmas.List.Elements.{Contains-append_left, Contains-append_right, Contains-append_cases}
use Rattle.cil_base.specs.Lists.{Lists, contains_here}
use Rattle.cil_faults.specs.declared.fault.Fault.{Fault}
use Rattle.cil_faults.specs.Fails.{AreFaults}
use Rattle.cil_faults.specs.FaultOrder.{fault_cmp, fault_total, one_fault}
use Rattle.cil_base.specs.Sorted.{lists_of, lists_sorted}

-- a list of a set with a member has a member
pub some_listed : (P : Fault → Type 0) (f : Fault) (zs : List Fault) → P f → Lists fault_cmp P zs → 0 < length zs
some_listed P f zs h l = let c = (l.members f).1 h in omega (arith, c.1)

-- what stays of some faults, sorted and without repeats, is their list
pub faults_sorted : (xs ys zs : List Fault) → 0 < length xs → IsPermutation xs ys → IsSorted fault_cmp ys
    → IsFiltered (DiffersFromLast (eq_by_cmp fault_cmp)) [] ys zs → AreFaults (Contains xs) zs
faults_sorted [] ys zs some moved sorted kept = absurd (omega (arith, some))
faults_sorted (x ∷ xs) ys zs some moved sorted kept =
    let listed : Lists fault_cmp (Contains (x ∷ xs)) zs =
    subst (Lists fault_cmp (Contains (x ∷ xs))) (sym (dedup_is (eq_by_cmp fault_cmp) ys zs kept))
    (lists_sorted fault_cmp fault_total one_fault (x ∷ xs) ys moved sorted) in
    record { listed = listed; some = some_listed (Contains (x ∷ xs)) x zs (contains_here x xs) listed }

-- a list of faults is that of its own members
pub own_faults : (P : Fault → Type 0) (zs : List Fault) → AreFaults P zs → AreFaults (Contains zs) zs
own_faults P zs a = record {
  listed = record { rising = a.listed.rising; members = λ f. ((λ c. c), (λ c. c)) };
  some = a.some;
}

-- the list of two lists together is that of both sets
pub faults_joined : (xs ys zs : List Fault) → AreFaults (Contains (xs ++ ys)) zs → AreFaults (λ f. Contains xs f ⊎ Contains ys f) zs
faults_joined xs ys zs a = record {
  listed =
      lists_of fault_cmp (Contains (xs ++ ys)) (λ f. Contains xs f ⊎ Contains ys f) zs (λ f c. Contains-append_cases xs ys f c)
      (λ f h. elim h [ inl c ↦ Contains-append_left xs ys f c | inr c ↦ Contains-append_right xs ys f c ]) a.listed;
  some = a.some;
}

-- two lists together have a member where the first has one
pub some_joined : (xs ys both : List Fault) → AreFaults (Contains xs) xs → both ≡ xs ++ ys → 0 < length both
some_joined xs ys both a e = let some = a.some in rw e (omega (arith, length-append xs ys))
