-- The number of a module is how many modules come before it.
use Rattle.std.proofs.Common.{◌≡◌, ℕ, zero, suc, ◌+◌, ◌<◌, Bool, true, false, cond, List, [], ◌∷◌, length, refl, ◌∙◌, ap, arith}
use Rattle.std.specs.Cmp.Lexicographic.{nat_list_cmp_total}
use Rattle.std.specs.List.{AllByRecursion, count_by}
use Rattle.std.specs.List.Sorted.{IsStrictlySortedBy}
use Rattle.std.specs.Ordering.{is_lt, ordering_reverse}
use Rattle.std.proofs.lemmas.Cmp.{tied_itself}
use Rattle.std.proofs.lemmas.List.Sums.{sum_by-cons}
use Rattle.std.proofs.lemmas.List.Elements.{Contains-get_or}
use Rattle.cil_base.specs.Lists.{text_cmp, all_at}
use Rattle.cil_modset.specs.Laws.{AreNumbered}
use Rattle.cil_modset.specs.Modules.{IsBelow, IsRising, module_of}

-- whether a text comes before this one
abbrev comes_first : List ℕ → List ℕ → Bool
comes_first text other = is_lt (text_cmp other text)

-- a text that comes behind does not come before
behind_not_first : (x y : List ℕ) → IsBelow x y → comes_first x y ≡ false
behind_not_first x y below = ap is_lt (nat_list_cmp_total.antisymm y x ∙ ap ordering_reverse below)

itself_not_first : (x : List ℕ) → comes_first x x ≡ false
itself_not_first x = ap is_lt (tied_itself nat_list_cmp_total x)

-- none of the texts behind a text comes before it
none_first : (x : List ℕ) (xs : List (List ℕ)) → AllByRecursion (λ y. IsBelow x y) xs → count_by (comes_first x) xs ≡ 0
none_first x [] all = refl
none_first x (y ∷ ys) all =
    sum_by-cons (λ t. cond (comes_first x t) 1 0) y ys
    ∙ ap (λ (b : Bool). cond b 1 0 + count_by (comes_first x) ys) (behind_not_first x y all.0)
    ∙ ap (λ (n : ℕ). 0 + n) (none_first x ys all.1)

number_is : (xs : List (List ℕ)) (i : ℕ) → IsRising xs → i < length xs → count_by (comes_first (module_of xs i)) xs ≡ i
unfolding IsStrictlySortedBy
number_is [] i rising within = absurd (omega (arith, within))
number_is (x ∷ xs) zero rising within =
    sum_by-cons (λ t. cond (comes_first x t) 1 0) x xs
    ∙ ap (λ (b : Bool). cond b 1 0 + count_by (comes_first x) xs) (itself_not_first x) ∙ ap (λ (n : ℕ). 0 + n) (none_first x xs rising.0)
number_is (x ∷ xs) (suc i) rising within =
    let less : i < length xs = omega (arith, within) in
    let first : comes_first (module_of xs i) x ≡ true =
    ap is_lt (all_at (λ y. IsBelow x y) xs (module_of xs i) rising.0 (Contains-get_or xs i [] less)) in
    let rest : count_by (comes_first (module_of xs i)) xs ≡ i = number_is xs i rising.1 less in
    sum_by-cons (λ t. cond (comes_first (module_of xs i) t) 1 0) x xs
    ∙ ap (λ (b : Bool). cond b 1 0 + count_by (comes_first (module_of xs i)) xs) first ∙ omega (arith, rest)

pub numbered : AreNumbered
numbered modules i h within = number_is modules i h.rising within
