-- What fits the layout has the sizes that the writer asks for, and a list of constraints in their order fits as a section.
use Rattle.std.proofs.Common.{◌≡◌, ℕ, zero, suc, ◌^◌, ◌<◌, true, List, [], ◌∷◌, length, Some, None, Ok, refl, sym, ap, ◌∙◌, arith, All}
use Rattle.std.specs.List.{AllByRecursion}
use Rattle.std.specs.List.Sorted.{IsStrictlySortedBy}
use Rattle.std.specs.Ordering.{is_lt}
use Rattle.std.specs.declared.cmp.Ordering.TheVariants.{Less}
use Rattle.std.proofs.lemmas.Bool.{le-leb}
use Rattle.cil_format.specs.Fields.{below, set, small}
use Rattle.cil_format.specs.Format.{rise}
use Rattle.cil_format.proofs.Bytes.{IsBytes}
use Rattle.cil_format.proofs.SortedRecords.{is_less, sorted_records}
use Rattle.cil_constraints.specs.declared.mask.Constraint.{Constraint}
use Rattle.cil_constraints.specs.Expressions.{Expression, Negated, Both, Either, Compared, Ranked, Inside, IsExpression, steps_of}
use Rattle.cil_constraints.specs.Order.{constraint_cmp, constraint_total}
use Rattle.cil_constraint_bytes.specs.Layout.{Limits, constraint, constraints, tree, tree_in}
use Rattle.cil_constraint_bytes.specs.Spelled.{HasSmallSet, IsSmall, IsSmallSet}
use Rattle.cil_constraint_bytes.proofs.Exact.{constraints_exact, expression_is}
use Rattle.cil_constraint_bytes.proofs.Lists.{by_place, of_both, weaker}
use Rattle.cil_constraint_bytes.proofs.OrderLemmas.{written, written_order}
use Rattle.cil_constraint_bytes.proofs.SpelledLemmas.{steps_spelled}

abbrev Tree : Type 0
Tree = Expression (List ℕ)

set_small : (limit : ℕ) (xs : List ℕ) → (set limit).Fits xs → IsSmallSet xs
set_small limit xs fits = record {
  few = fits.0.0;
  small = by_place (λ n. n < 2 ^ 16) xs (weaker (small limit).Fits (λ n. n < 2 ^ 16) (λ n fit. fit.0) xs fits.1.0.1);
}

tree_small : (limits : Limits) (levels : ℕ) (e : Tree) → (tree limits levels).Fits e → AllByRecursion HasSmallSet (steps_of e)
unfolding tree
tree_small limits zero e fits = absurd fits
tree_small limits (suc levels) (Negated a) fits = (tt, tree_small limits levels a fits.1.0)
tree_small limits (suc levels) (Both a b) fits =
    (tt, of_both HasSmallSet (steps_of a) (steps_of b) (tree_small limits levels a fits.1.0.0) (tree_small limits levels b fits.1.0.1))
tree_small limits (suc levels) (Either a b) fits =
    (tt, of_both HasSmallSet (steps_of a) (steps_of b) (tree_small limits levels a fits.1.0.0) (tree_small limits levels b fits.1.0.1))
tree_small limits (suc levels) (Compared part equality) fits = (tt, tt)
tree_small limits (suc levels) (Ranked pair relation) fits = (tt, tt)
tree_small limits (suc levels) (Inside part side equality numbers) fits = (set_small _ numbers fits.1.0.1.1, tt)

-- what is known of a constraint that has a layout
pub record IsSized (c : Constraint) : Type 0 where
  pub class : c.class < 2 ^ 16
  pub mask : c.mask < 2 ^ 32
  pub one : IsExpression c.expr
  pub sets : AllByRecursion HasSmallSet c.expr

pub fits_sized : (limits : Limits) (c : Constraint) → (constraint limits).Fits c → IsSized c
fits_sized limits c fits =
    let expr = fits.0.0.1.1 in
    let sets : AllByRecursion HasSmallSet c.expr = rw (← expr.1) (tree_small limits 128 (tree_in c.expr) expr.0) in
    record { class = fits.0.0.0.0; mask = fits.0.0.1.0.0; one = expression_is limits c.expr expr; sets = sets }

-- the writer's sizes
pub fits_small : (limits : Limits) (c : Constraint) → (constraint limits).Fits c → IsSmall c
fits_small limits c fits = let is = fits_sized limits c fits in record { class = is.class; sets = by_place HasSmallSet c.expr is.sets }

-- ---- order

spelled_is : (limits : Limits) (c : Constraint) → IsSized c → (constraint limits).spell c ≡ written c
spelled_is limits c is = rw (steps_spelled limits c.expr is.one) refl

-- the bytes of constraints compare as these do
pub bytes_order : (limits : Limits) (c d : Constraint) → IsSized c → IsSized d
    → below ((constraint limits).spell c) ((constraint limits).spell d) ≡ is_lt (constraint_cmp c d)
bytes_order limits c d is so =
    ap (λ (w : List ℕ). below w ((constraint limits).spell d)) (spelled_is limits c is) ∙ ap (below (written c)) (spelled_is limits d so)
    ∙ ap is_lt (written_order c d is.class so.class is.mask so.mask is.sets so.sets)

rise_behind : (limits : Limits) (c : Constraint) (cs : List Constraint) → IsSized c → AllByRecursion IsSized cs → IsStrictlySortedBy constraint_cmp (c ∷ cs)
    → rise below (constraint limits).spell (Some ((constraint limits).spell c)) cs
unfolding IsStrictlySortedBy
rise_behind limits c [] is all up = tt
rise_behind limits c (d ∷ cs) is all up =
    (bytes_order limits c d is all.0 ∙ ap is_lt up.0.0, rise_behind limits d cs all.0 all.1 up.1)

-- constraints in their order rise by their bytes
pub rises_by_bytes : (limits : Limits) (cs : List Constraint) → AllByRecursion IsSized cs → IsStrictlySortedBy constraint_cmp cs
    → rise below (constraint limits).spell None cs
rises_by_bytes limits [] all up = tt
rises_by_bytes limits (c ∷ cs) all up = (refl, rise_behind limits c cs all.0 all.1 up)

-- fewer than 2^32 constraints that have a layout, in their order, are a section
pub section_fits : (limits : Limits) (cs : List Constraint) → length cs < 2 ^ 32 → AllByRecursion (constraint limits).Fits cs
    → IsStrictlySortedBy constraint_cmp cs → (constraints limits).Fits cs
section_fits limits cs few fit up =
    let rises = rises_by_bytes limits cs (weaker (constraint limits).Fits IsSized (fits_sized limits) cs fit) up in
    ((few, le-leb (length cs) 4294967295 (omega (arith, few))), (refl, fit, rises))

-- and a section that has a layout stands in the order of constraints
below_says : (limits : Limits) (c d : Constraint) → (constraint limits).Fits c → (constraint limits).Fits d
    → below ((constraint limits).spell c) ((constraint limits).spell d) ≡ true → constraint_cmp c d ≡ Less
below_says limits c d fits so up = is_less (constraint_cmp c d) (sym (bytes_order limits c d (fits_sized limits c fits) (fits_sized limits d so)) ∙ up)

pub section_rises : (limits : Limits) (cs : List Constraint) → (constraints limits).Fits cs → IsStrictlySortedBy constraint_cmp cs
section_rises limits cs fits =
    sorted_records below (constraint limits).spell (constraint limits).Fits constraint_cmp constraint_total (below_says limits) cs fits.1.1 fits.1.2

-- so does one that was read
pub section_read : (limits : Limits) (bytes : List ℕ) (cs : List Constraint) (rest : List ℕ) → IsBytes bytes → (constraints limits).read bytes ≡ Ok (cs, rest)
    → IsStrictlySortedBy constraint_cmp cs
section_read limits bytes cs rest is e = section_rises limits cs ((constraints_exact limits).takes bytes cs rest is e).fits

-- the sizes that the writer of a section asks for
pub section_small : (limits : Limits) (cs : List Constraint) → (constraints limits).Fits cs → (length cs < 2 ^ 32) × All IsSmall cs
section_small limits cs fits = (fits.0.0, by_place IsSmall cs (weaker (constraint limits).Fits IsSmall (fits_small limits) cs fits.1.1))
