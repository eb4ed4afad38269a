-- The booleans of a table: by their names, and by what they are at first.
use Rattle.std.specs.Prelude.{◌↔◌, true, Option, Some, None, Result, Ok, Err, MatchResult, map, slice_get}
use Rattle.std.specs.Option.{option_map}
use Rattle.std.specs.List.{AllByRecursion}
use Rattle.std.specs.List.Sorted.{IsBinarySearchResult, IsSearchInRange, IsStrictlySortedBy}
use Rattle.std.specs.Ordering.{on}
use Rattle.std.specs.declared.cmp.Ordering.{Ordering}
use Rattle.std.specs.declared.cmp.Ordering.TheVariants.{Less}
use Rattle.std.proofs.Common.{◌≡◌, ℕ, ◌+◌, ◌<◌, ◌≤◌, List, [], ◌∷◌, length, refl, sym, ◌∙◌, ap, subst, inl, inr, arith}
use Rattle.std.proofs.lemmas.Bool.{cases_lt}
use Rattle.std.proofs.lemmas.Cmp.{nat_list_cmp_total}
use Rattle.std.proofs.lemmas.Map.Lookups.{exact_bytes}
use Rattle.std.proofs.lemmas.Option.{same_Some, slice_get-map, slice_get_within}
use Rattle.cil_base.specs.Lists.{text_cmp}
use Rattle.cil_base.specs.Places.{none_some}
use Rattle.cil_base.proofs.SearchLemmas.{searched}
use Rattle.cil_tables.specs.conditions.Bits.{IsOn}
use Rattle.cil_tables.specs.declared.tables.Boolean.{Boolean}
use Rattle.cil_tables.specs.Table.{Table, IsOrderly, boolean_names}
use Rattle.cil_decide.specs.Decides.{IsBooleanAt, IsOnAtFirst}

-- ---- by name

module _ {X K : Type 0} (key : X → K) (order : K → K → Ordering) where
  all_keys : (P : K → Type 0) (xs : List X) → AllByRecursion P (map key xs) → AllByRecursion (λ x. P (key x)) xs
  all_keys P [] all = tt
  all_keys P (x ∷ xs) all = (all.0, all_keys P xs all.1)

  -- where keys rise, what has them rises by them
  rising_keys : (xs : List X) → IsStrictlySortedBy order (map key xs) → IsStrictlySortedBy (on key order) xs
  unfolding IsStrictlySortedBy
  rising_keys [] up = tt
  rising_keys (x ∷ xs) up = (all_keys (λ k. order (key x) k ≡ Less) xs up.0, rising_keys xs up.1)

-- the name at a place is that of a boolean
pub at_name : (bs : List Boolean) (n : ℕ) (name : List ℕ) → slice_get (boolean_names bs) n ≡ Some name → (b : Boolean) × (slice_get bs n ≡ Some b) × (b.name ≡ name)
at_name bs n name e = go (slice_get bs n) refl (sym (slice_get-map (λ b. b.name) bs n) ∙ e)
  where
    go : (o : Option Boolean) → slice_get bs n ≡ o → option_map (λ b. b.name) o ≡ Some name → (b : Boolean) × (slice_get bs n ≡ Some b) × (b.name ≡ name)
    go (Some b) is same = (b, is, same_Some _ _ same)
    go None is same = absurd (none_some name same)

name_at : (bs : List Boolean) (n : ℕ) (b : Boolean) (name : List ℕ) → slice_get bs n ≡ Some b → b.name ≡ name → slice_get (boolean_names bs) n ≡ Some name
name_at bs n b name at named = slice_get-map (λ b. b.name) bs n ∙ ap (option_map (λ b. b.name)) at ∙ ap Some named

-- the boolean of a name in a table
pub boolean_searched : (t : Table) (bs : List Boolean) (name : List ℕ) (r : Result ℕ ℕ) → IsOrderly t → bs ≡ t.booleans → IsSearchInRange r (length bs)
    → IsBinarySearchResult (λ x. text_cmp x.name name) bs r → MatchResult r (λ n. IsBooleanAt t n name) (λ _. (n : ℕ) → IsBooleanAt t n name → ⊥)
boolean_searched t bs name r orderly same range result = found_in r range result
  where
    rising : IsStrictlySortedBy (on (λ b. b.name) text_cmp) bs
    rising = rising_keys (λ b. b.name) text_cmp bs (subst (λ z. IsStrictlySortedBy text_cmp (boolean_names z)) (sym same) orderly.booleans)

    found_in : (r : Result ℕ ℕ) → IsSearchInRange r (length bs) → IsBinarySearchResult (λ x. text_cmp x.name name) bs r
        → MatchResult r (λ n. IsBooleanAt t n name) (λ _. (n : ℕ) → IsBooleanAt t n name → ⊥)
    found_in (Ok n) range result =
        let is = searched (λ b. b.name) text_cmp nat_list_cmp_total exact_bytes bs name (Ok n) rising range result in
        subst (λ z. slice_get (boolean_names z) n ≡ Some name) same (name_at bs n is.item name is.at is.has_key)
    found_in (Err n) range result = λ m at.
        let b = at_name bs m name (subst (λ z. slice_get (boolean_names z) m ≡ Some name) (sym same) at) in
        searched (λ b. b.name) text_cmp nat_list_cmp_total exact_bytes bs name (Err n) rising range result m b.0 b.1 b.2

-- a number that was found is one of few
pub few_found : (t : Table) (bs : List Boolean) (n : ℕ) → IsOrderly t → bs ≡ t.booleans → n < length bs → n < 4096
few_found t bs n orderly same within =
    let few = orderly.few_booleans in
    let here = subst (λ z. n < length z) same within in
    omega (arith, few, here)

pub found_within : (r : Result ℕ ℕ) (n count : ℕ) → r ≡ Ok n → IsSearchInRange r count → n < count
found_within r n count is range = subst (λ z. IsSearchInRange z count) is range

-- ---- at first

-- the first booleans, as many, are on where they are so at first, and no other is on
abbrev pub AreOnUpTo : List Boolean → ℕ → List ℕ → Type 0
AreOnUpTo bs count words = (n : ℕ) → IsOn words n ↔ ((n < count) × IsOnAtFirst bs n)

pub none_on_yet : (bs : List Boolean) (words : List ℕ) → ((n : ℕ) → IsOn words n → ⊥) → AreOnUpTo bs 0 words
none_on_yet bs words none n = (λ on. absurd (none n on), λ c. absurd (let l = c.0 in omega (arith, l)))

pub one_more_on : (bs : List Boolean) (i : ℕ) (old new : List ℕ) (b : Boolean) → AreOnUpTo bs i old → slice_get bs i ≡ Some b → (IsOn new i ↔ (b.default ≡ true))
    → ((n : ℕ) → (n ≡ i → ⊥) → IsOn new n ↔ IsOn old n) → AreOnUpTo bs (i + 1) new
one_more_on bs i old new b kept at same others n =
    elim (cases_lt n i) [
      | inl less ↦ let both = others n (λ e. omega (arith, e, less)) in
          (λ on. let r = (kept n).0 (both.0 on) in (omega (arith, less), r.1), λ c. both.1 ((kept n).1 (less, c.1)))
      | inr ge ↦ elim (cases_lt i n) [
        | inl more ↦ let both = others n (λ e. omega (arith, e, more)) in
            (λ on. absurd (let r = ((kept n).0 (both.0 on)).0 in omega (arith, r, more)), λ c. absurd (let l = c.0 in omega (arith, l, more)))
        | inr le ↦ let e : n ≡ i = omega (arith, ge, le) in
            subst (λ m. IsOn new m ↔ ((m < i + 1) × IsOnAtFirst bs m)) (sym e) (
              λ on. (omega arith, record { boolean = b; is_boolean = at; default = same.0 on }),
              λ c. same.1 (subst (λ z. z.default ≡ true) (same_Some _ _ (sym c.1.is_boolean ∙ at)) c.1.default),
            )
      ]
    ]

pub all_on : (bs : List Boolean) (count : ℕ) (words : List ℕ) → AreOnUpTo bs count words → length bs ≤ count → (n : ℕ) → IsOn words n ↔ IsOnAtFirst bs n
all_on bs count words kept over n = (λ on. ((kept n).0 on).1, λ first. (kept n).1 (let within = slice_get_within bs n first.boolean first.is_boolean in omega (arith, within, over), first))
