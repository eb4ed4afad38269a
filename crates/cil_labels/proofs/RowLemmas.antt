-- Rows of names, as they are gathered and put in order.
use Rattle.std.specs.Prelude.{◌↔◌, ◌⊎◌, Contains, IsTrue, Some, slice_get}
use Rattle.std.specs.declared.cmp.Ordering.TheVariants.{Equal}
use Rattle.std.specs.Cmp.{IsStrictWeakOrder, IsTotalOrder}
use Rattle.std.specs.List.{dedup}
use Rattle.std.specs.List.Sorted.{IsPermutation, IsSorted}
use Rattle.std.specs.Ordering.{eq_by_cmp, is_lt}
use Rattle.std.proofs.Common.{◌≡◌, ℕ, ◌+◌, ◌<◌, Bool, true, false, List, [], ◌∷◌, ◌++◌, length, refl, sym, ◌∙◌, ap, subst, inl, inr, arith}
use Rattle.std.proofs.lemmas.Cmp.{nat_cmp_total, nat_list_cmp_total, on_total, then_total}
use Rattle.std.proofs.lemmas.List.Elements.{Contains-append_cases, Contains-append_left, Contains-append_right}
use Rattle.std.proofs.lemmas.List.MinMax.{ranks_by}
use Rattle.std.proofs.lemmas.Map.Lookups.{exact_bytes}
use Rattle.cil_base.specs.Lists.{Lists, contains_cases, contains_here, contains_none}
use Rattle.cil_base.specs.Paths.{both_equal, same_by}
use Rattle.cil_base.specs.Places.{get_at, get_contains, in_range, some_same}
use Rattle.cil_base.specs.Sorted.{lists_of, lists_sorted}
use Rattle.cil_mls.specs.declared.named.Named.{Named}
use Rattle.cil_mls.specs.Names.{name_of}
use Rattle.cil_labels.specs.LevelTable.{IsWritable}
use Rattle.cil_labels.specs.Rows.{Gains, IsAliasRow, IsBelow, IsNameRow, IsRow, IsRowOf, row_cmp}

-- ---- their order

pub row_total : IsTotalOrder row_cmp
row_total = then_total (on_total name_of nat_list_cmp_total) (on_total (λ r. r.place) nat_cmp_total)

pub same_row : (a b : Named) → a.name ≡ b.name → a.place ≡ b.place → a ≡ b
same_row a b p q = λ i. record { name = p i; place = q i }

one_row : (a b : Named) → row_cmp a b ≡ Equal → a ≡ b
one_row a b e = let both = both_equal _ _ e in same_row a b (exact_bytes _ _ both.0) (same_by _ _ both.1)

pub weak : IsStrictWeakOrder (λ x y. is_lt (row_cmp x y))
weak = ranks_by row_total (λ r. r)

pub rows_listed : (xs ys zs : List Named) → IsPermutation xs ys → IsSorted row_cmp ys → zs ≡ dedup (eq_by_cmp row_cmp) ys → Lists row_cmp (Contains xs) zs
rows_listed xs ys zs moved sorted kept = subst (Lists row_cmp (Contains xs)) (sym kept) (lists_sorted row_cmp row_total one_row xs ys moved sorted)

-- ---- one more

-- a name that cannot be written gives no row
pub none_gained : (text : List ℕ) (n : ℕ) (rows : List Named) (can : Bool) → IsTrue can ↔ IsWritable text → can ≡ false → Gains (IsRowOf text n) rows rows
none_gained text n rows can says refused r = (
  λ c. inl c,
  λ h. elim h [ inl c ↦ c | inr is ↦ absurd (let e = says.1 (subst IsWritable is.named is.writable) in let f : false ≡ true = sym refused ∙ e in cc) ],
)

pub one_gained : (text name : List ℕ) (n : ℕ) (old new : List Named) → IsWritable text → name ≡ text → new ≡ old ++ record { name = name; place = n } ∷ [] → Gains (IsRowOf text n) old new
one_gained text name n old new can same pushed r = (
  λ c. elim (Contains-append_cases old (row ∷ []) r (subst (λ rs. Contains rs r) pushed c)) [
    | inl o ↦ inl o
    | inr one ↦ elim (contains_cases r row [] one) [
      | inl e ↦ inr (record { writable = subst IsWritable (sym same ∙ ap name_of e) can; named = sym (ap name_of e) ∙ same; placed = sym (ap (λ (x : Named). x.place) e) })
      | inr none ↦ absurd (contains_none r none)
    ]
  ],
  λ h. subst (λ rs. Contains rs r) (sym pushed) (elim h [
    | inl o ↦ Contains-append_left old (row ∷ []) r o
    | inr of ↦ Contains-append_right old (row ∷ []) r (subst (Contains (row ∷ [])) (sym (same_row r row (of.named ∙ sym same) of.placed)) (contains_here row []))
  ]),
)
  where
    row : Named
    row = record { name = name; place = n }

-- ---- one number after another

module _ (At : ℕ → Named → Type 0) where
  pub none_below : (rows : List Named) → Gains (IsBelow At 0) rows rows
  none_below rows r = (λ c. inl c, λ h. elim h [ inl c ↦ c | inr is ↦ absurd (let l = is.1 in omega (arith, l)) ])

  more_below : (i : ℕ) (old new more : List Named) → Gains (IsBelow At i) old new → Gains (At i) new more → Gains (IsBelow At (i + 1)) old more
  more_below i old new more so one r = (
    λ c. elim ((one r).0 c) [
      | inl n ↦ elim ((so r).0 n) [
        | inl o ↦ inl o
        | inr b ↦ let l = b.1 in inr (b.0, omega (arith, l), b.2)
      ]
      | inr a ↦ inr (i, omega arith, a)
    ],
    λ h. (one r).1 (elim h [
      | inl o ↦ inl ((so r).1 (inl o))
      | inr b ↦ elim (below_or_at b.0 i b.1) [
        | inl l ↦ inl ((so r).1 (inr (b.0, l, b.2)))
        | inr e ↦ inr (subst (λ k. At k r) e b.2)
      ]
    ]),
  )
    where
      below_or_at : (k n : ℕ) → k < n + 1 → (k < n) ⊎ (k ≡ n)
      below_or_at k n l = grind arith

gains_as : (P Q : Named → Type 0) (old new : List Named) → ((r : Named) → P r ↔ Q r) → Gains P old new → Gains Q old new
gains_as P Q old new same gains r = (
  λ c. elim ((gains r).0 c) [ inl o ↦ inl o | inr p ↦ inr ((same r).0 p) ],
  λ h. (gains r).1 (elim h [ inl o ↦ inl o | inr q ↦ inr ((same r).1 q) ]),
)

pub name_more : (names : List (List ℕ)) (i : ℕ) (name text : List ℕ) (old new more : List Named) → slice_get names i ≡ Some name → text ≡ name
    → Gains (IsBelow (IsNameRow names) i) old new → Gains (IsRowOf text i) new more → Gains (IsBelow (IsNameRow names) (i + 1)) old more
name_more names i name text old new more at same so one = more_below (IsNameRow names) i old new more so (gains_as (IsRowOf text i) (IsNameRow names i) new more (λ r. (
  λ is. record { writable = is.writable; at = at ∙ ap Some (sym (is.named ∙ same)); placed = is.placed },
  λ is. record { writable = is.writable; named = some_same r.name name (sym is.at ∙ at) ∙ sym same; placed = is.placed },
)) one)

pub alias_more : (aliases : List Named) (i : ℕ) (alias : Named) (text : List ℕ) (old new more : List Named) → slice_get aliases i ≡ Some alias → text ≡ alias.name
    → Gains (IsBelow (IsAliasRow aliases) i) old new → Gains (IsRowOf text alias.place) new more → Gains (IsBelow (IsAliasRow aliases) (i + 1)) old more
alias_more aliases i alias text old new more at same so one =
    more_below (IsAliasRow aliases) i old new more so (gains_as (IsRowOf text alias.place) (IsAliasRow aliases i) new more (λ r. (
      λ is. record { writable = is.writable; at = at ∙ ap Some (sym (same_row r alias (is.named ∙ same) is.placed)) },
      λ is. let e = some_same r alias (sym is.at ∙ at) in record { writable = is.writable; named = ap name_of e ∙ sym same; placed = ap (λ (x : Named). x.place) e },
    )) one)

-- ---- all of them

-- all numbers are below the length
pub all_below : (At : ℕ → Named → Type 0) (n end : ℕ) (old new : List Named) → n ≡ end → Gains (IsBelow At n) old new → Gains (IsBelow At end) old new
all_below At n end old new same = subst (λ k. Gains (IsBelow At k) old new) same

pub all_rows : (names : List (List ℕ)) (aliases start some all : List Named) → start ≡ [] → Gains (IsBelow (IsNameRow names) (length names)) start some
    → Gains (IsBelow (IsAliasRow aliases) (length aliases)) some all → (zs : List Named) → Lists row_cmp (Contains all) zs → Lists row_cmp (IsRow names aliases) zs
all_rows names aliases start some all empty first second zs = lists_of row_cmp (Contains all) (IsRow names aliases) zs there back
  where
    there : (r : Named) → Contains all r → IsRow names aliases r
    there r c = elim ((second r).0 c) [
      | inl s ↦ elim ((first r).0 s) [
        | inl none ↦ absurd (contains_none r (subst (λ rs. Contains rs r) empty none))
        | inr b ↦ let is = b.2 in record { writable = is.writable; named = inl (subst (λ k. slice_get names k ≡ Some r.name) (sym is.placed) is.at) }
      ]
      | inr b ↦ let is = b.2 in record { writable = is.writable; named = inr (get_contains aliases b.0 r is.at) }
    ]

    back : (r : Named) → IsRow names aliases r → Contains all r
    back r is = (second r).1 (elim is.named [
      | inl at ↦ inl ((first r).1 (inr (r.place, in_range names r.place r.name at, record { writable = is.writable; at = at; placed = refl })))
      | inr c ↦ let g = get_at aliases r c in inr (g.0, g.1, record { writable = is.writable; at = g.2 })
    ])
