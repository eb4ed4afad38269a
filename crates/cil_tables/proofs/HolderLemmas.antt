-- The pairs of rows, one pair at a time, and in their order.
use Rattle.std.specs.Prelude.{◌⊎◌, ◌↔◌, Bool, IsTrue, Contains, map}
use Rattle.std.specs.Ordering.{nat_cmp}
use Rattle.std.specs.List.{AllByRecursion}
use Rattle.std.specs.List.Sorted.{IsStrictlySortedBy}
use Rattle.std.specs.declared.cmp.Ordering.{Ordering}
use Rattle.std.specs.declared.cmp.Ordering.TheVariants.{Less}
use Rattle.std.proofs.Common.{◌≡◌, ℕ, zero, suc, ◌+◌, ◌<◌, List, [], ◌∷◌, ◌++◌, length, get_or, set, refl, sym, ◌∙◌, ap, subst, inl, inr, arith}
use Rattle.std.proofs.lemmas.List.Elements.{Contains-append_left, Contains-append_right, Contains-append_cases}
use Rattle.std.specs.Ordering.{ordering_then}
use Rattle.std.proofs.lemmas.Bool.{cases_eq}
use Rattle.std.proofs.lemmas.Cmp.{nat_cmp_total}
use Rattle.std.proofs.lemmas.List.{get_or-set_same, get_or-set_other}
use Rattle.cil_base.specs.Paths.{its_own, less_from}
use Rattle.cil_base.specs.Lists.{Lists, all_at, contains_cases, contains_here, contains_later, contains_none}
use Rattle.cil_base.specs.MadeLists.{contains_map, from_map}
use Rattle.cil_tables.specs.declared.tables.Link.{Link}
use Rattle.cil_tables.specs.Holders.{AreRising, link_to, links_from}
use Rattle.cil_tables.specs.Table.{link_cmp, same_ends}

-- ---- one pair

there : (n : ℕ) (rows : List (List ℕ)) (h t : ℕ) → Contains (links_from n rows) (link_to h t) → (k : ℕ) × (h ≡ n + k) × Contains (get_or rows k []) t
unfolding links_from
there n [] h t c = absurd (contains_none (link_to h t) c)
there n (row ∷ rows) h t c = elim (Contains-append_cases (map (link_to n) row) (links_from (suc n) rows) (link_to h t) c) [
  | inl d ↦ let m = from_map (link_to n) row (link_to h t) d in
      let e : n ≡ h = ap (λ (l : Link). l.holder) m.2 in
      (0, omega (arith, e), subst (Contains row) (ap (λ (l : Link). l.held) m.2) m.1)
  | inr d ↦ let r = there (suc n) rows h t d in let e = r.1 in (suc r.0, omega (arith, e), r.2)
]

back : (n : ℕ) (rows : List (List ℕ)) (k t : ℕ) → Contains (get_or rows k []) t → Contains (links_from n rows) (link_to (n + k) t)
unfolding links_from
back n [] k t c = absurd (contains_none t c)
back n (row ∷ rows) zero t c =
    let same : n + 0 ≡ n = omega arith in
    subst (λ h. Contains (map (link_to n) row ++ links_from (suc n) rows) (link_to h t)) (sym same)
    (Contains-append_left (map (link_to n) row) (links_from (suc n) rows) (link_to n t) (contains_map (link_to n) row t c))
back n (row ∷ rows) (suc k) t c =
    let same : suc n + k ≡ n + suc k = omega arith in
    Contains-append_right (map (link_to n) row) (links_from (suc n) rows) (link_to (n + suc k) t)
    (subst (λ h. Contains (links_from (suc n) rows) (link_to h t)) same (back (suc n) rows k t c))

-- a pair is there where it is in the row of its holder
pub pair_there : (rows : List (List ℕ)) (h t : ℕ) → Contains (links_from 0 rows) (link_to h t) ↔ Contains (get_or rows h []) t
pair_there rows h t = (
  λ c. let r = there 0 rows h t c in subst (λ k. Contains (get_or rows k []) t) (let e = r.1 in omega (arith, e)) r.2,
  λ c. let same : 0 + h ≡ h = omega arith in subst (λ k. Contains (links_from 0 rows) (link_to k t)) same (back 0 rows h t c),
)

-- ---- the order

-- all of one list, and then all of another that comes behind
module _ {X : Type 0} (order : X → X → Ordering) where
  all_of : (P : X → Type 0) (xs : List X) → ((x : X) → Contains xs x → P x) → AllByRecursion P xs
  all_of P [] f = tt
  all_of P (x ∷ xs) f = (f x (contains_here x xs), all_of P xs (λ y c. f y (contains_later y x xs c)))

  appended : (xs ys : List X) → IsStrictlySortedBy order xs → IsStrictlySortedBy order ys → ((x y : X) → Contains xs x → Contains ys y → order x y ≡ Less)
      → IsStrictlySortedBy order (xs ++ ys)
  unfolding IsStrictlySortedBy
  appended [] ys up down below = down
  appended (x ∷ xs) ys up down below = (
    all_of (λ z. order x z ≡ Less) (xs ++ ys) (λ z c. elim (Contains-append_cases xs ys z c) [
      | inl d ↦ all_at (λ w. order x w ≡ Less) xs z up.0 d
      | inr d ↦ below x z (contains_here x xs) d
    ]),
    appended xs ys up.1 down (λ a b c d. below a b (contains_later a x xs c) d),
  )

-- two pairs by their holders, or by what one holder has
by_holder : (x y : Link) → x.holder < y.holder → link_cmp x y ≡ Less
by_holder x y l = ap (λ o. ordering_then o (nat_cmp x.held y.held)) (less_from x.holder y.holder l)

by_held : (n a b : ℕ) → nat_cmp a b ≡ Less → link_cmp (link_to n a) (link_to n b) ≡ Less
by_held n a b l = ap (λ o. ordering_then o (nat_cmp a b)) (its_own (nat_cmp n n) (nat_cmp_total.antisymm n n)) ∙ l

row_rises : (n : ℕ) (row : List ℕ) → IsStrictlySortedBy nat_cmp row → IsStrictlySortedBy link_cmp (map (link_to n) row)
unfolding IsStrictlySortedBy
row_rises n [] up = tt
row_rises n (t ∷ row) up = (
  all_of link_cmp (λ z. link_cmp (link_to n t) z ≡ Less) (map (link_to n) row) (λ z c.
      let m = from_map (link_to n) row z c in
      subst (λ w. link_cmp (link_to n t) w ≡ Less) m.2 (by_held n t m.0 (all_at (λ k. nat_cmp t k ≡ Less) row m.0 up.0 m.1))),
  row_rises n row up.1,
)

pub rises : (n : ℕ) (rows : List (List ℕ)) → AreRising rows → IsStrictlySortedBy link_cmp (links_from n rows)
unfolding links_from IsStrictlySortedBy
rises n [] all = tt
rises n (row ∷ rows) all =
    appended link_cmp (map (link_to n) row) (links_from (suc n) rows) (row_rises n row (all row (contains_here row rows))) (rises (suc n) rows (λ r c. all r (contains_later r row rows c)))
    (λ x y c d. let m = from_map (link_to n) row x c in let r = there (suc n) rows y.holder y.held d in
    let e = r.1 in let f : n ≡ x.holder = ap (λ (l : Link). l.holder) m.2 in by_holder x y (omega (arith, e, f)))

-- the rows are the list of a set of pairs, where each row has what its holder has
pub rows_list : (P : Link → Type 0) (rows : List (List ℕ)) → AreRising rows → ((h t : ℕ) → Contains (get_or rows h []) t ↔ P (link_to h t)) → Lists link_cmp P (links_from 0 rows)
rows_list P rows up is = record {
  rising = rises 0 rows up;
  members = λ l. (λ c. (is l.holder l.held).0 ((pair_there rows l.holder l.held).0 c), λ p. (pair_there rows l.holder l.held).1 ((is l.holder l.held).1 p));
}

-- what a look into a row says of the pairs
pub told_there : (links : List Link) (rows shown : List (List ℕ)) (h t : ℕ) (test : Bool) → links_from 0 rows ≡ links → shown ≡ rows
    → IsTrue test ↔ Contains (get_or shown h []) t → IsTrue test ↔ Contains links (link_to h t)
told_there links rows shown h t test view same is = (
  λ e. subst (λ ls. Contains ls (link_to h t)) view ((pair_there rows h t).1 (subst (λ w. Contains (get_or w h []) t) same (is.0 e))),
  λ c. is.1 (subst (λ w. Contains (get_or w h []) t) (sym same) ((pair_there rows h t).0 (subst (λ ls. Contains ls (link_to h t)) (sym view) c))),
)

-- ---- rows that change

-- sets without members have no links
pub one_empty : (n : ℕ) (rows : List (List ℕ)) → links_from n (rows ++ [] ∷ []) ≡ links_from n rows
unfolding links_from
one_empty n [] = refl
one_empty n (row ∷ rows) = ap (λ ls. map (link_to n) row ++ ls) (one_empty (suc n) rows)

no_members : IsStrictlySortedBy nat_cmp []
unfolding IsStrictlySortedBy
no_members = tt

-- an empty set more, and another set in the place of one, keep that each rises
pub empty_rises : (rows : List (List ℕ)) → AreRising rows → AreRising (rows ++ [] ∷ [])
empty_rises rows up row c = elim (Contains-append_cases rows ([] ∷ []) row c) [
  | inl d ↦ up row d
  | inr d ↦ elim (contains_cases row [] [] d) [ inl e ↦ subst (IsStrictlySortedBy nat_cmp) e no_members | inr n ↦ absurd (contains_none row n) ]
]

pub set_rises : (rows : List (List ℕ)) (h : ℕ) (row : List ℕ) → AreRising rows → IsStrictlySortedBy nat_cmp row → AreRising (set rows h row)
set_rises [] h row up r w c = absurd (contains_none w c)
set_rises (x ∷ xs) zero row up r w c =
    elim (contains_cases w row xs c) [ inl e ↦ subst (IsStrictlySortedBy nat_cmp) e r | inr d ↦ up w (contains_later w x xs d) ]
set_rises (x ∷ xs) (suc h) row up r w c = elim (contains_cases w x (set xs h row) c) [
  | inl e ↦ up w (subst (Contains (x ∷ xs)) e (contains_here x xs))
  | inr d ↦ set_rises xs h row (λ v b. up v (contains_later v x xs b)) r w d
]

-- a set with members more in the place of one: as many links more
module _ (rows : List (List ℕ)) (holder : ℕ) (helds row : List ℕ) (within : holder < length rows)
    (is : Lists nat_cmp (λ v. Contains (get_or rows holder []) v ⊎ Contains helds v) row) where
  abbrev IsMore : Link → Type 0
  IsMore l = Contains (links_from 0 rows) l ⊎ ((l.holder ≡ holder) × Contains helds l.held)

  at_holder : (t : ℕ) → Contains (get_or (set rows holder row) holder []) t ↔ IsMore (link_to holder t)
  at_holder t = rw (get_or-set_same rows holder row [] within) (
    λ c. elim ((is.members t).0 c) [
      | inl d ↦ inl ((pair_there rows holder t).1 d)
      | inr d ↦ inr (refl, d)
    ],
    λ o. (is.members t).1 (elim o [ inl d ↦ inl ((pair_there rows holder t).0 d) | inr e ↦ inr e.1 ]),
  )

  elsewhere : (h t : ℕ) → (h ≡ holder → ⊥) → Contains (get_or (set rows holder row) h []) t ↔ IsMore (link_to h t)
  elsewhere h t other = rw (get_or-set_other rows holder h row [] other) (
    λ c. inl ((pair_there rows h t).1 c),
    λ o. elim o [ inl d ↦ (pair_there rows h t).0 d | inr e ↦ absurd (other e.0) ],
  )

  pub links_united : AreRising rows → Lists link_cmp IsMore (links_from 0 (set rows holder row))
  links_united up = rows_list IsMore (set rows holder row) (set_rises rows holder row up is.rising) (λ h t.
      elim (cases_eq h holder) [
        | inl e ↦ subst (λ k. Contains (get_or (set rows holder row) k []) t ↔ IsMore (link_to k t)) (sym e) (at_holder t)
        | inr other ↦ elsewhere h t other
      ])

-- a set with one member more in the place of one: one link more
module _ (rows : List (List ℕ)) (one : Link) (row : List ℕ) (within : one.holder < length rows)
    (is : Lists nat_cmp (λ v. Contains (get_or rows one.holder []) v ⊎ (v ≡ one.held)) row) where
  alone : (t : ℕ) → Contains (one.held ∷ []) t → t ≡ one.held
  alone t c = elim (contains_cases t one.held [] c) [ inl e ↦ sym e | inr none ↦ absurd (contains_none t none) ]

  its_row : Lists nat_cmp (λ v. Contains (get_or rows one.holder []) v ⊎ Contains (one.held ∷ []) v) row
  its_row = record {
    rising = is.rising;
    members = λ t. (
      λ c. elim ((is.members t).0 c) [ inl d ↦ inl d | inr e ↦ inr (subst (Contains (one.held ∷ [])) (sym e) (contains_here one.held [])) ],
      λ o. (is.members t).1 (elim o [ inl d ↦ inl d | inr e ↦ inr (alone t e) ]),
    );
  }

  pub link_added : AreRising rows → Lists link_cmp (λ l. Contains (links_from 0 rows) l ⊎ (l ≡ one)) (links_from 0 (set rows one.holder row))
  link_added up =
      let more = links_united rows one.holder (one.held ∷ []) row within its_row up in
      record {
        rising = more.rising;
        members = λ l. (
          λ c. elim ((more.members l).0 c) [ inl d ↦ inl d | inr e ↦ inr (same_ends l one e.0 (alone l.held e.1)) ],
          λ o. (more.members l).1 (elim o [
            | inl d ↦ inl d
            | inr e ↦ inr (ap (λ (k : Link). k.holder) e, subst (λ (k : Link). Contains (one.held ∷ []) k.held) (sym e) (contains_here one.held []))
          ]),
        );
      }

pub no_links : IsStrictlySortedBy link_cmp []
unfolding IsStrictlySortedBy
no_links = tt

-- ---- one holder after another

-- the links that are there, and those of the first of some holders
abbrev pub AreWith : List Link → (holders helds : List ℕ) → Link → Type 0
AreWith old holders helds l = Contains old l ⊎ (Contains holders l.holder × Contains helds l.held)

pub no_holders : (old : List Link) (helds : List ℕ) → IsStrictlySortedBy link_cmp old → Lists link_cmp (AreWith old [] helds) old
no_holders old helds up = record { rising = up; members = λ l. (λ c. inl c, λ h. elim h [ inl c ↦ c | inr e ↦ absurd (contains_none l.holder e.0) ]) }

pub one_holder : (old links new : List Link) (holders helds : List ℕ) (holder : ℕ) → Lists link_cmp (AreWith old holders helds) links
    → Lists link_cmp (λ l. Contains links l ⊎ ((l.holder ≡ holder) × Contains helds l.held)) new → Lists link_cmp (AreWith old (holders ++ holder ∷ []) helds) new
one_holder old links new holders helds holder are more = record {
  rising = more.rising;
  members = λ l. (
    λ c. elim ((more.members l).0 c) [
      | inl d ↦ elim ((are.members l).0 d) [
        | inl o ↦ inl o
        | inr e ↦ inr (Contains-append_left holders (holder ∷ []) l.holder e.0, e.1)
      ]
      | inr e ↦ inr (subst (Contains (holders ++ holder ∷ [])) (sym e.0) (Contains-append_right holders (holder ∷ []) holder (contains_here holder [])), e.1)
    ],
    λ h. (more.members l).1 (elim h [
      | inl o ↦ inl ((are.members l).1 (inl o))
      | inr e ↦ elim (Contains-append_cases holders (holder ∷ []) l.holder e.0) [
        | inl d ↦ inl ((are.members l).1 (inr (d, e.1)))
        | inr d ↦ elim (contains_cases l.holder holder [] d) [
          | inl same ↦ inr (sym same, e.1)
          | inr n ↦ absurd (contains_none l.holder n)
        ]
      ]
    ]),
  );
}

-- ---- sets of one number

pub one_member : (numbers : List ℕ) (n : ℕ) → length numbers ≡ 1 → Contains numbers n → numbers ≡ n ∷ []
one_member [] n e c = absurd (contains_none n c)
one_member (m ∷ []) n e c = elim (contains_cases n m [] c) [ inl same ↦ ap (λ k. k ∷ []) same | inr d ↦ absurd (contains_none n d) ]
one_member (m ∷ (k ∷ ks)) n e c = absurd (omega (arith, e))

pub with_one : (old new others : List ℕ) (n : ℕ) → others ≡ n ∷ [] → Lists nat_cmp (λ v. Contains old v ⊎ (v ≡ n)) new → Lists nat_cmp (λ v. Contains old v ⊎ Contains others v) new
with_one old new others n one added = record {
  rising = added.rising;
  members = λ v. (
    λ c. elim ((added.members v).0 c) [ inl d ↦ inl d | inr e ↦ inr (subst (λ ns. Contains ns v) (sym one) (subst (λ k. Contains (n ∷ []) k) (sym e) (contains_here n []))) ],
    λ h. (added.members v).1 (elim h [
      | inl d ↦ inl d
      | inr c ↦ elim (contains_cases v n [] (subst (λ ns. Contains ns v) one c)) [ inl same ↦ inr (sym same) | inr d ↦ absurd (contains_none v d) ]
    ]),
  );
}
