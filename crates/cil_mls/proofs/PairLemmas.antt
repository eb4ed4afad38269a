-- Edges that are added one after another, and the pairs of neighbours that they are.
use Rattle.std.specs.Prelude.{Contains, Option, Some, slice_get, take}
use Rattle.std.proofs.Common.{◌≡◌, ◌↔◌, ◌⊎◌, ℕ, zero, suc, ◌+◌, ◌<◌, ◌≤◌, true, false, List, [], ◌∷◌, ◌++◌, get_or, length, refl, sym, ◌∙◌, ap, subst, inl, inr, arith}
use Rattle.std.proofs.lemmas.List.{take_all, take_more}
use Rattle.std.proofs.lemmas.List.Elements.{Contains-append_cases, Contains-append_left, Contains-append_right}
use Rattle.std.proofs.lemmas.Option.{none-some, same_Some}
use Rattle.cil_base.specs.Lists.{contains_cases, contains_here, contains_none}
use Rattle.cil_settle.specs.declared.edge.Edge.{Edge}
use Rattle.cil_settle.specs.Cycles.{Leads}
use Rattle.cil_syntax.specs.declared.kind.Keyword.{Keyword}
use Rattle.cil_syntax.specs.Scopes.{ScopedWord}
use Rattle.cil_attrs.specs.macros.Item.{Item, is_enabled}
use Rattle.cil_attrs.specs.known.DeclaredKnown.{Known}
use Rattle.cil_attrs.specs.known.Known.{enabled_in, meant_in, row_in, set_meant}
use Rattle.cil_attrs.specs.names.Resolves.{is_mapping}
use Rattle.cil_mls.specs.Ordering.{ListsWords}
use Rattle.cil_mls.specs.Pairs.{IsNextBefore, IsPairBy, IsPairIn, LeadMore}
use Rattle.cil_mls.proofs.SymbolLemmas.{get_map, get_unmap}
use Rattle.cil_mls.proofs.WordListLemmas.{list_means}

-- ---- lists

-- one more of a list
pub taken_more : {X : Type 0} (xs : List X) (i : ℕ) (x : X) → take (i + 1) xs ≡ take i xs ++ x ∷ [] → (y : X) → Contains (take (i + 1) xs) y ↔ (Contains (take i xs) y ⊎ (x ≡ y))
taken_more xs i x more y = (
  (λ c. elim (Contains-append_cases (take i xs) (x ∷ []) y (subst (λ z. Contains z y) more c)) [
    | inl d ↦ inl d
    | inr d ↦ elim (contains_cases y x [] d) [ inl e ↦ inr e | inr n ↦ absurd (contains_none y n) ]
  ]),
  (λ h. subst (λ z. Contains z y) (sym more) (elim h [
    | inl d ↦ Contains-append_left (take i xs) (x ∷ []) y d
    | inr e ↦ Contains-append_right (take i xs) (x ∷ []) y (subst (Contains (x ∷ [])) e (contains_here x []))
  ])),
)

none_taken : {X : Type 0} (xs : List X) (y : X) → Contains (take 0 xs) y → ⊥
none_taken [] y c = contains_none y c
none_taken (x ∷ xs) y c = contains_none y c

-- ---- edges

-- no edge more
pub no_more : (edges : List Edge) (P : ℕ → ℕ → Type 0) → ((a b : ℕ) → P a b → ⊥) → LeadMore edges edges P
no_more edges P none a b = ((λ l. inl l), (λ h. elim h [ inl l ↦ l | inr p ↦ absurd (none a b p) ]))

-- the same edges, said otherwise
pub lead_as : (old new : List Edge) (P Q : ℕ → ℕ → Type 0) → ((a b : ℕ) → P a b ↔ Q a b) → LeadMore old new P → LeadMore old new Q
lead_as old new P Q same more a b = (
  (λ l. elim ((more a b).0 l) [ inl o ↦ inl o | inr p ↦ inr ((same a b).0 p) ]),
  (λ h. (more a b).1 (elim h [ inl o ↦ inl o | inr q ↦ inr ((same a b).1 q) ])),
)

-- one edge more
pub one_edge : (old new : List Edge) (e : Edge) → new ≡ old ++ e ∷ [] → LeadMore old new (λ a b. (a ≡ e.from) × (e.to ≡ b))
one_edge old new e is a b = (
  (λ l. elim (Contains-append_cases old (e ∷ []) l.edge (subst (λ z. Contains z l.edge) is l.is_edge)) [
    | inl c ↦ inl (record { edge = l.edge; is_edge = c; from_a = l.from_a; to_b = l.to_b })
    | inr c ↦ elim (contains_cases l.edge e [] c) [
      | inl same ↦ inr (sym l.from_a ∙ ap (λ (z : Edge). z.from) (sym same), ap (λ (z : Edge). z.to) same ∙ l.to_b)
      | inr n ↦ absurd (contains_none l.edge n)
    ]
  ]),
  (λ h. elim h [
    | inl l ↦ record { edge = l.edge; is_edge = subst (λ z. Contains z l.edge) (sym is) (Contains-append_left old (e ∷ []) l.edge l.is_edge); from_a = l.from_a; to_b = l.to_b }
    | inr p ↦ record { edge = e; is_edge = subst (λ z. Contains z e) (sym is) (Contains-append_right old (e ∷ []) e (contains_here e [])); from_a = sym p.0; to_b = p.1 }
  ]),
)

-- what two steps add
pub then_more : (old mid new : List Edge) (P Q R : ℕ → ℕ → Type 0) → LeadMore old mid P → LeadMore mid new Q → ((a b : ℕ) → R a b ↔ (P a b ⊎ Q a b)) → LeadMore old new R
then_more old mid new P Q R first second both a b = (
  (λ l. elim ((second a b).0 l) [
    | inl m ↦ elim ((first a b).0 m) [ inl o ↦ inl o | inr p ↦ inr ((both a b).1 (inl p)) ]
    | inr q ↦ inr ((both a b).1 (inr q))
  ]),
  (λ h. elim h [
    | inl o ↦ (second a b).1 (inl ((first a b).1 (inl o)))
    | inr r ↦ elim ((both a b).0 r) [ inl p ↦ (second a b).1 (inl ((first a b).1 (inr p))) | inr q ↦ (second a b).1 (inr q) ]
  ]),
)

-- ---- from a number to each of others

module _ (from : ℕ) (high : List ℕ) where
  pub from_none : (edges : List Edge) → LeadMore edges edges (λ a b. (a ≡ from) × Contains (take 0 high) b)
  from_none edges = no_more edges (λ a b. (a ≡ from) × Contains (take 0 high) b) (λ a b h. none_taken high b h.1)

  pub from_more : (i to : ℕ) → i < length high → to ≡ get_or high i 0 → (old mid new : List Edge) → LeadMore old mid (λ a b. (a ≡ from) × Contains (take i high) b)
      → LeadMore mid new (λ a b. (a ≡ from) × (to ≡ b)) → LeadMore old new (λ a b. (a ≡ from) × Contains (take (i + 1) high) b)
  from_more i to l is old mid new first second =
      then_more old mid new (λ a b. (a ≡ from) × Contains (take i high) b) (λ a b. (a ≡ from) × (to ≡ b)) (λ a b. (a ≡ from) × Contains (take (i + 1) high) b) first second
      (λ a b. let more = taken_more high i to (take_more high i 0 l ∙ ap (λ z. take i high ++ z ∷ []) (sym is)) b in (
        (λ h. elim (more.0 h.1) [ inl c ↦ inl (h.0, c) | inr e ↦ inr (h.0, e) ]),
        (λ h. elim h [ inl p ↦ (p.0, more.1 (inl p.1)) | inr q ↦ (q.0, more.1 (inr q.1)) ]),
      ))

  pub from_all : (i : ℕ) → length high ≤ i → (old new : List Edge) → LeadMore old new (λ a b. (a ≡ from) × Contains (take i high) b) → LeadMore old new (λ a b. (a ≡ from) × Contains high b)
  from_all i l old new more = subst (λ (hs : List ℕ). LeadMore old new (λ a b. (a ≡ from) × Contains hs b)) (take_all i high l) more

-- ---- from each of some numbers to each of others

module _ (low high : List ℕ) where
  pub between_none : (edges : List Edge) → LeadMore edges edges (λ a b. Contains (take 0 low) a × Contains high b)
  between_none edges = no_more edges (λ a b. Contains (take 0 low) a × Contains high b) (λ a b h. none_taken low a h.0)

  pub between_more : (i from : ℕ) → i < length low → from ≡ get_or low i 0 → (old mid new : List Edge) → LeadMore old mid (λ a b. Contains (take i low) a × Contains high b)
      → LeadMore mid new (λ a b. (a ≡ from) × Contains high b) → LeadMore old new (λ a b. Contains (take (i + 1) low) a × Contains high b)
  between_more i from l is old mid new first second =
      then_more old mid new (λ a b. Contains (take i low) a × Contains high b) (λ a b. (a ≡ from) × Contains high b) (λ a b. Contains (take (i + 1) low) a × Contains high b) first second
      (λ a b. let more = taken_more low i from (take_more low i 0 l ∙ ap (λ z. take i low ++ z ∷ []) (sym is)) a in (
        (λ h. elim (more.0 h.0) [ inl c ↦ inl (c, h.1) | inr e ↦ inr (sym e, h.1) ]),
        (λ h. elim h [ inl p ↦ (more.1 (inl p.0), p.1) | inr q ↦ (more.1 (inr (sym q.0)), q.1) ]),
      ))

  pub between_all : (i : ℕ) → length low ≤ i → (old new : List Edge) → LeadMore old new (λ a b. Contains (take i low) a × Contains high b)
      → LeadMore old new (λ a b. Contains low a × Contains high b)
  between_all i l old new more = subst (λ (ls : List ℕ). LeadMore old new (λ a b. Contains ls a × Contains high b)) (take_all i low l) more

-- ---- from each word to the next

module _ (sets : List (List ℕ)) (row : List (Option ℕ)) where
  pub next_none : (edges : List Edge) → LeadMore edges edges (IsNextBefore sets row 1)
  next_none edges = no_more edges (IsNextBefore sets row 1) (λ a b n. let l = n.below in omega (arith, l))

  pub next_more : (at : ℕ) (low high : Option ℕ) → slice_get row at ≡ Some low → slice_get row (suc at) ≡ Some high → (old mid new : List Edge) → LeadMore old mid (IsNextBefore sets row (suc at))
      → LeadMore mid new (λ a b. Contains (set_meant sets low) a × Contains (set_meant sets high) b) → LeadMore old new (IsNextBefore sets row (suc (suc at)))
  next_more at low high is_low is_high old mid new first second =
      then_more old mid new (IsNextBefore sets row (suc at)) (λ a b. Contains (set_meant sets low) a × Contains (set_meant sets high) b) (IsNextBefore sets row (suc (suc at))) first second
      (λ a b. (there a b, back a b))
    where
      here_or_before : (i n : ℕ) → suc i < suc (suc n) → (suc i < suc n) ⊎ (i ≡ n)
      here_or_before zero zero l = inr refl
      here_or_before zero (suc n) l = inl (omega arith)
      here_or_before (suc i) zero l = absurd (omega (arith, l))
      here_or_before (suc i) (suc n) l = elim (here_or_before i n (omega (arith, l))) [ inl m ↦ inl (omega (arith, m)) | inr e ↦ inr (ap suc e) ]

      there : (a b : ℕ) → IsNextBefore sets row (suc (suc at)) a b → IsNextBefore sets row (suc at) a b ⊎ (Contains (set_meant sets low) a × Contains (set_meant sets high) b)
      there a b n = elim (here_or_before n.place at n.below) [
        | inl l ↦ inl (record { place = n.place; below = l; low = n.low; high = n.high; is_low = n.is_low; is_high = n.is_high; low_has = n.low_has; high_has = n.high_has })
        | inr e ↦
            let l : n.low ≡ low = same_Some n.low low (sym n.is_low ∙ ap (slice_get row) e ∙ is_low) in
            let h : n.high ≡ high = same_Some n.high high (sym n.is_high ∙ ap (λ i. slice_get row (suc i)) e ∙ is_high) in
            inr (subst (λ o. Contains (set_meant sets o) a) l n.low_has, subst (λ o. Contains (set_meant sets o) b) h n.high_has)
      ]

      back : (a b : ℕ) → IsNextBefore sets row (suc at) a b ⊎ (Contains (set_meant sets low) a × Contains (set_meant sets high) b) → IsNextBefore sets row (suc (suc at)) a b
      back a b h = elim h [
        | inl n ↦ record { place = n.place; below = let l = n.below in omega (arith, l); low = n.low; high = n.high; is_low = n.is_low; is_high = n.is_high; low_has = n.low_has; high_has = n.high_has }
        | inr p ↦ record { place = at; below = omega arith; low = low; high = high; is_low = is_low; is_high = is_high; low_has = p.0; high_has = p.1 }
      ]

  pub next_step : (at n k : ℕ) → at ≡ suc n → k ≡ suc at → (low high : Option ℕ) → slice_get row n ≡ Some low → slice_get row at ≡ Some high → (old mid new : List Edge)
      → LeadMore old mid (IsNextBefore sets row at) → LeadMore mid new (λ a b. Contains (set_meant sets low) a × Contains (set_meant sets high) b) → LeadMore old new (IsNextBefore sets row k)
  next_step at n k e f low high is_low is_high old mid new first second =
      subst (λ z. LeadMore old new (IsNextBefore sets row z)) (sym (f ∙ ap suc e))
      (next_more n low high is_low (subst (λ z. slice_get row z ≡ Some high) e is_high) old mid new (subst (λ z. LeadMore old mid (IsNextBefore sets row z)) e first) second)

  within_row : (i : ℕ) (x : Option ℕ) (xs : List (Option ℕ)) → slice_get xs i ≡ Some x → i < length xs
  within_row i x [] e = absurd (none-some x e)
  within_row zero x (y ∷ ys) e = omega arith
  within_row (suc i) x (y ∷ ys) e = let l = within_row i x ys e in omega (arith, l)

  -- all neighbours are before the end
  pub next_all : (at : ℕ) → length row ≤ at → (old new : List Edge) → LeadMore old new (IsNextBefore sets row at) → LeadMore old new (IsNextBefore sets row (length row))
  next_all at over old new more =
      lead_as old new (IsNextBefore sets row at) (IsNextBefore sets row (length row))
      (λ a b. (
        (λ n. record { place = n.place; below = within_row (suc n.place) n.high row n.is_high; low = n.low; high = n.high; is_low = n.is_low; is_high = n.is_high; low_has = n.low_has; high_has = n.high_has }),
        (λ n. record { place = n.place; below = let l = n.below in omega (arith, l, over); low = n.low; high = n.high; is_low = n.is_low; is_high = n.is_high; low_has = n.low_has; high_has = n.high_has }),
      )) more

  -- neighbours in the row of a statement are those of the words that it lists
  pub next_by : (k : Known) (order : Keyword) (x : Item) (ws : List ScopedWord) → row ≡ row_in k x → is_mapping x.keyword ≡ false → is_enabled (enabled_in k) x ≡ true → x.keyword ≡ order → ListsWords x.args ws
      → (a b : ℕ) → IsNextBefore sets row (length row) a b ↔ IsPairBy k sets order x a b
  next_by k order x ws is plain on orders says a b = (
    (λ n.
        let means = is ∙ list_means k x ws plain says in
        let (v, at_v, is_v) = get_unmap (meant_in k) ws n.place n.low (sym (ap (λ r. slice_get r n.place) means) ∙ n.is_low) in
        let (w, at_w, is_w) = get_unmap (meant_in k) ws (suc n.place) n.high (sym (ap (λ r. slice_get r (suc n.place)) means) ∙ n.is_high) in
        record {
          enabled = on;
          orders = orders;
          words = ws;
          says = says;
          place = n.place;
          low = v;
          high = w;
          is_low = at_v;
          is_high = at_w;
          low_has = subst (λ o. Contains (set_meant sets o) a) (sym is_v) n.low_has;
          high_has = subst (λ o. Contains (set_meant sets o) b) (sym is_w) n.high_has;
        }),
    (λ p.
        let means = is ∙ list_means k x p.words plain p.says in
        let low : slice_get row p.place ≡ Some (meant_in k p.low) = ap (λ r. slice_get r p.place) means ∙ get_map (meant_in k) p.words p.place p.low p.is_low in
        let high : slice_get row (suc p.place) ≡ Some (meant_in k p.high) = ap (λ r. slice_get r (suc p.place)) means ∙ get_map (meant_in k) p.words (suc p.place) p.high p.is_high in
        record {
          place = p.place;
          below = within_row (suc p.place) (meant_in k p.high) row high;
          low = meant_in k p.low;
          high = meant_in k p.high;
          is_low = low;
          is_high = high;
          low_has = p.low_has;
          high_has = p.high_has;
        }),
  )

-- ---- all statements

module _ (k : Known) (sets : List (List ℕ)) (order : Keyword) (xs : List Item) where
  -- edges lead where a pair is
  abbrev pub LeadIn : List Item → List Edge → Type 0
  LeadIn ys edges = (a b : ℕ) → Leads edges a b ↔ IsPairIn k sets order ys a b

  pub none_in : LeadIn (take 0 xs) []
  none_in a b = ((λ l. absurd (contains_none l.edge l.is_edge)), (λ (x, c, p). absurd (none_taken xs x c)))

  pub more_in : (i : ℕ) (x : Item) → take (i + 1) xs ≡ take i xs ++ x ∷ [] → (old new : List Edge) → LeadIn (take i xs) old → LeadMore old new (IsPairBy k sets order x) → LeadIn (take (i + 1) xs) new
  more_in i x taken old new before more a b = (
    (λ e. elim ((more a b).0 e) [
      | inl o ↦ let (y, c, p) = (before a b).0 o in (y, (taken_more xs i x taken y).1 (inl c), p)
      | inr p ↦ (x, (taken_more xs i x taken x).1 (inr refl), p)
    ]),
    (λ (y, c, p). elim ((taken_more xs i x taken y).0 c) [
      | inl d ↦ (more a b).1 (inl ((before a b).1 (y, d, p)))
      | inr e ↦ (more a b).1 (inr (subst (λ z. IsPairBy k sets order z a b) (sym e) p))
    ]),
  )

  pub all_in : (i : ℕ) → length xs ≤ i → (edges : List Edge) → LeadIn (take i xs) edges → LeadIn xs edges
  all_in i l edges are = subst (λ ys. LeadIn ys edges) (take_all i xs l) are
