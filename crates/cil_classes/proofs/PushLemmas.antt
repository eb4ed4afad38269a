-- The masks of a class permission: those of a list on a class, or the unions of the masks of some nodes.
use Rattle.std.specs.Prelude.{Option, Contains, IsBitSet, Some, bit_or, slice_get}
use Rattle.std.specs.List.Sorted.{IsStrictlySortedBy}
use Rattle.std.specs.Ordering.{nat_cmp, on}
use Rattle.std.specs.declared.cmp.Ordering.TheVariants.{Less}
use Rattle.std.proofs.Common.{◌≡◌, ℕ, ◌+◌, ◌<◌, ◌≤◌, List, [], ◌∷◌, ◌++◌, get_or, length, map, take, refl, sym, ◌∙◌, ap, subst, inl, inr, append-nil, append_assoc}
use Rattle.std.proofs.lemmas.List.{map-append, take_all, take_more}
use Rattle.std.proofs.lemmas.List.Elements.{Contains-append_left, Contains-append_right, Contains-append_cases}
use Rattle.std.proofs.lemmas.Option.{same_Some}
use Rattle.cil_base.specs.Lists.{all_at, contains_cases, contains_here, contains_none}
use Rattle.cil_base.specs.MadeLists.{contains_map}
use Rattle.std.specs.List.{AllByRecursion}
use Rattle.cil_base.specs.Rising.{rising_in_front, rising_join, rising_nothing}
use Rattle.cil_settle.specs.Spread.{mask_at}
use Rattle.cil_syntax.specs.declared.kind.Kind.{Kind}
use Rattle.cil_syntax.specs.declared.kind.Kind.TheVariants as kinds
use Rattle.cil_syntax.specs.Scopes.{ScopedWord}
use Rattle.cil_syntax.specs.Terms.{Term}
use Rattle.cil_macros.specs.Item.{Item, OptSet}
use Rattle.cil_names.specs.Declarations.{Symbol}
use Rattle.cil_known.specs.declared.known.Known.{Known}
use Rattle.cil_known.specs.Known.{IsKnown, enabled_in}
use Rattle.cil_known.specs.Numbers.{AreApart}
use Rattle.cil_classes.specs.declared.assigned.Part.{Part}
use Rattle.cil_classes.specs.declared.held.ClassMasks.{ClassMasks}
use Rattle.cil_classes.specs.declared.held.GivenPermissions.{GivenPermissions}
use Rattle.cil_classes.specs.declared.row.Class.{Class}
use Rattle.cil_classes.specs.declared.row.ClassId.{ClassId}
use Rattle.cil_classes.specs.ClassRows.{AreClasses}
use Rattle.cil_classes.specs.Given.{HasPair}
use Rattle.cil_classes.specs.Held.{IsAssigned}
use Rattle.cil_classes.specs.Nodes.{IsBitOf}
use Rattle.cil_classes.specs.Parts.{IsPartIn}
use Rattle.cil_classes.specs.Perms.{AreAdded, AreMasksOf, IsMaskOfClass}
use Rattle.cil_classes.specs.Pushed.{ArePushed, AreUnions, IsInSome, IsPushed, IsUnionOf}
use Rattle.cil_classes.specs.Tied.{Direct}
use Rattle.cil_classes.proofs.BitLemmas.{none_set, set_in_either}
use Rattle.cil_classes.proofs.MaskLemmas.{has_bit}
use Rattle.cil_classes.proofs.PartLemmas.{never_both, one_class}
use Rattle.cil_classes.proofs.TiedLemmas.{IsLed, either_way, of_direct, of_leads, is_there as led_is_there}

-- ---- the union of some masks

pub no_union : (masks from : List ℕ) → IsUnionOf masks (take 0 from) 0
no_union masks [] bit = (λ s. absurd (none_set bit s), λ i. absurd (contains_none i.node i.among))
no_union masks (v ∷ vs) bit = (λ s. absurd (none_set bit s), λ i. absurd (contains_none i.node i.among))

pub more_union : (masks from : List ℕ) (i d a b : ℕ) → i < length from → (v : ℕ) → v ≡ get_or from i d → b ≡ mask_at masks v → IsUnionOf masks (take i from) a → IsUnionOf masks (take (i + 1) from) (bit_or a b)
more_union masks from i d a b within v is at so bit =
    let next : take (i + 1) from ≡ take i from ++ v ∷ [] = take_more from i d within ∙ ap (λ x. take i from ++ x ∷ []) (sym is) in (
      λ s. elim ((set_in_either a b bit).0 s) [
        | inl before ↦ let u = (so bit).0 before in record { node = u.node; among = subst (λ l. Contains l u.node) (sym next) (Contains-append_left (take i from) (v ∷ []) u.node u.among); set = u.set }
        | inr here ↦ record {
          node = v;
          among = subst (λ l. Contains l v) (sym next) (Contains-append_right (take i from) (v ∷ []) v (contains_here v []));
          set = subst (λ m. IsBitSet m bit) at here;
        }
      ],
      λ u. (set_in_either a b bit).1 (elim (Contains-append_cases (take i from) (v ∷ []) u.node (subst (λ l. Contains l u.node) next u.among)) [
        | inl before ↦ inl ((so bit).1 (record { node = u.node; among = before; set = u.set }))
        | inr last ↦ elim (contains_cases u.node v [] last) [
          | inl same ↦ inr (subst (λ m. IsBitSet m bit) (ap (mask_at masks) (sym same) ∙ sym at) u.set)
          | inr none ↦ absurd (contains_none u.node none)
        ]
      ]),
    )

pub whole_union : (masks from : List ℕ) (i mask : ℕ) → length from ≤ i → IsUnionOf masks (take i from) mask → IsUnionOf masks from mask
whole_union masks from i mask over so = subst (λ l. IsUnionOf masks l mask) (take_all i from over) so

-- ---- class by class

abbrev class_of : ClassMasks → ℕ
class_of h = h.class

no_unions : (from : List ℕ) → AreUnions [] from []
no_unions from = record {
  each = λ m c. absurd (contains_none m c);
  all = λ h bit c s. absurd (contains_none h c);
  rising = λ up. rising_nothing (on (λ (m : ClassId × ℕ). m.0.number) nat_cmp);
}

pub none_pushed : (held : List ClassMasks) (from : List ℕ) (old new : List (ClassId × ℕ)) → new ≡ old → ArePushed (take 0 held) from old new
none_pushed [] from old new same = record { masks = []; are = no_unions from; behind = same ∙ sym (append-nil old) }
none_pushed (h ∷ hs) from old new same = record { masks = []; are = no_unions from; behind = same ∙ sym (append-nil old) }

-- the front of a rising list rises, and is below what stands behind it
front_all : (x : ℕ) (xs ys : List ℕ) → AllByRecursion (λ y. nat_cmp x y ≡ Less) (xs ++ ys) → AllByRecursion (λ y. nat_cmp x y ≡ Less) xs
front_all x [] ys all = tt
front_all x (z ∷ zs) ys all = (all.0, front_all x zs ys all.1)

rising_front : (xs ys : List ℕ) → IsStrictlySortedBy nat_cmp (xs ++ ys) → IsStrictlySortedBy nat_cmp xs
unfolding IsStrictlySortedBy
rising_front [] ys up = tt
rising_front (x ∷ xs) ys up = (front_all x xs ys up.0, rising_front xs ys up.1)

front_below : (xs : List ℕ) (y : ℕ) → IsStrictlySortedBy nat_cmp (xs ++ y ∷ []) → (x : ℕ) → Contains xs x → nat_cmp x y ≡ Less
unfolding IsStrictlySortedBy
front_below [] y up x c = absurd (contains_none x c)
front_below (z ∷ zs) y up x c =
    elim (contains_cases x z zs c) [
      | inl same ↦ subst (λ w. nat_cmp w y ≡ Less) same (all_at (λ w. nat_cmp z w ≡ Less) (zs ++ y ∷ []) y up.0 (Contains-append_right zs (y ∷ []) y (contains_here y [])))
      | inr later ↦ front_below zs y up.1 x later
    ]

-- a class without a bit
more_none : (held : List ClassMasks) (one : ClassMasks) (from : List ℕ) (mask : ℕ) (masks : List (ClassId × ℕ)) → IsUnionOf one.masks.items from mask → mask ≡ 0 → AreUnions held from masks
    → AreUnions (held ++ one ∷ []) from masks
more_none held one from mask masks union zero so = record {
  each = λ m c. let (h, ch, same, u, some) = so.each m c in (h, Contains-append_left held (one ∷ []) h ch, same, u, some);
  all = λ h bit c s. elim (Contains-append_cases held (one ∷ []) h c) [
    | inl before ↦ so.all h bit before s
    | inr last ↦ elim (contains_cases h one [] last) [
      | inl same ↦ absurd (none_set bit (subst (λ j. IsBitSet j bit) zero ((union bit).1 (subst (λ (g : ClassMasks). IsInSome g.masks.items from bit) (sym same) s))))
      | inr none ↦ absurd (contains_none h none)
    ]
  ];
  rising = λ up. so.rising (rising_front (map class_of held) (one.class ∷ []) (subst (IsStrictlySortedBy nat_cmp) (map-append class_of held (one ∷ [])) up));
}

-- a class with bits
more_some : (held : List ClassMasks) (one : ClassMasks) (from : List ℕ) (mask : ℕ) (masks : List (ClassId × ℕ)) → IsUnionOf one.masks.items from mask → (mask ≡ 0 → ⊥) → AreUnions held from masks
    → AreUnions (held ++ one ∷ []) from (masks ++ (record { number = one.class }, mask) ∷ [])
more_some held one from mask masks union some so = record {
  each = λ m c. elim (Contains-append_cases masks (last ∷ []) m c) [
    | inl before ↦ let (h, ch, same, u, s) = so.each m before in (h, Contains-append_left held (one ∷ []) h ch, same, u, s)
    | inr behind ↦ elim (contains_cases m last [] behind) [
      | inl same ↦ subst (λ (n : ClassId × ℕ). (h : ClassMasks) × Contains (held ++ one ∷ []) h × (n.0.number ≡ h.class) × IsUnionOf h.masks.items from n.1 × (n.1 ≡ 0 → ⊥)) same
          (one, Contains-append_right held (one ∷ []) one (contains_here one []), refl, union, some)
      | inr none ↦ absurd (contains_none m none)
    ]
  ];
  all = λ h bit c s. elim (Contains-append_cases held (one ∷ []) h c) [
    | inl before ↦ let (m, cm, same) = so.all h bit before s in (m, Contains-append_left masks (last ∷ []) m cm, same)
    | inr behind ↦ elim (contains_cases h one [] behind) [
      | inl same ↦ (last, Contains-append_right masks (last ∷ []) last (contains_here last []), ap (λ (g : ClassMasks). g.class) same)
      | inr none ↦ absurd (contains_none h none)
    ]
  ];
  rising = λ up.
      let parts : IsStrictlySortedBy nat_cmp (map class_of held ++ one.class ∷ []) = subst (IsStrictlySortedBy nat_cmp) (map-append class_of held (one ∷ [])) up in
      rising_join (on (λ (m : ClassId × ℕ). m.0.number) nat_cmp) masks (last ∷ []) (so.rising (rising_front (map class_of held) (one.class ∷ []) parts))
      (rising_in_front (on (λ (m : ClassId × ℕ). m.0.number) nat_cmp) last [] (λ y c. absurd (contains_none y c)) (rising_nothing (on (λ (m : ClassId × ℕ). m.0.number) nat_cmp)))
      (λ m n cm cn.
      let (h, ch, same, u, s) = so.each m cm in
      let below = front_below (map class_of held) one.class parts h.class (contains_map class_of held h ch) in
      elim (contains_cases n last [] cn) [
        | inl is ↦ subst (λ (z : ClassId × ℕ). nat_cmp m.0.number z.0.number ≡ Less) is (subst (λ j. nat_cmp j one.class ≡ Less) (sym same) below)
        | inr none ↦ absurd (contains_none n none)
      ]);
}
  where
    last : ClassId × ℕ
    last = (record { number = one.class }, mask)

-- one class more
pub one_pushed : (held : List ClassMasks) (i : ℕ) (d one : ClassMasks) (from : List ℕ) (before old new : List (ClassId × ℕ)) → i < length held → one ≡ get_or held i d → ArePushed (take i held) from before old
    → IsPushed one from old new → ArePushed (take (i + 1) held) from before new
one_pushed held i d one from before old new within is so pushed =
    let next : take (i + 1) held ≡ take i held ++ one ∷ [] = take_more held i d within ∙ ap (λ x. take i held ++ x ∷ []) (sym is) in
    subst (λ l. ArePushed l from before new) (sym next) (elim pushed.behind [
      | inl none ↦ record {
        masks = so.masks;
        are = more_none (take i held) one from pushed.mask so.masks pushed.union none.0 so.are;
        behind = none.1 ∙ so.behind;
      }
      | inr some ↦ record {
        masks = so.masks ++ (record { number = one.class }, pushed.mask) ∷ [];
        are = more_some (take i held) one from pushed.mask so.masks pushed.union some.0 so.are;
        behind = some.1 ∙ ap (λ l. l ++ (record { number = one.class }, pushed.mask) ∷ []) so.behind ∙ append_assoc before so.masks ((record { number = one.class }, pushed.mask) ∷ []);
      }
    ])

pub all_pushed : (held : List ClassMasks) (i : ℕ) (from : List ℕ) (old new : List (ClassId × ℕ)) → length held ≤ i → ArePushed (take i held) from old new → ArePushed held from old new
all_pushed held i from old new over so = subst (λ l. ArePushed l from old new) (take_all i held over) so

-- ---- the masks of a class permission

module _ (k : Known) (xs : List Item) (names : Kind → List (List ℕ)) (known : IsKnown k xs names) (apart : AreApart k.lookup.names.now (enabled_in k) k.numbers.now) (rows : List Class)
    (are : AreClasses xs (enabled_in k) (names kinds.Class) rows) (a : GivenPermissions) (assigned : IsAssigned k xs rows a) (cp : Term ScopedWord) (part : Part)
    (is_part : IsPartIn k xs rows a.nodes.items part cp) where
  -- two bits of one class are of one class symbol
  same_symbol : (class_ b e : ℕ) (c d : Symbol) (p q : List ℕ) → IsBitOf xs (enabled_in k) rows class_ b c p → IsBitOf xs (enabled_in k) rows class_ e d q → c ≡ d
  same_symbol class_ b e c d p q one two =
      let row : one.row ≡ two.row = same_Some one.row two.row (sym one.is_row ∙ two.is_row) in
      one_class k xs names known apart c d one.declared two.declared (sym one.named ∙ ap (λ (r : Class). r.name) row ∙ two.named)

  in_row : (class_ b e : ℕ) (c d : Symbol) (p q : List ℕ) (one : IsBitOf xs (enabled_in k) rows class_ b c p) → IsBitOf xs (enabled_in k) rows class_ e d q → slice_get one.row.permissions e ≡ Some q
  in_row class_ b e c d p q one two =
      ap (λ (r : Class). slice_get r.permissions e) (same_Some one.row two.row (sym one.is_row ∙ two.is_row)) ∙ two.at

  -- a bit of a row is that of its permission
  of_row : (class_ b e : ℕ) (c : Symbol) (p q : List ℕ) (one : IsBitOf xs (enabled_in k) rows class_ b c p) → slice_get one.row.permissions e ≡ Some q → IsBitOf xs (enabled_in k) rows class_ e c q
  of_row class_ b e c p q one at = record { row = one.row; is_row = one.is_row; named = one.named; declared = one.declared; at = at }

  -- ---- of a list on a class

  module _ (some : part.mask ≡ 0 → ⊥) where
    its_bit : (bit : ℕ) × IsBitSet part.mask bit
    its_bit = has_bit part.mask some

    first_bit : (c : Symbol) × (p : List ℕ) × IsBitOf xs (enabled_in k) rows part.class its_bit.0 c p
    first_bit = is_part.of_bit its_bit.0 its_bit.1

    its_direct : Direct xs (enabled_in k) cp first_bit.0 first_bit.1
    its_direct = (is_part.bits part.class its_bit.0 first_bit.0 first_bit.1 first_bit.2).1 (refl, its_bit.1)

    only_direct : (c : Symbol) (p : List ℕ) → HasPair xs (enabled_in k) cp c p → Direct xs (enabled_in k) cp c p
    only_direct c p pair = elim (either_way xs (enabled_in k) cp c p pair) [
      | inl d ↦ d
      | inr led ↦ absurd (never_both k xs names known cp first_bit.0 first_bit.1 led.holder its_direct led.leads)
    ]

    direct_mask : IsMaskOfClass xs (enabled_in k) rows cp (record { number = part.class }, part.mask)
    direct_mask = record {
      symbol = first_bit.0;
      row = first_bit.2.row;
      is_row = first_bit.2.is_row;
      named = first_bit.2.named;
      some = (first_bit.1, of_direct xs (enabled_in k) cp first_bit.0 first_bit.1 its_direct);
      bits = λ bit. (
        λ set.
            let (c, p, is) = is_part.of_bit bit set in
            let pair = of_direct xs (enabled_in k) cp c p ((is_part.bits part.class bit c p is).1 (refl, set)) in (
              p,
              in_row part.class its_bit.0 bit first_bit.0 c first_bit.1 p first_bit.2 is,
              subst (λ d. HasPair xs (enabled_in k) cp d p) (same_symbol part.class bit its_bit.0 c first_bit.0 p first_bit.1 is first_bit.2) pair,
            ),
        λ h. ((is_part.bits part.class bit first_bit.0 h.0 (of_row part.class its_bit.0 bit first_bit.0 first_bit.1 h.0 first_bit.2 h.1)).0 (only_direct first_bit.0 h.0 h.2)).1,
      );
    }

    pub direct_masks : AreMasksOf xs (enabled_in k) rows cp ((record { number = part.class }, part.mask) ∷ [])
    direct_masks = record {
      rising =
          rising_in_front (on (λ (m : ClassId × ℕ). m.0.number) nat_cmp) (record { number = part.class }, part.mask) [] (λ y c. absurd (contains_none y c))
          (rising_nothing (on (λ (m : ClassId × ℕ). m.0.number) nat_cmp));
      each = λ m c. elim (contains_cases m (record { number = part.class }, part.mask) [] c) [
        | inl same ↦ subst (IsMaskOfClass xs (enabled_in k) rows cp) same direct_mask
        | inr none ↦ absurd (contains_none m none)
      ];
      all = λ c p pair.
          let (bit, is) = is_part.has_bit c p (only_direct c p pair) in
          record { mask = (record { number = part.class }, part.mask); row = is.row; there = contains_here _ []; is_row = is.is_row; named = is.named };
    }

  -- ---- of a name, or of a list on a class map

  module _ (zero : part.mask ≡ 0) where
    -- it leads to what has the permission
    is_led : (c : Symbol) (p : List ℕ) → HasPair xs (enabled_in k) cp c p → IsLed xs (enabled_in k) cp c p
    is_led c p pair = elim (either_way xs (enabled_in k) cp c p pair) [
      | inl d ↦
          let (bit, is) = is_part.has_bit c p d in
          absurd (none_set bit (subst (λ j. IsBitSet j bit) zero ((is_part.bits part.class bit c p is).0 d).1))
      | inr led ↦ led
    ]

    -- so the bit of it is in the mask of some node
    its_node : (h : ClassMasks) (bit : ℕ) (c : Symbol) (p : List ℕ) → Contains a.held.items h → IsBitOf xs (enabled_in k) rows h.class bit c p → HasPair xs (enabled_in k) cp c p
        → IsInSome h.masks.items part.from.items bit
    its_node h bit c p ch is pair =
        let led = is_led c p pair in
        let both = assigned.all led.holder c p (led_is_there xs (enabled_in k) cp led.holder led.leads) led.holds in
        let (v, node) = both.0 in
        record { node = v; among = (is_part.leads v led.holder node).0 led.leads; set = assigned.bits h v bit led.holder c p ch node is led.holds }

    -- and what is in the mask of some node is given
    its_pair : (h : ClassMasks) (bit : ℕ) → Contains a.held.items h → IsInSome h.masks.items part.from.items bit
        → (c : Symbol) × (p : List ℕ) × IsBitOf xs (enabled_in k) rows h.class bit c p × HasPair xs (enabled_in k) cp c p
    its_pair h bit ch in_some =
        let said = assigned.said h in_some.node bit ch in_some.set in (
          said.symbol,
          said.permission,
          said.is_bit,
          of_leads xs (enabled_in k) cp said.holder said.symbol said.permission ((is_part.leads in_some.node said.holder said.node).1 in_some.among) said.holds,
        )

    led_mask : (h : ClassMasks) (mask : ℕ) → Contains a.held.items h → IsUnionOf h.masks.items part.from.items mask → (mask ≡ 0 → ⊥)
        → IsMaskOfClass xs (enabled_in k) rows cp (record { number = h.class }, mask)
    led_mask h mask ch union some =
        let (bit, set) = has_bit mask some in
        let (c, p, is, pair) = its_pair h bit ch ((union bit).0 set) in
        record {
          symbol = c;
          row = is.row;
          is_row = is.is_row;
          named = is.named;
          some = (p, pair);
          bits = λ e. (
            λ s.
                let (d, q, two, other) = its_pair h e ch ((union e).0 s) in
                (q, in_row h.class bit e c d p q is two, subst (λ t. HasPair xs (enabled_in k) cp t q) (same_symbol h.class e bit d c q p two is) other),
            λ r. (union e).1 (its_node h e c r.0 ch (of_row h.class bit e c p r.0 is r.1) r.2),
          );
        }

    same_mask : (m : ClassId × ℕ) (n : ℕ) → m.0.number ≡ n → ◌≡◌ {A = ClassId × ℕ} (record { number = n }, m.1) m
    same_mask m n is = λ i. (record { number = sym is i }, m.1)

    same_row : (m : ClassId × ℕ) (d : ℕ) (row : Option Class) → m.0.number ≡ d → slice_get rows d ≡ row → slice_get rows m.0.number ≡ row
    same_row m d row same at = ap (slice_get rows) same ∙ at

    pub led_masks : (masks : List (ClassId × ℕ)) → AreUnions a.held.items part.from.items masks → AreMasksOf xs (enabled_in k) rows cp masks
    led_masks masks unions = record {
      rising = unions.rising assigned.rising;
      each = λ m c.
          let (h, ch, same, union, some) = unions.each m c in
          subst (IsMaskOfClass xs (enabled_in k) rows cp) (same_mask m h.class same) (led_mask h m.1 ch union some);
      all = λ c p pair.
          let led = is_led c p pair in
          let both = assigned.all led.holder c p (led_is_there xs (enabled_in k) cp led.holder led.leads) led.holds in
          let held = both.1 in
          let (m, cm, same) = unions.all held.masks held.bit held.among (its_node held.masks held.bit c p held.among held.is_bit pair) in
          record { mask = m; row = held.is_bit.row; there = cm; is_row = same_row m held.masks.class _ same held.is_bit.is_row; named = held.is_bit.named };
    }

-- what was put behind nothing
pub all_added : (xs : List Item) (s : OptSet) (rows : List Class) (t : Term ScopedWord) (old new : List (ClassId × ℕ)) → old ≡ [] → AreAdded xs s rows t old new → AreMasksOf xs s rows t new
all_added xs s rows t old new e a = subst (AreMasksOf xs s rows t) (sym (a.behind ∙ ap (λ l. l ++ a.masks) e)) a.are
