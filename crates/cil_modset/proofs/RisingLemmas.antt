-- Rising lists of texts: the order, and lists put together and taken apart.
use Rattle.std.proofs.Common.{◌≡◌, ℕ, zero, suc, ◌+◌, ◌-◌, ◌<◌, ◌≤◌, ◌⊎◌, List, [], ◌∷◌, ◌++◌, length, get_or, take, refl, sym, ◌∙◌, ap, subst, inl, inr, arith}
use Rattle.std.specs.Prelude.{Contains}
use Rattle.std.specs.Global.{Vec}
use Rattle.std.specs.declared.cmp.Ordering.{Ordering}
use Rattle.std.specs.declared.cmp.Ordering.TheVariants.{Less, Equal, Greater}
use Rattle.std.specs.Ordering.{ordering_reverse}
use Rattle.std.specs.Cmp.Lexicographic.{nat_list_cmp_total}
use Rattle.std.specs.List.{AllByRecursion}
use Rattle.std.specs.List.Sorted.{IsStrictlySortedBy}
use Rattle.std.proofs.lemmas.List.{take_more, length_push, get_or_push, get_or-map, length-map, get_or_default, map_push}
use Rattle.std.proofs.lemmas.Bool.{cases_lt}
use Rattle.std.proofs.lemmas.List.Elements.{Contains-append_left, Contains-append_right, Contains-append_cases, Contains-get_or}
use Rattle.std.proofs.lemmas.Map.Lookups.{exact_bytes}
use Rattle.cil_base.specs.Lists.{text_cmp, contains_here, contains_later, contains_cases, contains_none, all_at}
use Rattle.cil_modset.specs.Modules.{IsBelow, IsRising, module_of, texts_of}

-- ---- the order

pub below_trans : (a b c : List ℕ) → IsBelow a b → IsBelow b c → IsBelow a c
below_trans a b c p q = nat_list_cmp_total.trans a b c p q

pub not_below_itself : (a : List ℕ) → IsBelow a a → ⊥
not_below_itself a e =
    let turned : Less ≡ Greater = sym e ∙ nat_list_cmp_total.antisymm a a ∙ ap ordering_reverse e in cc

pub never_both_below : (a b : List ℕ) → IsBelow a b → IsBelow b a → ⊥
never_both_below a b p q = not_below_itself a (below_trans a b a p q)

pub below_from_greater : (a b : List ℕ) → text_cmp a b ≡ Greater → IsBelow b a
below_from_greater a b e = nat_list_cmp_total.antisymm b a ∙ ap ordering_reverse e

three_ways : (a b : List ℕ) (o : Ordering) → text_cmp a b ≡ o → IsBelow a b ⊎ ((a ≡ b) ⊎ IsBelow b a)
three_ways a b Less e = inl e
three_ways a b Equal e = inr (inl (exact_bytes a b e))
three_ways a b Greater e = inr (inr (below_from_greater a b e))

-- one of two texts comes first, or they are one
pub compared : (a b : List ℕ) → IsBelow a b ⊎ ((a ≡ b) ⊎ IsBelow b a)
compared a b = three_ways a b (text_cmp a b) refl

-- ---- what holds of each text

pub all_from : (P : List ℕ → Type 0) (xs : List (List ℕ)) → ((x : List ℕ) → Contains xs x → P x) → AllByRecursion P xs
all_from P [] h = tt
all_from P (x ∷ xs) h = (h x (contains_here x xs), all_from P xs (λ y c. h y (contains_later y x xs c)))

pub rising_none : IsRising []
unfolding IsStrictlySortedBy
rising_none = tt

pub rising_one : (x : List ℕ) → IsRising (x ∷ [])
unfolding IsStrictlySortedBy
rising_one x = (tt, tt)

-- ---- lists put together and taken apart

pub rising_join : (xs ys : List (List ℕ)) → IsRising xs → IsRising ys
    → ((x y : List ℕ) → Contains xs x → Contains ys y → IsBelow x y) → IsRising (xs ++ ys)
unfolding IsStrictlySortedBy
rising_join [] ys p q h = q
rising_join (x ∷ xs) ys p q h = (
  all_from (λ y. IsBelow x y) (xs ++ ys) (λ y c. elim (Contains-append_cases xs ys y c) [
    | inl d ↦ all_at (λ y. IsBelow x y) xs y p.0 d
    | inr d ↦ h x y (contains_here x xs) d
  ]),
  rising_join xs ys p.1 q (λ a b c d. h a b (contains_later a x xs c) d),
)

pub rising_front : (xs ys : List (List ℕ)) → IsRising (xs ++ ys) → IsRising xs
unfolding IsStrictlySortedBy
rising_front [] ys p = tt
rising_front (x ∷ xs) ys p = (
  all_from (λ y. IsBelow x y) xs (λ y c. all_at (λ y. IsBelow x y) (xs ++ ys) y p.0 (Contains-append_left xs ys y c)),
  rising_front xs ys p.1,
)

pub rising_back : (xs ys : List (List ℕ)) → IsRising (xs ++ ys) → IsRising ys
unfolding IsStrictlySortedBy
rising_back [] ys p = p
rising_back (x ∷ xs) ys p = rising_back xs ys p.1

pub rising_across : (xs ys : List (List ℕ)) → IsRising (xs ++ ys) → (x y : List ℕ) → Contains xs x → Contains ys y → IsBelow x y
unfolding IsStrictlySortedBy
rising_across [] ys p x y c d = absurd (contains_none x c)
rising_across (z ∷ zs) ys p x y c d =
    elim (contains_cases x z zs c) [
      | inl e ↦ subst (λ w. IsBelow w y) e (all_at (λ w. IsBelow z w) (zs ++ ys) y p.0 (Contains-append_right zs ys y d))
      | inr k ↦ rising_across zs ys p.1 x y k d
    ]

-- one more text at the end
pub rising_push : (xs : List (List ℕ)) (y : List ℕ) → IsRising xs → ((x : List ℕ) → Contains xs x → IsBelow x y) → IsRising (xs ++ y ∷ [])
rising_push xs y p h =
    rising_join xs (y ∷ []) p (rising_one y) (λ a b c d. elim (contains_cases b y [] d) [
      | inl e ↦ subst (λ w. IsBelow a w) e (h a c)
      | inr k ↦ absurd (contains_none b k)
    ])

-- ---- texts by their numbers

-- one text comes before each of those with greater numbers
pub rising_at : (xs : List (List ℕ)) (i j : ℕ) → IsRising xs → i < j → j < length xs → IsBelow (module_of xs i) (module_of xs j)
unfolding IsStrictlySortedBy
rising_at [] i j p lt within = absurd (omega (arith, within))
rising_at (x ∷ xs) i zero p lt within = absurd (omega arith)
rising_at (x ∷ xs) zero (suc j) p lt within =
    all_at (λ y. IsBelow x y) xs (module_of xs j) p.0 (Contains-get_or xs j [] (omega arith))
rising_at (x ∷ xs) (suc i) (suc j) p lt within = rising_at xs i j p.1 (omega arith) (omega arith)

-- a member has a number
pub number_of_member : (xs : List (List ℕ)) (x : List ℕ) → Contains xs x → (k : ℕ) × (k < length xs) × (module_of xs k ≡ x)
number_of_member xs x c = (c.0, c.1, get_or_default xs c.0 [] x c.1 ∙ c.2)

pub member_of_number : (xs : List (List ℕ)) (k : ℕ) → k < length xs → Contains xs (module_of xs k)
member_of_number xs k h = Contains-get_or xs k [] h

-- the text of a vector that was read
pub text_read : (vs : List (Vec ℕ)) (k : ℕ) (v : Vec ℕ) → k < length vs → v ≡ get_or vs k v → module_of (texts_of vs) k ≡ v.items
text_read vs k v h e = get_or-map (λ (w : Vec ℕ). w.items) vs k v [] h ∙ ap (λ (w : Vec ℕ). w.items) (sym e)

pub length-texts_of : (vs : List (Vec ℕ)) → length (texts_of vs) ≡ length vs
length-texts_of vs = length-map vs (λ (w : Vec ℕ). w.items)

-- what holds up to a place holds one place further
pub below_step : (P : ℕ → Type 0) (from at : ℕ) → ((k : ℕ) → from ≤ k → k < at → P k) → P at → (k : ℕ) → from ≤ k → k < at + 1 → P k
below_step P from at h here k low high =
    elim (cases_lt k at) [
      | inl lt ↦ h k low lt
      | inr le ↦ let e : at ≡ k = omega arith in subst P e here
    ]

-- the last vector of some is that with the last text
pub last_text : (vs : List (Vec ℕ)) (v : Vec ℕ) (front : List (List ℕ)) (x : List ℕ) → 0 < length vs → v ≡ get_or vs (length vs - 1) v
    → texts_of vs ≡ front ++ x ∷ [] → v.items ≡ x
last_text vs v front x some e is =
    let size : length vs ≡ length front + 1 = sym (length-texts_of vs) ∙ ap length is ∙ length_push front x in
    let at : length vs - 1 ≡ length front = omega arith in
    sym (text_read vs (length vs - 1) v (omega arith) e) ∙ rw (is, at) (get_or_push front x [] (length front) refl)

-- one text more of those in memory
pub take_text : (vs : List (Vec ℕ)) (i : ℕ) (v : Vec ℕ) → i < length vs → v ≡ get_or vs i v → take (i + 1) (texts_of vs) ≡ take i (texts_of vs) ++ v.items ∷ []
take_text vs i v h e =
    take_more (texts_of vs) i [] (omega (arith, length-texts_of vs)) ∙ ap (λ (t : List ℕ). take i (texts_of vs) ++ t ∷ []) (text_read vs i v h e)

-- one text more was copied
pub copied_more : (vs cs ds : List (Vec ℕ)) (i : ℕ) (v w : Vec ℕ) → texts_of cs ≡ take i (texts_of vs) → i < length vs → v ≡ get_or vs i v
    → w.items ≡ v.items → ds ≡ cs ++ w ∷ [] → texts_of ds ≡ take (i + 1) (texts_of vs)
copied_more vs cs ds i v w same within read copy push =
    ap texts_of push
    ∙ map_push (λ (x : Vec ℕ). x.items) cs w
    ∙ ap (λ (t : List (List ℕ)). t ++ w.items ∷ []) same
    ∙ ap (λ (t : List ℕ). take i (texts_of vs) ++ t ∷ []) copy
    ∙ sym (take_text vs i v within read)
