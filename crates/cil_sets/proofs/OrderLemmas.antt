-- Which of two sets comes first, by the least number that just one of them has.
use Rattle.std.proofs.Common.{◌≡◌, ◌⊎◌, ◌↔◌, ℕ, zero, suc, ◌+◌, ◌*◌, ◌/◌, ◌%◌, ◌^◌, ◌<◌, ◌≤◌, List, [], ◌∷◌, length, refl, sym, ◌∙◌, ap, subst, inl, inr, arith}
use Rattle.std.specs.Prelude.{Contains, bit_and, bit_xor}
use Rattle.std.specs.Int.{bit_at, w64, trailing_zeros}
use Rattle.std.specs.Int.Bits.{xor_lt}
use Rattle.std.specs.List.Sorted.{IsStrictlySortedBy}
use Rattle.std.specs.Ordering.{nat_cmp, ordering_reverse, ordering_then}
use Rattle.std.specs.Cmp.Lexicographic.{slice_cmp}
use Rattle.std.specs.declared.cmp.Ordering.{Ordering}
use Rattle.std.specs.declared.cmp.Ordering.TheVariants.{Less, Equal, Greater}
use Rattle.std.proofs.lemmas.Bool.Decides.{nat_tests}
use Rattle.std.proofs.lemmas.Cmp.{nat_cmp_total, nat_list_cmp_total}
use Rattle.std.proofs.lemmas.Nat.Bits.{bit_at-lt, bit_at-trailing_zeros, bit_at_xor, bit_at-zero, same_from_bits, shr_and_one}
use Rattle.cil_base.specs.Lists.{all_at, contains_cases, contains_here, contains_later, contains_none, same_members, text_cmp}
use Rattle.cil_sets.specs.declared.part.Part.{Part}
use Rattle.cil_sets.specs.Kept.{AreFrom, AreParts, members, word_of}
use Rattle.cil_sets.specs.Walk.{AreSameBelow, Decides, HasLowest, IsNext}
use Rattle.cil_sets.proofs.MemberLemmas.{is_member, member_is, members_rise}
use Rattle.cil_sets.proofs.PartLemmas.{begin_low, word_before}

less_below : (a b : ℕ) → nat_cmp a b ≡ Less → a < b
less_below a b e = grind (arith, nat_tests)

below_less : (a b : ℕ) → a < b → nat_cmp a b ≡ Less
below_less a b l = grind (arith, nat_tests)

three : (a b : ℕ) → (a < b) ⊎ ((a ≡ b) ⊎ (b < a))
three a b = grind arith

-- ---- rising lists

-- the one list has a number that the other lacks, and below it both have the same
pub record IsAhead (xs ys : List ℕ) : Type 0 where
  pub number : ℕ
  pub here : Contains xs number
  pub not_there : Contains ys number → ⊥
  pub same : (u : ℕ) → u < number → Contains xs u ↔ Contains ys u

behind_head : (x u : ℕ) (xs : List ℕ) → IsStrictlySortedBy nat_cmp (x ∷ xs) → Contains xs u → x < u
unfolding IsStrictlySortedBy
behind_head x u xs r c = less_below x u (all_at (λ z. nat_cmp x z ≡ Less) xs u r.0 c)

rest_rises : (x : ℕ) (xs : List ℕ) → IsStrictlySortedBy nat_cmp (x ∷ xs) → IsStrictlySortedBy nat_cmp xs
unfolding IsStrictlySortedBy
rest_rises x xs r = r.1

compared : (x y : ℕ) (xs ys : List ℕ) → slice_cmp nat_cmp (x ∷ xs) (y ∷ ys) ≡ ordering_then (nat_cmp x y) (slice_cmp nat_cmp xs ys)
compared x y xs ys = refl

same_then : (x y : ℕ) (o : Ordering) → x ≡ y → ordering_then (nat_cmp x y) o ≡ o
same_then x y o e = ap (λ r. ordering_then r o) (tie x y e) where
  tie : (x y : ℕ) → x ≡ y → nat_cmp x y ≡ Equal
  tie x y e = grind (arith, nat_tests)

pub ahead_less : (xs ys : List ℕ) → IsStrictlySortedBy nat_cmp xs → IsStrictlySortedBy nat_cmp ys → length xs ≡ length ys → IsAhead xs ys → slice_cmp nat_cmp xs ys ≡ Less
ahead_less [] ys r s e a = absurd (contains_none a.number a.here)
ahead_less (x ∷ xs) [] r s e a = absurd (omega (arith, e))
ahead_less (x ∷ xs) (y ∷ ys) r s e a = elim (three x y) [
  | inl l ↦ compared x y xs ys ∙ ap (λ o. ordering_then o (slice_cmp nat_cmp xs ys)) (below_less x y l)
  | inr m ↦ elim m [
    | inl same ↦ compared x y xs ys ∙ same_then x y (slice_cmp nat_cmp xs ys) same ∙ ahead_less xs ys (rest_rises x xs r) (rest_rises y ys s) (omega (arith, e)) (rest same)
    | inr l ↦ absurd (y_missing l)
  ]
] where
  at_least : Contains (x ∷ xs) a.number → x ≤ a.number
  at_least c = elim (contains_cases a.number x xs c) [ inl f ↦ omega (arith, f) | inr d ↦ let b = behind_head x a.number xs r d in omega (arith, b) ]

  -- a head that is lower would be in the first too
  y_missing : y < x → ⊥
  y_missing l =
      let low = at_least a.here in
      elim (contains_cases y x xs ((a.same y (omega (arith, l, low))).1 (contains_here y ys))) [
        | inl f ↦ omega (arith, f, l)
        | inr d ↦ let b = behind_head x y xs r d in omega (arith, b, l)
      ]

  rest : x ≡ y → IsAhead xs ys
  rest same = record {
    number = a.number;
    here = elim (contains_cases a.number x xs a.here) [
      | inl f ↦ absurd (a.not_there (subst (Contains (y ∷ ys)) (sym same ∙ f) (contains_here y ys)))
      | inr d ↦ d
    ];
    not_there = λ c. a.not_there (contains_later a.number y ys c);
    same = λ u l. (
      λ c. elim (contains_cases u y ys ((a.same u l).0 (contains_later u x xs c))) [ inl f ↦ absurd (let b = behind_head x u xs r c in omega (arith, b, f, same)) | inr d ↦ d ],
      λ c. elim (contains_cases u x xs ((a.same u l).1 (contains_later u y ys c))) [ inl f ↦ absurd (let b = behind_head y u ys s c in omega (arith, b, f, same)) | inr d ↦ d ],
    );
  }

pub ahead_greater : (xs ys : List ℕ) → IsStrictlySortedBy nat_cmp xs → IsStrictlySortedBy nat_cmp ys → length xs ≡ length ys → IsAhead ys xs → slice_cmp nat_cmp xs ys ≡ Greater
ahead_greater xs ys r s e a = nat_list_cmp_total.antisymm xs ys ∙ ap ordering_reverse (ahead_less ys xs s r (sym e) a)

-- ---- words

xor_some : (a b : ℕ) → (a ≡ b → ⊥) → bit_xor a b ≡ 0 → ⊥
xor_some a b n z = n (same_from_bits a b (λ i. even (bit_at a i) (bit_at b i) (bit_at-lt a i) (bit_at-lt b i) (sym (bit_at_xor a b i) ∙ ap (λ k. bit_at k i) z ∙ bit_at-zero i))) where
  even : (m n : ℕ) → m < 2 → n < 2 → (m + n) % 2 ≡ 0 → m ≡ n
  even m n a b e = grind arith

positive : (m : ℕ) → (m ≡ 0 → ⊥) → 0 < m
positive zero s = absurd (s refl)
positive (suc m) s = omega arith

module _ (a b : ℕ) (la : a < 2 ^ 64) (lb : b < 2 ^ 64) (n : a ≡ b → ⊥) where
  lowest : (trailing_zeros w64 (bit_xor a b) < 64) × (bit_at (bit_xor a b) (trailing_zeros w64 (bit_xor a b)) ≡ 1) × ((i : ℕ) → i < trailing_zeros w64 (bit_xor a b) → bit_at (bit_xor a b) i ≡ 0)
  lowest = bit_at-trailing_zeros w64 (bit_xor a b) (positive (bit_xor a b) (xor_some a b n)) (xor_lt 64 a b la lb)

  pub lowest_within : trailing_zeros w64 (bit_xor a b) < 64
  lowest_within = lowest.0

  same_below : (i : ℕ) → i < trailing_zeros w64 (bit_xor a b) → bit_at a i ≡ bit_at b i
  same_below i l = even (bit_at a i) (bit_at b i) (bit_at-lt a i) (bit_at-lt b i) (sym (bit_at_xor a b i) ∙ lowest.2 i l) where
    even : (m n : ℕ) → m < 2 → n < 2 → (m + n) % 2 ≡ 0 → m ≡ n
    even m n a b e = grind arith

  odd_there : (bit_at a (trailing_zeros w64 (bit_xor a b)) + bit_at b (trailing_zeros w64 (bit_xor a b))) % 2 ≡ 1
  odd_there = sym (bit_at_xor a b (trailing_zeros w64 (bit_xor a b))) ∙ lowest.1

  pub first_has : bit_and (a / 2 ^ trailing_zeros w64 (bit_xor a b)) 1 ≡ 1 → HasLowest a b
  first_has e =
      let t = trailing_zeros w64 (bit_xor a b) in
      let one : bit_at a t ≡ 1 = sym (shr_and_one a t) ∙ e in record {
        bit = t;
        within = lowest.0;
        here = one;
        not_there = other (bit_at a t) (bit_at b t) (bit_at-lt b t) one odd_there;
        below = same_below;
      } where
        other : (m n : ℕ) → n < 2 → m ≡ 1 → (m + n) % 2 ≡ 1 → n ≡ 0
        other m n l e o = omega (arith, l, e, o)

  pub second_has : (bit_and (a / 2 ^ trailing_zeros w64 (bit_xor a b)) 1 ≡ 1 → ⊥) → HasLowest b a
  second_has e =
      let t = trailing_zeros w64 (bit_xor a b) in
      let none : bit_at a t ≡ 0 = not_one (bit_at a t) (bit_at-lt a t) (λ o. e (shr_and_one a t ∙ o)) in record {
        bit = t;
        within = lowest.0;
        here = other (bit_at a t) (bit_at b t) (bit_at-lt b t) none odd_there;
        not_there = none;
        below = λ i l. sym (same_below i l);
      } where
        not_one : (m : ℕ) → m < 2 → (m ≡ 1 → ⊥) → m ≡ 0
        not_one m l h = grind arith

        other : (m n : ℕ) → n < 2 → m ≡ 0 → (m + n) % 2 ≡ 1 → n ≡ 1
        other m n l e o = omega (arith, l, e, o)

-- ---- sets

-- where all lower blocks are the same, the lowest bit decides
pub ahead_by_bit : (ps qs : List Part) (block : ℕ) → AreParts ps → AreParts qs → ((b : ℕ) → b < block → word_of ps b ≡ word_of qs b) → HasLowest (word_of ps block) (word_of qs block)
    → IsAhead (members ps) (members qs)
ahead_by_bit ps qs block a b below h = record {
  number = block * 64 + h.bit;
  here = is_member ps (block * 64 + h.bit) (at ps ∙ h.here);
  not_there = λ c. let one = sym (at qs) ∙ member_is qs (block * 64 + h.bit) b c in let none = h.not_there in omega (arith, one, none);
  same = λ u l. (λ c. is_member qs u (sym (same u l) ∙ member_is ps u a c), λ c. is_member ps u (same u l ∙ member_is qs u b c));
} where
  within : h.bit < 64
  within = h.within

  at : (xs : List Part) → bit_at (word_of xs ((block * 64 + h.bit) / 64)) ((block * 64 + h.bit) % 64) ≡ bit_at (word_of xs block) h.bit
  at xs = ap (λ k. bit_at (word_of xs k) ((block * 64 + h.bit) % 64)) (omega (arith, within)) ∙ ap (bit_at (word_of xs block)) (omega (arith, within))

  same : (u : ℕ) → u < block * 64 + h.bit → bit_at (word_of ps (u / 64)) (u % 64) ≡ bit_at (word_of qs (u / 64)) (u % 64)
  same u l = elim (three (u / 64) block) [
    | inl m ↦ ap (λ w. bit_at w (u % 64)) (below (u / 64) m)
    | inr m ↦ elim m [
      | inl e ↦ ap (λ k. bit_at (word_of ps k) (u % 64)) e ∙ h.below (u % 64) (omega (arith, e, l)) ∙ ap (λ k. bit_at (word_of qs k) (u % 64)) (sym e)
      | inr n ↦ absurd (omega (arith, n, l, within))
    ]
  ]

pub decided : (ps qs : List Part) (block : ℕ) (o : Ordering) → AreParts ps → AreParts qs → ((b : ℕ) → b < block → word_of ps b ≡ word_of qs b)
    → Decides (word_of ps block) (word_of qs block) o → length (members ps) ≡ length (members qs) → o ≡ text_cmp (members ps) (members qs)
decided ps qs block Less a b below d e = sym (ahead_less (members ps) (members qs) (members_rise ps a) (members_rise qs b) e (ahead_by_bit ps qs block a b below d))
decided ps qs block Equal a b below d e = absurd d
decided ps qs block Greater a b below d e =
    sym (ahead_greater (members ps) (members qs) (members_rise ps a) (members_rise qs b) e (ahead_by_bit qs ps block b a (λ c l. sym (below c l)) d))

pub equal_words : (ps qs : List Part) → AreParts ps → AreParts qs → ((b : ℕ) → word_of ps b ≡ word_of qs b) → Equal ≡ text_cmp (members ps) (members qs)
equal_words ps qs a b same = sym (ap (text_cmp (members ps)) (sym lists) ∙ itself (members ps)) where
  lists : members ps ≡ members qs
  lists = same_members nat_cmp nat_cmp_total (members ps) (members qs) (members_rise ps a) (members_rise qs b)
      (λ u c. is_member qs u (ap (λ w. bit_at w (u % 64)) (sym (same (u / 64))) ∙ member_is ps u a c)) (λ u c. is_member ps u (ap (λ w. bit_at w (u % 64)) (same (u / 64)) ∙ member_is qs u b c))

  itself : (xs : List ℕ) → text_cmp xs xs ≡ Equal
  itself [] = refl
  itself (x ∷ xs) = compared x x xs xs ∙ same_then x x (slice_cmp nat_cmp xs xs) refl ∙ itself xs

-- ---- the walk

pub same_start : (first second : List Part) → AreParts first → AreParts second → AreSameBelow first second first second
same_start first second a b = record { block = 0; left_from = a; right_from = b; left_same = λ c l. refl; right_same = λ c l. refl; below = λ c l. absurd (omega (arith, l)) }

module _ (first second left right : List Part) (s : AreSameBelow first second left right) where
  pub same_words : left ≡ [] → right ≡ [] → (b : ℕ) → word_of first b ≡ word_of second b
  unfolding word_of
  same_words e f b = elim (which b s.block) [
    | inl l ↦ s.below b l
    | inr l ↦ sym (s.left_same b l) ∙ ap (λ xs. word_of xs b) (e ∙ sym f) ∙ s.right_same b l
  ] where
    which : (a b : ℕ) → (a < b) ⊎ (b ≤ a)
    which a b = grind arith

  module _ (block : ℕ) (n : IsNext left right block) where
    low : s.block ≤ block
    low = elim n.begins [ inl b ↦ begin_low s.block block left s.left_from b | inr b ↦ begin_low s.block block right s.right_from b ]

    -- up to the next block nothing differs
    pub same_until : (b : ℕ) → b < block → word_of first b ≡ word_of second b
    same_until b l = elim (which b s.block) [
      | inl m ↦ s.below b m
      | inr m ↦ sym (s.left_same b m) ∙ word_before block b left n.left_from l ∙ sym (word_before block b right n.right_from l) ∙ s.right_same b m
    ] where
      which : (a b : ℕ) → (a < b) ⊎ (b ≤ a)
      which a b = grind arith

    pub left_here : word_of left block ≡ word_of first block
    left_here = s.left_same block low

    pub right_here : word_of right block ≡ word_of second block
    right_here = s.right_same block low

    pub same_more : (new_left new_right : List Part) → word_of left block ≡ word_of right block → AreFrom (block + 1) new_left → AreFrom (block + 1) new_right
        → ((b : ℕ) → block < b → word_of new_left b ≡ word_of left b) → ((b : ℕ) → block < b → word_of new_right b ≡ word_of right b) → AreSameBelow first second new_left new_right
    same_more new_left new_right e l r ls rs = record {
      block = block + 1;
      left_from = l;
      right_from = r;
      left_same = λ b h. ls b (omega (arith, h)) ∙ s.left_same b (let m = low in omega (arith, h, m));
      right_same = λ b h. rs b (omega (arith, h)) ∙ s.right_same b (let m = low in omega (arith, h, m));
      below = λ b h. elim (last b h) [ inl m ↦ same_until b m | inr f ↦ ap (word_of first) f ∙ sym left_here ∙ e ∙ right_here ∙ ap (word_of second) (sym f) ];
    } where
      last : (b : ℕ) → b < block + 1 → (b < block) ⊎ (b ≡ block)
      last b h = grind arith
