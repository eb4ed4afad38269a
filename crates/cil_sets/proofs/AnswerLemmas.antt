-- What a set answers, by its parts.
use Rattle.std.proofs.Common.{◌≡◌, ◌⊎◌, ◌↔◌, ℕ, zero, suc, ◌+◌, ◌-◌, ◌*◌, ◌/◌, ◌%◌, ◌^◌, ◌<◌, ◌≤◌, ◌==◌, Bool, true, false, cond, List, [], ◌∷◌, ◌++◌, length, take, get_or, refl, sym, ◌∙◌, ap, subst, inl, inr, arith}
use Rattle.std.specs.Prelude.{Contains, Some, nat_lt, bit_and}
use Rattle.std.specs.Int.{bit_at, w64, trailing_zeros}
use Rattle.std.specs.Int.Count.{ones_in}
use Rattle.std.specs.Int.RustNames.{count_ones}
use Rattle.std.specs.List.{flat_map}
use Rattle.std.specs.Ordering.{nat_cmp}
use Rattle.std.proofs.lemmas.Bool.Decides.{nat_tests}
use Rattle.std.proofs.lemmas.Nat.Bits.{bit_at_ones, bit_at_ones_above, bit_at-zero, bit_at_set_same, bit_at_set_other, bit_at-trailing_zeros, shr_and_one}
use Rattle.std.proofs.Math.Nat.{pow-succ' as two_more}
use Rattle.cil_base.specs.Lists.{Lists, contains_none}
use Rattle.std.proofs.lemmas.List.Elements.{Contains-append_cases, Contains-append_left}
use Rattle.cil_sets.specs.declared.part.Part.{Part}
use Rattle.cil_sets.specs.Answers.{IsNextFrom}
use Rattle.cil_sets.specs.Kept.{AreFrom, AreParts, IsIn, IsPart, members, members_in, numbers_from, word_of}
use Rattle.cil_sets.specs.Walk.{IsJoinedUpTo, IsRaised, full_word, part_with}
use Rattle.std.proofs.Math.Dec.{eqb}
use Rattle.std.specs.Prelude.{IsTrue, slice_get}
use Rattle.std.proofs.lemmas.List.{append-nil, append_assoc, length-append, length-take, take_all, take_more}
use Rattle.std.proofs.lemmas.Grind.{flat_map-append}
use Rattle.cil_base.specs.Places.{none_some, some_same}
use Rattle.cil_sets.proofs.BitLemmas.{by_equation}
use Rattle.cil_sets.proofs.PartLemmas.{first_of, none_from, put_more}
use Rattle.cil_sets.proofs.MemberLemmas.{block_has, in_block, is_member, member_from, member_is, members_are, members_list}

same_or : (k b : ℕ) → (k ≡ b) ⊎ (k ≡ b → ⊥)
same_or k b = elim (three k b) [ inl e ↦ inl e | inr l ↦ inr (λ e. elim l [ inl m ↦ omega (arith, e, m) | inr m ↦ omega (arith, e, m) ]) ] where
  three : (k b : ℕ) → (k ≡ b) ⊎ ((k < b) ⊎ (b < k))
  three k b = grind arith

-- ---- a number is added

pub added_list : (old new : List Part) (n : ℕ) → AreParts old → IsRaised old (n / 64) (1 * 2 ^ (n % 64) % 2 ^ 64) new
    → Lists nat_cmp (λ v. Contains (members old) v ⊎ (v ≡ n)) (members new)
added_list old new n a r = members_list new (λ v. Contains (members old) v ⊎ (v ≡ n)) r.parts (λ v. (there v, back v)) where
  bit : ℕ
  bit = 1 * 2 ^ (n % 64) % 2 ^ 64

  is : (v : ℕ) → (v / 64 ≡ n / 64) → v % 64 ≡ n % 64 → v ≡ n
  is v e f = omega (arith, e, f)

  there : (v : ℕ) → IsIn new v → Contains (members old) v ⊎ (v ≡ n)
  there v h = elim (same_or (v / 64) (n / 64)) [
    | inr d ↦ inl (is_member old v (ap (λ w. bit_at w (v % 64)) (sym (r.others (v / 64) d)) ∙ h))
    | inl e ↦ elim (same_or (v % 64) (n % 64)) [
      | inl f ↦ inr (is v e f)
      | inr d ↦ inl (is_member old v (ap (λ w. bit_at w (v % 64)) (ap (word_of old) e) ∙ sym (bit_at_set_other w64 (word_of old (n / 64)) (n % 64) (omega arith) (v % 64) d)
          ∙ ap (λ w. bit_at w (v % 64)) (sym r.here ∙ ap (word_of new) (sym e)) ∙ h))
    ]
  ]

  same_bit : (v : ℕ) → v ≡ n → IsIn new v
  same_bit v e = subst (λ k. IsIn new k) (sym e) (ap (λ w. bit_at w (n % 64)) r.here ∙ bit_at_set_same w64 (word_of old (n / 64)) (n % 64) (omega arith))

  back : (v : ℕ) → Contains (members old) v ⊎ (v ≡ n) → IsIn new v
  back v (inr e) = same_bit v e
  back v (inl c) = elim (same_or (v / 64) (n / 64)) [
    | inr d ↦ ap (λ w. bit_at w (v % 64)) (r.others (v / 64) d) ∙ member_is old v a c
    | inl e ↦ elim (same_or (v % 64) (n % 64)) [
      | inl f ↦ same_bit v (is v e f)
      | inr d ↦ ap (λ w. bit_at w (v % 64)) (ap (word_of new) e ∙ r.here) ∙ bit_at_set_other w64 (word_of old (n / 64)) (n % 64) (omega arith) (v % 64) d
          ∙ ap (λ w. bit_at w (v % 64)) (ap (word_of old) (sym e)) ∙ member_is old v a c
    ]
  ]

-- the bit of a word, as the code tests it
pub bit_tested : (ps : List Part) (v w : ℕ) → AreParts ps → w ≡ word_of ps (v / 64) → (bit_and (w / 2 ^ (v % 64)) 1 ≡ 1) ↔ Contains (members ps) v
bit_tested ps v w a e =
    let m = members_are ps a v in
    let same : bit_and (w / 2 ^ (v % 64)) 1 ≡ bit_at (word_of ps (v / 64)) (v % 64) = shr_and_one w (v % 64) ∙ ap (λ k. bit_at k (v % 64)) e in
    (λ h. m.1 (sym same ∙ h), λ c. same ∙ m.0 c)

-- ---- the first member

pub lowest_bit : (w : ℕ) → 0 < w → w < 2 ^ 64 → (trailing_zeros w64 w < 64) × (bit_at w (trailing_zeros w64 w) ≡ 1) × ((i : ℕ) → i < trailing_zeros w64 w → bit_at w i ≡ 0)
lowest_bit w some small = bit_at-trailing_zeros w64 w some small

pub first_is : (low : ℕ) (p : Part) (ps : List Part) → AreFrom low (p ∷ ps) → IsNextFrom (members (p ∷ ps)) 0 (p.block * 64 + trailing_zeros w64 p.word)
unfolding members
first_is low p ps a =
    let f = first_of low p ps a in
    let b = lowest_bit p.word f.0.some f.0.word in
    let l = b.0 in record {
      member = Contains-append_left (members_in p) (members ps) (p.block * 64 + trailing_zeros w64 p.word) (here (trailing_zeros w64 p.word) l b.1);
      after = omega arith;
      least = λ u c h. elim (Contains-append_cases (members_in p) (members ps) u c) [
        | inl d ↦ in_first u (trailing_zeros w64 p.word) b.2 d
        | inr d ↦ let m = member_from (suc p.block) ps u f.2 d in omega (arith, l, m)
      ];
    } where
      here : (t : ℕ) → t < 64 → bit_at p.word t ≡ 1 → Contains (members_in p) (p.block * 64 + t)
      here t l e = block_has p (p.block * 64 + t) (omega (arith, l)) (let low : (p.block * 64 + t) % 64 ≡ t = omega (arith, l) in ap (bit_at p.word) low ∙ e)

      in_first : (u t : ℕ) → ((i : ℕ) → i < t → bit_at p.word i ≡ 0) → Contains (members_in p) u → p.block * 64 + t ≤ u
      in_first u t low c =
          let b = in_block p u c in
          elim (which (u % 64) t) [
            | inl l ↦ absurd (let z = low (u % 64) l in let o = b.1 in omega (arith, z, o))
            | inr l ↦ let e = b.0 in omega (arith, e, l)
          ] where
            which : (i t : ℕ) → (i < t) ⊎ (t ≤ i)
            which i t = grind arith

-- of what begins with a first part
pub first_of_all : (low : ℕ) (ps : List Part) (d : Part) → AreFrom low ps → 0 < length ps → IsNextFrom (members ps) 0 ((get_or ps 0 d).block * 64 + trailing_zeros w64 (get_or ps 0 d).word)
first_of_all low [] d a l = absurd (omega (arith, l))
first_of_all low (p ∷ ps) d a l = first_is low p ps a

pub first_fits : (low : ℕ) (ps : List Part) (d : Part) → AreFrom low ps → 0 < length ps → IsPart (get_or ps 0 d)
first_fits low [] d a l = absurd (omega (arith, l))
first_fits low (p ∷ ps) d a l = (first_of low p ps a).0

-- ---- no members

pub none_empty : (ps : List Part) → AreParts ps → (members ps ≡ []) ↔ (ps ≡ [])
unfolding members
none_empty [] a = (λ e. refl, λ e. refl)
none_empty (p ∷ ps) a = (
  λ e. absurd (contains_none _ (subst (λ xs. Contains xs (p.block * 64 + trailing_zeros w64 p.word)) e (first_is 0 p ps a).member)),
  λ e. absurd (let l : suc (length ps) ≡ 0 = ap length e in omega (arith, l)),
)

-- ---- how many

ones_length : (n base w : ℕ) → length (numbers_from base n w) ≡ ones_in n w
unfolding numbers_from ones_in
ones_length zero base w = refl
ones_length (suc n) base w =
    let again = ones_length n (suc base) (w / 2) in
    go (w % 2 == 1) (numbers_from (suc base) n (w / 2)) refl again where
      go : (b : Bool) (rest : List ℕ) → (w % 2 == 1) ≡ b → length rest ≡ ones_in n (w / 2) → length (cond b (base ∷ rest) rest) ≡ w % 2 + ones_in n (w / 2)
      go true rest e l = let o : w % 2 ≡ 1 = grind (arith, nat_tests) in omega (arith, o, l)
      go false rest e l = let o : w % 2 ≡ 0 = grind (arith, nat_tests) in omega (arith, o, l)

ones_of_zero : (n : ℕ) → ones_in n 0 ≡ 0
unfolding ones_in
ones_of_zero zero = refl
ones_of_zero (suc n) = let e = ones_of_zero n in omega (arith, e)

-- more digits than there are make no difference
ones_enough : (m n w : ℕ) → w < 2 ^ m → w < 2 ^ n → ones_in m w ≡ ones_in n w
unfolding ones_in
ones_enough zero n w l h = let e : w ≡ 0 = omega (arith, l) in sym (ap (ones_in n) e ∙ ones_of_zero n)
ones_enough (suc m) zero w l h = let e : w ≡ 0 = omega (arith, h) in ap (ones_in (suc m)) e ∙ ones_of_zero (suc m)
ones_enough (suc m) (suc n) w l h = ap (λ k. w % 2 + k) (ones_enough m n (w / 2) (half m w l) (half n w h)) where
  half : (m w : ℕ) → w < 2 ^ suc m → w / 2 < 2 ^ m
  half m w l = let e = two_more 2 m in omega (arith, l, e)

pub members_length : (p : Part) → p.word < 2 ^ 64 → length (members_in p) ≡ count_ones p.word
unfolding members_in count_ones
members_length p l = ones_length 64 (p.block * 64) p.word ∙ ones_enough 64 p.word p.word l (below_power p.word) where
  below_power : (n : ℕ) → n < 2 ^ n
  below_power zero = omega arith
  below_power (suc n) = let again = below_power n in let e = two_more 2 n in omega (arith, again, e)

pub first_at : (low : ℕ) (ps : List Part) (p : Part) → AreFrom low ps → Some p ≡ slice_get ps 0 → IsPart p × (trailing_zeros w64 p.word < 64) × IsNextFrom (members ps) 0 (p.block * 64 + trailing_zeros w64 p.word)
first_at low [] p a e = absurd (none_some p (sym e))
first_at low (q ∷ ps) p a e =
    let same : q ≡ p = some_same q p (sym e) in
    let f = first_of low q ps a in (
      subst IsPart same f.0,
      subst (λ (x : Part). trailing_zeros w64 x.word < 64) same (lowest_bit q.word f.0.some f.0.word).0,
      subst (λ (x : Part). IsNextFrom (members (q ∷ ps)) 0 (x.block * 64 + trailing_zeros w64 x.word)) same (first_is low q ps a),
    )

-- a test of a number, and of no length
pub test_is : (x y : ℕ) (P : Type 0) → (x ≡ y) ↔ P → IsTrue (eqb x y) ↔ P
test_is x y P h = (λ t. h.0 (eqb_from x y t), λ p. eqb_to x y (h.1 p)) where
  eqb_from : (x y : ℕ) → IsTrue (eqb x y) → x ≡ y
  eqb_from x y t = grind (arith, nat_tests)

  eqb_to : (x y : ℕ) → x ≡ y → IsTrue (eqb x y)
  eqb_to x y e = grind (arith, nat_tests)

pub empty_tested : (ps : List Part) (n : ℕ) (b : Bool) → AreParts ps → n ≡ length ps → b ≡ (n == 0) → IsTrue b ↔ (members ps ≡ [])
empty_tested ps n b a l e =
    let none = none_empty ps a in (
      λ t. none.1 (no_length ps (let z : n ≡ 0 = grind (arith, nat_tests) in omega (arith, z, l))),
      λ m. let z : length ps ≡ 0 = ap length (none.0 m) in let w : n ≡ 0 = omega (arith, z, l) in grind (arith, nat_tests),
    ) where
      no_length : (ps : List Part) → length ps ≡ 0 → ps ≡ []
      no_length [] e = refl
      no_length (p ∷ ps) e = absurd (omega (arith, e))

-- ---- the members, pushed one by one

pub pushed_step : (base i n w : ℕ) (rest all : List ℕ) → rest ++ numbers_from (base + i) (suc n) w ≡ all
    → rest ++ (cond (w % 2 == 1) ((base + i) ∷ []) [] ++ numbers_from (base + (i + 1)) n (w / 2)) ≡ all
unfolding numbers_from
pushed_step base i n w rest all e = ap (λ xs. rest ++ xs) (go (w % 2 == 1)) ∙ e where
  next : base + (i + 1) ≡ suc (base + i)
  next = omega arith

  go : (b : Bool) → cond b ((base + i) ∷ []) [] ++ numbers_from (base + (i + 1)) n (w / 2) ≡ cond b ((base + i) ∷ numbers_from (suc (base + i)) n (w / 2)) (numbers_from (suc (base + i)) n (w / 2))
  go true = ap (λ k. (base + i) ∷ numbers_from k n (w / 2)) next
  go false = ap (λ k. numbers_from k n (w / 2)) next

pub pushed_odd : (base i n w : ℕ) (rest new all : List ℕ) → w % 2 ≡ 1 → new ≡ rest ++ (base + i) ∷ [] → rest ++ numbers_from (base + i) (suc n) w ≡ all
    → new ++ numbers_from (base + (i + 1)) n (w / 2) ≡ all
pushed_odd base i n w rest new all o is e =
    ap (λ xs. xs ++ numbers_from (base + (i + 1)) n (w / 2)) is ∙ append_assoc rest ((base + i) ∷ []) (numbers_from (base + (i + 1)) n (w / 2))
    ∙ ap (λ b. rest ++ (cond b ((base + i) ∷ []) [] ++ numbers_from (base + (i + 1)) n (w / 2))) (sym (odd w o)) ∙ pushed_step base i n w rest all e where
      odd : (w : ℕ) → w % 2 ≡ 1 → (w % 2 == 1) ≡ true
      odd w o = grind (arith, nat_tests)

pub pushed_even : (base i n w : ℕ) (rest all : List ℕ) → (w % 2 ≡ 1 → ⊥) → rest ++ numbers_from (base + i) (suc n) w ≡ all → rest ++ numbers_from (base + (i + 1)) n (w / 2) ≡ all
pushed_even base i n w rest all o e =
    ap (λ b. rest ++ (cond b ((base + i) ∷ []) [] ++ numbers_from (base + (i + 1)) n (w / 2))) (sym (even w o)) ∙ pushed_step base i n w rest all e where
      even : (w : ℕ) → (w % 2 ≡ 1 → ⊥) → (w % 2 == 1) ≡ false
      even w o = grind (arith, nat_tests)

pub pushed_all : (base w : ℕ) (rest new : List ℕ) → new ++ numbers_from (base + 64) 0 0 ≡ rest ++ numbers_from base 64 w → new ≡ rest ++ numbers_from base 64 w
unfolding numbers_from
pushed_all base w rest new e = sym (append-nil new) ∙ e

-- ---- all numbers below one

pub full_step : (end block w : ℕ) (old new : List Part) → IsJoinedUpTo (full_word end) block old → w ≡ full_word end block → w < 2 ^ 64 → block < end / 64 + 1 → end < 2 ^ 32
    → new ≡ old ++ part_with block w → IsJoinedUpTo (full_word end) (block + 1) new
full_step end block w old new d is small l bound e = put_more (full_word end) block block w old new d (omega arith) (omega arith) small is (λ b h m. absurd (omega (arith, h, m))) e

pub full_start : (end : ℕ) → IsJoinedUpTo (full_word end) 0 []
full_start end = record { parts = λ more m. m; before = λ more b m h. absurd (omega (arith, h)); after = λ more b m h. refl }

pub joined_parts : (word : ℕ → ℕ) (k : ℕ) (ps : List Part) → IsJoinedUpTo word k ps → AreParts ps
joined_parts word k ps d = subst AreParts (append-nil ps) (d.parts [] (none_from k))

pub joined_words : (word : ℕ → ℕ) (k : ℕ) (ps : List Part) → IsJoinedUpTo word k ps → ((b : ℕ) → k ≤ b → word b ≡ 0) → (b : ℕ) → word_of ps b ≡ word b
unfolding word_of
joined_words word k ps d none b = ap (λ xs. word_of xs b) (sym (append-nil ps)) ∙ elim (cases b k) [
  | inl early ↦ d.before [] b (none_from k) early
  | inr late ↦ d.after [] b (none_from k) late ∙ sym (none b late)
] where
  cases : (b low : ℕ) → (b < low) ⊎ (low ≤ b)
  cases b low = grind arith

pub full_behind : (end b : ℕ) → end / 64 + 1 ≤ b → full_word end b ≡ 0
full_behind end b l = grind (arith, nat_tests)

pub full_list : (end : ℕ) (ps : List Part) → AreParts ps → ((b : ℕ) → word_of ps b ≡ full_word end b) → Lists nat_cmp (λ v. v < end) (members ps)
full_list end ps a e = members_list ps (λ v. v < end) a (λ v. by_equation _ _ _ (ap (λ w. bit_at w (v % 64)) (e (v / 64))) (bits v)) where
  bits : (v : ℕ) → (bit_at (full_word end (v / 64)) (v % 64) ≡ 1) ↔ (v < end)
  bits v = elim (three (v / 64) (end / 64)) [
    | inl l ↦ (λ h. omega (arith, l), λ h. ap (λ w. bit_at w (v % 64)) (all_ones (v / 64) (end / 64) l) ∙ bit_at_ones 64 (v % 64) (omega arith))
    | inr r ↦ elim r [
      | inl e ↦ (
        λ h. elim (before (v % 64) (end % 64)) [
          | inl l ↦ omega (arith, e, l)
          | inr l ↦ absurd (let z = sym (ap (λ w. bit_at w (v % 64)) (low_ones (v / 64) (end / 64) e)) ∙ h in let o = bit_at_ones_above (end % 64) (v % 64) l in omega (arith, z, o))
        ],
        λ h. ap (λ w. bit_at w (v % 64)) (low_ones (v / 64) (end / 64) e) ∙ bit_at_ones (end % 64) (v % 64) (omega (arith, h, e)),
      )
      | inr l ↦ (λ h. absurd (let z = sym (ap (λ w. bit_at w (v % 64)) (no_ones (v / 64) (end / 64) l)) ∙ h in let o = bit_at-zero (v % 64) in omega (arith, z, o)), λ h. absurd (omega (arith, h, l)))
    ]
  ] where
    three : (a b : ℕ) → (a < b) ⊎ ((a ≡ b) ⊎ (b < a))
    three a b = grind arith

    before : (a b : ℕ) → (a < b) ⊎ (b ≤ a)
    before a b = grind arith

    all_ones : (a b : ℕ) → a < b → cond (nat_lt a b) (2 ^ 64 - 1) (cond (nat_lt b a) 0 (2 ^ (end % 64) - 1)) ≡ 2 ^ 64 - 1
    all_ones a b l = grind (arith, nat_tests)

    low_ones : (a b : ℕ) → a ≡ b → cond (nat_lt a b) (2 ^ 64 - 1) (cond (nat_lt b a) 0 (2 ^ (end % 64) - 1)) ≡ 2 ^ (end % 64) - 1
    low_ones a b e = grind (arith, nat_tests)

    no_ones : (a b : ℕ) → b < a → cond (nat_lt a b) (2 ^ 64 - 1) (cond (nat_lt b a) 0 (2 ^ (end % 64) - 1)) ≡ 0
    no_ones a b l = grind (arith, nat_tests)

pub numbers_none : (base w : ℕ) (new all : List ℕ) → new ++ numbers_from base 0 w ≡ all → new ≡ all
unfolding numbers_from
numbers_none base w new all e = sym (append-nil new) ∙ e

pub nothing_in_none : (v : ℕ) → Contains (members []) v → ⊥
unfolding members
nothing_in_none v c = contains_none v c

-- ---- how many members, counted block by block

few_in : (n base w : ℕ) → length (numbers_from base n w) ≤ n
unfolding numbers_from
few_in zero base w = omega arith
few_in (suc n) base w = let again = few_in n (suc base) (w / 2) in go (w % 2 == 1) again where
  go : (b : Bool) → length (numbers_from (suc base) n (w / 2)) ≤ n → length (cond b (base ∷ numbers_from (suc base) n (w / 2)) (numbers_from (suc base) n (w / 2))) ≤ suc n
  go true l = omega (arith, l)
  go false l = omega (arith, l)

few_members : (ps : List Part) → length (members ps) ≤ 64 * length ps
unfolding members members_in
few_members [] = omega arith
few_members (p ∷ ps) =
    let again = few_members ps in
    let here = few_in 64 (p.block * 64) p.word in
    let all = length-append (numbers_from (p.block * 64) 64 p.word) (flat_map members_in ps) in omega (arith, again, here, all)

few_parts : (low : ℕ) (ps : List Part) → AreFrom low ps → low ≤ 2 ^ 26 → low + length ps ≤ 2 ^ 26
few_parts low [] a l = omega (arith, l)
few_parts low (p ∷ ps) a l =
    let f = first_of low p ps a in
    let b = f.0.block in
    let h = f.1 in
    let again = few_parts (suc p.block) ps f.2 (omega (arith, b)) in omega (arith, again, h)

part_word : (low : ℕ) (ps : List Part) (k : ℕ) (d : Part) → AreFrom low ps → k < length ps → IsPart (get_or ps k d)
part_word low [] k d a l = absurd (omega (arith, l))
part_word low (p ∷ ps) zero d a l = (first_of low p ps a).0
part_word low (p ∷ ps) (suc k) d a l = part_word (suc p.block) ps k d (first_of low p ps a).2 (omega (arith, l))

pub part_fits : (ps : List Part) (k : ℕ) (d : Part) → AreParts ps → k < length ps → (get_or ps k d).block < 2 ^ 26
part_fits ps k d a l = (part_word 0 ps k d a l).block

take_members : (ps : List Part) (k : ℕ) (d : Part) → k < length ps → members (take (k + 1) ps) ≡ members (take k ps) ++ members_in (get_or ps k d)
unfolding members
take_members ps k d l = ap (flat_map members_in) (take_more ps k d l) ∙ flat_map-append members_in (take k ps) (get_or ps k d ∷ []) ∙ ap (λ xs. flat_map members_in (take k ps) ++ xs) (append-nil (members_in (get_or ps k d)))

pub counted_more : (ps : List Part) (k n : ℕ) (d : Part) → AreParts ps → k < length ps → n ≡ length (members (take k ps)) → n + count_ones (get_or ps k d).word ≡ length (members (take (k + 1) ps))
counted_more ps k n d a l e =
    let here = members_length (get_or ps k d) (part_word 0 ps k d a l).word in
    let all = ap length (take_members ps k d l) ∙ length-append (members (take k ps)) (members_in (get_or ps k d)) in omega (arith, here, all, e)

pub counted_fits : (ps : List Part) (k n : ℕ) (d : Part) → AreParts ps → k < length ps → n ≡ length (members (take k ps)) → n + count_ones (get_or ps k d).word ≤ 2 ^ 32
counted_fits ps k n d a l e =
    let more = counted_more ps k n d a l e in
    let few = few_members (take (k + 1) ps) in
    let parts = few_parts 0 ps a (omega arith) in
    let taken : length (take (k + 1) ps) ≤ length ps = omega (arith, length-take (k + 1) ps) in omega (arith, more, few, parts, taken)

pub counted_none : 0 ≡ length (members [])
unfolding members
counted_none = refl

pub counted_all : (ps : List Part) (k n : ℕ) → length ps ≤ k → n ≡ length (members (take k ps)) → n ≡ length (members ps)
counted_all ps k n l e = e ∙ ap (λ xs. length (members xs)) (take_all k ps l)

pub members_flat : (ps : List Part) → flat_map members_in ps ≡ members ps
unfolding members
members_flat ps = refl
