-- The members of a set, by the bits of its words.
use Rattle.std.proofs.Common.{◌≡◌, ◌⊎◌, ◌↔◌, ℕ, zero, suc, ◌+◌, ◌*◌, ◌/◌, ◌%◌, ◌<◌, ◌≤◌, ◌==◌, Bool, true, false, cond, List, [], ◌∷◌, refl, sym, ◌∙◌, ap, subst, inl, inr, arith}
use Rattle.std.specs.Prelude.{Contains}
use Rattle.std.specs.Int.{bit_at}
use Rattle.std.specs.List.{flat_map}
use Rattle.std.specs.Ordering.{nat_cmp}
use Rattle.std.specs.Cmp.{nat_cmp_is}
use Rattle.std.specs.declared.cmp.Ordering.TheVariants.{Less}
use Rattle.std.specs.List.Sorted.{IsStrictlySortedBy}
use Rattle.std.proofs.lemmas.Bool.Decides.{nat_tests}
use Rattle.std.proofs.lemmas.Nat.Bits.{bit_at-suc, bit_at-zero, bit_at_lowest}
use Rattle.cil_base.specs.Lists.{Lists, contains_here, contains_later, contains_cases, contains_none}
use Rattle.cil_base.specs.MadeLists.{contains_flat, from_flat}
use Rattle.cil_base.specs.Rising.{rising_in_front, rising_join, rising_nothing}
use Rattle.cil_sets.specs.declared.part.Part.{Part}
use Rattle.cil_sets.specs.Kept.{AreFrom, AreParts, IsIn, members, members_in, numbers_from, word_of}
use Rattle.cil_sets.proofs.PartLemmas.{first_of, word_here, word_later}

pub below_less : (a b : ℕ) → a < b → nat_cmp a b ≡ Less
below_less a b l = sym (nat_cmp_is a b Less l)

-- ---- the bits of one word

cond_cases : (b : Bool) (x v : ℕ) (xs : List ℕ) → Contains (cond b (x ∷ xs) xs) v → ((b ≡ true) × (x ≡ v)) ⊎ Contains xs v
cond_cases true x v xs c = elim (contains_cases v x xs c) [ inl e ↦ inl (refl, e) | inr d ↦ inr d ]
cond_cases false x v xs c = inr c

cond_rest : (b : Bool) (x v : ℕ) (xs : List ℕ) → Contains xs v → Contains (cond b (x ∷ xs) xs) v
cond_rest true x v xs c = contains_later v x xs c
cond_rest false x v xs c = c

odd_one : (w : ℕ) → (w % 2 == 1) ≡ true → w % 2 ≡ 1
odd_one w e = grind (arith, nat_tests)

pub has_from : (n base w v : ℕ) → Contains (numbers_from base n w) v → (i : ℕ) × (i < n) × (v ≡ base + i) × (bit_at w i ≡ 1)
unfolding numbers_from
has_from zero base w v c = absurd (contains_none v c)
has_from (suc n) base w v c =
    elim (cond_cases (w % 2 == 1) base v (numbers_from (suc base) n (w / 2)) c) [
      | inl e ↦ (0, omega arith, let f = e.1 in omega (arith, f), bit_at_lowest w ∙ odd_one w e.0)
      | inr d ↦ let r = has_from n (suc base) (w / 2) v d in
          let l = r.1 in let e = r.2 in (suc r.0, omega (arith, l), omega (arith, e), bit_at-suc w r.0 ∙ r.3)
    ]

odd_test : (w : ℕ) → w % 2 ≡ 1 → (w % 2 == 1) ≡ true
odd_test w e = grind (arith, nat_tests)

pub from_has : (n base w i : ℕ) → i < n → bit_at w i ≡ 1 → Contains (numbers_from base n w) (base + i)
unfolding numbers_from
from_has zero base w i l e = absurd (omega (arith, l))
from_has (suc n) base w zero l e =
    let odd : (w % 2 == 1) ≡ true = odd_test w (sym (bit_at_lowest w) ∙ e) in
    let rest : List ℕ = numbers_from (suc base) n (w / 2) in
    subst (λ b. Contains (cond b (base ∷ rest) rest) (base + 0)) (sym odd) (subst (λ v. Contains (base ∷ rest) v) (omega arith) (contains_here base rest))
from_has (suc n) base w (suc i) l e =
    let again : Contains (numbers_from (suc base) n (w / 2)) (suc base + i) = from_has n (suc base) (w / 2) i (omega (arith, l)) (sym (bit_at-suc w i) ∙ e) in
    let same : suc base + i ≡ base + suc i = omega arith in
    cond_rest (w % 2 == 1) base (base + suc i) (numbers_from (suc base) n (w / 2)) (subst (Contains (numbers_from (suc base) n (w / 2))) same again)

cond_rises : (b : Bool) (x : ℕ) (xs : List ℕ) → ((y : ℕ) → Contains xs y → x < y) → IsStrictlySortedBy nat_cmp xs → IsStrictlySortedBy nat_cmp (cond b (x ∷ xs) xs)
cond_rises true x xs l r = rising_in_front nat_cmp x xs (λ y c. below_less x y (l y c)) r
cond_rises false x xs l r = r

pub numbers_rise : (n base w : ℕ) → IsStrictlySortedBy nat_cmp (numbers_from base n w)
unfolding numbers_from
numbers_rise zero base w = rising_nothing nat_cmp
numbers_rise (suc n) base w =
    cond_rises (w % 2 == 1) base (numbers_from (suc base) n (w / 2))
    (λ y c. let r = has_from n (suc base) (w / 2) y c in let e = r.2 in omega (arith, e)) (numbers_rise n (suc base) (w / 2))

-- ---- one block

pub in_block : (p : Part) (v : ℕ) → Contains (members_in p) v → (v / 64 ≡ p.block) × (bit_at p.word (v % 64) ≡ 1)
unfolding members_in
in_block p v c =
    let r = has_from 64 (p.block * 64) p.word v c in
    let l = r.1 in
    let e = r.2 in
    let low : v % 64 ≡ r.0 = omega (arith, l, e) in (omega (arith, l, e), ap (bit_at p.word) low ∙ r.3)

pub block_has : (p : Part) (v : ℕ) → v / 64 ≡ p.block → bit_at p.word (v % 64) ≡ 1 → Contains (members_in p) v
unfolding members_in
block_has p v b e =
    let c : Contains (numbers_from (p.block * 64) 64 p.word) (p.block * 64 + v % 64) = from_has 64 (p.block * 64) p.word (v % 64) (omega arith) e in
    let same : p.block * 64 + v % 64 ≡ v = omega (arith, b) in subst (Contains (numbers_from (p.block * 64) 64 p.word)) same c

-- ---- all blocks

pub above : (low : ℕ) (ps : List Part) (p : Part) → AreFrom low ps → Contains ps p → low ≤ p.block
above low [] p a c = absurd (contains_none p c)
above low (q ∷ ps) p a c =
    let f = first_of low q ps a in
    let l = f.1 in
    elim (contains_cases p q ps c) [
      | inl e ↦ let same : q.block ≡ p.block = ap (λ (x : Part). x.block) e in omega (arith, same, l)
      | inr d ↦ let m = above (suc q.block) ps p f.2 d in omega (arith, l, m)
    ]

pub word_is : (low : ℕ) (ps : List Part) (p : Part) → AreFrom low ps → Contains ps p → word_of ps p.block ≡ p.word
word_is low [] p a c = absurd (contains_none p c)
word_is low (q ∷ ps) p a c =
    let f = first_of low q ps a in
    elim (contains_cases p q ps c) [
      | inl e ↦ word_here q ps p.block (ap (λ (x : Part). x.block) e) ∙ ap (λ (x : Part). x.word) e
      | inr d ↦ let l = above (suc q.block) ps p f.2 d in word_later q ps p.block (λ e. omega (arith, e, l)) ∙ word_is (suc q.block) ps p f.2 d
    ]

pub word_found : (ps : List Part) (b : ℕ) → (word_of ps b ≡ 0) ⊎ ((p : Part) × Contains ps p × (p.block ≡ b) × (p.word ≡ word_of ps b))
unfolding word_of
word_found [] b = inl refl
word_found (p ∷ ps) b = go (p.block == b) refl (word_found ps b) where
  go : (t : Bool) → (p.block == b) ≡ t → (word_of ps b ≡ 0) ⊎ ((q : Part) × Contains ps q × (q.block ≡ b) × (q.word ≡ word_of ps b))
      → (word_of (p ∷ ps) b ≡ 0) ⊎ ((q : Part) × Contains (p ∷ ps) q × (q.block ≡ b) × (q.word ≡ word_of (p ∷ ps) b))
  go true e r = let same : p.block ≡ b = grind (arith, nat_tests) in inr (p, contains_here p ps, same, sym (word_here p ps b same))
  go false e r =
      let later : word_of (p ∷ ps) b ≡ word_of ps b = word_later p ps b (grind (arith, nat_tests)) in
      elim r [
        | inl z ↦ inl (later ∙ z)
        | inr q ↦ inr (q.0, contains_later q.0 p ps q.1, q.2, q.3 ∙ sym later)
      ]

-- a number is a member where the bit of its block is set
pub member_is : (ps : List Part) (v : ℕ) → AreParts ps → Contains (members ps) v → IsIn ps v
unfolding members
member_is ps v a c =
    let r = from_flat members_in ps v c in
    let b = in_block r.0 v r.2 in
    ap (λ w. bit_at w (v % 64)) (ap (word_of ps) b.0 ∙ word_is 0 ps r.0 a r.1) ∙ b.1

pub is_member : (ps : List Part) (v : ℕ) → IsIn ps v → Contains (members ps) v
unfolding members
is_member ps v h = elim (word_found ps (v / 64)) [
  | inl z ↦ absurd (let e : bit_at 0 (v % 64) ≡ 1 = ap (λ w. bit_at w (v % 64)) (sym z) ∙ h in let f = bit_at-zero (v % 64) in omega (arith, e, f))
  | inr p ↦ contains_flat members_in ps p.0 v p.1 (block_has p.0 v (sym p.2) (ap (λ w. bit_at w (v % 64)) p.3 ∙ h))
]

pub members_are : (ps : List Part) → AreParts ps → (v : ℕ) → Contains (members ps) v ↔ IsIn ps v
members_are ps a v = (member_is ps v a, is_member ps v)

-- ---- the members rise

pub member_from : (low : ℕ) (ps : List Part) (v : ℕ) → AreFrom low ps → Contains (members ps) v → low * 64 ≤ v
unfolding members
member_from low ps v a c =
    let r = from_flat members_in ps v c in
    let b = (in_block r.0 v r.2).0 in
    let l = above low ps r.0 a r.1 in omega (arith, b, l)

block_rises : (p : Part) → IsStrictlySortedBy nat_cmp (members_in p)
unfolding members_in
block_rises p = numbers_rise 64 (p.block * 64) p.word

members_rise_from : (low : ℕ) (ps : List Part) → AreFrom low ps → IsStrictlySortedBy nat_cmp (members ps)
unfolding members
members_rise_from low [] a = rising_nothing nat_cmp
members_rise_from low (p ∷ ps) a =
    let f = first_of low p ps a in
    rising_join nat_cmp (members_in p) (flat_map members_in ps) (block_rises p) (members_rise_from (suc p.block) ps f.2)
    (λ x y c d. below_less x y (let b = (in_block p x c).0 in let m = member_from (suc p.block) ps y f.2 d in omega (arith, b, m)))

pub members_rise : (ps : List Part) → AreParts ps → IsStrictlySortedBy nat_cmp (members ps)
members_rise ps a = members_rise_from 0 ps a

-- the members are the list of a set
pub members_list : (ps : List Part) (set : ℕ → Type 0) → AreParts ps → ((v : ℕ) → IsIn ps v ↔ set v) → Lists nat_cmp set (members ps)
members_list ps set a h = record {
  rising = members_rise ps a;
  members = λ v. (λ c. (h v).0 (member_is ps v a c), λ s. is_member ps v ((h v).1 s));
}
