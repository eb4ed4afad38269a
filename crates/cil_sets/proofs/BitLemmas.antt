-- The bits of joined words, and what they make of two sets.
use Rattle.std.proofs.Common.{◌≡◌, ◌⊎◌, ◌↔◌, ℕ, ◌+◌, ◌-◌, ◌/◌, ◌%◌, ◌^◌, ◌<◌, suc, List, [], ◌∷◌, sym, ◌∙◌, ap, subst, inl, inr, arith}
use Rattle.std.specs.Prelude.{Contains}
use Rattle.std.specs.Int.{bit_at, w64}
use Rattle.std.specs.Ordering.{nat_cmp}
use Rattle.std.proofs.lemmas.Nat.Bits.{bit_at-lt, bit_at_and, bit_at_not, bit_at_or, bit_at_xor}
use Rattle.cil_base.specs.Lists.{Lists}
use Rattle.cil_sets.specs.declared.part.Part.{Part}
use Rattle.cil_sets.specs.declared.part.Joining.{Joining}
use Rattle.cil_sets.specs.declared.part.Joining.TheVariants.{Union, Both, Either, Without}
use Rattle.cil_sets.specs.Joined.{IsJoined, word_by}
use Rattle.cil_sets.specs.Kept.{AreFrom, AreParts, members, word_of}
use Rattle.cil_sets.proofs.PartLemmas.{first_of, word_here, word_later}
use Rattle.cil_sets.proofs.MemberLemmas.{members_are, members_list}

module _ (m n : ℕ) (a : m < 2) (b : n < 2) where
  most_one : (Prim.Native.Nat.max m n ≡ 1) ↔ ((m ≡ 1) ⊎ (n ≡ 1))
  most_one = (λ e. grind arith, λ s. grind arith)

  least_one : (Prim.Native.Nat.min m n ≡ 1) ↔ ((m ≡ 1) × (n ≡ 1))
  least_one = (λ e. (omega (arith, e), omega (arith, e)), λ s. let x = s.0 in let y = s.1 in omega (arith, x, y))

  one_of : ((m + n) % 2 ≡ 1) ↔ (((m ≡ 1) × (n ≡ 1 → ⊥)) ⊎ ((m ≡ 1 → ⊥) × (n ≡ 1)))
  one_of = (λ e. there e, λ s. back s) where
    there : (m + n) % 2 ≡ 1 → ((m ≡ 1) × (n ≡ 1 → ⊥)) ⊎ ((m ≡ 1 → ⊥) × (n ≡ 1))
    there e = elim (which e) [ inl h ↦ inl (h.0, λ f. let g = h.1 in omega (arith, f, g)) | inr h ↦ inr (λ f. let g = h.0 in omega (arith, f, g), h.1) ] where
      which : (m + n) % 2 ≡ 1 → ((m ≡ 1) × (n ≡ 0)) ⊎ ((m ≡ 0) × (n ≡ 1))
      which e = grind arith

    back : ((m ≡ 1) × (n ≡ 1 → ⊥)) ⊎ ((m ≡ 1 → ⊥) × (n ≡ 1)) → (m + n) % 2 ≡ 1
    back (inl h) = let f = h.0 in let g : n ≡ 0 = zero_or n b h.1 in omega (arith, f, g) where
      zero_or : (k : ℕ) → k < 2 → (k ≡ 1 → ⊥) → k ≡ 0
      zero_or k l h = grind arith
    back (inr h) = let f = h.1 in let g : m ≡ 0 = zero_or m a h.0 in omega (arith, f, g) where
      zero_or : (k : ℕ) → k < 2 → (k ≡ 1 → ⊥) → k ≡ 0
      zero_or k l h = grind arith

  but_not : (Prim.Native.Nat.min m (1 - n) ≡ 1) ↔ ((m ≡ 1) × (n ≡ 1 → ⊥))
  but_not = (λ e. (omega (arith, e), λ f. omega (arith, e, f)), λ s. let f = s.0 in let g : n ≡ 0 = zero_or n b s.1 in omega (arith, f, g)) where
    zero_or : (k : ℕ) → k < 2 → (k ≡ 1 → ⊥) → k ≡ 0
    zero_or k l h = grind arith

pub by_equation : (x y : ℕ) (P : Type 0) → x ≡ y → (y ≡ 1) ↔ P → (x ≡ 1) ↔ P
by_equation x y P e h = (λ f. h.0 (sym e ∙ f), λ p. e ∙ h.1 p)

pub joined_bits : (how : Joining) (a b i : ℕ) → b < 2 ^ 64 → i < 64 → (bit_at (word_by how a b) i ≡ 1) ↔ IsJoined how (bit_at a i ≡ 1) (bit_at b i ≡ 1)
joined_bits Union a b i s l = by_equation _ _ _ (bit_at_or a b i) (most_one (bit_at a i) (bit_at b i) (bit_at-lt a i) (bit_at-lt b i))
joined_bits Both a b i s l = by_equation _ _ _ (bit_at_and a b i) (least_one (bit_at a i) (bit_at b i) (bit_at-lt a i) (bit_at-lt b i))
joined_bits Either a b i s l = by_equation _ _ _ (bit_at_xor a b i) (one_of (bit_at a i) (bit_at b i) (bit_at-lt a i) (bit_at-lt b i))
joined_bits Without a b i s l =
    by_equation _ _ _ (bit_at_and a _ i ∙ ap (λ k. Prim.Native.Nat.min (bit_at a i) k) (bit_at_not w64 b i s l)) (but_not (bit_at a i) (bit_at b i) (bit_at-lt a i) (bit_at-lt b i))

pub joined_map : (how : Joining) (P Q R S : Type 0) → P ↔ R → Q ↔ S → IsJoined how P Q → IsJoined how R S
joined_map Union P Q R S f g (inl p) = inl (f.0 p)
joined_map Union P Q R S f g (inr q) = inr (g.0 q)
joined_map Both P Q R S f g h = (f.0 h.0, g.0 h.1)
joined_map Either P Q R S f g (inl h) = inl (f.0 h.0, λ s. h.1 (g.1 s))
joined_map Either P Q R S f g (inr h) = inr (λ r. h.0 (f.1 r), g.0 h.1)
joined_map Without P Q R S f g h = (f.0 h.0, λ s. h.1 (g.1 s))

pub word_fits : (low : ℕ) (ps : List Part) (b : ℕ) → AreFrom low ps → word_of ps b < 2 ^ 64
unfolding word_of
word_fits low [] b a = omega arith
word_fits low (p ∷ ps) b a =
    let f = first_of low p ps a in
    elim (same_or p.block b) [
      | inl e ↦ subst (λ w. w < 2 ^ 64) (sym (word_here p ps b e)) f.0.word
      | inr d ↦ subst (λ w. w < 2 ^ 64) (sym (word_later p ps b d)) (word_fits (suc p.block) ps b f.2)
    ] where
      same_or : (k b : ℕ) → (k ≡ b) ⊎ (k ≡ b → ⊥)
      same_or k b = elim (three k b) [ inl e ↦ inl e | inr l ↦ inr (λ e. elim l [ inl m ↦ omega (arith, e, m) | inr m ↦ omega (arith, e, m) ]) ] where
        three : (k b : ℕ) → (k ≡ b) ⊎ ((k < b) ⊎ (b < k))
        three k b = grind arith

back : {P Q : Type 0} → P ↔ Q → Q ↔ P
back h = (h.1, h.0)

-- words that are joined make the joined set
pub joined_list : (how : Joining) (xs ys rs : List Part) → AreParts xs → AreParts ys → AreParts rs → ((b : ℕ) → word_of rs b ≡ word_by how (word_of xs b) (word_of ys b))
    → Lists nat_cmp (λ v. IsJoined how (Contains (members xs) v) (Contains (members ys) v)) (members rs)
joined_list how xs ys rs a b r e = members_list rs (λ v. IsJoined how (Contains (members xs) v) (Contains (members ys) v)) r (λ v.
    let bits = joined_bits how (word_of xs (v / 64)) (word_of ys (v / 64)) (v % 64) (word_fits 0 ys (v / 64) b) (omega arith) in (
      λ h. joined_map how _ _ _ _ (back (members_are xs a v)) (back (members_are ys b v)) (bits.0 (ap (λ w. bit_at w (v % 64)) (sym (e (v / 64))) ∙ h)),
      λ j. ap (λ w. bit_at w (v % 64)) (e (v / 64)) ∙ bits.1 (joined_map how _ _ _ _ (members_are xs a v) (members_are ys b v) j),
    ))
