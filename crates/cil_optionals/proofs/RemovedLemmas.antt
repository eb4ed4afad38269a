-- There is one reason for each optional that is left out.
use Rattle.std.specs.Prelude.{cond, map, length, not, slice_get, ◌==◌}
use Rattle.std.specs.Option.{option_map_or}
use Rattle.std.proofs.Common.{◌≡◌, ℕ, zero, suc, ◌+◌, ◌≤◌, Bool, true, false, ◌&&◌, ◌||◌, List, [], ◌∷◌, refl, sym, ap, subst, ◌∙◌, arith}
use Rattle.std.proofs.lemmas.Bool.Decides.{nat_tests}
use Rattle.cil_base.specs.Among.{among}
use Rattle.cil_blocks.specs.Contents.{is_optional}
use Rattle.cil_macros.specs.Item.{Item, OptSet}
use Rattle.cil_optionals.specs.declared.reason.Reason.{Reason}
use Rattle.cil_optionals.specs.Certificate.{left_out, all_but, InOrder, IsRight, one_more}
use Rattle.cil_optionals.specs.Counts.{removals, removed_from}
use Rattle.cil_optionals.specs.Greatest.{is_optional_at}

-- ---- sets that differ at one place

abbrev is_one : Item → Bool
is_one x = is_optional x.keyword

same_from : (n : ℕ) (s t : OptSet) (xs : List Item) → ((o : ℕ) → n ≤ o → s o ≡ t o) → removed_from n s xs ≡ removed_from n t xs
unfolding removed_from
same_from n s t [] e = refl
same_from n s t (x ∷ xs) e =
    (λ i. cond (is_one x && not (e n (omega arith) i)) 1 0 + same_from (suc n) s t xs (λ o l. e o (omega (arith, l))) i)

-- an optional goes out
one_removed : (n q : ℕ) (s t : OptSet) (xs : List Item) → option_map_or is_one (slice_get xs q) false ≡ true → s (n + q) ≡ true → t (n + q) ≡ false
    → ((o : ℕ) → (n + q == o) ≡ false → s o ≡ t o) → removed_from n t xs ≡ removed_from n s xs + 1
unfolding removed_from
one_removed n q s t [] there in_s out e = absurd (let g : false ≡ true = there in cc)
one_removed n zero s t (x ∷ xs) there in_s out e =
    let rest = same_from (suc n) s t xs (λ o l. e o (let d : (n + 0 == o) ≡ false = grind (arith, nat_tests, l) in d)) in
    first (is_one x) (s n) (t n) _ _ there (subst (λ k. s k ≡ true) (let z : n + 0 ≡ n = omega arith in z) in_s)
    (subst (λ k. t k ≡ false) (let z : n + 0 ≡ n = omega arith in z) out) rest
  where
    first : (a b c : Bool) (k l : ℕ) → a ≡ true → b ≡ true → c ≡ false → k ≡ l → cond (a && not c) 1 0 + l ≡ (cond (a && not b) 1 0 + k) + 1
    first true true false k l e f g h = omega (arith, h)
    first true true true k l e f g h = absurd (let z : true ≡ false = g in cc)
    first true false c k l e f g h = absurd (let z : false ≡ true = f in cc)
    first false b c k l e f g h = absurd (let z : false ≡ true = e in cc)
one_removed n (suc q) s t (x ∷ xs) there in_s out e =
    let same : n + suc q ≡ suc n + q = omega arith in
    let rest =
    one_removed (suc n) q s t xs there (subst (λ k. s k ≡ true) same in_s) (subst (λ k. t k ≡ false) same out)
    (λ o d. e o (ap (λ k. k == o) same ∙ d)) in
    let here : s n ≡ t n = e n (let d : (n + suc q == n) ≡ false = grind (arith, nat_tests) in d) in
    later (cond (is_one x && not (s n)) 1 0) (cond (is_one x && not (t n)) 1 0) _ _ (ap (λ b. cond (is_one x && not b) 1 0) here) rest
  where
    later : (a b k l : ℕ) → a ≡ b → l ≡ k + 1 → b + l ≡ (a + k) + 1
    later a b k l e f = omega (arith, e, f)

-- where all optionals are in the set, none is left out
none_removed : (n : ℕ) (s : OptSet) (xs : List Item) → ((q : ℕ) → option_map_or is_one (slice_get xs q) false ≡ true → s (n + q) ≡ true) → removed_from n s xs ≡ 0
unfolding removed_from
none_removed n s [] all = refl
none_removed n s (x ∷ xs) all =
    none (is_one x) (s n) _ (λ h. subst (λ k. s k ≡ true) (let z : n + 0 ≡ n = omega arith in z) (all 0 h))
    (none_removed (suc n) s xs (λ q h. subst (λ k. s k ≡ true) (let z : n + suc q ≡ suc n + q = omega arith in z) (all (suc q) h)))
  where
    none : (a b : Bool) (k : ℕ) → (a ≡ true → b ≡ true) → k ≡ 0 → cond (a && not b) 1 0 + k ≡ 0
    none true true k f e = omega (arith, e)
    none true false k f e = absurd (let g : false ≡ true = f refl in cc)
    none false b k f e = omega (arith, e)

-- ---- one reason after another

module _ (xs : List Item) where
  -- all optionals less these, and less those that the reasons leave out
  abbrev after : List ℕ → List Reason → OptSet
  after out rs o = is_optional_at xs o && not (among out o || among (map left_out rs) o)

  abbrev AreOptionals : List Reason → Type 0
  AreOptionals rs = (o : ℕ) → among (map left_out rs) o ≡ true → is_optional_at xs o ≡ true

  or_none : (b : Bool) → (b || false) ≡ b
  or_none true = refl
  or_none false = refl

  or_over : (a b c : Bool) → (a || (b || c)) ≡ ((b || a) || c)
  or_over true true c = refl
  or_over true false c = refl
  or_over false true c = refl
  or_over false false c = refl

  or_left : (a b : Bool) → a ≡ true → (a || b) ≡ true
  or_left true b e = refl
  or_left false b e = absurd (let g : false ≡ true = e in cc)

  or_right : (a b : Bool) → b ≡ true → (a || b) ≡ true
  or_right true b e = refl
  or_right false b e = e

  is_self : (n : ℕ) → (n == n) ≡ true
  is_self n = grind arith

  there : (a out : Bool) → a ≡ true → out ≡ false → (a && not out) ≡ true
  there true false e f = refl
  there true true e f = absurd (let g : true ≡ false = f in cc)
  there false out e f = absurd (let g : false ≡ true = e in cc)

  gone : (a out : Bool) → out ≡ true → (a && not out) ≡ false
  gone true true e = refl
  gone true false e = absurd (let g : false ≡ true = e in cc)
  gone false out e = refl

  -- one more is out
  push : (out : List ℕ) (q : ℕ) → is_optional_at xs q ≡ true → among out q ≡ false → removals xs (all_but xs (q ∷ out)) ≡ removals xs (all_but xs out) + 1
  push out q optional fresh =
      let same : q ≡ 0 + q = omega arith in
      one_removed 0 q (all_but xs out) (all_but xs (q ∷ out)) xs optional
      (subst (λ k. all_but xs out k ≡ true) same (there (is_optional_at xs q) (among out q) optional fresh))
      (subst (λ k. all_but xs (q ∷ out) k ≡ false) same (gone (is_optional_at xs q) ((q == q) || among out q) (or_left (q == q) (among out q) (is_self q))))
      (λ o d. sym (ap (λ b. is_optional_at xs o && not (b || among out o)) (ap (λ k. k == o) same ∙ d)))

  counted : (out : List ℕ) (rs : List Reason) → InOrder xs out rs → AreOptionals rs → removals xs (after out rs) ≡ removals xs (all_but xs out) + length rs
  counted out [] order optional =
      ap (removals xs) (λ i o. is_optional_at xs o && not (or_none (among out o) i)) ∙ (let e : removals xs (all_but xs out) ≡ removals xs (all_but xs out) + 0 = omega arith in e)
  counted out (r ∷ rs) (one_more o q qs fresh holds order) optional =
      let rest = counted (left_out r ∷ out) rs order (λ p h. optional p (or_right (left_out r == p) (among (map left_out rs) p) h)) in
      let same : removals xs (after out (r ∷ rs)) ≡ removals xs (after (left_out r ∷ out) rs) =
      ap (removals xs) (λ i p. is_optional_at xs p && not (or_over (among out p) (left_out r == p) (among (map left_out rs) p) i)) in
      let one = push out (left_out r) (optional (left_out r) (or_left (left_out r == left_out r) (among (map left_out rs) (left_out r)) (is_self (left_out r)))) fresh in
      omega (arith, rest, same, one)

  left_by : (a e out : Bool) → a ≡ (e || out) → (e && out) ≡ false → e ≡ (a && not out)
  left_by a true true h g = absurd (let k : true ≡ false = g in cc)
  left_by a true false h g = ap (λ b. b && true) (sym h)
  left_by a false true h g = ap (λ b. b && false) (sym h)
  left_by a false false h g = ap (λ b. b && true) (sym h)

  pub removals_are : (enabled : OptSet) (rs : List Reason) → IsRight xs enabled rs → length rs ≡ removals xs enabled
  removals_are enabled rs right =
      let optional : AreOptionals rs = λ o h. right.each o ∙ or_right (enabled o) (among (map left_out rs) o) h in
      let all = counted [] rs right.order optional in
      let none = none_removed 0 (all_but xs []) xs
      (λ q h. subst (λ k. all_but xs [] k ≡ true) (let z : q ≡ 0 + q = omega arith in z) (there (is_optional_at xs q) false h refl)) in
      let same : removals xs enabled ≡ removals xs (after [] rs) =
      ap (removals xs) (λ i o. left_by (is_optional_at xs o) (enabled o) (among (map left_out rs) o) (right.each o) (right.apart o) i) in
      omega (arith, all, none, same)
