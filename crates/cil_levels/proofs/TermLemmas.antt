-- Expressions whose words hold the same have the same values; and expressions whose words are replaced.
use Rattle.std.proofs.Common.{◌≡◌, ℕ, Bool, ◌&&◌, ◌||◌, ltb, List, [], refl, ◌∙◌, ap}
use Rattle.std.specs.Prelude.{Contains, Option}
use Rattle.std.proofs.lemmas.List.Elements.{Contains-append_left, Contains-append_right}
use Rattle.cil_base.specs.Lists.{contains_here}
use Rattle.cil_syntax.specs.Expressions.{by_way, differ, is_in, is_in_each, is_in_odd, is_in_some, way_of}
use Rattle.cil_syntax.specs.Terms.{Term, Leaf, Name, Form, Terms, nil, cons}
use Rattle.cil_macros.specs.Item.{all_replaced, all_words_in, replaced, words_in}
use Rattle.cil_mls.specs.declared.expression.Held.{Held}
use Rattle.cil_mls.specs.Values.{held_between, in_span, in_term, is_held, meant_held}
use Rattle.cil_levels.specs.Made.{in_second}

-- ---- words that hold the same

module _ {L : Type 0} (Good : L → Type 0) where
  -- all of some words are good
  abbrev pub AreGood : List L → Type 0
  AreGood ws = (w : L) → Contains ws w → Good w

  first_good : (t : Term L) (ts : Terms L) → AreGood (all_words_in (cons t ts)) → AreGood (words_in t)
  unfolding all_words_in
  first_good t ts h w c = h w (Contains-append_left (words_in t) (all_words_in ts) w c)

  rest_good : (t : Term L) (ts : Terms L) → AreGood (all_words_in (cons t ts)) → AreGood (all_words_in ts)
  unfolding all_words_in
  rest_good t ts h w c = h w (Contains-append_right (words_in t) (all_words_in ts) w c)

  module _ (p q : L → Bool) (among : Bool) (r s : Terms L → Bool) (same : (w : L) → Good w → p w ≡ q w) (ranges : (ts : Terms L) → AreGood (all_words_in ts) → r ts ≡ s ts) where
    mutual
      unfolding is_in is_in_some is_in_each is_in_odd words_in all_words_in

      pub same_in : (e : Term L) → AreGood (words_in e) → is_in p among r e ≡ is_in q among s e
      same_in (Leaf w) h = same w (h w (contains_here w []))
      same_in (Name at x) h = refl
      same_in (Form at op ts) h =
          ap (λ b. by_way (way_of op) among b (is_in_each p among r ts) (is_in_odd p among r ts) (r ts)) (same_some ts h)
          ∙ ap (λ b. by_way (way_of op) among (is_in_some q among s ts) b (is_in_odd p among r ts) (r ts)) (same_each ts h)
          ∙ ap (λ b. by_way (way_of op) among (is_in_some q among s ts) (is_in_each q among s ts) b (r ts)) (same_odd ts h)
          ∙ ap (by_way (way_of op) among (is_in_some q among s ts) (is_in_each q among s ts) (is_in_odd q among s ts)) (ranges ts h)

      same_some : (ts : Terms L) → AreGood (all_words_in ts) → is_in_some p among r ts ≡ is_in_some q among s ts
      same_some nil h = refl
      same_some (cons a ts) h = ap (λ b. b || is_in_some p among r ts) (same_in a (first_good a ts h)) ∙ ap (λ b. is_in q among s a || b) (same_some ts (rest_good a ts h))

      same_each : (ts : Terms L) → AreGood (all_words_in ts) → is_in_each p among r ts ≡ is_in_each q among s ts
      same_each nil h = refl
      same_each (cons a ts) h = ap (λ b. b && is_in_each p among r ts) (same_in a (first_good a ts h)) ∙ ap (λ b. is_in q among s a && b) (same_each ts (rest_good a ts h))

      same_odd : (ts : Terms L) → AreGood (all_words_in ts) → is_in_odd p among r ts ≡ is_in_odd q among s ts
      same_odd nil h = refl
      same_odd (cons a ts) h = ap (λ b. differ b (is_in_odd p among r ts)) (same_in a (first_good a ts h)) ∙ ap (λ b. differ (is_in q among s a) b) (same_odd ts (rest_good a ts h))

  -- the same by what names hold
  module _ (old new : List Held) (count : ℕ) (g : L → Option ℕ) (c : ℕ) (same : (w : L) → Good w → meant_held new (g w) ≡ meant_held old (g w)) where
    same_span : (ts : Terms L) → AreGood (all_words_in ts) → in_span new g c ts ≡ in_span old g c ts
    unfolding words_in all_words_in
    same_span nil h = refl
    same_span (cons a nil) h = refl
    same_span (cons (Name at x) (cons b rest)) h = refl
    same_span (cons (Form at op ts) (cons b rest)) h = refl
    same_span (cons (Leaf v) (cons (Name at x) rest)) h = refl
    same_span (cons (Leaf v) (cons (Form at op ts) rest)) h = refl
    same_span (cons (Leaf v) (cons (Leaf w) nil)) h =
        ap (λ z. held_between z (meant_held new (g w)) c) (same v (first_good (Leaf v) (cons (Leaf w) nil) h v (contains_here v [])))
        ∙ ap (λ z. held_between (meant_held old (g v)) z c) (same w (first_good (Leaf w) nil (rest_good (Leaf v) (cons (Leaf w) nil) h) w (contains_here w [])))
    same_span (cons (Leaf v) (cons (Leaf w) (cons d rest))) h = refl

    pub same_term : (e : Term L) → AreGood (words_in e) → in_term new count g c e ≡ in_term old count g c e
    same_term e h = same_in (λ w. is_held c (meant_held new (g w))) (λ w. is_held c (meant_held old (g w))) (ltb c count) (in_span new g c) (in_span old g c) (λ w k. ap (is_held c) (same w k)) same_span e h

    pub same_second : (ts : Terms L) → AreGood (all_words_in ts) → in_second new count g c ts ≡ in_second old count g c ts
    same_second nil h = refl
    same_second (cons a nil) h = refl
    same_second (cons a (cons e nil)) h = same_term e (first_good e nil (rest_good a (cons e nil) h))
    same_second (cons a (cons e (cons d rest))) h = refl

-- ---- words that are replaced

module _ {L M : Type 0} (f : L → M) where
  module _ (p : M → Bool) (among : Bool) (r : Terms M → Bool) (s : Terms L → Bool) (ranges : (ts : Terms L) → r (all_replaced (λ at. at) f ts) ≡ s ts) where
    mutual
      unfolding replaced all_replaced is_in is_in_some is_in_each is_in_odd

      pub in_replaced : (e : Term L) → is_in p among r (replaced (λ at. at) f e) ≡ is_in (λ w. p (f w)) among s e
      in_replaced (Leaf w) = refl
      in_replaced (Name at x) = refl
      in_replaced (Form at op ts) =
          ap (λ b. by_way (way_of op) among b (is_in_each p among r (all_replaced (λ a. a) f ts)) (is_in_odd p among r (all_replaced (λ a. a) f ts)) (r (all_replaced (λ a. a) f ts))) (some_replaced ts)
          ∙ ap (λ b. by_way (way_of op) among (is_in_some (λ w. p (f w)) among s ts) b (is_in_odd p among r (all_replaced (λ a. a) f ts)) (r (all_replaced (λ a. a) f ts))) (each_replaced ts)
          ∙ ap (λ b. by_way (way_of op) among (is_in_some (λ w. p (f w)) among s ts) (is_in_each (λ w. p (f w)) among s ts) b (r (all_replaced (λ a. a) f ts))) (odd_replaced ts)
          ∙ ap (by_way (way_of op) among (is_in_some (λ w. p (f w)) among s ts) (is_in_each (λ w. p (f w)) among s ts) (is_in_odd (λ w. p (f w)) among s ts)) (ranges ts)

      some_replaced : (ts : Terms L) → is_in_some p among r (all_replaced (λ at. at) f ts) ≡ is_in_some (λ w. p (f w)) among s ts
      some_replaced nil = refl
      some_replaced (cons a ts) = ap (λ b. b || is_in_some p among r (all_replaced (λ at. at) f ts)) (in_replaced a) ∙ ap (λ b. is_in (λ w. p (f w)) among s a || b) (some_replaced ts)

      each_replaced : (ts : Terms L) → is_in_each p among r (all_replaced (λ at. at) f ts) ≡ is_in_each (λ w. p (f w)) among s ts
      each_replaced nil = refl
      each_replaced (cons a ts) = ap (λ b. b && is_in_each p among r (all_replaced (λ at. at) f ts)) (in_replaced a) ∙ ap (λ b. is_in (λ w. p (f w)) among s a && b) (each_replaced ts)

      odd_replaced : (ts : Terms L) → is_in_odd p among r (all_replaced (λ at. at) f ts) ≡ is_in_odd (λ w. p (f w)) among s ts
      odd_replaced nil = refl
      odd_replaced (cons a ts) = ap (λ b. differ b (is_in_odd p among r (all_replaced (λ at. at) f ts))) (in_replaced a) ∙ ap (λ b. differ (is_in (λ w. p (f w)) among s a) b) (odd_replaced ts)

  module _ (helds : List Held) (count : ℕ) (g : M → Option ℕ) (c : ℕ) where
    span_replaced : (ts : Terms L) → in_span helds g c (all_replaced (λ at. at) f ts) ≡ in_span helds (λ w. g (f w)) c ts
    unfolding replaced all_replaced
    span_replaced nil = refl
    span_replaced (cons a nil) = refl
    span_replaced (cons (Name at x) (cons b rest)) = refl
    span_replaced (cons (Form at op ts) (cons b rest)) = refl
    span_replaced (cons (Leaf v) (cons (Name at x) rest)) = refl
    span_replaced (cons (Leaf v) (cons (Form at op ts) rest)) = refl
    span_replaced (cons (Leaf v) (cons (Leaf w) nil)) = refl
    span_replaced (cons (Leaf v) (cons (Leaf w) (cons d rest))) = refl

    pub second_replaced : (ts : Terms L) → in_second helds count g c (all_replaced (λ at. at) f ts) ≡ in_second helds count (λ w. g (f w)) c ts
    unfolding all_replaced
    second_replaced nil = refl
    second_replaced (cons a nil) = refl
    second_replaced (cons a (cons e nil)) = in_replaced (λ w. is_held c (meant_held helds (g w))) (ltb c count) (in_span helds g c) (in_span helds (λ w. g (f w)) c) span_replaced e
    second_replaced (cons a (cons e (cons d rest))) = refl
