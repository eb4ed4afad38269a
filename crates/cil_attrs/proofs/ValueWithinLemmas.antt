-- What is in the value of an expression is among all, or a word of it has it.
use Rattle.std.proofs.Common.{◌≡◌, ◌⊎◌, Bool, true, false, ◌&&◌, ◌||◌, not, List, [], ◌++◌, inl, inr, refl}
use Rattle.std.specs.Prelude.{Contains}
use Rattle.std.proofs.lemmas.List.Elements.{Contains-append_left, Contains-append_right}
use Rattle.cil_base.specs.Lists.{contains_here}
use Rattle.cil_syntax.specs.Expressions.{Complement, EachOf, Everything, OddOf, RangeOf, SomeOf, Way, by_way, differ, is_in, is_in_each, is_in_odd, is_in_some, way_of}
use Rattle.cil_syntax.specs.Terms.{Term, Leaf, Name, Form, Terms, nil, cons}
use Rattle.cil_known.specs.macros.Item.{all_words_in, words_in}

first : (a b : Bool) → (a && b) ≡ true → a ≡ true
first true b e = refl
first false b e = absurd (let c : false ≡ true = e in cc)

either : (a b : Bool) → (a || b) ≡ true → (a ≡ true) ⊎ (b ≡ true)
either true b e = inl refl
either false b e = inr e

other : (a b : Bool) → differ a b ≡ true → (a ≡ true) ⊎ (b ≡ true)
other true b e = inl refl
other false b e = inr e

module _ {L : Type 0} (p : L → Bool) (among : Bool) where
  -- some word has it
  abbrev Has : List L → Type 0
  Has ws = (w : L) × Contains ws w × (p w ≡ true)

  left : (xs ys : List L) → (among ≡ true) ⊎ Has xs → (among ≡ true) ⊎ Has (xs ++ ys)
  left xs ys e = elim e [ inl a ↦ inl a | inr h ↦ inr (h.0, Contains-append_left xs ys h.0 h.1, h.2) ]

  right : (xs ys : List L) → (among ≡ true) ⊎ Has ys → (among ≡ true) ⊎ Has (xs ++ ys)
  right xs ys e = elim e [ inl a ↦ inl a | inr h ↦ inr (h.0, Contains-append_right xs ys h.0 h.1, h.2) ]

  by : (way : Way) (some each odd : Bool) (ws : List L) → (some ≡ true → (among ≡ true) ⊎ Has ws) → (each ≡ true → (among ≡ true) ⊎ Has ws) → (odd ≡ true → (among ≡ true) ⊎ Has ws)
      → by_way way among some each odd false ≡ true → (among ≡ true) ⊎ Has ws
  by Everything some each odd ws f g h e = inl e
  by Complement some each odd ws f g h e = inl (first among (not some) e)
  by SomeOf some each odd ws f g h e = f e
  by EachOf some each odd ws f g h e = g e
  by OddOf some each odd ws f g h e = h e
  by RangeOf some each odd ws f g h e = absurd (let c : false ≡ true = e in cc)

  mutual
    unfolding is_in is_in_some is_in_each is_in_odd words_in all_words_in

    pub value_has : (t : Term L) → is_in p among (λ ts. false) t ≡ true → (among ≡ true) ⊎ Has (words_in t)
    value_has (Leaf w) e = inr (w, contains_here w [], e)
    value_has (Name at x) e = absurd (let c : false ≡ true = e in cc)
    value_has (Form at op ts) e =
        by (way_of op) (is_in_some p among (λ us. false) ts) (is_in_each p among (λ us. false) ts) (is_in_odd p among (λ us. false) ts) (all_words_in ts) (some_has ts) (each_has ts) (odd_has ts) e

    some_has : (ts : Terms L) → is_in_some p among (λ us. false) ts ≡ true → (among ≡ true) ⊎ Has (all_words_in ts)
    some_has nil e = absurd (let c : false ≡ true = e in cc)
    some_has (cons t ts) e = elim (either (is_in p among (λ us. false) t) (is_in_some p among (λ us. false) ts) e) [
      | inl a ↦ left (words_in t) (all_words_in ts) (value_has t a)
      | inr b ↦ right (words_in t) (all_words_in ts) (some_has ts b)
    ]

    each_has : (ts : Terms L) → is_in_each p among (λ us. false) ts ≡ true → (among ≡ true) ⊎ Has (all_words_in ts)
    each_has nil e = inl e
    each_has (cons t ts) e = left (words_in t) (all_words_in ts) (value_has t (first (is_in p among (λ us. false) t) (is_in_each p among (λ us. false) ts) e))

    odd_has : (ts : Terms L) → is_in_odd p among (λ us. false) ts ≡ true → (among ≡ true) ⊎ Has (all_words_in ts)
    odd_has nil e = absurd (let c : false ≡ true = e in cc)
    odd_has (cons t ts) e = elim (other (is_in p among (λ us. false) t) (is_in_odd p among (λ us. false) ts) e) [
      | inl a ↦ left (words_in t) (all_words_in ts) (value_has t a)
      | inr b ↦ right (words_in t) (all_words_in ts) (odd_has ts b)
    ]
