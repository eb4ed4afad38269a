-- Items between commas, read one by one.
use Rattle.std.specs.Prelude.{◌≡◌, ◌⊎◌, ℕ, false, ◌==◌, List, [], ◌∷◌, Contains}
use Rattle.std.proofs.Common.{refl, sym, ◌∙◌, ap, subst, inl, inr, arith}
use Rattle.std.proofs.lemmas.List.Splits.{slice_split_at, slice_split_none}
use Rattle.cil_base.specs.Lists.{contains_here, contains_later, contains_cases, contains_none}
use Rattle.cil_mls.specs.Bits.{in_words}
use Rattle.cil_mls.specs.LevelTexts.{AreItems, HasCategory, IsItem, IsParted, IsWithout, items_of, one, from_to}
use Rattle.cil_mls.specs.Reading.{AreJust, GainsItem, IsLeft, IsNoItem}
use Rattle.cil_mls.proofs.PartLemmas.{not_parted, parted_once}

-- the items of a text with a comma, and of one without
pub items_parted : (text f r : List ℕ) → IsParted 44 text f r → items_of text ≡ f ∷ items_of r
items_parted text f r p = ap items_of p.whole ∙ slice_split_at (λ b. b == 44) f 44 r p.without refl

pub items_last : (text : List ℕ) → IsWithout 44 text → items_of text ≡ text ∷ []
items_last text w = slice_split_none (λ b. b == 44) text w

module _ (Category : List ℕ → ℕ → Type 0) (same_number : (t : List ℕ) (n m : ℕ) → Category t n → Category t m → n ≡ m) where
  -- an item is one span
  pub item_once : (t : List ℕ) (a b c d : ℕ) → IsItem Category t a b → IsItem Category t c d → (a ≡ c) × (b ≡ d)
  item_once t a b c d (one u x w p) (one v y z q) = (same_number t a c p q, same_number t a c p q)
  item_once t a b c d (one u x w p) (from_to v l h y z part q r o) = absurd (not_parted 46 t l h w part)
  item_once t a b c d (from_to v l h y z part q r o) (one u x w p) = absurd (not_parted 46 t l h w part)
  item_once t a b c d (from_to v l h y z part q r o) (from_to u k i x w other s n m) =
      let both = parted_once 46 t l k h i part other in
      (same_number l a c q (subst (λ f. Category f c) (sym both.0) s), same_number h b d r (subst (λ f. Category f d) (sym both.1) n))

  -- at the start all items are left
  pub all_left : (items words : List ℕ) → ((c : ℕ) → in_words words c ≡ false) → IsLeft Category items words items
  all_left items words none = record {
    all = λ a. a;
    some = λ a. a;
    has = λ c l h. inr h;
    words_in = λ c l t. absurd (let f = none c in cc);
    rest_in = λ c l h. h;
  }

  -- where the first part that is left, or the last, is no item, not all parts are
  pub first_is_no_item : (items words rest f r : List ℕ) → IsLeft Category items words rest → IsParted 44 rest f r → IsNoItem Category f → AreItems Category items → ⊥
  first_is_no_item items words rest f r left p none are =
      let it = left.some are f (subst (λ ps. Contains ps f) (sym (items_parted rest f r p)) (contains_here f (items_of r))) in none it.0 it.1 it.2

  pub rest_is_no_item : (items words rest : List ℕ) → IsLeft Category items words rest → IsWithout 44 rest → IsNoItem Category rest → AreItems Category items → ⊥
  rest_is_no_item items words rest left w none are =
      let it = left.some are rest (subst (λ ps. Contains ps rest) (sym (items_last rest w)) (contains_here rest [])) in none it.0 it.1 it.2

  -- what the first part has
  in_first : (t f : List ℕ) (ps : List (List ℕ)) (c : ℕ) → items_of t ≡ f ∷ ps → (h : HasCategory Category t c) → (f ≡ h.part) ⊎ Contains ps h.part
  in_first t f ps c e h = contains_cases h.part f ps (subst (λ qs. Contains qs h.part) e h.is_part)

  -- one item is read
  pub one_less : (items words new rest f r : List ℕ) → IsLeft Category items words rest → IsParted 44 rest f r → GainsItem Category words new f → IsLeft Category items new r
  one_less items words new rest f r left p g =
      let e = items_parted rest f r p in
      let here : Contains (items_of rest) f = subst (λ ps. Contains ps f) (sym e) (contains_here f (items_of r)) in
      let there : (q : List ℕ) → Contains (items_of r) q → Contains (items_of rest) q = λ q c. subst (λ ps. Contains ps q) (sym e) (contains_later q f (items_of r) c) in
      record {
        all = λ a. left.all (λ q c. elim (contains_cases q f (items_of r) (subst (λ ps. Contains ps q) e c)) [
          | inl s ↦ (g.first, g.last, subst (λ z. IsItem Category z g.first g.last) s g.is_item)
          | inr d ↦ a q d
        ]);
        some = λ a q c. left.some a q (there q c);
        has = λ c l h. elim (left.has c l h) [
          | inl t ↦ inl ((g.gains c l).1 (inl t))
          | inr k ↦ elim (in_first rest f (items_of r) c e k) [
            | inl s ↦
                let same = item_once f k.first k.last g.first g.last (subst (λ z. IsItem Category z k.first k.last) (sym s) k.is_item) g.is_item in
                let low = k.above in let high = k.below in
                inl ((g.gains c l).1 (inr (omega (arith, low, same.0), omega (arith, high, same.1))))
            | inr d ↦ inr (record { part = k.part; is_part = d; first = k.first; last = k.last; is_item = k.is_item; above = k.above; below = k.below })
          ]
        ];
        words_in = λ c l t. elim ((g.gains c l).0 t) [
          | inl u ↦ left.words_in c l u
          | inr b ↦ left.rest_in c l (record { part = f; is_part = here; first = g.first; last = g.last; is_item = g.is_item; above = b.0; below = b.1 })
        ];
        rest_in = λ c l k. left.rest_in c l (record { part = k.part; is_part = there k.part k.is_part; first = k.first; last = k.last; is_item = k.is_item; above = k.above; below = k.below });
      }

  -- the last item is read
  pub last_gained : (items words new rest : List ℕ) → IsLeft Category items words rest → IsWithout 44 rest → GainsItem Category words new rest → AreJust Category items new
  last_gained items words new rest left w g =
      let e = items_last rest w in
      let here : Contains (items_of rest) rest = subst (λ ps. Contains ps rest) (sym e) (contains_here rest []) in
      record {
        are_items = left.all (λ q c. elim (contains_cases q rest [] (subst (λ ps. Contains ps q) e c)) [
          | inl s ↦ (g.first, g.last, subst (λ z. IsItem Category z g.first g.last) s g.is_item)
          | inr d ↦ absurd (contains_none q d)
        ]);
        just = λ c l. (
          λ t. elim ((g.gains c l).0 t) [
            | inl u ↦ left.words_in c l u
            | inr b ↦ left.rest_in c l (record { part = rest; is_part = here; first = g.first; last = g.last; is_item = g.is_item; above = b.0; below = b.1 })
          ],
          λ h. elim (left.has c l h) [
            | inl t ↦ (g.gains c l).1 (inl t)
            | inr k ↦ elim (in_first rest rest [] c e k) [
              | inl s ↦
                  let same = item_once rest k.first k.last g.first g.last (subst (λ z. IsItem Category z k.first k.last) (sym s) k.is_item) g.is_item in
                  let low = k.above in let high = k.below in
                  (g.gains c l).1 (inr (omega (arith, low, same.0), omega (arith, high, same.1)))
              | inr d ↦ absurd (contains_none k.part d)
            ]
          ],
        );
      }
