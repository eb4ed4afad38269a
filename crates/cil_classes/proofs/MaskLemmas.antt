-- Masks of the permissions in the value of an expression.
use Rattle.std.specs.Prelude.{◌⊎◌, ◌↔◌, ◌||◌, Contains, IsBitSet, None, Option, Some, bit_or, slice_get}
use Rattle.std.specs.Int.{bit_at}
use Rattle.std.specs.Global.{Vec}
use Rattle.std.specs.List.{list_any}
use Rattle.std.specs.List.Sorted.{IsStrictlySortedBy}
use Rattle.std.specs.Cmp.Lexicographic.{bytes_decides}
use Rattle.std.proofs.Common.{◌≡◌, ℕ, zero, suc, ◌+◌, ◌/◌, ◌%◌, ◌<◌, ◌≤◌, Bool, true, false, List, [], ◌∷◌, ◌++◌, length, take, get_or, refl, sym, ◌∙◌, ap, subst, inl, inr, arith}
use Rattle.std.proofs.lemmas.List.{length-map, take-append-le, take_all, take_more}
use Rattle.std.proofs.lemmas.List.Elements.{Contains-append_left, Contains-append_right, Contains-append_cases}
use Rattle.std.proofs.lemmas.Nat.Bits.{bit_at_lowest, bit_at-suc}
use Rattle.cil_base.specs.Lists.{contains_cases, contains_here, contains_later, contains_none, text_cmp}
use Rattle.cil_base.specs.MadeLists.{contains_map, from_map}
use Rattle.cil_base.specs.Places.{in_range, some_at}
use Rattle.cil_base.specs.Searches.{any_from, any_true}
use Rattle.cil_faults.specs.Spots.{spot_at}
use Rattle.cil_faults.specs.declared.spot.Spot.{Spot}
use Rattle.cil_syntax.specs.Expressions.{is_in, is_in_some}
use Rattle.cil_syntax.specs.Forms.{leaf_of}
use Rattle.cil_syntax.specs.declared.term.LookedUp.{LookedUp}
use Rattle.cil_syntax.specs.declared.term.Op.{Op}
use Rattle.cil_syntax.specs.declared.term.Op.TheVariants as ops
use Rattle.cil_syntax.specs.declared.term.Term as rust
use Rattle.cil_syntax.specs.declared.term.Word.{Word}
use Rattle.cil_syntax.specs.Said.{all_said, said_of, word_in}
use Rattle.cil_syntax.specs.Scopes.{ScopedWord}
use Rattle.cil_syntax.specs.Spelling.{same_bytes}
use Rattle.cil_syntax.specs.Terms.{Term, Form, Terms}
use Rattle.cil_syntax.proofs.SaidLemmas.{form_said, name_said}
use Rattle.cil_macros.specs.Item.{all_replaced, replaced, words_in}
use Rattle.cil_names.specs.PermissionWords.{number_among}
use Rattle.cil_names.specs.Unresolved.{term_with, terms_with}
use Rattle.cil_known.proofs.LeafLemmas.{all_leaves, leaves_form, leaves_leaf, leaves_none, leaves_of}
use Rattle.cil_classes.specs.Masks.{AreLeaves, IsBitIn, IsLeaf, IsMaskOf, IsPlain}
use Rattle.cil_classes.specs.Numbers.{AreNumbered, IsHeld, numbers_of}
use Rattle.cil_classes.specs.Row.{most_permissions}
use Rattle.cil_classes.specs.Values.{in_some_there, in_value_there}
use Rattle.cil_classes.proofs.BitLemmas.{none_set, set_in_either, set_is_one}
use Rattle.cil_classes.proofs.ValueLemmas.{apart, found_at, found_here, leaf_value}

or_false : (b : Bool) → (b || false) ≡ b
or_false true = refl
or_false false = refl

-- ---- words alone

pub name_is_none : (t : rust.Term) (at : ℕ) (bytes : List ℕ) → t ≡ rust.Name at bytes → (m : ℕ) → leaf_of (said_of m t) ≡ None
name_is_none t at bytes is m = ap (λ u. leaf_of (said_of m u)) is ∙ ap leaf_of (name_said m at bytes)

pub form_is_none : (t : rust.Term) (at : ℕ) (op : Op) (parts : Vec rust.Term) → t ≡ rust.Form op at parts → (m : ℕ) → leaf_of (said_of m t) ≡ None
form_is_none t at op parts is m = ap (λ u. leaf_of (said_of m u)) is ∙ ap leaf_of (form_said m at op parts)

pub no_leaves : AreLeaves []
no_leaves t c = absurd (contains_none t c)

pub more_leaves : (ts : List rust.Term) (i : ℕ) (x : rust.Term) → i < length ts → x ≡ get_or ts i x → AreLeaves (take i ts) → IsLeaf x → AreLeaves (take (i + 1) ts)
more_leaves ts i x l is all leaf =
    subst AreLeaves (sym (take_more ts i x l ∙ ap (λ z. take i ts ++ z ∷ []) (sym is)))
    (λ t c. elim (Contains-append_cases (take i ts) (x ∷ []) t c) [
      | inl d ↦ all t d
      | inr d ↦ elim (contains_cases t x [] d) [ inl e ↦ subst IsLeaf e leaf | inr n ↦ absurd (contains_none t n) ]
    ])

pub all_are_leaves : (ts : List rust.Term) (i : ℕ) → length ts ≤ i → AreLeaves (take i ts) → AreLeaves ts
all_are_leaves ts i over all = subst AreLeaves (take_all i ts over) all

leaves_cons : (m : ℕ) (x : rust.Term) (xs : List rust.Term) → all_leaves m (x ∷ xs) ≡ leaves_of m x ++ all_leaves m xs
unfolding words_in
leaves_cons m x xs = refl

-- as many words as terms
how_many : (m : ℕ) (ts : List rust.Term) → AreLeaves ts → length (all_leaves m ts) ≡ length ts
how_many m [] all = ap length (leaves_none m)
how_many m (x ∷ xs) all =
    let (w, is) = all x (contains_here x xs) in
    ap length (leaves_cons m x xs ∙ ap (λ z. z ++ all_leaves m xs) (leaves_leaf m x w is)) ∙ ap suc (how_many m xs (λ t c. all t (contains_later t x xs c)))

module _ (f : Word → ScopedWord) (m : ℕ) (p : List ℕ) where
  abbrev says : Word → Bool
  says w = same_bytes (f w).bytes p

  some_none : in_some_there (terms_with f m []) p ≡ false
  unfolding is_in_some all_replaced
  some_none = refl

  some_cons : (x : rust.Term) (xs : List rust.Term) → in_some_there (terms_with f m (x ∷ xs)) p ≡ (in_value_there (term_with f m x) p || in_some_there (terms_with f m xs) p)
  unfolding is_in_some all_replaced
  some_cons x xs = refl

  any_leaf : (ts : List rust.Term) → AreLeaves ts → in_some_there (terms_with f m ts) p ≡ list_any says (all_leaves m ts)
  any_leaf [] all = some_none ∙ sym (ap (list_any says) (leaves_none m))
  any_leaf (x ∷ xs) all =
      let (w, is) = all x (contains_here x xs) in
      some_cons x xs
      ∙ ap (λ b. b || in_some_there (terms_with f m xs) p) (leaf_value f m p x w is)
      ∙ ap (λ b. says (word_in m w) || b) (any_leaf xs (λ t c. all t (contains_later t x xs c)))
      ∙ sym (ap (list_any says) (leaves_cons m x xs ∙ ap (λ z. z ++ all_leaves m xs) (leaves_leaf m x w is)))

  union_value : (at : Spot) (ts : Terms Word) → in_value_there (replaced (λ at. at) f (Form at ops.Union ts)) p ≡ in_some_there (all_replaced (λ at. at) f ts) p
  unfolding is_in replaced
  union_value at ts = refl

pub leaf_plain : (m : ℕ) (t : rust.Term) (w : LookedUp) (words plain : List (Option ℕ)) → t ≡ rust.Leaf w → plain ≡ take 1 words → IsPlain m t words plain
leaf_plain m t w words plain is first = record {
  first = first ∙ ap (λ ls. take (length ls) words) (sym (leaves_leaf m t w is));
  names = λ f p. leaf_value f m p t w is ∙ sym (or_false (same_bytes (f (word_in m w)).bytes p)) ∙ sym (ap (list_any (says f m p)) (leaves_leaf m t w is));
}

pub union_plain : (m : ℕ) (t : rust.Term) (at : ℕ) (op : Op) (parts : Vec rust.Term) (words plain : List (Option ℕ)) → t ≡ rust.Form op at parts → op ≡ ops.Union → AreLeaves parts.items
    → plain ≡ take (length parts.items) words → IsPlain m t words plain
union_plain m t at op parts words plain is union all first = record {
  first = first ∙ ap (λ n. take n words) (sym (ap length (leaves_form m t at op parts is) ∙ how_many m parts.items all));
  names = λ f p.
      ap (λ e. in_value_there e p) (ap (term_with f m) is ∙ ap (replaced (λ at. at) f) (form_said m at op parts ∙ ap (λ o. Form (spot_at m at) o (all_said m parts.items)) union))
      ∙ union_value f m p (spot_at m at) (all_said m parts.items)
      ∙ any_leaf f m p parts.items all
      ∙ sym (ap (list_any (says f m p)) (leaves_form m t at op parts is));
}

-- ---- bits

pub no_bits : (numbers : List (Option ℕ)) (bit : ℕ) → IsBitSet 0 bit ↔ (Contains (take 0 numbers) (Some bit) × (bit < most_permissions))
no_bits [] bit = (λ s. absurd (none_set bit s), λ c. absurd (contains_none (Some bit) c.0))
no_bits (n ∷ ns) bit = (λ s. absurd (none_set bit s), λ c. absurd (contains_none (Some bit) c.0))

pub more_bits : (numbers : List (Option ℕ)) (i : ℕ) (d : Option ℕ) (a b bit : ℕ) → i < length numbers → (n : Option ℕ) → n ≡ get_or numbers i d → IsBitSet a bit ↔ (Contains (take i numbers) (Some bit) × (bit < most_permissions))
    → IsBitSet b bit ↔ ((n ≡ Some bit) × (bit < most_permissions)) → IsBitSet (bit_or a b) bit ↔ (Contains (take (i + 1) numbers) (Some bit) × (bit < most_permissions))
more_bits numbers i d a b bit l n is so_far one =
    let next = take_more numbers i d l in (
      λ s. elim ((set_in_either a b bit).0 s) [
        | inl t ↦ let c = so_far.0 t in (subst (λ ns. Contains ns (Some bit)) (sym next) (Contains-append_left (take i numbers) (get_or numbers i d ∷ []) (Some bit) c.0), c.1)
        | inr t ↦
            let c = one.0 t in
            (subst (λ ns. Contains ns (Some bit)) (sym next) (Contains-append_right (take i numbers) (get_or numbers i d ∷ []) (Some bit) (subst (λ z. Contains (z ∷ []) (Some bit)) (sym c.0 ∙ is) (contains_here (Some bit) []))), c.1)
      ],
      λ c. (set_in_either a b bit).1 (elim (Contains-append_cases (take i numbers) (get_or numbers i d ∷ []) (Some bit) (subst (λ ns. Contains ns (Some bit)) next c.0)) [
        | inl t ↦ inl (so_far.1 (t, c.1))
        | inr t ↦ inr (one.1 (elim (contains_cases (Some bit) (get_or numbers i d) [] t) [ inl e ↦ is ∙ e | inr n ↦ absurd (contains_none (Some bit) n) ], c.1))
      ]),
    )

pub bits_whole : (numbers : List (Option ℕ)) (i mask : ℕ) → length numbers ≤ i → ((bit : ℕ) → IsBitSet mask bit ↔ (Contains (take i numbers) (Some bit) × (bit < most_permissions)))
    → (bit : ℕ) → IsBitSet mask bit ↔ (Contains numbers (Some bit) × (bit < most_permissions))
bits_whole numbers i mask over is = subst (λ ns. (bit : ℕ) → IsBitSet mask bit ↔ (Contains ns (Some bit) × (bit < most_permissions))) (take_all i numbers over) is

-- ---- the mask of words

module _ (f : Word → ScopedWord) (m : ℕ) (ps : List (List ℕ)) (rising : IsStrictlySortedBy text_cmp ps) where
  pub plain_mask : (t : rust.Term) (words plain : List (Option ℕ)) (mask : ℕ) → length ps ≤ most_permissions → AreNumbered ps f (words_in (said_of m t)) words → IsPlain m t words plain
      → ((bit : ℕ) → IsBitSet mask bit ↔ (Contains plain (Some bit) × (bit < most_permissions))) → IsMaskOf ps (term_with f m t) mask
  plain_mask t words plain mask few are is bits bit = (
    λ s.
        let (c, small) = (bits bit).0 s in
        let (w, cw, e) = from_map (λ (w : Word). number_among ps (f w).bytes) (leaves_of m t) (Some bit) (subst (λ ns. Contains ns (Some bit)) numbers c) in
        record {
          permission = (f w).bytes;
          at = found_at (f w).bytes ps bit e;
          value = is.names f (f w).bytes ∙ any_from (λ (u : Word). same_bytes (f u).bytes (f w).bytes) (leaves_of m t) w cw ((bytes_decides (f w).bytes (f w).bytes).1 refl);
        },
    λ b.
        let (w, cw, same) = any_true (λ (u : Word). same_bytes (f u).bytes b.permission) (leaves_of m t) (sym (is.names f b.permission) ∙ b.value) in
        let name : (f w).bytes ≡ b.permission = (bytes_decides (f w).bytes b.permission).0 same in
        let (k, found) = found_here (f w).bytes ps bit (b.at ∙ ap Some (sym name)) in
        let one : k ≡ bit = apart ps rising k bit (f w).bytes (found_at (f w).bytes ps k found) (b.at ∙ ap Some (sym name)) in
        let within = in_range ps bit b.permission b.at in
        (bits bit).1 (
          subst (λ ns. Contains ns (Some bit)) (sym numbers) (subst (Contains (numbers_of ps f (leaves_of m t))) (found ∙ ap Some one) (contains_map (λ (u : Word). number_among ps (f u).bytes) (leaves_of m t) w cw)),
          omega (arith, within, few),
        ),
  )
    where
      numbers : plain ≡ numbers_of ps f (leaves_of m t)
      numbers =
          is.first
          ∙ ap (take (length (leaves_of m t))) are.are
          ∙ ap (λ n. take n (numbers_of ps f (leaves_of m t) ++ are.more)) (sym (length-map (leaves_of m t) (λ (w : Word). number_among ps (f w).bytes)))
          ∙ take-append-le (length (numbers_of ps f (leaves_of m t))) (numbers_of ps f (leaves_of m t)) are.more (omega arith)
          ∙ take_all (length (numbers_of ps f (leaves_of m t))) (numbers_of ps f (leaves_of m t)) (omega arith)

-- ---- the mask of any expression

-- what is found of the numbers below one
abbrev pub IsMaskBelow : List (List ℕ) → Term ScopedWord → ℕ → ℕ → Type 0
IsMaskBelow ps e number mask = (bit : ℕ) → IsBitSet mask bit ↔ ((bit < number) × IsBitIn ps e bit)

pub none_below : (ps : List (List ℕ)) (e : Term ScopedWord) → IsMaskBelow ps e 0 0
none_below ps e bit = (λ s. absurd (none_set bit s), λ b. absurd (omega (arith, b.0)))

pub one_below : (ps : List (List ℕ)) (e : Term ScopedWord) (number mask bits : ℕ) (held : Bool) → number < length ps → length ps ≤ most_permissions → IsMaskBelow ps e number mask
    → IsHeld ps number e held → ((bit : ℕ) → IsBitSet bits bit ↔ ((held ≡ true) × (number ≡ bit) × (bit < most_permissions))) → IsMaskBelow ps e (number + 1) (bit_or mask bits)
one_below ps e number mask bits held l few so_far is one bit = (
  λ s. elim ((set_in_either mask bits bit).0 s) [
    | inl t ↦ let b = (so_far bit).0 t in (omega (arith, b.0), b.1)
    | inr t ↦
        let c = (one bit).0 t in
        let at = some_at ps number l in
        let same : number ≡ bit = c.1 in
        (omega (arith, same), record { permission = at.0; at = subst (λ k. slice_get ps k ≡ Some at.0) same at.1; value = sym (is at.0 at.1) ∙ c.0 })
  ],
  λ b. (set_in_either mask bits bit).1 (elim (below bit number b.0) [
    | inl less ↦ inl ((so_far bit).1 (less, b.1))
    | inr same ↦
        let at : slice_get ps number ≡ Some b.1.permission = subst (λ k. slice_get ps k ≡ Some b.1.permission) same b.1.at in
        inr ((one bit).1 (is b.1.permission at ∙ b.1.value, sym same, omega (arith, same, l, few)))
  ]),
)
  where
    below : (bit number : ℕ) → bit < number + 1 → (bit < number) ⊎ (bit ≡ number)
    below bit number b = grind arith

pub all_below : (ps : List (List ℕ)) (e : Term ScopedWord) (number mask : ℕ) → length ps ≤ number → IsMaskBelow ps e number mask → IsMaskOf ps e mask
all_below ps e number mask over is bit = (λ s. ((is bit).0 s).1, λ b. (is bit).1 (let h = in_range ps bit b.permission b.at in omega (arith, h, over), b))

by_lowest : (n low : ℕ) → n % 2 ≡ low → (low ≡ 0 → (bit : ℕ) × (bit_at (n / 2) bit ≡ 1)) → (bit : ℕ) × (bit_at n bit ≡ 1)
by_lowest n zero e half = let r = half refl in (suc r.0, bit_at-suc n r.0 ∙ r.1)
by_lowest n (suc zero) e half = (0, bit_at_lowest n ∙ e)
by_lowest n (suc (suc k)) e half = absurd (omega (arith, e))

some_bit : (fuel n : ℕ) → n ≤ fuel → 0 < n → (bit : ℕ) × (bit_at n bit ≡ 1)
some_bit zero n most some = absurd (omega (arith, most, some))
some_bit (suc fuel) n most some = by_lowest n (n % 2) refl (λ e. some_bit fuel (n / 2) (omega (arith, most, some, e)) (omega (arith, most, some, e)))

pub positive : (m : ℕ) → (m ≡ 0 → ⊥) → 0 < m
positive zero s = absurd (s refl)
positive (suc m) s = omega arith

-- a mask that is not empty has a bit
pub has_bit : (mask : ℕ) → (mask ≡ 0 → ⊥) → (bit : ℕ) × IsBitSet mask bit
has_bit mask some = let r = some_bit mask mask (omega arith) (positive mask some) in (r.0, (set_is_one mask r.0).1 r.1)
