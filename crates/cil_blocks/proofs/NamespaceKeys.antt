-- Namespaces as they are kept: keys of a set.
use Rattle.std.proofs.Common.{◌≡◌, ◌⊎◌, ℕ, zero, suc, ◌+◌, ◌<◌, ◌≤◌, Bool, true, false, if◌then◌else◌, List, [], ◌∷◌, ◌++◌, length, refl, sym, ◌∙◌, ap, subst, inl, inr, arith}
use Rattle.std.specs.Prelude.{◌&&◌, Some, slice_get}
use Rattle.std.specs.List.{list_any}
use Rattle.std.specs.Cmp.Lexicographic.{same_text}
use Rattle.std.proofs.Math.Dec.{eqb}
use Rattle.std.proofs.lemmas.Bool.{eqb-true, and_parts}
use Rattle.std.proofs.lemmas.List.{append-nil, length-append, map-append}
use Rattle.std.proofs.lemmas.List.Folds.{list_any_at}
use Rattle.indexmap.specs.IndexSet.{insert_key}
use Rattle.cil_base.specs.Places.{get_behind, get_in_front, get_so, in_range, none_some, some_same}
use Rattle.cil_syntax.specs.Spelling.{same_bytes}
use Rattle.cil_blocks.specs.declared.namespaces.Space.{Space}
use Rattle.cil_blocks.specs.Namespaces.{AreNamespaces, IsGrown, IsNumber, Key, inner_at, space_at, space_of, spaces_of}
use Rattle.cil_blocks.proofs.NamespaceLemmas.{HasNone, next_of}
use Rattle.cil_blocks.proofs.StandingWalk.{text_true}

-- ---- keys

-- two keys are of one namespace, as the code tests it
abbrev pub same_key : Key → Key → Bool
same_key a b = eqb a.0 b.0 && same_bytes a.1.now b.1.now

eqb_itself : (n : ℕ) → eqb n n ≡ true
eqb_itself n = grind arith

pub key_same : (a b : Key) → same_key a b ≡ true → (a.0 ≡ b.0) × (a.1.now ≡ b.1.now)
key_same a b e =
    let t = and_parts (eqb a.0 b.0) (same_bytes a.1.now b.1.now) e in
    (eqb-true a.0 b.0 t.0, same_text a.1.now b.1.now (sym t.1))

pub key_true : (a b : Key) → a.0 ≡ b.0 → a.1.now ≡ b.1.now → same_key a b ≡ true
key_true a b e f =
    ap (λ x. eqb x b.0 && same_bytes a.1.now b.1.now) e ∙ ap (λ x. x && same_bytes a.1.now b.1.now) (eqb_itself b.0)
    ∙ text_true a.1.now b.1.now (same_bytes a.1.now b.1.now) refl f

pub mapped_at : (ks : List Key) (i : ℕ) (k : Key) → slice_get ks i ≡ Some k → slice_get (spaces_of ks) i ≡ Some (space_of k)
mapped_at [] i k e = absurd (none_some k e)
mapped_at (x ∷ ks) zero k e = ap (λ o. Some (space_of o)) (some_same x k e)
mapped_at (x ∷ ks) (suc i) k e = mapped_at ks i k e

pub key_at : (ks : List Key) (i : ℕ) (s : Space) → slice_get (spaces_of ks) i ≡ Some s → (k : Key) × (slice_get ks i ≡ Some k) × (space_of k ≡ s)
key_at [] i s e = absurd (none_some s e)
key_at (x ∷ ks) zero s e = (x, refl, some_same (space_of x) s e)
key_at (x ∷ ks) (suc i) s e = key_at ks i s e

pub inner_key : (ks : List Key) (number place : ℕ) (k : Key) → number ≡ suc place → slice_get ks place ≡ Some k → Some (space_of k) ≡ inner_at (spaces_of ks) number
inner_key ks number place k e at = sym (mapped_at ks place k at) ∙ ap (inner_at (spaces_of ks)) (sym e)

not_both : (b : Bool) → b ≡ true → b ≡ false → ⊥
not_both b e f = cc

-- what no key passes
pub has_none : (ks : List Key) (v : Key) → list_any (same_key v) ks ≡ false → HasNone (spaces_of ks) v.0 v.1.now
has_none ks v e i s at outer name =
    let k = key_at ks i s at in
    let inside = in_range ks i k.0 k.1 in
    let one = key_true v k.0 (sym (ap (λ (x : Space). x.outer) k.2 ∙ outer)) (sym (ap (λ (x : Space). x.name) k.2 ∙ name)) in
    not_both (list_any (same_key v) ks)
    (list_any_at (same_key v) ks i v inside (ap (same_key v) (get_so ks i k.0 v k.1) ∙ one)) e

pub number_found : (ks : List Key) (v k : Key) (i : ℕ) → AreNamespaces (spaces_of ks) → slice_get ks i ≡ Some k → same_key v k ≡ true
    → IsNumber (spaces_of ks) (v.1.now ∷ space_at (spaces_of ks) v.0) (i + 1)
number_found ks v k i are at e =
    let same = key_same v k e in
    let here = mapped_at ks i k at in
    record {
      within = let h = in_range (spaces_of ks) i (space_of k) here in omega (arith, h);
      is = next_of (spaces_of ks) are i (i + 1) (space_of k) here refl
          ∙ ap (λ x. k.1.now ∷ space_at (spaces_of ks) x) (sym same.0) ∙ ap (λ x. x ∷ space_at (spaces_of ks) v.0) (sym same.1);
    }

-- ---- one more

last_or_not : (i n : ℕ) → i < n + 1 → (i < n) ⊎ (i ≡ n)
last_or_not i n h = grind arith

module _ {X : Type 0} (xs : List X) (x : X) where
  pub at_or_last : (i : ℕ) (y : X) → slice_get (xs ++ x ∷ []) i ≡ Some y → (slice_get xs i ≡ Some y) ⊎ ((i ≡ length xs) × (x ≡ y))
  at_or_last i y e =
      let h = in_range (xs ++ x ∷ []) i y e in
      let l = length-append xs (x ∷ []) in
      elim (last_or_not i (length xs) (omega (arith, h, l))) [
        | inl below ↦ inl (sym (get_in_front xs (x ∷ []) i below) ∙ e)
        | inr last ↦ inr (last, some_same x y (sym (get_behind xs (x ∷ []) 0 i (omega (arith, last))) ∙ e))
      ]

module _ (ss : List Space) (v : Space) (are : AreNamespaces ss) (within : v.outer ≤ length ss) (none : HasNone ss v.outer v.name) where
  still_behind : (i : ℕ) (s : Space) → slice_get (ss ++ v ∷ []) i ≡ Some s → s.outer ≤ i
  still_behind i s e =
      elim (at_or_last ss v i s e) [
        | inl there ↦ are.behind i s there
        | inr (last, same) ↦ let f : v.outer ≡ s.outer = ap (λ (x : Space). x.outer) same in omega (arith, last, f, within)
      ]

  still_once : (i j : ℕ) (s t : Space) → slice_get (ss ++ v ∷ []) i ≡ Some s → slice_get (ss ++ v ∷ []) j ≡ Some t → s.outer ≡ t.outer → s.name ≡ t.name → i ≡ j
  still_once i j s t e f o n =
      elim (at_or_last ss v i s e) [
        | inl there ↦ elim (at_or_last ss v j t f) [
          | inl also ↦ are.once i j s t there also o n
          | inr (last, same) ↦ absurd (none i s there (o ∙ sym (ap (λ (x : Space). x.outer) same)) (n ∙ sym (ap (λ (x : Space). x.name) same)))
        ]
        | inr (first, one) ↦ elim (at_or_last ss v j t f) [
          | inl also ↦ absurd (none j t also (sym o ∙ sym (ap (λ (x : Space). x.outer) one)) (sym n ∙ sym (ap (λ (x : Space). x.name) one)))
          | inr (last, same) ↦ first ∙ sym last
        ]
      ]

  pub one_more : AreNamespaces (ss ++ v ∷ [])
  one_more = record { behind = still_behind; once = still_once }

-- what a set of keys is after one is put in
pub record IsInserted (old new : List Key) : Type 0 where
  pub are : AreNamespaces (spaces_of new)
  pub grown : IsGrown (spaces_of old) (spaces_of new)

inserted_by : (b : Bool) (ks new : List Key) (v : Key) → list_any (same_key v) ks ≡ b → new ≡ (if b then ks else ks ++ v ∷ []) → AreNamespaces (spaces_of ks)
    → v.0 ≤ length (spaces_of ks) → IsInserted ks new
inserted_by true ks new v has e are within = record {
  are = subst (λ xs. AreNamespaces (spaces_of xs)) (sym e) are;
  grown = ([], ap spaces_of e ∙ sym (append-nil (spaces_of ks)));
}
inserted_by false ks new v has e are within =
    let is : spaces_of new ≡ spaces_of ks ++ space_of v ∷ [] = ap spaces_of e ∙ map-append space_of ks (v ∷ []) in
    record {
      are = subst AreNamespaces (sym is) (one_more (spaces_of ks) (space_of v) are within (has_none ks v has));
      grown = (space_of v ∷ [], is);
    }

pub inserted : (ks new : List Key) (v : Key) → new ≡ insert_key same_key ks v → AreNamespaces (spaces_of ks) → v.0 ≤ length (spaces_of ks) → IsInserted ks new
inserted ks new v e are within = inserted_by (list_any (same_key v) ks) ks new v refl e are within
