-- Scopes by numbers: each namespace once, at its first place.
use Rattle.std.proofs.Common.{◌≡◌, ℕ, zero, suc, ◌<◌, ◌≤◌, Bool, true, false, not, if◌then◌else◌, List, [], ◌∷◌, ◌++◌, length, map, refl, sym, ◌∙◌, ap, subst, inl, inr, arith, append_assoc}
use Rattle.std.specs.Prelude.{◌==◌, ◌||◌, Some, None, filter}
use Rattle.std.specs.List.{list_any}
use Rattle.std.proofs.lemmas.Bool.{eqb-true}
use Rattle.std.proofs.lemmas.List.{append-nil, map-append}
use Rattle.std.proofs.lemmas.List.Elements.{Contains-append_cases}
use Rattle.cil_base.specs.Places.{none_some, some_at}
use Rattle.cil_base.specs.Lists.{contains_here, contains_later, contains_none}
use Rattle.cil_faults.specs.Namespaces.{Namespace}
use Rattle.cil_syntax.specs.Scopes.{Scope, apart, chain, same_space, tidy}
use Rattle.cil_syntax.specs.Written.{is_outside}
use Rattle.cil_blocks.specs.declared.namespaces.Space.{Space}
use Rattle.cil_blocks.specs.Namespaces.{AreNamespaces, inner_at, space_at}
use Rattle.cil_blocks.specs.Numbers.{AreWithin, with_number, with_numbers}
use Rattle.cil_blocks.proofs.Kept.{in_one}
use Rattle.cil_blocks.proofs.NamespaceLemmas.{global_at, next_at, one_to_one}
use Rattle.cil_blocks.proofs.OneTarget.{same_spaces}
use Rattle.cil_blocks.proofs.TargetsSo.{space_itself}

-- ---- truth values

both_ways : (a b : Bool) → (a ≡ true → b ≡ true) → (b ≡ true → a ≡ true) → a ≡ b
both_ways true b f g = sym (f refl)
both_ways false true f g = g refl
both_ways false false f g = refl

-- ---- one namespace more

-- a namespace behind others, unless it is there, or the global one
abbrev with_one : Scope → Namespace → Scope
with_one xs n = if is_outside n || list_any (λ m. same_space n m) xs then xs else xs ++ n ∷ []

abbrev differs : Namespace → Namespace → Bool
differs m x = not (same_space x m)

-- ---- one namespace more, in what stands apart

is_differing : (x m : Namespace) (b : Bool) → same_space x m ≡ b → differs m x ≡ not b
is_differing x m b e = ap not e

kept_by : (n m x : Namespace) (xs : Scope) (b : Bool) → same_space x m ≡ b → same_space n m ≡ false
    → list_any (λ y. same_space n y) (filter (differs m) xs) ≡ list_any (λ y. same_space n y) xs
    → list_any (λ y. same_space n y) (if not b then x ∷ filter (differs m) xs else filter (differs m) xs) ≡ (same_space n x || list_any (λ y. same_space n y) xs)
kept_by n m x xs true b d rest =
    rest ∙ sym (ap (λ c. c || list_any (λ y. same_space n y) xs) (ap (same_space n) (same_spaces x m b) ∙ d))
kept_by n m x xs false b d rest = ap (λ c. same_space n x || c) rest

-- what differs from a namespace is there whether that one is left out or not
any_kept : (n m : Namespace) (xs : Scope) → same_space n m ≡ false → list_any (λ y. same_space n y) (filter (differs m) xs) ≡ list_any (λ y. same_space n y) xs
any_kept n m [] d = refl
any_kept n m (x ∷ xs) d =
    ap (λ c. list_any (λ y. same_space n y) (if not c then x ∷ filter (differs m) xs else filter (differs m) xs)) refl
    ∙ kept_by n m x xs (same_space x m) refl d (any_kept n m xs d)

kept_more : (m n x : Namespace) (xs : Scope) (b : Bool) → filter (differs m) (xs ++ n ∷ []) ≡ filter (differs m) xs ++ filter (differs m) (n ∷ [])
    → (if b then x ∷ filter (differs m) (xs ++ n ∷ []) else filter (differs m) (xs ++ n ∷ []))
    ≡ (if b then x ∷ filter (differs m) xs else filter (differs m) xs) ++ filter (differs m) (n ∷ [])
kept_more m n x xs true e = ap (λ ys. x ∷ ys) e
kept_more m n x xs false e = e

kept_join : (m n : Namespace) (xs : Scope) → filter (differs m) (xs ++ n ∷ []) ≡ filter (differs m) xs ++ filter (differs m) (n ∷ [])
kept_join m n [] = refl
kept_join m n (x ∷ xs) = kept_more m n x xs (differs m x) (kept_join m n xs)

last_kept : (m n : Namespace) (b : Bool) → same_space n m ≡ b → filter (differs m) (n ∷ []) ≡ (if not b then n ∷ [] else [])
last_kept m n b e = ap (λ c. if not c then n ∷ [] else []) e

apart_by : (m n : Namespace) (xs : Scope) (o q a : Bool) → same_space n m ≡ q → list_any (λ y. same_space n y) xs ≡ a
    → m ∷ filter (differs m) (if o || a then xs else xs ++ n ∷ [])
    ≡ (if o || (q || list_any (λ y. same_space n y) (filter (differs m) xs)) then m ∷ filter (differs m) xs else (m ∷ filter (differs m) xs) ++ n ∷ [])
apart_by m n xs true q a d h = refl
apart_by m n xs false true true d h = refl
apart_by m n xs false true false d h =
    ap (λ ys. m ∷ ys) (kept_join m n xs ∙ ap (λ ys. filter (differs m) xs ++ ys) (last_kept m n true d) ∙ append-nil (filter (differs m) xs))
apart_by m n xs false false true d h =
    sym (ap (λ c. if c then m ∷ filter (differs m) xs else (m ∷ filter (differs m) xs) ++ n ∷ []) (any_kept n m xs d ∙ h))
apart_by m n xs false false false d h =
    ap (λ ys. m ∷ ys) (kept_join m n xs ∙ ap (λ ys. filter (differs m) xs ++ ys) (last_kept m n false d))
    ∙ sym (ap (λ c. if c then m ∷ filter (differs m) xs else (m ∷ filter (differs m) xs) ++ n ∷ []) (any_kept n m xs d ∙ h))

apart_as : (m n : Namespace) (s : Scope) (b : Bool) → apart (s ++ n ∷ []) ≡ with_one (apart s) n
    → (if b then apart (s ++ n ∷ []) else m ∷ filter (differs m) (apart (s ++ n ∷ []))) ≡ with_one (if b then apart s else m ∷ filter (differs m) (apart s)) n
apart_as m n s true e = e
apart_as m n s false e =
    ap (λ ys. m ∷ filter (differs m) ys) e
    ∙ ap (λ c. m ∷ filter (differs m) (if is_outside n || c then apart s else apart s ++ n ∷ [])) refl
    ∙ apart_by m n (apart s) (is_outside n) (same_space n m) (list_any (λ y. same_space n y) (apart s)) refl refl

first_apart : (n : Namespace) (b : Bool) → (if b then [] else n ∷ []) ≡ (if b || false then [] else [] ++ n ∷ [])
first_apart n true = refl
first_apart n false = refl

apart_more : (s : Scope) (n : Namespace) → apart (s ++ n ∷ []) ≡ with_one (apart s) n
unfolding apart
apart_more [] n = first_apart n (is_outside n)
apart_more (m ∷ s) n = apart_as m n s (is_outside m) (apart_more s n)

-- ---- the same by numbers

not_zero : (i : ℕ) → (suc i == 0) ≡ false
not_zero i = grind arith

number_itself : (k : ℕ) → (k == k) ≡ true
number_itself k = grind arith

module _ (ss : List Space) where
  within_by : (k : ℕ) (xs : List ℕ) (b : Bool) → k ≤ length ss → AreWithin ss xs → AreWithin ss (if b then xs else xs ++ k ∷ [])
  within_by k xs true h all = all
  within_by k xs false h all = λ m c.
      elim (Contains-append_cases xs (k ∷ []) m c) [
        | inl d ↦ all m d
        | inr d ↦ let same = in_one m k d in omega (arith, same, h)
      ]

  pub within_more : (k : ℕ) (xs : List ℕ) → k ≤ length ss → AreWithin ss xs → AreWithin ss (with_number xs k)
  within_more k xs h all = within_by k xs ((k == 0) || list_any (λ m. k == m) xs) h all

  pub all_within : (ks xs : List ℕ) → AreWithin ss ks → AreWithin ss xs → AreWithin ss (with_numbers xs ks)
  all_within [] xs h all = all
  all_within (k ∷ ks) xs h all = all_within ks (with_number xs k) (λ m c. h m (contains_later m k ks c)) (within_more k xs (h k (contains_here k ks)) all)

  pub closed_within : (xs : List ℕ) → AreWithin ss xs → AreWithin ss (xs ++ 0 ∷ [])
  closed_within xs all m c =
      elim (Contains-append_cases xs (0 ∷ []) m c) [
        | inl d ↦ all m d
        | inr d ↦ let same = in_one m 0 d in omega (arith, same)
      ]

-- the namespaces round one are there, down to a number
pub record IsChained (ss : List Space) (number at_now : ℕ) (old new : List ℕ) : Type 0 where
  pub within : at_now ≤ length ss
  pub all : AreWithin ss new
  pub is : (s : Scope) → map (space_at ss) old ≡ apart s
      → (done : Scope) × (map (space_at ss) new ≡ apart (s ++ done)) × (done ++ chain (space_at ss at_now) ≡ chain (space_at ss number))

module _ (ss : List Space) (are : AreNamespaces ss) where
  abbrev at : ℕ → Namespace
  at = space_at ss

  outside_so : (k : ℕ) → k ≤ length ss → (k == 0) ≡ is_outside (at k)
  outside_so zero h = sym (ap is_outside (global_at ss))
  outside_so (suc i) h =
      let s = some_at ss i (omega (arith, h)) in
      not_zero i ∙ sym (ap is_outside (next_at ss are i s.0 s.1))

  same_so : (k m : ℕ) → k ≤ length ss → m ≤ length ss → (k == m) ≡ same_space (at k) (at m)
  same_so k m h l =
      both_ways (k == m) (same_space (at k) (at m))
      (λ e. subst (λ x. same_space (at k) (at x) ≡ true) (eqb-true k m e) (space_itself (at k)))
      (λ e. subst (λ x. (k == x) ≡ true) (one_to_one ss are k m h l (same_spaces (at k) (at m) e)) (number_itself k))

  any_so : (k : ℕ) (xs : List ℕ) → k ≤ length ss → AreWithin ss xs → list_any (λ m. k == m) xs ≡ list_any (λ m. same_space (at k) m) (map at xs)
  any_so k [] h all = refl
  any_so k (x ∷ xs) h all =
      ap (λ b. b || list_any (λ m. k == m) xs) (same_so k x h (all x (contains_here x xs)))
      ∙ ap (λ b. same_space (at k) (at x) || b) (any_so k xs h (λ m c. all m (contains_later m x xs c)))

  with_by : (k : ℕ) (xs : List ℕ) (b : Bool) → map at (if b then xs else xs ++ k ∷ []) ≡ (if b then map at xs else map at xs ++ at k ∷ [])
  with_by k xs true = refl
  with_by k xs false = map-append at xs (k ∷ [])

  with_so : (k : ℕ) (xs : List ℕ) → k ≤ length ss → AreWithin ss xs → map at (with_number xs k) ≡ with_one (map at xs) (at k)
  with_so k xs h all =
      with_by k xs ((k == 0) || list_any (λ m. k == m) xs)
      ∙ ap (λ b. if b || list_any (λ m. k == m) xs then map at xs else map at xs ++ at k ∷ []) (outside_so k h)
      ∙ ap (λ b. if is_outside (at k) || b then map at xs else map at xs ++ at k ∷ []) (any_so k xs h all)

  -- one number more is one namespace more
  pub one_apart : (k : ℕ) (xs : List ℕ) (s : Scope) → k ≤ length ss → AreWithin ss xs → map at xs ≡ apart s → map at (with_number xs k) ≡ apart (s ++ at k ∷ [])
  one_apart k xs s h all e = with_so k xs h all ∙ ap (λ ys. with_one ys (at k)) e ∙ sym (apart_more s (at k))

  pub all_apart : (ks xs : List ℕ) (s : Scope) → AreWithin ss ks → AreWithin ss xs → map at xs ≡ apart s → map at (with_numbers xs ks) ≡ apart (s ++ map at ks)
  all_apart [] xs s h all e = e ∙ ap apart (sym (append-nil s))
  all_apart (k ∷ ks) xs s h all e =
      all_apart ks (with_number xs k) (s ++ at k ∷ []) (λ m c. h m (contains_later m k ks c)) (within_more ss k xs (h k (contains_here k ks)) all)
      (one_apart k xs s (h k (contains_here k ks)) all e)
      ∙ ap apart (append_assoc s (at k ∷ []) (map at ks))

  -- the global namespace behind a scope
  pub closed : (xs : List ℕ) (s : Scope) → map at xs ≡ apart s → map at (xs ++ 0 ∷ []) ≡ tidy s
  closed xs s e = map-append at xs (0 ∷ []) ∙ ap (λ ys. map at xs ++ ys ∷ []) (global_at ss) ∙ ap (λ ys. ys ++ [] ∷ []) e

  -- ---- the namespaces round one

  pub chain_begun : (number : ℕ) (old : List ℕ) → number ≤ length ss → AreWithin ss old → IsChained ss number number old old
  chain_begun number old h all = record {
    within = h;
    all = all;
    is = λ s e. ([], e ∙ ap apart (sym (append-nil s)), refl);
  }

  pub chain_next : (k : ℕ) (s : Space) → inner_at ss k ≡ Some s → chain (at k) ≡ at k ∷ chain (at s.outer)
  unfolding chain
  chain_next zero s e = absurd (none_some s e)
  chain_next (suc i) s e =
      ap chain (next_at ss are i s e) ∙ ap (λ n. n ∷ chain (at s.outer)) (sym (next_at ss are i s e))

  pub inner_behind : (k : ℕ) (s : Space) → inner_at ss k ≡ Some s → s.outer < k
  inner_behind zero s e = absurd (none_some s e)
  inner_behind (suc i) s e = let h = are.behind i s e in omega (arith, h)

  pub chain_more : (number k : ℕ) (s : Space) (old cur new : List ℕ) → inner_at ss k ≡ Some s → new ≡ with_number cur k → IsChained ss number k old cur
      → IsChained ss number s.outer old new
  chain_more number k s old cur new e is so = record {
    within = let h = inner_behind k s e in let w = so.within in omega (arith, h, w);
    all = subst (AreWithin ss) (sym is) (within_more ss k cur so.within so.all);
    is = λ scope f.
        let r = so.is scope f in (
          r.0 ++ at k ∷ [],
          ap (map at) is ∙ one_apart k cur (scope ++ r.0) so.within so.all r.1 ∙ ap apart (append_assoc scope r.0 (at k ∷ [])),
          append_assoc r.0 (at k ∷ []) (chain (at s.outer)) ∙ ap (λ c. r.0 ++ c) (sym (chain_next k s e)) ∙ r.2,
        );
  }

  pub none_left : (k : ℕ) → k ≤ length ss → inner_at ss k ≡ None → chain (at k) ≡ []
  unfolding chain
  none_left zero h e = ap chain (global_at ss)
  none_left (suc i) h e = absurd (let s = some_at ss i (omega (arith, h)) in none_some s.0 (sym e ∙ s.1))

  pub chain_ended : (number k : ℕ) (old new : List ℕ) (s : Scope) → inner_at ss k ≡ None → IsChained ss number k old new → map at old ≡ apart s
      → map at new ≡ apart (s ++ chain (at number))
  chain_ended number k old new s e so f =
      let r = so.is s f in
      r.1 ∙ ap (λ c. apart (s ++ c)) (sym (append-nil r.0) ∙ ap (λ c. r.0 ++ c) (sym (none_left k so.within e)) ∙ r.2)

-- ---- a scope that was begun with none

pub pushed_within : (ss : List Space) (ks none new : List ℕ) → none ≡ [] → new ≡ with_numbers none ks → AreWithin ss ks → AreWithin ss new
pushed_within ss ks none new e is h =
    subst (AreWithin ss) (sym (is ∙ ap (λ xs. with_numbers xs ks) e)) (all_within ss ks [] h (λ m c. absurd (contains_none m c)))

pub nothing_apart : apart [] ≡ []
unfolding apart
nothing_apart = refl

pub all_pushed : (ss : List Space) → AreNamespaces ss → (ks none new : List ℕ) → none ≡ [] → new ≡ with_numbers none ks → AreWithin ss ks
    → map (space_at ss) new ≡ apart (map (space_at ss) ks)
all_pushed ss are ks none new e is h =
    ap (map (space_at ss)) (is ∙ ap (λ xs. with_numbers xs ks) e) ∙ all_apart ss are ks [] [] h (λ m c. absurd (contains_none m c)) (sym nothing_apart)
