-- Scopes of the place of writing.
use Rattle.std.proofs.Common.{◌≡◌, ◌⊎◌, ℕ, ◌<◌, Bool, true, false, ◌&&◌, not, if◌then◌else◌, List, [], ◌∷◌, ◌++◌, length, refl, sym, ◌∙◌, ap, subst, inl, inr, arith}
use Rattle.std.specs.Prelude.{Contains, filter}
use Rattle.cil_base.specs.Lists.{contains_none}
use Rattle.cil_syntax.specs.Scopes.{apart, chain, same_space, scope_at}
use Rattle.cil_faults.specs.Namespaces.{Namespace}
use Rattle.cil_syntax.specs.Spelling.{same_bytes}
use Rattle.cil_syntax.specs.Written.{Written}
use Rattle.cil_blocks.specs.Named.{AreFirstNamed, AreOfName, HasNoneNamed}

-- ---- a scope of the place of writing is the chain

longer : (m n : Namespace) → length m < length n → same_space m n ≡ false
longer [] [] h = absurd (omega (arith, h))
longer [] (y ∷ ys) h = refl
longer (x ∷ xs) [] h = absurd (omega (arith, h))
longer (x ∷ xs) (y ∷ ys) h = and_false (same_bytes x y) (same_space xs ys) (longer xs ys (omega (arith, h))) where
  and_false : (a b : Bool) → b ≡ false → (a && b) ≡ false
  and_false true b e = e
  and_false false b e = refl

-- each of a chain is shorter than what it is the chain of
none_same : (m n : Namespace) → length m < length n → filter (λ k. not (same_space k n)) (apart (chain m)) ≡ apart (chain m)
unfolding apart chain
none_same [] n h = refl
none_same (y ∷ m) n h =
    let step : apart (chain (y ∷ m)) ≡ (y ∷ m) ∷ apart (chain m) = ap (λ s. (y ∷ m) ∷ s) (none_same m (y ∷ m) (omega arith)) in
    ap (filter (λ k. not (same_space k n))) step
    ∙ ap (λ b. if not b then (y ∷ m) ∷ filter (λ k. not (same_space k n)) (apart (chain m)) else filter (λ k. not (same_space k n)) (apart (chain m))) (longer (y ∷ m) n h)
    ∙ ap (λ s. (y ∷ m) ∷ s) (none_same m n (omega (arith, h)))
    ∙ sym step

apart_chain : (x : List ℕ) (n : Namespace) → apart (chain (x ∷ n)) ≡ (x ∷ n) ∷ apart (chain n)
unfolding apart chain
apart_chain x n = ap (λ s. (x ∷ n) ∷ s) (none_same n (x ∷ n) (omega arith))

pub scope_outwards : (x : List ℕ) (n : Namespace) → scope_at (x ∷ n) ≡ (x ∷ n) ∷ scope_at n
scope_outwards x n = ap (λ s. s ++ [] ∷ []) (apart_chain x n)

pub scope_global : scope_at [] ≡ [] ∷ []
unfolding apart chain
scope_global = refl

-- ---- the first namespace that has a block of some names

module _ (ws : List Written) (blocks : List ℕ) (names : List (List ℕ)) where
  none_there : (m : List (List ℕ)) (found : List ℕ) → AreOfName ws blocks m found → found ≡ [] → HasNoneNamed ws blocks m
  none_there m found so e b c n = contains_none b (subst (λ xs. Contains xs b) e ((so b).1 (c, n)))

  -- it is there in the first of a scope
  pub found_first : (n : Namespace) (scope : List Namespace) (whole : Namespace) (found : List ℕ) → whole ≡ n → AreOfName ws blocks (names ++ whole) found → (found ≡ [] → ⊥)
      → AreFirstNamed ws blocks names (n ∷ scope) found
  found_first n scope whole found e so some = inl (some, subst (λ m. AreOfName ws blocks (names ++ m) found) e so)

  pub found_further : (n : Namespace) (scope : List Namespace) (whole : Namespace) (here found : List ℕ) → whole ≡ n → AreOfName ws blocks (names ++ whole) here → here ≡ []
      → AreFirstNamed ws blocks names scope found → AreFirstNamed ws blocks names (n ∷ scope) found
  found_further n scope whole here found e so none rest =
      inr (subst (λ m. HasNoneNamed ws blocks (names ++ m)) e (none_there (names ++ whole) here so none), rest)

  empty_or_not : (xs : List ℕ) → (xs ≡ []) ⊎ (xs ≡ [] → ⊥)
  empty_or_not [] = inl refl
  empty_or_not (x ∷ xs) = inr (λ e. let l = ap length e in omega (arith, l))

  -- and in the last, the global namespace, whether there is one or not
  pub found_last : (found : List ℕ) → AreOfName ws blocks (names ++ []) found → AreFirstNamed ws blocks names ([] ∷ []) found
  found_last found so =
      elim (empty_or_not found) [
        | inl e ↦ found_further [] [] [] found found refl so e e
        | inr h ↦ found_first [] [] [] found refl so h
      ]
