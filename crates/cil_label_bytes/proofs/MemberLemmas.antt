-- The members of a set, gathered one by one.
use Rattle.std.proofs.Common.{◌≡◌, ℕ, suc, ◌-◌, ◌+◌, ◌≤◌, ◌<◌, Bool, true, false, List, [], ◌∷◌, ◌++◌, refl, sym, subst, ◌∙◌, append_assoc, arith}
use Rattle.std.proofs.lemmas.List.{append-nil}
use Rattle.cil_label_bytes.specs.Sets.{passing}

module _ (test : ℕ → Bool) (front : List ℕ) (most at : ℕ) (total : List ℕ) where
  pub member_in : at < most → test at ≡ true → front ++ passing test at (most - at) ≡ total → (front ++ at ∷ []) ++ passing test (at + 1) (most - (at + 1)) ≡ total
  unfolding passing
  member_in lt has so_far =
      let k : most - at ≡ suc (most - (at + 1)) = omega (arith, lt) in
      let next : suc at ≡ at + 1 = omega arith in
      let one : front ++ passing test at (most - at) ≡ front ++ at ∷ passing test (suc at) (most - (at + 1)) = rw (k, has) refl in
      append_assoc front (at ∷ []) (passing test (at + 1) (most - (at + 1)))
      ∙ subst (λ (n : ℕ). front ++ at ∷ passing test n (most - (at + 1)) ≡ total) next (sym one ∙ so_far)

  pub member_out : at < most → test at ≡ false → front ++ passing test at (most - at) ≡ total → front ++ passing test (at + 1) (most - (at + 1)) ≡ total
  unfolding passing
  member_out lt lacks so_far =
      let k : most - at ≡ suc (most - (at + 1)) = omega (arith, lt) in
      let next : suc at ≡ at + 1 = omega arith in
      let one : front ++ passing test at (most - at) ≡ front ++ passing test (suc at) (most - (at + 1)) = rw (k, lacks) refl in
      subst (λ (n : ℕ). front ++ passing test n (most - (at + 1)) ≡ total) next (sym one ∙ so_far)

  pub members_all : most ≤ at → front ++ passing test at (most - at) ≡ total → front ≡ total
  unfolding passing
  members_all le so_far =
      let k : most - at ≡ 0 = omega (arith, le) in
      let one : front ++ passing test at (most - at) ≡ front = rw k (append-nil front) in
      sym one ∙ so_far
