-- The targets of all blockinherits, as they are gathered.
use Rattle.std.proofs.Common.{◌≡◌, ℕ, ◌+◌, ◌<◌, ◌≤◌, ◌⊎◌, true, false, List, [], ◌∷◌, ◌++◌, length, sym, ◌∙◌, ap, subst, inl, inr, arith}
use Rattle.std.specs.Prelude.{Contains, slice_get}
use Rattle.std.proofs.lemmas.List.{length-append}
use denote.Ref.{Bor}
use Rattle.cil_base.specs.Lists.{contains_none}
use Rattle.cil_syntax.specs.Written.{Written}
use Rattle.cil_blocks.specs.declared.targets.Targets.{Targets}
use Rattle.cil_blocks.specs.Contents.{is_inheriting}
use Rattle.cil_blocks.specs.Entries.{AreBelow, statement_at}
use Rattle.cil_blocks.specs.Named.{AreAllTargets, AreTargets, AreTargetsOf, borrowed, targets_in}
use Rattle.cil_base.specs.MadeLists.{contains_map, from_map}
use Rattle.cil_base.specs.Places.{get_behind, get_in_front, not_there}

module _ (ws : List Written) where
  pub are_targets : (i : ℕ) (found : List ℕ) → is_inheriting (statement_at ws i).statement.keyword ≡ true → AreTargets ws i found → AreBelow (length ws) found
      → AreTargetsOf ws i found
  are_targets i found h t below = record {
    inheriting = λ k c. h;
    named = λ k c. (below k c, (t (statement_at ws k)).1 (contains_map (statement_at ws) found k c));
    all = λ b g u. let m = from_map (statement_at ws) found b ((t b).0 u) in (m.0, m.1, m.2);
  }

  pub no_targets_of : (i : ℕ) → is_inheriting (statement_at ws i).statement.keyword ≡ false → AreTargetsOf ws i []
  no_targets_of i h = record {
    inheriting = λ k c. absurd (contains_none k c);
    named = λ k c. absurd (contains_none k c);
    all = λ b g u. absurd (let f : false ≡ true = sym h ∙ g in cc);
  }

  -- those of the first so many statements
  pub record AreTargetsUpTo (n : ℕ) (lists : List (Bor (List ℕ))) : Type 0 where
    pub counted : length lists ≡ n
    pub each : (i : ℕ) → i < n → AreTargetsOf ws i (borrowed (slice_get lists i))

  pub none_yet : (lists : List (Bor (List ℕ))) → lists ≡ [] → AreTargetsUpTo 0 lists
  none_yet lists e = record { counted = ap length e; each = λ i h. absurd (omega (arith, h)) }

  pub targets_more : (n : ℕ) (old new : List (Bor (List ℕ))) (found : Bor (List ℕ)) → AreTargetsUpTo n old → new ≡ old ++ found ∷ [] → AreTargetsOf ws n found.now
      → AreTargetsUpTo (n + 1) new
  targets_more n old new found so e is =
      let l : length new ≡ length old + 1 = ap length e ∙ length-append old (found ∷ []) in
      let c = so.counted in
      record { counted = omega (arith, l, c); each = λ i h. at i (last i n h) } where
        last : (i n : ℕ) → i < n + 1 → (i < n) ⊎ (i ≡ n)
        last i n h = grind arith

        at : (i : ℕ) → (i < n) ⊎ (i ≡ n) → AreTargetsOf ws i (borrowed (slice_get new i))
        at i (inl h) =
            let c = so.counted in
            subst (λ o. AreTargetsOf ws i (borrowed o)) (sym (ap (λ xs. slice_get xs i) e ∙ get_in_front old (found ∷ []) i (omega (arith, h, c)))) (so.each i h)
        at i (inr s) =
            let c = so.counted in
            subst (λ o. AreTargetsOf ws i (borrowed o)) (sym (ap (λ xs. slice_get xs i) e ∙ get_behind old (found ∷ []) 0 i (omega (arith, s, c))))
            (subst (λ k. AreTargetsOf ws k found.now) (sym s) is)

  pub all_targets : (n : ℕ) (ts : Targets) → n ≡ length ws → AreTargetsUpTo n ts.lists.items → AreAllTargets ws ts
  all_targets n ts l so = record {
    inheriting = λ i k c. let h = inside i k c in (h, (so.each i (omega (arith, l, h))).inheriting k c);
    named = λ i k c. let h = inside i k c in (so.each i (omega (arith, l, h))).named k c;
    all = λ i b h g t. (so.each i (omega (arith, l, h))).all b g t;
  } where
    below_or : (i m : ℕ) → (i < m) ⊎ (m ≤ i)
    below_or i m = grind arith

    inside : (i k : ℕ) → Contains (targets_in ts i) k → i < length ws
    inside i k c =
        elim (below_or i (length ws)) [
          | inl h ↦ h
          | inr h ↦ let e = so.counted in absurd (contains_none k (subst (λ o. Contains (borrowed o) k) (not_there ts.lists.items i (omega (arith, e, l, h))) c))
        ]

  pub targets_of_one : (ts : Targets) (i : ℕ) → i < length ws → AreAllTargets ws ts → AreTargetsOf ws i (targets_in ts i)
  targets_of_one ts i h t = record { inheriting = λ k c. (t.inheriting i k c).1; named = t.named i; all = λ b g u. t.all i b h g u }
