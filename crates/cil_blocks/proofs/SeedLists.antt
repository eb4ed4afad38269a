-- The lists that the pass over pairs of bodies makes, part by part.
use Rattle.std.proofs.Common.{◌≡◌, ℕ, ◌+◌, ◌<◌, ◌≤◌, List, [], ◌++◌, length, get_or, take, refl, sym, ◌∙◌, ap, subst, inl, inr}
use Rattle.std.specs.Prelude.{Contains, Some}
use Rattle.std.proofs.lemmas.List.{take_all}
use Rattle.cil_base.specs.Lists.{contains_none}
use Rattle.cil_blocks.specs.Doubled.{AreAlike, AreThose}
use Rattle.cil_blocks.specs.Seeds.{IsPaired, Pair, paired_with}
use Rattle.cil_blocks.proofs.Kept.{grown, in_more, no_members}
use Rattle.cil_base.specs.MadeLists.{contains_map, from_map}

module _ {K : Type 0} (key : ℕ → K) (others : List ℕ) where
  pub none_paired : (pairs : List Pair) → pairs ≡ [] → AreThose (IsPaired key [] others) pairs
  none_paired pairs e = no_members (IsPaired key [] others) pairs e (λ p x. contains_none x.one x.is_one)

  IsPairedWith : ℕ → Pair → Type 0
  IsPairedWith one p = (other : ℕ) × Contains others other × (key other ≡ key one) × (p ≡ (Some one, Some other))

  with_one : (one : ℕ) (alike : List ℕ) → AreAlike key others one alike → AreThose (IsPairedWith one) (paired_with one alike)
  unfolding IsPairedWith
  with_one one alike is p = (
    (λ c. let m = from_map (λ other. (Some one, Some other)) alike p c in let a = (is m.0).0 m.1 in (m.0, a.0, a.1, sym m.2)),
    (λ w. subst (Contains (paired_with one alike)) (sym w.3) (contains_map (λ other. (Some one, Some other)) alike w.0 ((is w.0).1 (w.1, w.2)))),
  )

  pub one_paired : (ones : List ℕ) (k v d : ℕ) (alike : List ℕ) (old new : List Pair) → k < length ones → v ≡ get_or ones k d → AreAlike key others v alike
      → AreThose (IsPaired key (take k ones) others) old → new ≡ old ++ paired_with v alike → AreThose (IsPaired key (take (k + 1) ones) others) new
  unfolding IsPairedWith
  one_paired ones k v d alike old new h at is so e =
      grown (IsPaired key (take k ones) others) (IsPairedWith v) (IsPaired key (take (k + 1) ones) others) old (paired_with v alike) new so (with_one v alike is) e (λ p. (
        (λ r. elim ((in_more ones k v d r.one h at).0 r.is_one) [
          | inl c ↦ inl (record { one = r.one; other = r.other; is_one = c; is_other = r.is_other; one_key = r.one_key; is = r.is })
          | inr same ↦ inr (r.other, r.is_other, r.one_key ∙ ap key same, r.is ∙ ap (λ x. (Some x, Some r.other)) same)
        ]),
        (λ s. elim s [
          | inl r ↦ record { one = r.one; other = r.other; is_one = (in_more ones k v d r.one h at).1 (inl r.is_one); is_other = r.is_other; one_key = r.one_key; is = r.is }
          | inr w ↦ record { one = v; other = w.0; is_one = (in_more ones k v d v h at).1 (inr refl); is_other = w.1; one_key = w.2; is = w.3 }
        ]),
      ))

  pub all_paired : (ones : List ℕ) (k : ℕ) (pairs : List Pair) → length ones ≤ k → AreThose (IsPaired key (take k ones) others) pairs → AreThose (IsPaired key ones others) pairs
  all_paired ones k pairs over so = subst (λ xs. AreThose (IsPaired key xs others) pairs) (take_all k ones over) so
