-- Where the aims of a part stand, and the first of them that is not below an aim.
use Rattle.std.proofs.Common.{◌≡◌, ℕ, ◌+◌, ◌<◌, ◌≤◌, List, length, get_or, sym, subst, inl, inr, arith}
use Rattle.std.proofs.Math.ListN.{get_or-eq_default}
use Rattle.std.proofs.lemmas.Bool.{cases_lt}
use Rattle.cil_index.specs.declared.index.Bounds.{Bounds}
use Rattle.cil_index.specs.declared.index.Index.{Index}
use Rattle.cil_index.specs.Entries.{AreBelow, AreBounds, IsInPart, IsLaidOut, IsLater, RiseIn}

-- a part behind the last one with a start has no aims
pub none_past : (starts : List ℕ) (part at : ℕ) → length starts ≤ part + 1 → IsInPart starts part at → ⊥
none_past starts part at past of =
    let none : get_or starts (part + 1) 0 ≡ 0 = get_or-eq_default starts 0 past in
    let less = of.ends in omega (arith, none, less)

pub no_bounds : (index : Index) (part : ℕ) (b : Bounds) → length index.starts.items ≤ part → b.start ≡ 0 → b.to ≡ 0 → AreBounds index part b
no_bounds index part b past from_is to_is = record {
  within = omega (arith, to_is);
  rising = λ i j le less below. absurd (omega (arith, below, to_is));
  all = λ at of. absurd (none_past index.starts.items part at (omega (arith, past)) of);
}

pub bounds_at : (index : Index) (part : ℕ) (b : Bounds) → IsLaidOut index → b.start ≡ get_or index.starts.items part 0 → b.to ≡ get_or index.starts.items (part + 1) 0 → AreBounds index part b
bounds_at index part b laid from_is to_is = record {
  within = let le = laid.within (part + 1) in omega (arith, le, to_is);
  rising = λ i j le less below. laid.rising part i j (omega (arith, le, from_is)) less (omega (arith, below, to_is));
  all = λ at of. let ge = of.begins in let less = of.ends in (omega (arith, ge, from_is), omega (arith, less, to_is));
}

-- ---- a search step by step

module _ (aims : List ℕ) (start aim : ℕ) where
  -- the aims before a place are below the aim
  pub record IsPassed (at : ℕ) : Type 0 where
    pub behind : start ≤ at
    pub below : AreBelow aims start at aim

  pub passed_none : IsPassed start
  passed_none = record { behind = omega arith; below = λ i ge before. absurd (omega (arith, ge, before)) }

  pub passed_more : (at there : ℕ) → there ≡ get_or aims at 0 → there < aim → IsPassed at → IsPassed (at + 1)
  passed_more at there is under so_far = let behind = so_far.behind in record {
    behind = omega (arith, behind);
    below = λ i ge before. elim (cases_lt i at) [
      | inl less ↦ so_far.below i ge less
      | inr past ↦ let same : i ≡ at = omega (arith, before, past) in subst (λ k. get_or aims k 0 < aim) (sym same) (omega (arith, is, under))
    ];
  }

-- ---- a search by halving

module _ (aims : List ℕ) (start end aim : ℕ) where
  -- the aims before a place are below the aim, and so many behind it are left
  pub record IsSearched (low size : ℕ) : Type 0 where
    pub some : 0 < size
    pub behind : start ≤ low
    pub within : low + size ≤ end
    pub below : AreBelow aims start low aim

  pub searched_first : start < end → (size : ℕ) → start + size ≡ end → IsSearched start size
  searched_first less size sum = record {
    some = omega (arith, less, sum);
    behind = omega arith;
    within = omega (arith, sum);
    below = λ i ge before. absurd (omega (arith, ge, before));
  }

  pub searched_half : (low size half new left : ℕ) → RiseIn aims start end → IsSearched low size → 0 < half → half + left ≡ size → 0 < left → IsLater aims low (low + half) aim new → IsSearched new left
  searched_half low size half new left up so_far some sum more (inl (is, under)) =
      let within = so_far.within in
      let behind = so_far.behind in record {
        some = more;
        behind = omega (arith, is, behind);
        within = omega (arith, is, within, sum);
        below = λ i ge before. let rise = up i (low + half) ge (omega (arith, before, is)) (omega (arith, within, sum, more)) in omega (arith, rise, under);
      }
  searched_half low size half new left up so_far some sum more (inr is) =
      let within = so_far.within in
      let behind = so_far.behind in record {
        some = more;
        behind = omega (arith, is, behind);
        within = omega (arith, is, within, sum);
        below = λ i ge before. so_far.below i ge (omega (arith, before, is));
      }

  -- the last one is below too
  pub below_last : (low : ℕ) → AreBelow aims start low aim → get_or aims low 0 < aim → AreBelow aims start (low + 1) aim
  below_last low below under i ge before = elim (cases_lt i low) [
    | inl less ↦ below i ge less
    | inr past ↦ let same : i ≡ low = omega (arith, before, past) in subst (λ k. get_or aims k 0 < aim) (sym same) under
  ]

pub rise_within : (aims : List ℕ) (start end low high : ℕ) → start ≤ low → high ≤ end → RiseIn aims start end → RiseIn aims low high
rise_within aims start end low high ge le up i j a b c = up i j (omega (arith, ge, a)) b (omega (arith, c, le))
