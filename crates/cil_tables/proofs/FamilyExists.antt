-- Where ranks fall, some family of sets solves the equations: the sets are made in the order of their ranks.
use Rattle.std.proofs.Common.{◌≡◌, ◌⊎◌, ℕ, zero, suc, ◌<◌, true, false, List, refl, sym, ◌∙◌, ap, inl, inr, arith}
use Rattle.cil_macros.specs.Item.{Item, OptSet}
use Rattle.cil_names.specs.Declarations.{Symbol}
use Rattle.cil_known.specs.Family.{Family, IsRanked, Range, Solves, SolvesBelow, is_given}
use Rattle.cil_known.specs.Spaces.{SpaceOf, is_set}
use Rattle.cil_known.proofs.FamilyLemmas.{solved_one_more}

below_or_at : (i k : ℕ) → i < suc k → (i < k) ⊎ (i ≡ k)
below_or_at i k l = grind arith

module _ (xs : List Item) (s : OptSet) (space : SpaceOf) (range : Range) (rank : Symbol → ℕ) (ranked : IsRanked xs s space range rank) where
  -- what statements give if they are asked so often, from empty sets on
  made : ℕ → Family
  made zero a t = false
  made (suc k) a t = is_given xs s space range (made k) a t

  solved : (k : ℕ) → SolvesBelow xs s space range rank k (made k)
  unfolding made
  solved zero a t d l = absurd (omega (arith, l))
  solved (suc k) a t d l = solved_one_more xs s space range rank ranked (made k) (made (suc k)) k (solved k) (solved k) (λ b u c e. refl) a t d l

  -- what a set has does not change any more
  stays : (j : ℕ) (b t : Symbol) → is_set xs s space b ≡ true → rank b < j → made j b t ≡ made (suc (rank b)) b t
  unfolding made
  stays zero b t d l = absurd (omega (arith, l))
  stays (suc j) b t d l = elim (below_or_at (rank b) j l) [
    | inl r ↦ sym (solved j b t d r) ∙ stays j b t d r
    | inr e ↦ ap (λ i. made (suc i) b t) (sym e)
  ]

  pub by_ranks : Family
  by_ranks a t = made (suc (rank a)) a t

  pub by_ranks_solves : Solves xs s space range by_ranks
  unfolding by_ranks made
  by_ranks_solves a t d =
      solved_one_more xs s space range rank ranked (made (rank a)) by_ranks (rank a) (solved (rank a)) (stays (rank a))
      (λ b u c e. ap (λ i. is_given xs s space range (made i) b u) e) a t d (omega arith)
