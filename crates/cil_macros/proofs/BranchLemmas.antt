-- In which branch something is: what opened it says so, if it is a booleanif; else it is in the branch of that.
use Rattle.std.proofs.Common.{◌≡◌, ℕ, ◌+◌, ◌<◌, ◌≤◌, Bool, true, false, List, length, sym, ◌∙◌, ap, arith}
use Rattle.std.specs.Prelude.{Option, None, Some, IfSome, MatchOption, slice_get}
use Rattle.cil_base.specs.Places.{get_so, some_same}
use Rattle.cil_syntax.specs.Written.{Written}
use Rattle.cil_blocks.specs.Branches.{branch_value}
use Rattle.cil_blocks.specs.Contents.{is_conditional, standing_top}
use Rattle.cil_blocks.specs.Entries.{nothing}
use Rattle.cil_blocks.specs.Places.{entries_in}
use Rattle.cil_macros.specs.declared.branches.Branch as found
use Rattle.cil_macros.specs.InBranches.{HasBranchOf, SaysBranch, SaysItsBranch}
use Rattle.cil_macros.specs.Items.{Kept, all_placed, condition_at, item_at, placed_at}
use Rattle.cil_macros.specs.Nesting.{IsOpenedThere, IsOutside}
use Rattle.cil_macros.specs.Placed.{Placed, condition_there, placed_standing}
use Rattle.cil_macros.specs.Walks.{written_in}
use Rattle.cil_macros.proofs.PlacedLemmas.{placed_beyond}
use Rattle.cil_macros.proofs.PlacedWalk.{chosen_false, chosen_true}

module _ (ws : List Written) where
  -- ---- one opener

  pub other_opener : (q p : Placed) → is_conditional q.standing.statement.statement.keyword ≡ false → SaysItsBranch ws q p None
  other_opener q p e =
      chosen_false (is_conditional q.standing.statement.statement.keyword)
      (Some (condition_there ws q, branch_value q.standing.statement.statement.args p.standing.statement.statement.at)) q.standing.branch e

  pub branch_opener : (q p : Placed) (value : Bool) → is_conditional q.standing.statement.statement.keyword ≡ true
      → value ≡ branch_value q.standing.statement.statement.args p.standing.statement.statement.at → SaysItsBranch ws q p (Some value)
  branch_opener q p value e is = (
    e,
    chosen_true (is_conditional q.standing.statement.statement.keyword)
        (Some (condition_there ws q, branch_value q.standing.statement.statement.args p.standing.statement.statement.at)) q.standing.branch e
        ∙ ap (λ v. Some (condition_there ws q, v)) (sym is),
  )

  -- ---- one after another

  module _ (ps : List Placed) (at : ℕ) where
    pub at_first : HasBranchOf ps at at
    at_first p q e f = ap (λ (r : Placed). r.standing.branch) (some_same p q (sym e ∙ f))

    module _ (place : ℕ) (q : Placed) (there : slice_get ps place ≡ Some q) (so : HasBranchOf ps at place) where
      pub in_none : IsOutside ps place → SaysBranch ws ps at None
      in_none outside p here = so p q here there ∙ (outside q there).1

      module _ (opener : ℕ) (x : IsOpenedThere ws ps place opener) where
        pub in_this : place ≤ at → (value : Bool) → SaysItsBranch ws x.opener q (Some value) → SaysBranch ws ps at (Some (record { at = opener; value = value }))
        in_this near value says p here =
            let low = x.lower in
            record {
              lower = omega (arith, low, near);
              booleanif = x.opener;
              is = x.is;
              conditional = says.0;
              so = so p q here there ∙ x.branch q there ∙ says.1;
            }

        pub in_its : SaysItsBranch ws x.opener q None → HasBranchOf ps at opener
        in_its says p r here is =
            so p q here there ∙ x.branch q there ∙ says ∙ ap (λ (z : Placed). z.standing.branch) (some_same x.opener r (sym x.is ∙ is))

-- ---- as it is handed up

module _ (i : Kept) (at : ℕ) where
  got : (k : ℕ) (q : Placed) → slice_get (all_placed i) k ≡ Some q → q ≡ placed_at i k
  got k q e = sym (get_so (all_placed i) k q (placed_standing (standing_top nothing)) e)

  pub branch_so : (o : Option found.Branch) → slice_get (all_placed i) at ≡ Some (placed_at i at) → SaysBranch (written_in i.0) (all_placed i) at o
      → MatchOption o ((item_at i at).branch ≡ None) (λ b. (item_at i at).branch ≡ Some (condition_at i b.at, b.value))
  branch_so None here says = says (placed_at i at) here
  branch_so (Some b) here says =
      let x = says (placed_at i at) here in
      x.so ∙ ap (λ (q : Placed). Some (condition_there (written_in i.0) q, b.value)) (got b.at x.booleanif x.is)

  pub booleanif_so : (o : Option found.Branch) → slice_get (all_placed i) at ≡ Some (placed_at i at) → SaysBranch (written_in i.0) (all_placed i) at o
      → IfSome o (λ b. is_conditional (item_at i b.at).keyword ≡ true)
  booleanif_so None here says = tt
  booleanif_so (Some b) here says =
      let x = says (placed_at i at) here in
      ap (λ (q : Placed). is_conditional q.standing.statement.statement.keyword) (sym (got b.at x.booleanif x.is)) ∙ x.conditional

  pub lower_so : (o : Option found.Branch) → slice_get (all_placed i) at ≡ Some (placed_at i at) → SaysBranch (written_in i.0) (all_placed i) at o → IfSome o (λ b. b.at < at)
  lower_so None here says = tt
  lower_so (Some b) here says = (says (placed_at i at) here).lower

  pub none_beyond : length (entries_in i.0) + length i.1 ≤ at → (item_at i at).branch ≡ None
  none_beyond h = ap (λ (p : Placed). p.standing.branch) (placed_beyond i at h)
