-- What is placed nests no deeper than what is written.
use Rattle.std.specs.Prelude.{Contains}
use Rattle.std.proofs.Common.{◌≡◌, subst}
use Rattle.cil_macros.specs.declared.chain.Brought.{Brought}
use Rattle.cil_macros.specs.Calls.{IsPlaced}
use Rattle.cil_macros.specs.Depths.{ArePlacedShallow}
use Rattle.cil_macros.specs.Instances.{AreInstances}
use Rattle.cil_macros.specs.Items.{Kept, all_placed}
use Rattle.cil_macros.specs.Macros.{all_standing}
use Rattle.cil_macros.specs.Placed.{Placed}
use Rattle.cil_macros.specs.Walks.{placed_in, written_in}
use Rattle.cil_macros.proofs.WrittenLemmas.{written_of}

module _ (s : Kept) (b : Brought) (are : AreInstances s.0 b) (is : s.1 ≡ b.entries.items) where
  is_placed : (p : Placed) → Contains (all_placed s) p → IsPlaced (written_in s.0) (all_standing s.0) p
  is_placed p c = (are.placed.members p).0 (subst (λ cs. Contains (placed_in s.0 cs) p) is c)

  pub placed_shallow : ArePlacedShallow (all_placed s)
  placed_shallow p c =
      are.standings.shallow p.standing.statement (written_of (written_in s.0) (all_standing s.0) (λ t d. (are.standings.contents.standings.members t).0 d) p (is_placed p c))
