use Rattle.std.specs.Prelude.{ℕ, List, take}
use Rattle.cil_syntax.specs.declared.kind.Kind.{Kind}
use Rattle.cil_known.specs.macros.Items.{items_in}
use Rattle.cil_known.specs.Known.{IsKnown}
use Rattle.cil_known.specs.Spaces.{SpaceOf}
use Rattle.cil_attrs.specs.Givers.{AreGifts, HasKinds}
use Rattle.cil_attrs.proofs.giver.givens_of.Given as goal

abbrev pub invariant-loop-at : goal.invariant-loop-at
invariant-loop-at l = (names : Kind → List (List ℕ)) (which : SpaceOf) → IsKnown l.known (items_in l.instances) names → HasKinds l.space which
    → AreGifts l.known (items_in l.instances) which l.instances (take l.at (items_in l.instances)) l.givens.items
