use Rattle.std.proofs.Common.{List, ℕ, subst, sym}
use Rattle.std.specs.Prelude.{◌≡◌, Contains}
use Rattle.std.specs.List.Sorted.{IsNonDecreasingBy, IsStrictlySortedBy}
use Rattle.std.specs.Ordering.{nat_cmp}
use Rattle.std.proofs.lemmas.Result.{IfOk-from_err}
use Rattle.cil_settle.specs.declared.edge.Edge.{Edge}
use Rattle.cil_classes.specs.declared.assigned.Given.{Given}
use Rattle.cil_classes.specs.Assigned.{AreEdges}
use Rattle.cil_classes.proofs.held.held_of.Goals as goal

pub masks_of_each-requires-clause-sorted : goal.masks_of_each-requires-clause-sorted
masks_of_each-requires-clause-sorted c = subst (λ (es : List Edge). IsNonDecreasingBy (λ (e : Edge). e.from) es) (sym c.as_slice.ensures.value) c.in_ok-edges.ensures.sorted

pub masks_of_each-requires-clause-edges : goal.masks_of_each-requires-clause-edges
masks_of_each-requires-clause-edges c = subst (AreEdges c.args.givens.now) (sym c.as_slice.ensures.value) c.in_ok-edges.ensures.edges

pub masks_of_each-requires-clause-within : goal.masks_of_each-requires-clause-within
masks_of_each-requires-clause-within c = c.requires

pub masks_of_each-requires-clause-rising : goal.masks_of_each-requires-clause-rising
masks_of_each-requires-clause-rising c = subst (IsStrictlySortedBy nat_cmp) (sym c.as_slice-2.ensures.value) c.in_ok-classes.ensures.rising

pub masks_of_each-requires-clause-all : goal.masks_of_each-requires-clause-all
masks_of_each-requires-clause-all c =
    subst (λ (cs : List ℕ). (g : Given) → Contains c.args.givens.now g → (g.part.mask ≡ 0 → ⊥) → Contains cs g.part.class) (sym c.as_slice-2.ensures.value) c.in_ok-classes.ensures.all

pub returns : goal.returns
returns c = c.masks_of_each.ensures

pub returns-in_err-edges : goal.returns-in_err-edges
returns-in_err-edges c = IfOk-from_err c.from_residual.result _ c.from_residual.ensures.0

pub returns-in_err-classes : goal.returns-in_err-classes
returns-in_err-classes c = IfOk-from_err c.from_residual-in_err-classes.result _ c.from_residual-in_err-classes.ensures.0
