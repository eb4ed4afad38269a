use Rattle.cil_settle.specs.declared.edge.Edge.{Edge}
use Rattle.std.proofs.Common.{subst, List, ℕ, Bool}
use Rattle.cil_settle.specs.Checked.{AreCovered, AreRoots}
use Rattle.cil_settle.specs.Reached.{AreReached}
use Rattle.cil_settle.proofs.check.is_whole.Goals as goal

pub returns : goal.returns
returns c = λ t. record {
  turned = c.in_ok-turned.turned.items;
  need_forward = c.in_ok-need.need.items;
  need_backward = c.in_ok-again.again.items;
  forward = c.in_ok-forward.forward.items;
  backward = c.in_ok-backward.backward.items;
  are_turned = c.in_ok-turned.ensures.turned;
  roots_forward = subst (λ (rs : List ℕ). AreRoots c.args.nodes rs c.in_ok-need.need.items) c.as_slice-roots.ensures.value c.in_ok-need.ensures;
  roots_backward = subst (λ (rs : List ℕ). AreRoots c.args.nodes rs c.in_ok-again.again.items) c.as_slice-roots.ensures.value c.in_ok-again.ensures;
  reached_forward = c.in_ok-forward.ensures;
  reached_backward = subst (λ (es : List Edge). AreReached es c.in_ok-again.again.items c.in_ok-backward.backward.items) c.as_slice.ensures.value c.in_ok-backward.ensures;
  covered = subst (λ (fs : List Bool). AreCovered c.args.inner.now fs c.in_ok-backward.backward.items) c.as_slice-2.ensures.value
      (subst (λ (fs : List Bool). AreCovered c.args.inner.now c.as_slice-2.result.now fs) c.as_slice-3.ensures.value (c.are_covered.ensures t));
}
