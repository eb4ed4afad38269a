use Rattle.std.proofs.Common.{inl, inr, refl, subst}
use Rattle.std.proofs.lemmas.Result.{IfOk-from_err}
use Rattle.cil_classes.specs.Pushed.{IsUnionOf}
use Rattle.cil_classes.proofs.perms.push_union.Goals as goal

pub returns-then-mask-eq0 : goal.returns-then-mask-eq0
returns-then-mask-eq0 c = record {
  mask = c.union_of-mask.result;
  union = subst (λ ms. IsUnionOf ms c.args.from.now c.union_of-mask.result) c.as_slice.ensures.value c.union_of-mask.ensures;
  behind = inl (c.if-mask-eq0.true, refl);
}

pub returns : goal.returns
returns c = record {
  mask = c.union_of-mask.result;
  union = subst (λ ms. IsUnionOf ms c.args.from.now c.union_of-mask.result) c.as_slice.ensures.value c.union_of-mask.ensures;
  behind = inr (c.if-mask-eq0.false, c.in_ok-push.ensures.items);
}

pub returns-in_err-push : goal.returns-in_err-push
returns-in_err-push c = IfOk-from_err c.from_residual.result _ c.from_residual.ensures.0
