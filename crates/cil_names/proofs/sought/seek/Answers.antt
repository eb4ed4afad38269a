use Rattle.std.proofs.Common.{subst}
use Rattle.cil_syntax.specs.Scopes.{IsTaken}
use Rattle.cil_names.proofs.SoleLemmas.{if_some}
use Rattle.cil_names.proofs.sought.seek.Goals as goal

pub returns : goal.returns
returns c = record {
  taken = subst (λ bytes. IsTaken bytes c.path_of-path.result.global c.path_of-path.result.names.now) c.as_slice.ensures c.path_of-path.ensures.taken;
  dotless = c.path_of-path.ensures.dotless;
  ranked = c.in-Some.ensures;
  plain = if_some _ c.if-not-path.false c.few_named-same.result;
  same = c.few_named-same.ensures;
}

pub returns-then-not-path : goal.returns-then-not-path
returns-then-not-path c = record {
  taken = subst (λ bytes. IsTaken bytes c.path_of-path.result.global c.path_of-path.result.names.now) c.as_slice.ensures c.path_of-path.ensures.taken;
  dotless = c.path_of-path.ensures.dotless;
  ranked = c.in-Some.ensures;
  plain = tt;
  same = tt;
}
