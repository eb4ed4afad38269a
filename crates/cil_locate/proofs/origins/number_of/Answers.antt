use Rattle.std.proofs.Common.{◌∙◌, sym, arith}
use Rattle.std.proofs.lemmas.Map.Lookups.{exact_bytes}
use Rattle.cil_modset.proofs.RisingLemmas.{below_from_greater}
use Rattle.cil_locate.proofs.OriginLemmas.{between_lower, between_none, between_upper}
use Rattle.cil_locate.proofs.origins.number_of.Goals as goal

pub loop-low-preserved-in-Less : goal.loop-low-preserved-in-Less
loop-low-preserved-in-Less c =
    between_upper _ _ _ _ _ c.len-high.ensures.modules.rising (omega (arith, c.loop-low-test.true)) (rw c.get.ensures at (sym c.cmp.ensures ∙ c.in-Less.is)) c.loop-low.invariant

pub returns-in-Equal-clause-found : goal.returns-in-Equal-clause-found
returns-in-Equal-clause-found c = exact_bytes _ _ (rw c.get.ensures at (sym c.cmp.ensures ∙ c.in-Equal.is))

pub loop-low-preserved : goal.loop-low-preserved
loop-low-preserved c =
    between_lower _ _ _ _ _ c.len-high.ensures.modules.rising (omega (arith, c.loop-low-test.true))
    (rw c.get.ensures at (below_from_greater c.get.result.now c.args.text.now (sym c.cmp.ensures ∙ c.in-Greater.is))) c.loop-low.invariant

pub returns-clause-none : goal.returns-clause-none
returns-clause-none c = λ n w e. between_none _ _ _ _ n c.loop-low-test.false c.loop-low.invariant w e
