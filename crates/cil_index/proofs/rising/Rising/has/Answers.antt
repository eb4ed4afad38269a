use Rattle.std.proofs.Common.{subst, ◌∙◌}
use Rattle.cil_index.specs.Rising.{AreRising}
use Rattle.cil_index.proofs.RisingLemmas.{found, missing}
use Rattle.cil_index.proofs.rising.Rising.has.Goals as goal

pub returns-in-Ok : goal.returns-in-Ok
returns-in-Ok c =
    found c.args.self.now c.as_slice-numbers.result.now c.args.number (c.as_slice-numbers.ensures.value ∙ c.self.view_is) (subst AreRising c.self.view_is c.self.invariant)
    c.binary_search.result c.binary_search.ensures.position c.in-Ok.field-0 c.in-Ok.is

pub returns-in-Err : goal.returns-in-Err
returns-in-Err c =
    missing c.args.self.now c.as_slice-numbers.result.now c.args.number (c.as_slice-numbers.ensures.value ∙ c.self.view_is) (subst AreRising c.self.view_is c.self.invariant)
    c.binary_search.result c.binary_search.ensures.position c.in-Err.field-0 c.in-Err.is
