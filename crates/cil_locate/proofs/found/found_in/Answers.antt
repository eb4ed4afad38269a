use Rattle.std.proofs.lemmas.Result.{IfOk-weaker}
use Rattle.cil_locate.proofs.FoundLemmas.{not_both, of_policy}
use Rattle.cil_locate.proofs.found.found_in.Goals as goal

pub returns-then-are_all_read : goal.returns-then-are_all_read
returns-then-are_all_read c =
    IfOk-weaker c.found_of.result _ _
    (λ f is. of_policy _ _ f (c.in_ok-modules.ensures.texts (rw c.as_slice.ensures.value at (c.are_all_read.ensures.0 c.if-are_all_read.true))) is) c.found_of.ensures

pub returns : goal.returns
returns c = (c.in_ok-modules.ensures.readings, λ all. not_both _ c.if-are_all_read.false (c.are_all_read.ensures.1 (rw c.as_slice.ensures.value all)))
