use Rattle.std.proofs.Common.{◌∙◌}
use Rattle.cil_blocks.proofs.InheritLemmas.{limit_listed}
use Rattle.cil_blocks.proofs.inheritance.over_the_limit.Goals as goal

pub returns : goal.returns
returns c =
    limit_listed c.in-Some.list c.new-faults.result.items c.push.new.self.items c.from_vec.result c.from_vec-2.result c.new-faults.ensures.items
    (c.from_vec.ensures ∙ c.new.ensures.items) (c.from_vec-2.ensures ∙ c.new-2.ensures.items) c.in_ok-push.ensures.items c.in-Some.ensures.faults
