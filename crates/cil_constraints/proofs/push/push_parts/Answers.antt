use Rattle.std.proofs.Common.{sym, ◌∙◌}
use Rattle.cil_constraints.proofs.PushLemmas.{compared_put}
use Rattle.cil_constraints.proofs.push.push_parts.Goals as goal

pub returns : goal.returns
returns c = λ sets. compared_put sets c.args.relation c.args.part c.in-Some.equality _ _ (sym c.equality_of.ensures ∙ c.in-Some.is) c.in_ok-push.ensures.items
