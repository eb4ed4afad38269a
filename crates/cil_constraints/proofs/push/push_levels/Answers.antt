use Rattle.std.proofs.Common.{sym, ◌∙◌}
use Rattle.cil_constraints.proofs.PushLemmas.{ranked_put}
use Rattle.cil_constraints.proofs.push.push_levels.Goals as goal

pub returns : goal.returns
returns c = λ sets. ranked_put sets c.args.relation c.args.first c.args.second c.in-Some.pair _ _ (sym c.pair_of.ensures ∙ c.in-Some.is) c.in_ok-push.ensures.items
