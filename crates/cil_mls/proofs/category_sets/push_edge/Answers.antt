use Rattle.std.proofs.Common.{sym, ◌∙◌}
use Rattle.cil_mls.proofs.SetEdgeLemmas.{no_meaning, no_set, one_set}
use Rattle.cil_mls.proofs.category_sets.push_edge.Goals as goal

pub returns-in_default : goal.returns-in_default
returns-in_default c = no_meaning c.args.entries.now c.args.set c.args.meaning c.args.edges.now.items c.in_default.is

pub returns-then-not-is_set_at : goal.returns-then-not-is_set_at
returns-then-not-is_set_at c = no_set c.args.entries.now c.args.set c.args.meaning c.args.edges.now.items c.in-Some.to c.in-Some.is (sym c.is_set_at.ensures ∙ c.if-not-is_set_at.true)

pub returns : goal.returns
returns c =
    one_set c.args.entries.now c.args.set c.args.meaning c.args.edges.now.items c.in-Some.to c.in-Some.is (sym c.is_set_at.ensures ∙ c.if-not-is_set_at.false) _ c.in_ok-push.ensures.items
