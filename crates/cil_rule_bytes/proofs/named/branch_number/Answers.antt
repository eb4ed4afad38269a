use Rattle.std.proofs.Common.{sym, ◌∙◌}
use Rattle.cil_conditions.proofs.PlaceLemmas.{branch_at, branch_there}
use Rattle.cil_rule_bytes.proofs.NamedLemmas.{then_named}
use Rattle.cil_rule_bytes.proofs.named.branch_number.Goals as goal

pub unreachable-requires : goal.unreachable-requires
unreachable-requires c =
    branch_there c.args.rows.now c.in-Some.branch c.requires.rising c.binary_search.result c.binary_search.ensures.bound c.binary_search.ensures.position c.in-Err.field-0 c.in-Err.is
    (c.requires.there c.in-Some.branch c.in-Some.is)

pub returns : goal.returns
returns c =
    then_named c.args.rows.now c.args.branch.now c.in-Ok.place c.short.result c.short.ensures
    (branch_at c.args.rows.now c.in-Some.branch c.requires.rising c.binary_search.result c.binary_search.ensures.bound c.binary_search.ensures.position c.in-Ok.place c.in-Ok.is ∙ sym c.in-Some.is)
