use Rattle.std.proofs.Common.{sym, ◌∙◌}
use Rattle.cil_tables.proofs.HolderLemmas.{one_member}
use Rattle.cil_tables.proofs.holders.only.Goals as goal

pub returns : goal.returns
returns c = one_member c.args.set.now c.in_ok-first.first (sym c.len.ensures ∙ c.is_one.ensures.0 c.if-not-is_one.false) c.in_ok-first.ensures.member
