use Rattle.cil_tables.proofs.AliasLemmas.{aliases_listed}
use Rattle.cil_tables.proofs.aliases.aliases_of.Goals as goal

pub returns : goal.returns
returns c = λ xs names known members.
    aliases_listed c.args.known.now c.args.types.now xs names known members _ c.in_ok-aliases.ensures _ _ c.sort_unstable.ensures.permutation c.sort_unstable.ensures.sorted c.dedup.ensures.filtered
