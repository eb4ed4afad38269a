use Rattle.cil_conditions.proofs.PlaceLemmas.{branches_listed}
use Rattle.cil_rule_bytes.proofs.named.listed.Goals as goal

pub returns : goal.returns
returns c = branches_listed _ _ _ c.sort_unstable.ensures.permutation c.sort_unstable.ensures.sorted c.dedup.ensures.filtered
