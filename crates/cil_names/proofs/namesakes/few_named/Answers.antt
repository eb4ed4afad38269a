use Rattle.cil_names.proofs.namesakes.few_named.Goals as goal

pub few_from-requires-clause-named : goal.few_from-requires-clause-named
few_from-requires-clause-named c = c.is_named.ensures.0 c.if-is_named.true
