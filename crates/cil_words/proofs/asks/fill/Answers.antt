use Rattle.cil_words.proofs.ScopeLemmas.{none_filled}
use Rattle.cil_words.proofs.asks.fill.Goals as goal

pub fill_by-requires-clause-scopes : goal.fill_by-requires-clause-scopes
fill_by-requires-clause-scopes c = none_filled c.args.instances.now c.new-scopes.result c.new-scopes.ensures.own c.new-scopes.ensures.other
