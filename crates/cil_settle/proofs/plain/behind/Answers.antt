use Rattle.cil_settle.proofs.PlainLemmas.{behind_is}
use Rattle.cil_settle.proofs.plain.behind.Goals as goal

pub returns : goal.returns
returns c = behind_is c.args.edges.now c.args.nodes c.args.node _ _ c.requires.within c.in_ok-need.ensures c.in_ok-flags.ensures
