use Rattle.cil_macros.proofs.FirstLemmas.{kept_known, kept_new}
use Rattle.cil_macros.proofs.chain.keep_first.Goals as goal

pub returns-then-contains_key : goal.returns-then-contains_key
returns-then-contains_key c = kept_known c.args.called c.args.body c.args.firsts.now (c.if-contains_key.ensures)

pub returns : goal.returns
returns c = kept_new c.args.called c.args.body c.args.firsts.now c.insert.new.self c.if-contains_key.ensures c.in_ok-insert.ensures.updates.0
