use Rattle.std.proofs.Common.{refl}
use Rattle.cil_declare.proofs.EntryLemmas.{no_round, one_round}
use Rattle.cil_declare.proofs.gather.push_round.Goals as goal

pub returns-then-is_outside : goal.returns-then-is_outside
returns-then-is_outside c = no_round c.args.instances.now c.args.row.now _ _ c.is_outside.ensures c.if-is_outside.true

pub returns : goal.returns
returns c =
    one_round c.args.instances.now c.args.row.now _ _ _ _ _ c.is_outside.ensures c.if-is_outside.false c.in_ok-round_of.ensures refl c.in_ok-push.ensures.items
