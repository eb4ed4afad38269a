use Rattle.cil_tables.proofs.BooleanLemmas.{many_refused, not_many}
use Rattle.cil_tables.proofs.limit.check_booleans.Goals as goal

pub returns-then-names : goal.returns-then-names
returns-then-names c = λ xs s are. (c.if-names.true, not_many xs s c.args.names.now are c.if-names.true)

pub returns : goal.returns
returns c = λ xs s are.
    many_refused xs s c.args.names.now are c.if-names.false _ c.as_slice.ensures _ _ c.new-faults.ensures.items c.in_ok-push_fault.ensures c.refuse.result c.refuse.ensures.told
