use Rattle.cil_attrs.specs.SetFaults.{TooMany}
use Rattle.cil_attrs.proofs.FaultLemmas.{are_many, not_many}
use Rattle.cil_attrs.proofs.ToldLemmas.{nothing_more, one_more}
use Rattle.cil_attrs.proofs.faults.push_over.Goals as goal

pub returns-then-names-limit : goal.returns-then-names-limit
returns-then-names-limit c = λ xs s which limit are.
    nothing_more c.args.faults.now.items (TooMany xs s which)
    (not_many xs s which c.args.names.now are c.args.limit.most c.args.limit.word.now limit c.if-names-limit.true)

pub returns : goal.returns
returns c = λ xs s which limit are.
    one_more c.args.faults.now.items c.push_fault.new.faults.items _ (TooMany xs s which) c.in_ok-push_fault.ensures
    (are_many xs s which c.args.names.now are c.args.limit.most c.args.limit.word.now limit c.if-names-limit.false)
