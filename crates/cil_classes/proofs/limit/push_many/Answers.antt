use Rattle.std.proofs.lemmas.Result.{on_ok_weaker}
use Rattle.cil_classes.specs.Faults.{HasManyClasses}
use Rattle.cil_classes.proofs.LimitLemmas.{are_many, not_many}
use Rattle.cil_classes.proofs.WidthLemmas.{none_more, one_more}
use Rattle.cil_classes.proofs.limit.push_many.Goals as goal

pub returns-then-names-le-MOST_CLASSES : goal.returns-then-names-le-MOST_CLASSES
returns-then-names-le-MOST_CLASSES c = λ xs s are. none_more c.args.faults.now.items (HasManyClasses s xs) (not_many xs s c.args.names.now are c.if-names-le-MOST_CLASSES.true)

pub returns : goal.returns
returns c =
    on_ok_weaker c.push_fault.result
    (λ told xs s are.
    one_more c.args.faults.now.items c.push_fault.new.faults.items _ (HasManyClasses s xs) told (are_many xs s c.args.names.now are c.if-names-le-MOST_CLASSES.false _ c.as_slice.ensures))
    c.push_fault.ensures
