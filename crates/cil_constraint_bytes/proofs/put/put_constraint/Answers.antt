use Rattle.std.proofs.Common.{rules}
use Rattle.std.proofs.lemmas.Result.{on_ok_weaker}
use Rattle.cil_constraint_bytes.proofs.SpelledLemmas.{all_put}
use Rattle.cil_constraint_bytes.proofs.put.put_constraint.Goals as goal

pub returns : goal.returns
returns c = λ limits.
    on_ok_weaker c.put_steps.result
    (all_put limits c.args.constraint.now c.args.out.now.items c.put_small.new.out.items c.put_bytes.new.out.items c.put_steps.new.out.items
    (rw c.as_slice.ensures.same at c.as_slice.ensures.one) (search rules) (search rules))
    (rw c.as_slice.ensures.same at c.put_steps.ensures)
