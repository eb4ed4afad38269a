use Rattle.std.proofs.lemmas.Result.{on_ok_weaker}
use Rattle.cil_constraint_bytes.proofs.SpelledLemmas.{inside_put}
use Rattle.cil_constraint_bytes.proofs.put.put_step.Goals as goal

pub returns-in_ok-put_bytes-in-Inside : goal.returns-in_ok-put_bytes-in-Inside
returns-in_ok-put_bytes-in-Inside c =
    rw c.in-Inside.is
    (on_ok_weaker c.put_set.result
    (inside_put c.in-Inside.part c.in-Inside.side c.in-Inside.equality c.in-Inside.numbers c.variable_byte-variable.result c.equality_byte-in-Inside.result
    c.args.out.now.items c.put_bytes-in-Inside.new.out.items c.put_set.new.out.items c.variable_byte-variable.ensures c.equality_byte-in-Inside.ensures
    c.in_ok-put_bytes-in-Inside.ensures)
    (c.put_set.ensures 0))
