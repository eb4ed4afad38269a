use Rattle.cil_macros.proofs.ReadLemmas.{one_joined, range_joined, two_joined, unheaded_joined, union_joined_so}
use Rattle.cil_macros.proofs.list_parts.set_op.Goals as goal

pub returns-in_default : goal.returns-in_default
returns-in_default c = λ n at. unheaded_joined n c.args.items.now c.args.sign at (c.in_default.ensures n)

pub returns-in-One : goal.returns-in-One
returns-in-One c = λ n at. one_joined n c.args.items.now c.args.sign c.in-Some.word.now c.set_head.result c.set_head.ensures (c.in-Some.ensures n) at c.in-One.is

pub returns-in-Two : goal.returns-in-Two
returns-in-Two c = λ n at v e.
    rw c.two_op.ensures (two_joined n c.args.items.now c.args.sign c.in-Some.word.now c.set_head.result c.set_head.ensures (c.in-Some.ensures n) at c.in-Two.is v e)

pub returns-in-Range : goal.returns-in-Range
returns-in-Range c = λ n at. range_joined n c.args.items.now c.args.sign c.in-Some.word.now c.set_head.result c.set_head.ensures (c.in-Some.ensures n) at c.in-Range.is

pub returns-in-Union : goal.returns-in-Union
returns-in-Union c = λ n at. union_joined_so n c.args.items.now c.args.sign c.in-Some.word.now c.set_head.result c.set_head.ensures (c.in-Some.ensures n) at c.in-Union.is
