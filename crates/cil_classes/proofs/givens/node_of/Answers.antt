use Rattle.cil_classes.proofs.GivensLemmas.{node_recorded}
use Rattle.cil_classes.proofs.givens.node_of.Goals as goal

pub returns-in_default : goal.returns-in_default
returns-in_default c = λ k xs f x is. rw c.in_default.is at is

pub returns : goal.returns
returns c = λ k xs f x is. node_recorded k xs f x c.in-Some.giving (rw c.in-Some.is at is)
