use Rattle.cil_server.specs.Streams.{Tells}
use Rattle.cil_server.proofs.NameLemmas.{AreTold}
use Rattle.cil_server.proofs.decision_replies.put_names.Given as goal

abbrev pub invariant-loop-bit : goal.invariant-loop-bit
invariant-loop-bit g l = AreTold l.names l.mask l.bit (Tells l.fn.output l.output) l.is_first
