use Rattle.cil_macros.specs.Items.{said_by}
use Rattle.cil_macros.proofs.PutLemmas.{AreIn}
use Rattle.cil_macros.proofs.list_values.Caller.say.Given as goal

abbrev pub invariant-loop-part : goal.invariant-loop-part
invariant-loop-part l = AreIn said_by l.self.scene.now l.self.at l.asked l.fn.parts.items l.part-index l.parts.items
