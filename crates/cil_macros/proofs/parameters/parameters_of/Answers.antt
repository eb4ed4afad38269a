use Rattle.cil_syntax.specs.Program.{program_of}
use Rattle.cil_macros.proofs.ServingLemmas.{all_named, none_named}
use Rattle.cil_macros.proofs.parameters.parameters_of.Goals as goal

pub loop-number-init : goal.loop-number-init
loop-number-init c = none_named (program_of c.args.statements.now) (record { numbers = c.new.result }) c.new.ensures.empty

pub returns : goal.returns
returns c = all_named c.args.statements.now c.loop-number.parameters c.loop-number.number c.loop-number-test.false c.loop-number.invariant
