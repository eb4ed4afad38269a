use Rattle.cil_macros.proofs.DeclaredLemmas.{all_taken}
use Rattle.cil_macros.proofs.declared_names.declared_in_bodies.Goals as goal

pub returns : goal.returns
returns c = record {
  in_bodies = all_taken c.args.statements.now c.loop-number.declared c.loop-number.number c.loop-number-test.false c.loop-number.invariant.0;
  parameters = c.loop-number.invariant.1;
}
