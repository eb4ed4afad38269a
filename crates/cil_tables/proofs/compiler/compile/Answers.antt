use Rattle.std.proofs.Common.{List, ℕ, subst, sym}
use Rattle.cil_faults.specs.declared.failure.Failure.{Failure}
use Rattle.cil_syntax.specs.Program.{IsNested, program_of}
use Rattle.cil_blocks.proofs.DoubledLemmas.{if_ok}
use Rattle.cil_tables.specs.declared.compiler.Compiled.{Compiled}
use Rattle.cil_tables.specs.CompileAnswer.{IsCompiled, StandsIn}
use Rattle.cil_tables.specs.CompileRefusal.{CompileFails}
use Rattle.cil_tables.proofs.CompileLemmas.{handed_on, if_err, inherit_fails, stands_in}
use Rattle.cil_tables.proofs.compiler.compile.Goals as goal

pub standing_policy-requires-clause-standings : goal.standing_policy-requires-clause-standings
standing_policy-requires-clause-standings c = c.in_ok-stands.ensures.0.1

pub standing_policy-requires-clause-nested : goal.standing_policy-requires-clause-nested
standing_policy-requires-clause-nested c = subst IsNested (sym c.in_ok-stands.ensures.0.0) c.statements.ensures.nested

pub returns-in_err-stands-clause-faults : goal.returns-in_err-stands-clause-faults
returns-in_err-stands-clause-faults c =
    handed_on (CompileFails c.args.modules.now) _ _ c.from_residual-in_err-stands.ensures.1
    (inherit_fails c.args.modules.now (program_of c.in_ok-program.program) c.in_ok-program.ensures.0 c.in_ok-program.ensures.1 _ c.in_err-stands.ensures)

pub returns-clause-faults : goal.returns-clause-faults
returns-clause-faults c =
    if_err (λ (failure : Failure). (modules : List (List ℕ)) → StandsIn modules c.in_ok-stands.stands → CompileFails modules failure) (CompileFails c.args.modules.now) c.standing_policy.result
    (λ failure fails. fails c.args.modules.now
    (stands_in c.args.modules.now c.in_ok-program.program c.in_ok-stands.stands c.in_ok-stands.ensures.0.0 c.in_ok-stands.ensures.0.1 c.in_ok-program.ensures.0 c.in_ok-program.ensures.1 c.in_ok-stands.ensures.1))
    c.standing_policy.ensures.faults

pub returns-clause-compiled : goal.returns-clause-compiled
returns-clause-compiled c =
    if_ok (λ (compiled : Compiled). (modules : List (List ℕ)) → StandsIn modules c.in_ok-stands.stands → IsCompiled modules compiled) (IsCompiled c.args.modules.now) c.standing_policy.result
    (λ compiled is. is c.args.modules.now
    (stands_in c.args.modules.now c.in_ok-program.program c.in_ok-stands.stands c.in_ok-stands.ensures.0.0 c.in_ok-stands.ensures.0.1 c.in_ok-program.ensures.0 c.in_ok-program.ensures.1 c.in_ok-stands.ensures.1))
    c.standing_policy.ensures.compiled
