use Rattle.std.proofs.Common.{arith, sym}
use Rattle.cil_blocks.proofs.ProgramLemmas.{program_length}
use Rattle.cil_blocks.proofs.StepLemmas.{cycles_are, no_cycles, steps_stay}
use Rattle.cil_blocks.proofs.cycles.cycles_of.Goals as goal

pub all_fall-requires : goal.all_fall-requires
all_fall-requires c = λ q k s.
    let h = steps_stay c.args.statements.now c.requires.nested c.args.parts.now c.args.targets.now c.requires.parts c.requires.targets q k s in
    let l = program_length c.args.statements.now in
    omega (arith, h, l)

pub coming_back-requires : goal.coming_back-requires
coming_back-requires c = λ q k s.
    let h = steps_stay c.args.statements.now c.requires.nested c.args.parts.now c.args.targets.now c.requires.parts c.requires.targets q k s in
    let l = program_length c.args.statements.now in
    omega (arith, h, l)

pub returns-then-no_cycle : goal.returns-then-no_cycle
returns-then-no_cycle c =
    no_cycles c.args.statements.now c.requires.nested c.args.parts.now c.args.targets.now c.requires.parts c.requires.targets _ c.new.result.items
    (sym (program_length c.args.statements.now)) c.new.ensures.items (c.in_ok-no_cycle.ensures c.if-no_cycle.true)

pub returns : goal.returns
returns c =
    cycles_are c.args.statements.now c.requires.nested c.args.parts.now c.args.targets.now c.requires.parts c.requires.targets _ c.in_ok-found.found.items
    (sym (program_length c.args.statements.now)) c.in_ok-found.ensures
