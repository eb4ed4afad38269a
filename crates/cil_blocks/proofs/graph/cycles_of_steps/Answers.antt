use Rattle.std.proofs.Common.{subst, sym}
use Rattle.std.specs.Prelude.{All}
use Rattle.cil_settle.specs.Cycles.{AreOnCycles, IsWithin}
use Rattle.cil_blocks.proofs.GraphLemmas.{all_within, flags_are}
use Rattle.cil_blocks.proofs.graph.cycles_of_steps.Goals as goal

pub cycles_of-requires-clause-within : goal.cycles_of-requires-clause-within
cycles_of-requires-clause-within c =
    subst (λ es. All (IsWithin c.args.steps.now.count) es) (sym c.as_slice.ensures.value)
    (all_within c.args.steps.now.parts.now c.args.steps.now.targets.now c.args.steps.now.count c.in_ok-edges.edges.items c.requires c.in_ok-edges.ensures.steps)

pub returns : goal.returns
returns c =
    flags_are c.args.steps.now.parts.now c.args.steps.now.targets.now c.args.steps.now.count c.in_ok-edges.edges.items c.requires c.in_ok-edges.ensures.steps
    c.in_ok-cycles.cycles.on.items
    (subst (λ es. AreOnCycles es c.args.steps.now.count c.in_ok-cycles.cycles.on.items) c.as_slice.ensures.value c.in_ok-cycles.ensures.on)
