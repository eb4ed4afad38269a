use Rattle.std.proofs.Common.{◌++◌, ◌∙◌, ap, refl}
use Rattle.cil_blocks.proofs.SeedLaw.{all_doubled}
use Rattle.cil_blocks.proofs.doubled.doubled_of.Goals as goal

pub returns : goal.returns
returns c =
    all_doubled c.args.statements.now c.requires.nested c.args.parts.now c.args.targets.now c.requires.parts c.requires.targets _ c.in_ok-found.found.items c.in_ok-standing.standing.items
    _ refl c.in_ok-found.ensures c.in_ok-standing.ensures
    (c.in_ok-extend_from_slice.ensures.items ∙ ap (λ xs. c.in_ok-found.found.items ++ xs) c.as_slice.ensures.value)
