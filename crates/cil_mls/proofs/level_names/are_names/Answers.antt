use Rattle.cil_mls.proofs.level_names.are_names.Goals as goal

pub returns-then-rise : goal.returns-then-rise
returns-then-rise c = (λ t. record { rising = c.rise.ensures.0 c.if-rise.true; within = c.are_below.ensures.0 t }, λ are. c.are_below.ensures.1 are.within)
