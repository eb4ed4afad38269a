use Rattle.std.proofs.Common.{◌++◌, ◌∷◌, [], ◌∙◌, ap}
use Rattle.std.proofs.lemmas.Option.{same_Some}
use Rattle.cil_faults.specs.Reported.{fault_at}
use Rattle.cil_faults.specs.declared.code.FaultCode.TheVariants as causes
use Rattle.cil_ranges.specs.Walked.{placed_in, space_in}
use Rattle.cil_ranges.proofs.WalkLemmas.{done}
use Rattle.cil_ranges.proofs.walk.push_order.Goals as goal

pub returns : goal.returns
returns c =
    done c.push_told.result
    (λ told at op xs says. told ∙ ap (λ z. c.args.faults.now.items ++ fault_at causes.RangeOrder z (space_in c.args.walk.now) [] ∷ []) (same_Some c.in-Some.at at (c.in-Some.ensures (placed_in c.args.walk.now) at op xs says)))
    c.push_told.ensures
