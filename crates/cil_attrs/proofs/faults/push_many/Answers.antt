use Rattle.std.proofs.Common.{◌∙◌, ap}
use Rattle.cil_attrs.specs.Limits.{said_limit}
use Rattle.cil_attrs.specs.SetFaults.{TooMany}
use Rattle.cil_attrs.proofs.FaultLemmas.{no_limit}
use Rattle.cil_attrs.proofs.ToldLemmas.{nothing_more}
use Rattle.cil_attrs.proofs.faults.push_many.Goals as goal

pub returns-in_default : goal.returns-in_default
returns-in_default c = λ xs s which limit are.
    nothing_more c.args.faults.now.items (TooMany xs s which) (no_limit xs s which (limit ∙ ap said_limit c.in_default.is))

pub returns : goal.returns
returns c = λ xs s which limit are. c.in_ok-push_over.ensures xs s which (limit ∙ ap said_limit c.in-Some.is) are
