use Rattle.cil_attrs.proofs.GiverLemmas.{gives_any_some}
use Rattle.cil_attrs.proofs.giver.gives_any.Goals as goal

pub returns-in-Some : goal.returns-in-Some
returns-in-Some c = gives_any_some c.args.sets c.in-Some.sets c.args.keyword c.same_keyword.result c.in-Some.is c.same_keyword.ensures
