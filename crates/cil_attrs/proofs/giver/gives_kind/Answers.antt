use Rattle.cil_attrs.proofs.GiverLemmas.{gives_kind_some}
use Rattle.cil_attrs.proofs.giver.gives_kind.Goals as goal

pub returns-in-Some : goal.returns-in-Some
returns-in-Some c = gives_kind_some c.args.sets c.in-Some.sets c.args.keyword c.args.kind c.gives_one.result c.in-Some.is c.gives_one.ensures
