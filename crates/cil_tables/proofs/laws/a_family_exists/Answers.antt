use Rattle.cil_tables.proofs.FamilyExists.{by_ranks, by_ranks_solves}
use Rattle.cil_tables.proofs.laws.a_family_exists.Goals as goal

pub returns : goal.returns
returns c = λ xs s space range rank ranked. (by_ranks xs s space range rank ranked, by_ranks_solves xs s space range rank ranked)
