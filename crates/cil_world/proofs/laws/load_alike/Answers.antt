use Rattle.cil_world.proofs.LawLemmas.{load_alike}
use Rattle.cil_world.proofs.laws.load_alike.Goals as goal

pub returns : goal.returns
returns c = load_alike c.one_table.ensures c.one_list_of_faults.ensures
