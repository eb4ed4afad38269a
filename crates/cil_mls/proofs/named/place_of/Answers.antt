use Rattle.cil_mls.proofs.NameLemmas.{is_named, none_named}
use Rattle.cil_mls.proofs.named.place_of.Goals as goal

pub returns-in_err-at : goal.returns-in_err-at
returns-in_err-at c = rw c.from_residual.ensures (none_named c.args.names.now c.args.name.now c.in_err-at.ensures)

pub returns : goal.returns
returns c = is_named c.args.names.now c.args.name.now c.in_ok-at.at c.index-names-at.result c.in_ok-at.ensures
