use Rattle.cil_names.proofs.EntryLemmas.{unwanted_missing}
use Rattle.cil_names.proofs.by_name.entry_in.Goals as goal

pub returns-in_default : goal.returns-in_default
returns-in_default c = unwanted_missing c.args.entries.now c.args.name.now c.args.sign c.args.space c.in_default.ensures
