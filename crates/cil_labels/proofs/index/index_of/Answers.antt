use Rattle.cil_labels.proofs.RowLemmas.{all_rows}
use Rattle.cil_labels.proofs.index.index_of.Goals as goal

pub returns : goal.returns
returns c = all_rows c.args.names.now c.args.aliases.now _ _ _ c.new-rows.ensures.items c.in_ok-push_names.ensures c.in_ok-push_aliases.ensures _ c.listed.ensures
