use Rattle.std.proofs.lemmas.Result.{IfOk-weaker}
use Rattle.cil_macros.specs.Items.{items_in, namespaces_in}
use Rattle.cil_words.proofs.RowLemmas.{are_asks}
use Rattle.cil_words.proofs.asks.asks_of.Goals as goal

pub returns-clause-numbered : goal.returns-clause-numbered
returns-clause-numbered c = c.table.ensures

pub returns-clause-asks : goal.returns-clause-asks
returns-clause-asks c =
    let i = c.args.instances.now in
    IfOk-weaker c.table.result _ _ (λ rows are. are_asks (namespaces_in i) c.args.names.now (items_in i) c.args.permissions.now rows are) c.table.ensures
