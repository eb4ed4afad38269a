use Rattle.std.proofs.Common.{◌++◌, ◌∷◌, [], ◌∙◌, ap, map, sym, append-nil}
use Rattle.std.proofs.lemmas.Result.{on_ok_weaker}
use Rattle.cil_macros.specs.Items.{items_in, namespaces_in}
use Rattle.cil_words.specs.Table.{ask_of}
use Rattle.cil_names.proofs.WordedLemmas.{unworded_asks}
use Rattle.cil_words.proofs.asks.add.Goals as goal

pub returns-then-not-is_worded_at-clause-asks : goal.returns-then-not-is_worded_at-clause-asks
returns-then-not-is_worded_at-clause-asks c =
    let k = c.args.maker.now in
    let i = c.args.instances.now in
    let could = ask_of (namespaces_in i) k.names.now (items_in i) k.permissions.now in
    sym (ap (λ ws. c.args.cells.now ++ map could ws) (unworded_asks i c.args.at (sym c.is_worded_at.ensures ∙ c.if-not-is_worded_at.true)) ∙ append-nil c.args.cells.now)

pub returns-clause-asks : goal.returns-clause-asks
returns-clause-asks c =
    on_ok_weaker c.statement.result (λ so. so (items_in c.args.instances.now) c.requires.entries c.requires.permissions) c.statement.ensures.asks

pub returns-then-not-is_worded_at-clause-starts : goal.returns-then-not-is_worded_at-clause-starts
returns-then-not-is_worded_at-clause-starts c = c.in_ok-push_number.ensures.pushed ∙ ap (λ n. c.args.starts.now.items ++ n ∷ []) c.len.ensures

pub returns-clause-starts : goal.returns-clause-starts
returns-clause-starts c =
    on_ok_weaker c.statement.result (λ so. c.in_ok-push_number.ensures.pushed ∙ ap (λ n. c.args.starts.now.items ++ n ∷ []) c.len.ensures) c.statement.ensures.asks
