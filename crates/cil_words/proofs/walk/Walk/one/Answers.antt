use Rattle.std.proofs.Common.{◌++◌, ◌∷◌, ◌∙◌, ap, map, sym}
use Rattle.std.proofs.lemmas.Result.{on_ok_weaker}
use Rattle.cil_macros.specs.Items.{all_placed}
use Rattle.cil_macros.specs.declared.placed_word.PlacedWord.{PlacedWord}
use Rattle.cil_names.specs.Asked.{wanted_by}
use Rattle.cil_names.specs.Readings.{scoped_there}
use Rattle.cil_names.specs.Resolves.{Permission as APermission, Word as AWord}
use Rattle.cil_words.specs.Table.{ask_of}
use Rattle.cil_words.specs.Walks.{spaces_by}
use Rattle.cil_words.proofs.walk.Walk.one.Goals as goal

pub returns-in-Word-clause-asks : goal.returns-in-Word-clause-asks
returns-in-Word-clause-asks c =
    let l = c.args.self.now in
    on_ok_weaker c.word.result
    (λ so xs entries permissions.
    so xs entries permissions
    ∙ ap (λ o. c.args.cells.now ++ map (ask_of (spaces_by l) l.names.now xs l.permissions.now) (wanted_by (all_placed l.reading.instances.now) o)) (sym c.in-Word.is))
    c.word.ensures.asks

pub returns-in-ClassList-clause-asks : goal.returns-in-ClassList-clause-asks
returns-in-ClassList-clause-asks c =
    let l = c.args.self.now in
    let r = l.reading in
    let class_ = scoped_there r c.in-ClassList.class in
    on_ok_weaker c.class_permissions.result
    (λ so xs entries permissions.
    let could = ask_of (spaces_by l) l.names.now xs l.permissions.now in
    so xs entries permissions
    ∙ ap (λ ws. c.args.cells.now ++ map could (AWord class_ ∷ map (λ (p : PlacedWord). APermission class_ (scoped_there r p)) ws)) c.as_slice.ensures.value
    ∙ ap (λ o. c.args.cells.now ++ map could (wanted_by (all_placed r.instances.now) o)) (sym c.in-ClassList.is))
    c.class_permissions.ensures.asks
