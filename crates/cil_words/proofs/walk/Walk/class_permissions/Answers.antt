use Rattle.std.proofs.Common.{◌∷◌, [], ◌++◌, ◌∙◌, ap, append_assoc, map}
use Rattle.std.proofs.lemmas.Result.{on_ok_weaker}
use Rattle.cil_macros.specs.declared.placed_word.PlacedWord.{PlacedWord}
use Rattle.cil_names.specs.Readings.{scoped_there}
use Rattle.cil_names.specs.Resolves.{Permission as APermission, Word as AWord}
use Rattle.cil_names.proofs.PermissionWordLemmas.{class_rises}
use Rattle.cil_words.specs.Table.{ask_of}
use Rattle.cil_words.specs.Walks.{spaces_by}
use Rattle.cil_words.proofs.walk.Walk.class_permissions.Goals as goal

pub placed_permissions-requires-clause-rising : goal.placed_permissions-requires-clause-rising
placed_permissions-requires-clause-rising c =
    let l = c.args.self.now in
    class_rises (spaces_by l) l.names.now l.permissions.now (scoped_there l.reading c.args.class.now) c.in_ok-found.found c.in_ok-found.ensures.class

pub returns-clause-asks : goal.returns-clause-asks
returns-clause-asks c =
    let l = c.args.self.now in
    let class_ = scoped_there l.reading c.args.class.now in
    on_ok_weaker c.placed_permissions.result
    (λ so xs entries permissions.
    let could = ask_of (spaces_by l) l.names.now xs l.permissions.now in
    let behind = map could (map (λ (p : PlacedWord). APermission class_ (scoped_there l.reading p)) c.args.permissions.now) in
    so class_ c.in_ok-found.ensures.class xs entries permissions
    ∙ ap (λ ds. ds ++ behind) (c.in_ok-found.ensures.asks xs entries permissions)
    ∙ append_assoc c.args.cells.now (could (AWord class_) ∷ []) behind)
    c.placed_permissions.ensures
