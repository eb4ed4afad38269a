use Rattle.std.proofs.Common.{rules, ◌++◌, ◌∷◌, [], ap, ◌∙◌}
use Rattle.std.proofs.lemmas.Result.{on_ok_weaker}
use Rattle.cil_names.specs.Readings.{scoped_there}
use Rattle.cil_words.specs.Walks.{spaces_by}
use Rattle.cil_words.proofs.WalkLemmas.{permission_asks}
use Rattle.cil_words.proofs.walk.Walk.placed_permission.Goals as goal

pub returns : goal.returns
returns c =
    let l = c.args.self.now in
    let said = scoped_there l.reading c.args.permission.now in
    on_ok_weaker c.push_permission.result
    (λ so w is xs entries permissions.
    so ∙ ap (λ k. c.args.cells.now ++ k ∷ [])
    (permission_asks (spaces_by l) l.names.now xs l.permissions.now w said c.permission_of.result
    (c.permission_of.ensures.entry (spaces_by l) l.names.now l.permissions.now w said xs is (search rules) entries permissions)
    (c.permission_of.ensures.number (spaces_by l) l.names.now l.permissions.now w said xs is (search rules) entries permissions)))
    c.push_permission.ensures
