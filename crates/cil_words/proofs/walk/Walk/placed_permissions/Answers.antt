use Rattle.std.proofs.Common.{◌++◌, ◌∙◌, ap, sym}
use Rattle.std.proofs.lemmas.Simd.{map-map}
use Rattle.cil_base.specs.MadeLists.{all_mapped, one_mapped}
use Rattle.cil_macros.specs.declared.placed_word.PlacedWord.{PlacedWord}
use Rattle.cil_names.specs.Readings.{scoped_there}
use Rattle.cil_names.specs.Resolves.{Permission as APermission}
use Rattle.cil_words.specs.Table.{ask_of}
use Rattle.cil_words.specs.Walks.{spaces_by}
use Rattle.cil_words.proofs.walk.Walk.placed_permissions.Goals as goal

pub loop-permission-preserved : goal.loop-permission-preserved
loop-permission-preserved c = λ w is xs entries permissions.
    let l = c.args.self.now in
    one_mapped (λ (p : PlacedWord). ask_of (spaces_by l) l.names.now xs l.permissions.now (APermission w (scoped_there l.reading p))) c.args.permissions.now c.loop-permission.permission-index _ _ _ _ _
    c.loop-permission-test.true c.permission-item.is (c.loop-permission.invariant w is xs entries permissions) (c.in_ok-placed_permission.ensures w is xs entries permissions)

pub returns : goal.returns
returns c = λ w is xs entries permissions.
    let l = c.args.self.now in
    let could = ask_of (spaces_by l) l.names.now xs l.permissions.now in
    all_mapped (λ (p : PlacedWord). could (APermission w (scoped_there l.reading p))) c.args.permissions.now c.loop-permission.permission-index _ _ c.loop-permission-test.false
    (c.loop-permission.invariant w is xs entries permissions)
    ∙ ap (λ ds. c.args.cells.now ++ ds) (sym (map-map could (λ (p : PlacedWord). APermission w (scoped_there l.reading p)) c.args.permissions.now))
