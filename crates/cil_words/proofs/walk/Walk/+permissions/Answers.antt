use Rattle.std.proofs.Common.{◌++◌, ◌∷◌, [], ap, sym, ◌∙◌}
use Rattle.std.proofs.lemmas.Result.{on_ok_weaker}
use Rattle.std.proofs.lemmas.Simd.{map-map}
use Rattle.cil_syntax.specs.Scopes.{ScopedWord}
use Rattle.cil_words.specs.Walks.{spaces_by}
use Rattle.cil_words.specs.Table.{ask_of}
use Rattle.cil_names.specs.Readings.{module_of, word_read}
use Rattle.cil_names.specs.Resolves.{Permission as APermission}
use Rattle.cil_names.proofs.AskedLemmas.{all_words_at, words_at}
use Rattle.cil_words.proofs.WalkLemmas.{each_all, each_one, form_each, leaf_each, more_each, name_each, none_each}
use Rattle.cil_names.proofs.UnresolvedLemmas.{walked_all, walked_on}
use Rattle.cil_words.proofs.walk.Walk.+permissions.Goals as goal

pub permission-returns-in-Leaf : goal.permission-returns-in-Leaf
permission-returns-in-Leaf t c =
    let l = c.args.self.now in
    let r = l.reading in
    on_ok_weaker c.placed_permission.result
    (λ so w is xs entries permissions.
    let could = λ (p : ScopedWord). ask_of (spaces_by l) l.names.now xs l.permissions.now (APermission w p) in
    leaf_each (word_read r) (module_of r) could c.args.term.now c.args.cells.now _ c.in-Leaf.word c.in-Leaf.is
    (so w is xs entries permissions ∙ ap (λ p. c.args.cells.now ++ could p ∷ []) (c.word.ensures ∙ ap (word_read r) c.in_module-written.ensures))
    ∙ ap (λ ws. c.args.cells.now ++ ws) (sym (map-map (ask_of (spaces_by l) l.names.now xs l.permissions.now) (APermission w) (words_at (word_read r) (module_of r) c.args.term.now))))
    c.placed_permission.ensures

pub permission-returns-in-Name : goal.permission-returns-in-Name
permission-returns-in-Name t c = λ w is xs entries permissions.
    let l = c.args.self.now in
    let r = l.reading in
    let could = λ (p : ScopedWord). ask_of (spaces_by l) l.names.now xs l.permissions.now (APermission w p) in
    name_each (word_read r) (module_of r) could c.args.term.now c.args.cells.now c.args.cells.now c.in-Name.field-0 c.in-Name.field-1 c.in-Name.is
    ∙ ap (λ ws. c.args.cells.now ++ ws) (sym (map-map (ask_of (spaces_by l) l.names.now xs l.permissions.now) (APermission w) (words_at (word_read r) (module_of r) c.args.term.now)))

pub permission-returns-in-Form : goal.permission-returns-in-Form
permission-returns-in-Form t c =
    let l = c.args.self.now in
    let r = l.reading in
    on_ok_weaker c.permissions.result
    (λ so w is xs entries permissions.
    let could = λ (p : ScopedWord). ask_of (spaces_by l) l.names.now xs l.permissions.now (APermission w p) in
    form_each (word_read r) (module_of r) could c.args.term.now c.args.cells.now _ _ _ _ c.in-Form.is c.as_slice.result.now c.as_slice.ensures.value
    (so w is xs entries permissions
    ∙ ap (λ ws. c.args.cells.now ++ ws) (map-map (ask_of (spaces_by l) l.names.now xs l.permissions.now) (APermission w) (all_words_at (word_read r) (module_of r) c.as_slice.result.now)))
    ∙ ap (λ ws. c.args.cells.now ++ ws) (sym (map-map (ask_of (spaces_by l) l.names.now xs l.permissions.now) (APermission w) (words_at (word_read r) (module_of r) c.args.term.now))))
    c.permissions.ensures

pub permissions-loop-term-preserved : goal.permissions-loop-term-preserved
permissions-loop-term-preserved t c = λ w is xs entries permissions.
    let l = c.args.self.now in
    let r = l.reading in
    let f = word_read r in
    let m = module_of r in
    let could = λ (p : ScopedWord). ask_of (spaces_by l) l.names.now xs l.permissions.now (APermission w p) in
    walked_on (each_one f m could) (each_all f m could) (none_each f m could) (more_each f m could)
    c.args.terms.now c.loop-term.term-index _ _ _ _ _ c.loop-term-test.true c.term-item.is (c.loop-term.invariant w is xs entries permissions)
    (c.in_ok-permission.ensures w is xs entries permissions
    ∙ ap (λ ws. c.loop-term.cells ++ ws) (map-map (ask_of (spaces_by l) l.names.now xs l.permissions.now) (APermission w) (words_at f m c.term-item.result)))

pub permissions-returns : goal.permissions-returns
permissions-returns t c = λ w is xs entries permissions.
    let l = c.args.self.now in
    let r = l.reading in
    let f = word_read r in
    let m = module_of r in
    let could = λ (p : ScopedWord). ask_of (spaces_by l) l.names.now xs l.permissions.now (APermission w p) in
    walked_all (each_one f m could) (each_all f m could) (none_each f m could) (more_each f m could)
    c.args.terms.now c.loop-term.term-index _ _ c.loop-term-test.false (c.loop-term.invariant w is xs entries permissions)
    ∙ ap (λ ws. c.args.cells.now ++ ws) (sym (map-map (ask_of (spaces_by l) l.names.now xs l.permissions.now) (APermission w) (all_words_at f m c.args.terms.now)))
