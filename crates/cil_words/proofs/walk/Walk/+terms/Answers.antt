use Rattle.std.proofs.Common.{◌++◌, ◌∷◌, [], ap, sym, ◌∙◌}
use Rattle.std.proofs.lemmas.Result.{on_ok_weaker}
use Rattle.cil_syntax.specs.Scopes.{ScopedWord}
use Rattle.cil_words.specs.Walks.{spaces_by}
use Rattle.cil_words.specs.Table.{ask_of}
use Rattle.cil_names.specs.Readings.{module_of, word_read}
use Rattle.cil_names.specs.Resolves.{Word as AWord}
use Rattle.cil_words.proofs.WalkLemmas.{class_could, could_all, could_one, form_could, leaf_could, more_could, name_could, none_could}
use Rattle.cil_names.proofs.UnresolvedLemmas.{walked_all, walked_on}
use Rattle.cil_words.proofs.walk.Walk.+terms.Goals as goal

pub term-returns-in-Leaf-clause-asks : goal.term-returns-in-Leaf-clause-asks
term-returns-in-Leaf-clause-asks t c =
    let l = c.args.self.now in
    let r = l.reading in
    on_ok_weaker c.word-in-Leaf.result
    (λ so xs entries permissions.
    let could = ask_of (spaces_by l) l.names.now xs l.permissions.now in
    leaf_could (word_read r) (module_of r) could c.args.term.now c.args.cells.now _ c.in-Leaf.word c.in-Leaf.is
    (so xs entries permissions ∙ ap (λ (w : ScopedWord). c.args.cells.now ++ could (AWord w) ∷ []) (c.word.ensures ∙ ap (word_read r) c.in_module-written.ensures)))
    c.word-in-Leaf.ensures.asks

pub term-returns-in-Name-clause-asks : goal.term-returns-in-Name-clause-asks
term-returns-in-Name-clause-asks t c = λ xs entries permissions.
    let l = c.args.self.now in
    name_could (word_read l.reading) (module_of l.reading) (ask_of (spaces_by l) l.names.now xs l.permissions.now) c.args.term.now c.args.cells.now c.args.cells.now c.in-Name.field-0 c.in-Name.field-1 c.in-Name.is

pub term-returns-then-is_class_list-clause-asks : goal.term-returns-then-is_class_list-clause-asks
term-returns-then-is_class_list-clause-asks t c =
    let l = c.args.self.now in
    on_ok_weaker c.class_list.result
    (λ so xs entries permissions.
    class_could (word_read l.reading) (module_of l.reading) (ask_of (spaces_by l) l.names.now xs l.permissions.now) c.args.term.now c.args.cells.now _ _ _ _ c.in-Form.is _ c.as_slice.ensures.value
    (sym c.is_class_list.ensures.list ∙ c.if-is_class_list.true) (so xs entries permissions))
    c.class_list.ensures.asks

pub term-returns-else-is_class_list-clause-asks : goal.term-returns-else-is_class_list-clause-asks
term-returns-else-is_class_list-clause-asks t c =
    let l = c.args.self.now in
    on_ok_weaker c.terms.result
    (λ so xs entries permissions.
    form_could (word_read l.reading) (module_of l.reading) (ask_of (spaces_by l) l.names.now xs l.permissions.now) c.args.term.now c.args.cells.now _ _ _ _ c.in-Form.is _ c.as_slice-else-is_class_list.ensures.value
    (sym c.is_class_list.ensures.list ∙ c.if-is_class_list.false) (so xs entries permissions))
    c.terms.ensures.asks

pub terms-loop-term-preserved : goal.terms-loop-term-preserved
terms-loop-term-preserved t c = (
  λ xs entries permissions.
      let l = c.args.self.now in
      let f = word_read l.reading in
      let m = module_of l.reading in
      let could = ask_of (spaces_by l) l.names.now xs l.permissions.now in
      walked_on (could_one f m could) (could_all f m could) (none_could f m could) (more_could f m could)
      c.args.terms.now c.loop-term.term-index _ _ _ _ _ c.loop-term-test.true c.term-item.is (c.loop-term.invariant.0 xs entries permissions) (c.in_ok-term.ensures.asks xs entries permissions),
  c.in_ok-term.ensures.scopes,
)

pub terms-returns-clause-asks : goal.terms-returns-clause-asks
terms-returns-clause-asks t c = λ xs entries permissions.
    let l = c.args.self.now in
    let f = word_read l.reading in
    let m = module_of l.reading in
    let could = ask_of (spaces_by l) l.names.now xs l.permissions.now in
    walked_all (could_one f m could) (could_all f m could) (none_could f m could) (more_could f m could)
    c.args.terms.now c.loop-term.term-index _ _ c.loop-term-test.false (c.loop-term.invariant.0 xs entries permissions)
