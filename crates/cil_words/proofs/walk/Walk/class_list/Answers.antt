use Rattle.std.proofs.Common.{◌∷◌, [], ◌++◌, ◌∙◌, ap, map, sym, append-nil, append_assoc}
use Rattle.std.proofs.lemmas.Result.{on_ok_weaker}
use Rattle.cil_syntax.specs.Scopes.{ScopedWord}
use Rattle.cil_macros.specs.Item.{all_words_in}
use Rattle.cil_words.specs.Walks.{spaces_by}
use Rattle.cil_words.specs.Table.{ask_of}
use Rattle.cil_names.specs.Readings.{module_of, scoped_there, word_read}
use Rattle.cil_names.specs.Resolves.{Permission as APermission, Word as AWord}
use Rattle.cil_names.specs.Unresolved.{terms_with}
use Rattle.cil_names.proofs.PermissionWordLemmas.{class_rises}
use Rattle.cil_names.proofs.UnresolvedLemmas.{class_list_words, no_class_list}
use Rattle.cil_words.proofs.walk.Walk.class_list.Goals as goal

pub permissions-requires-clause-rising : goal.permissions-requires-clause-rising
permissions-requires-clause-rising c =
    let l = c.args.self.now in
    class_rises (spaces_by l) l.names.now l.permissions.now (scoped_there l.reading c.word-class.result) c.in_ok-found.found c.in_ok-found.ensures.class

pub returns-in_default-clause-asks : goal.returns-in_default-clause-asks
returns-in_default-clause-asks c = λ xs entries permissions.
    let l = c.args.self.now in
    let could = ask_of (spaces_by l) l.names.now xs l.permissions.now in
    sym (ap (λ ws. c.args.cells.now ++ map could ws) (no_class_list (word_read l.reading) (module_of l.reading) c.args.terms.now c.in_default.ensures) ∙ append-nil c.args.cells.now)

pub returns-clause-asks : goal.returns-clause-asks
returns-clause-asks c =
    let l = c.args.self.now in
    let r = l.reading in
    let old = c.args.cells.now in
    let class_ = scoped_there r c.word-class.result in
    let terms = all_words_in (terms_with (word_read r) (module_of r) c.in-Some.list.terms.now) in
    on_ok_weaker c.permissions.result
    (λ so xs entries permissions.
    let could = ask_of (spaces_by l) l.names.now xs l.permissions.now in
    so class_ c.in_ok-found.ensures.class xs entries permissions
    ∙ ap (λ ds. ds ++ map could (map (APermission class_) terms)) (c.in_ok-found.ensures.asks xs entries permissions)
    ∙ append_assoc old (could (AWord class_) ∷ []) (map could (map (APermission class_) terms))
    ∙ ap (λ (w : ScopedWord). old ++ map could (AWord w ∷ map (APermission w) terms)) c.word-class.ensures
    ∙ ap (λ ws. old ++ map could ws) (sym (class_list_words (word_read r) (module_of r) c.args.terms.now c.in-Some.list.terms.now c.in-Some.list.word c.in-Some.ensures)))
    c.permissions.ensures
