use Rattle.std.specs.Prelude.{take}
use Rattle.std.proofs.Common.{◌++◌, ◌∙◌, ap, append_assoc, map, sym}
use Rattle.std.proofs.lemmas.List.{map-append}
use Rattle.std.proofs.lemmas.Result.{on_ok_weaker}
use Rattle.cil_names.specs.Readings.{module_of, word_read}
use Rattle.cil_names.specs.Resolves.{all_wanted_in, words_of_class}
use Rattle.cil_names.specs.Unresolved.{terms_with}
use Rattle.cil_names.proofs.ReadingLemmas.{mapping_wanted}
use Rattle.cil_words.specs.Walks.{spaces_by}
use Rattle.cil_words.specs.Table.{ask_of}
use Rattle.cil_words.proofs.walk.Walk.mapping.Goals as goal

pub returns-clause-asks : goal.returns-clause-asks
returns-clause-asks c =
    let l = c.args.self.now in
    let f = word_read l.reading in
    let m = module_of l.reading in
    let old = c.args.cells.now in
    let front = words_of_class (terms_with f m c.front_two.result.now) in
    let behind = all_wanted_in (terms_with f m c.behind_two.result.now) in
    on_ok_weaker c.terms.result
    (λ so xs entries permissions.
    let could = ask_of (spaces_by l) l.names.now xs l.permissions.now in
    so xs entries permissions
    ∙ ap (λ ds. ds ++ map could behind) (c.in_ok-class_list.ensures.asks xs entries permissions)
    ∙ append_assoc old (map could front) (map could behind)
    ∙ ap (λ ds. old ++ ds) (sym (map-append could front behind))
    ∙ ap (λ ts. old ++ map could (words_of_class (terms_with f m ts) ++ behind)) c.front_two.ensures
    ∙ ap (λ ts. old ++ map could (words_of_class (terms_with f m (take 2 c.args.terms.now)) ++ all_wanted_in (terms_with f m ts))) c.behind_two.ensures
    ∙ ap (λ ws. old ++ map could ws) (mapping_wanted f m c.args.terms.now))
    c.terms.ensures.asks
