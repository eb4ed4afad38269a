use Rattle.std.proofs.Common.{List, ◌++◌, ◌∷◌, [], ◌∙◌, ap}
use Rattle.std.proofs.lemmas.Result.{on_ok_weaker}
use Rattle.cil_blocks.specs.declared.namespaces.Space.{Space}
use Rattle.cil_macros.specs.Items.{all_placed, scoped_by}
use Rattle.cil_syntax.specs.Scopes.{ScopedWord}
use Rattle.cil_names.specs.Entries.{candidates_of, scoped}
use Rattle.cil_names.proofs.ReadingLemmas.{numbers_within, scoped_so}
use Rattle.cil_words.specs.Table.{word_ask}
use Rattle.cil_words.proofs.word_lists.push_found.Goals as goal

pub push_candidates-requires-clause-within : goal.push_candidates-requires-clause-within
push_candidates-requires-clause-within c =
    numbers_within c.namespaces.result.now c.args.instances.now c.namespaces.ensures.value c.args.word.now _ c.in_ok-fill.ensures.filled

pub returns-clause-asks : goal.returns-clause-asks
returns-clause-asks c =
    let names = c.args.names.now in
    let word = c.args.word.now in
    let ss = c.namespaces.result.now in
    let same = c.namespaces.ensures.value in
    let old = c.args.cells.now in
    on_ok_weaker c.push.result
    (λ so.
    so
    ∙ ap (λ ds. old ++ word_ask ds ∷ [])
    (c.as_slice.ensures.value ∙ c.in_ok-push_candidates.ensures.found ∙ ap (λ ds. ds ++ candidates_of ss names (scoped ss c.fill.new.self.scope word.word)) c.clear.ensures.items)
    ∙ ap (λ (w : ScopedWord). old ++ word_ask (candidates_of ss names w) ∷ []) (scoped_so ss c.args.instances.now same word _ c.in_ok-fill.ensures.filled)
    ∙ ap (λ (z : List Space). old ++ word_ask (candidates_of z names (scoped_by (all_placed c.args.instances.now) word)) ∷ []) same)
    c.push.ensures
