use Rattle.std.proofs.Common.{◌∙◌, ◌++◌, ap, map, sym, append-nil}
use Rattle.std.proofs.lemmas.Result.{on_ok_weaker}
use Rattle.cil_macros.specs.Calls.{is_call}
use Rattle.cil_words.specs.Walks.{spaces_by}
use Rattle.cil_words.specs.Table.{ask_of}
use Rattle.cil_names.specs.Readings.{item_read}
use Rattle.cil_names.specs.Resolves.{all_wanted_in, is_mapping, words_of_mapping}
use Rattle.cil_names.proofs.ReadingLemmas.{keyword_read, mapping_said, nothing_read, nothing_said, plain_said, written_read}
use Rattle.cil_words.proofs.walk.Walk.written.Goals as goal

pub returns-then-is_call-clause-asks : goal.returns-then-is_call-clause-asks
returns-then-is_call-clause-asks c =
    let r = c.args.self.now.reading in
    on_ok_weaker c.call.result (λ so. so (ap is_call (keyword_read r c.requires.walk.reading) ∙ sym c.is_call.ensures ∙ c.if-is_call.true)) c.call.ensures.asks

pub returns-then-not-says_as_written-clause-asks : goal.returns-then-not-says_as_written-clause-asks
returns-then-not-says_as_written-clause-asks c = λ xs entries permissions.
    let l = c.args.self.now in
    let r = l.reading in
    let could = ask_of (spaces_by l) l.names.now xs l.permissions.now in
    let none = nothing_said (item_read r).keyword (item_read r).args
    (nothing_read r c.requires.walk.reading (sym c.is_call.ensures ∙ c.if-is_call.false) (sym c.says_as_written.ensures ∙ c.if-not-says_as_written.true)) in
    sym (ap (λ ws. c.args.cells.now ++ map could ws) none ∙ append-nil c.args.cells.now)

pub returns-then-is_mapping-clause-asks : goal.returns-then-is_mapping-clause-asks
returns-then-is_mapping-clause-asks c =
    let l = c.args.self.now in
    let r = l.reading in
    let said = ap words_of_mapping (sym (written_read r c.requires.walk.reading c.requires.words (sym c.says_as_written.ensures ∙ c.if-not-says_as_written.false) c.as_slice-terms.result.now c.as_slice-terms.ensures.value))
    ∙ sym (mapping_said (item_read r).keyword (item_read r).args (ap is_mapping (keyword_read r c.requires.walk.reading) ∙ sym c.is_mapping.ensures ∙ c.if-is_mapping.true)) in
    on_ok_weaker c.mapping.result
    (λ so xs entries permissions. so xs entries permissions ∙ ap (λ ws. c.args.cells.now ++ map (ask_of (spaces_by l) l.names.now xs l.permissions.now) ws) said)
    c.mapping.ensures.asks

pub returns-clause-asks : goal.returns-clause-asks
returns-clause-asks c =
    let l = c.args.self.now in
    let r = l.reading in
    let said = ap all_wanted_in (sym (written_read r c.requires.walk.reading c.requires.words (sym c.says_as_written.ensures ∙ c.if-not-says_as_written.false) c.as_slice-terms.result.now c.as_slice-terms.ensures.value))
    ∙ sym (plain_said (item_read r).keyword (item_read r).args (ap is_mapping (keyword_read r c.requires.walk.reading) ∙ sym c.is_mapping.ensures ∙ c.if-is_mapping.false)) in
    on_ok_weaker c.terms.result
    (λ so xs entries permissions. so xs entries permissions ∙ ap (λ ws. c.args.cells.now ++ map (ask_of (spaces_by l) l.names.now xs l.permissions.now) ws) said)
    c.terms.ensures.asks
