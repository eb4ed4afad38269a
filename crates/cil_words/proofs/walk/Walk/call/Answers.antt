use Rattle.std.proofs.Common.{◌++◌, ◌∙◌, ap, map, sym}
use Rattle.std.proofs.lemmas.Simd.{map-map}
use Rattle.cil_base.specs.MadeLists.{all_mapped, one_mapped}
use Rattle.cil_macros.specs.declared.placed_word.PlacedWord.{PlacedWord}
use Rattle.cil_words.specs.Walks.{spaces_by}
use Rattle.cil_words.specs.Table.{ask_of}
use Rattle.cil_names.specs.Readings.{scoped_there}
use Rattle.cil_names.specs.Resolves.{Word as AWord}
use Rattle.cil_names.proofs.ReadingLemmas.{call_wanted}
use Rattle.cil_words.proofs.walk.Walk.call.Goals as goal

pub loop-word-preserved : goal.loop-word-preserved
loop-word-preserved c = (
  λ xs entries permissions.
      let l = c.args.self.now in
      one_mapped (λ (w : PlacedWord). ask_of (spaces_by l) l.names.now xs l.permissions.now (AWord (scoped_there l.reading w))) c.as_slice-word-items.result.now c.loop-word.word-index _ _ _ _ _
      c.loop-word-test.true c.word-item.is (c.loop-word.invariant.0 xs entries permissions) (c.in_ok-word.ensures.asks xs entries permissions),
  c.in_ok-word.ensures.scopes,
)

pub returns-clause-asks : goal.returns-clause-asks
returns-clause-asks c = λ called xs entries permissions.
    let l = c.args.self.now in
    let could = ask_of (spaces_by l) l.names.now xs l.permissions.now in
    let old = c.args.cells.now in
    all_mapped (λ (w : PlacedWord). could (AWord (scoped_there l.reading w))) c.as_slice-word-items.result.now c.loop-word.word-index _ _ c.loop-word-test.false (c.loop-word.invariant.0 xs entries permissions)
    ∙ ap (λ ds. old ++ ds) (sym (map-map could (λ (w : PlacedWord). AWord (scoped_there l.reading w)) c.as_slice-word-items.result.now))
    ∙ ap (λ ws. old ++ map could (map (λ (w : PlacedWord). AWord (scoped_there l.reading w)) ws)) c.as_slice-word-items.ensures.value
    ∙ ap (λ ws. old ++ map could ws) (sym (call_wanted l.reading c.requires.words called c.in_ok-words.words.items c.in_ok-words.ensures))
