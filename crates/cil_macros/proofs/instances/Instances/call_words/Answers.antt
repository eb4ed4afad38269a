use Rattle.std.proofs.Common.{◌+◌, ◌<◌, List, length, subst, sym}
use Rattle.cil_blocks.specs.Places.{Standings, entries_in}
use Rattle.cil_macros.specs.declared.entry.Called.{Called}
use Rattle.cil_macros.specs.declared.openings.Opening.{Opening}
use Rattle.cil_macros.specs.Instances.{AreMeant}
use Rattle.cil_macros.proofs.CallOpening.{all_opened}
use Rattle.cil_macros.proofs.CallWordLemmas.{words_say}
use Rattle.cil_macros.proofs.PlacedLemmas.{is_place}
use Rattle.cil_macros.proofs.instances.Instances.call_words.Goals as goal

pub call_words_at-requires-clause-opened : goal.call_words_at-requires-clause-opened
call_words_at-requires-clause-opened c =
    let inside = c.self.inside in
    all_opened _ c.as_slice.result.now c.self.invariant.0
    (subst (λ (os : List Opening). AreMeant inside.spaces.now inside.brought inside.declared os) (sym c.as_slice.ensures.value) c.self.invariant.1)

pub call_words_at-requires-clause-within : goal.call_words_at-requires-clause-within
call_words_at-requires-clause-within c =
    subst (λ (v : Standings × List Called). c.args.at < length (entries_in v.0) + length v.1) (sym c.self.view_is) (is_place c.args.self.now c.args.at c.requires)

pub returns : goal.returns
returns c = words_say _ c.args.self.now c.self.view_is c.args.at c.requires c.call_words_at.result c.call_words_at.ensures
