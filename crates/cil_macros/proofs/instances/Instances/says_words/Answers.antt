use Rattle.std.proofs.Common.{◌≡◌, ◌+◌, ◌<◌, List, length, subst, sym}
use Rattle.std.specs.Prelude.{Some, slice_get}
use Rattle.cil_syntax.specs.declared.term.Word.{Word}
use Rattle.cil_syntax.specs.Terms.{Leaf}
use Rattle.cil_blocks.specs.Places.{Standings, entries_in}
use Rattle.cil_macros.specs.declared.entry.Called.{Called}
use Rattle.cil_macros.specs.declared.openings.Opening.{Opening}
use Rattle.cil_macros.specs.Instances.{AreMeant}
use Rattle.cil_macros.specs.Items.{Kept, all_placed, placed_at, said_by, word_of}
use Rattle.cil_macros.specs.Placed.{Placed}
use Rattle.cil_macros.specs.Walks.{written_in}
use Rattle.cil_macros.proofs.CallOpening.{all_known}
use Rattle.cil_macros.proofs.PlacedLemmas.{is_place, placed_so}
use Rattle.cil_macros.proofs.instances.Instances.says_words.Goals as goal

pub says_words_at-requires : goal.says_words_at-requires
says_words_at-requires c =
    let inside = c.self.inside in
    all_known _ c.as_slice.result.now c.args.at c.self.invariant.0
    (subst (λ (os : List Opening). AreMeant inside.spaces.now inside.brought inside.declared os) (sym c.as_slice.ensures.value) c.self.invariant.1)
    (subst (λ (v : Standings × List Called). c.args.at < length (entries_in v.0) + length v.1) (sym c.self.view_is) (is_place c.args.self.now c.args.at c.requires))

pub returns : goal.returns
returns c = λ yes w.
    let i = c.args.self.now in
    subst (λ (v : Kept). (p : Placed) (x : Word) → slice_get (all_placed v) c.args.at ≡ Some p → said_by (written_in v.0) p x ≡ Leaf (word_of (written_in v.0) p x)) c.self.view_is
    (c.says_words_at.ensures yes) (placed_at i c.args.at) w (placed_so i c.args.at (is_place i c.args.at c.requires))
