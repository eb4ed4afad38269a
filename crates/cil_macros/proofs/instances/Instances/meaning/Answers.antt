use Rattle.std.proofs.Common.{◌+◌, ◌<◌, List, length, subst, sym}
use Rattle.cil_blocks.specs.Places.{Standings, entries_in}
use Rattle.cil_macros.specs.declared.entry.Called.{Called}
use Rattle.cil_macros.specs.declared.openings.Opening.{Opening}
use Rattle.cil_macros.specs.Instances.{AreMeant}
use Rattle.cil_macros.proofs.CallOpening.{all_known}
use Rattle.cil_macros.proofs.instances.Instances.meaning.Goals as goal

pub meaning_at-requires : goal.meaning_at-requires
meaning_at-requires c =
    let inside = c.self.inside in
    all_known _ c.as_slice.result.now c.args.at c.self.invariant.0
    (subst (λ (os : List Opening). AreMeant inside.spaces.now inside.brought inside.declared os) (sym c.as_slice.ensures.value) c.self.invariant.1)
    (subst (λ (v : Standings × List Called). c.args.at < length (entries_in v.0) + length v.1) (sym c.self.view_is) c.requires)
