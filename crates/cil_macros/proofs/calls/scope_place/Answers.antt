use Rattle.std.proofs.Common.{◌∙◌, ℕ, ap, length, subst, sym}
use Rattle.std.specs.Prelude.{IfSome, Option}
use Rattle.cil_blocks.specs.Places.{entries_in}
use Rattle.cil_blocks.proofs.EntryLemmas.{standings_length}
use Rattle.cil_macros.specs.Macros.{all_standing}
use Rattle.cil_macros.specs.Walks.{IsBodyScope, placed_in, written_in}
use Rattle.cil_macros.proofs.ScopeLemmas.{body_place}
use Rattle.cil_macros.proofs.calls.scope_place.Goals as goal

pub returns-in-Some-scope : goal.returns-in-Some-scope
returns-in-Some-scope c =
    let s = c.args.spaces.now in
    let b = c.in-Some.body.now in
    let l = ap length c.entries.ensures.same in
    let m = standings_length (written_in s) (entries_in s) in
    body_place s c.args.brought.now.entries.items c.args.at b (c.in-Some.ensures.body (written_in s) (all_standing s) (m ∙ sym l) c.requires.brought.bodies) c.in-Some-scope.place
    (subst (λ (o : Option ℕ). IfSome o (IsBodyScope (all_standing s) (placed_in s c.args.brought.now.entries.items) b.call b.macro_rank)) c.in-Some-scope.is
    (c.requires.brought.scopes b c.in-Some.ensures.kept))
