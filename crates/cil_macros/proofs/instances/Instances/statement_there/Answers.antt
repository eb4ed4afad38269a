use Rattle.std.proofs.Common.{◌≡◌, ◌<◌, List, length, ap, subst, sym, ◌∙◌}
use Rattle.std.specs.Prelude.{slice_get, Some}
use Rattle.cil_base.specs.Lists.{Lists}
use Rattle.cil_syntax.specs.declared.program.Statement.{Statement}
use Rattle.cil_syntax.specs.Program.{IsNested}
use Rattle.cil_blocks.specs.Contents.{Stands, standing_cmp}
use Rattle.cil_blocks.specs.Places.{statements_in}
use Rattle.cil_macros.specs.Calls.{IsPlaced, placed_cmp}
use Rattle.cil_macros.specs.Items.{Kept, all_placed, placed_at}
use Rattle.cil_macros.specs.Macros.{all_standing}
use Rattle.cil_macros.specs.Walks.{written_in}
use Rattle.cil_macros.proofs.PlacedLemmas.{has_number, is_place, placed_so, stated_some}
use Rattle.cil_macros.proofs.instances.Instances.statement_there.Goals as goal

pub statement-requires : goal.statement-requires
statement-requires c = is_place c.args.self.now c.args.at c.requires

pub numbered-requires : goal.numbered-requires
numbered-requires c =
    let i = c.args.self.now in
    let h = is_place i c.args.at c.requires in
    let list : c.statements.result.now ≡ statements_in i.0 = c.statements.ensures ∙ ap (λ (v : Kept). statements_in v.0) c.self.view_is in
    let nested = subst (λ (v : Kept). IsNested (statements_in v.0)) c.self.view_is c.self.invariant.0.standings.contents.nested in
    let placed = subst (λ (v : Kept). Lists placed_cmp (IsPlaced (written_in v.0) (all_standing v.0)) (all_placed v)) c.self.view_is c.self.invariant.0.placed in
    let standings = subst (λ (v : Kept). Lists standing_cmp (Stands (written_in v.0)) (all_standing v.0)) c.self.view_is c.self.invariant.0.standings.contents.standings in
    subst (λ (ss : List Statement). c.statement.result < length ss) (sym list)
    (has_number i nested c.args.at c.statement.result (c.statement.ensures (placed_at i c.args.at) (placed_so i c.args.at h)) placed standings h)

pub returns : goal.returns
returns c =
    let i = c.args.self.now in
    let h = is_place i c.args.at c.requires in
    let list : c.statements.result.now ≡ statements_in i.0 = c.statements.ensures ∙ ap (λ (v : Kept). statements_in v.0) c.self.view_is in
    let nested = subst (λ (v : Kept). IsNested (statements_in v.0)) c.self.view_is c.self.invariant.0.standings.contents.nested in
    record {
      is = stated_some i nested c.args.at c.statement.result (c.statement.ensures (placed_at i c.args.at) (placed_so i c.args.at h)) c.numbered.result.now
          (subst (λ (ss : List Statement). slice_get ss c.statement.result ≡ Some c.numbered.result.now) list c.numbered.ensures);
    }
