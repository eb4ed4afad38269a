use Rattle.std.proofs.Common.{arith, subst}
use Rattle.cil_macros.specs.InBranches.{SaysBranch}
use Rattle.cil_macros.specs.Items.{Kept, all_placed}
use Rattle.cil_macros.specs.Walks.{written_in}
use Rattle.cil_macros.proofs.BranchLemmas.{booleanif_so, branch_so, lower_so, none_beyond}
use Rattle.cil_macros.proofs.PlacedLemmas.{placed_so}
use Rattle.cil_macros.proofs.instances.Instances.branch.Goals as goal

pub returns-then-at-len-clause-value : goal.returns-then-at-len-clause-value
returns-then-at-len-clause-value c =
    let h = c.if-at-len.true in
    let l = c.len.ensures.places in
    none_beyond c.args.self.now c.args.at (omega (arith, h, l))

pub branch_at-requires-clause-standings : goal.branch_at-requires-clause-standings
branch_at-requires-clause-standings c = c.self.invariant.0.standings

pub branch_at-requires-clause-brought : goal.branch_at-requires-clause-brought
branch_at-requires-clause-brought c = c.self.invariant.0.brought

pub branch_at-requires-clause-within : goal.branch_at-requires-clause-within
branch_at-requires-clause-within c =
    let h = c.if-at-len.false in
    let l = rw (← c.self.view_is) at c.len.ensures.places in
    omega (arith, h, l)

pub returns-clause-value : goal.returns-clause-value
returns-clause-value c =
    let h = c.if-at-len.false in
    let l = c.len.ensures.places in
    branch_so c.args.self.now c.args.at c.branch_at.result (placed_so c.args.self.now c.args.at (omega (arith, h, l)))
    (subst (λ (v : Kept). SaysBranch (written_in v.0) (all_placed v) c.args.at c.branch_at.result) c.self.view_is c.branch_at.ensures)

pub returns-clause-booleanif : goal.returns-clause-booleanif
returns-clause-booleanif c =
    let h = c.if-at-len.false in
    let l = c.len.ensures.places in
    booleanif_so c.args.self.now c.args.at c.branch_at.result (placed_so c.args.self.now c.args.at (omega (arith, h, l)))
    (subst (λ (v : Kept). SaysBranch (written_in v.0) (all_placed v) c.args.at c.branch_at.result) c.self.view_is c.branch_at.ensures)

pub returns-clause-lower : goal.returns-clause-lower
returns-clause-lower c =
    let h = c.if-at-len.false in
    let l = c.len.ensures.places in
    lower_so c.args.self.now c.args.at c.branch_at.result (placed_so c.args.self.now c.args.at (omega (arith, h, l)))
    (subst (λ (v : Kept). SaysBranch (written_in v.0) (all_placed v) c.args.at c.branch_at.result) c.self.view_is c.branch_at.ensures)
