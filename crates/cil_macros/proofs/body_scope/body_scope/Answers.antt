use Rattle.cil_macros.proofs.ScopeLemmas.{nothing_added}
use Rattle.cil_macros.proofs.body_scope.body_scope.Goals as goal

pub returns : goal.returns
returns c =
    nothing_added c.args.spaces.now c.args.brought.now.entries.items c.args.at c.args.called c.scope_place-place.result c.args.scope.now c.requires.scope
    c.scope_place-place.ensures (c.in_ok-adds_nothing.ensures c.if-not-branch.false)
