use Rattle.std.proofs.Common.{ap, arith, length}
use Rattle.cil_macros.proofs.ScopeLemmas.{one_scope}
use Rattle.cil_macros.proofs.calls.have_one_scope.Goals as goal

pub returns : goal.returns
returns c = λ told.
    let over = c.if-max-standing.false in
    let most = c.max.ensures in
    let l = ap length c.entries-standing.ensures.same in
    one_scope c.args.spaces.now c.requires.standings c.requires.namespaces c.args.brought.now.entries.items c.args.at c.args.other c.scope_place-from.result
    c.scope_place-to.result c.scope_place-from.ensures c.scope_place-to.ensures (omega (arith, over, most, l)) (omega (arith, over, most, l)) (c.have_one_place.ensures told)
