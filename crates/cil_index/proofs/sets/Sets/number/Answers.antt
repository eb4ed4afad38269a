use Rattle.std.proofs.Common.{arith}
use Rattle.cil_index.proofs.NumberLemmas.{found_at, not_missing, several_number, several_there, small_is, then_ok}
use Rattle.cil_index.proofs.sets.Sets.number.Goals as goal

pub returns-then-len-lt2 : goal.returns-then-len-lt2
returns-then-len-lt2 c =
    then_ok _ _ c.small_number.result
    (λ n small. small_is c.self.inside.ones c.self.inside.several.items c.args.self.now c.self.view_is c.self.invariant.0 c.args.set.now n c.requires small)
    c.small_number.ensures

pub unreachable-requires : goal.unreachable-requires
unreachable-requires c =
    let many = c.if-len-lt2.false in
    let size = c.len.ensures in
    not_missing c.self.inside.several.items c.as_slice-several.result.now c.args.set.now c.as_slice-several.ensures.value c.self.invariant.1 c.binary_search.result
    c.binary_search.ensures.bound c.binary_search.ensures.position c.in-Err.field-0 c.in-Err.is
    (several_there c.self.inside.ones c.self.inside.several.items c.args.self.now c.self.view_is c.args.set.now (omega (arith, many, size)) c.requires)

pub returns : goal.returns
returns c =
    then_ok _ _ c.next.result
    (λ n next. several_number c.self.inside.ones c.self.inside.several.items c.args.self.now c.self.view_is c.in-Ok.place n c.args.set.now c.args.set.now
    (found_at c.self.inside.several.items c.as_slice-several.result.now c.args.set.now c.as_slice-several.ensures.value c.self.invariant.1 c.binary_search.result
    c.binary_search.ensures.bound c.binary_search.ensures.position c.in-Ok.place c.in-Ok.is)
    (λ i. c.args.set.now) next)
    c.next.ensures
