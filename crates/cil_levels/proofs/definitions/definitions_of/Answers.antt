use Rattle.std.proofs.Common.{arith, ◌≡◌, length, subst}
use Rattle.cil_macros.specs.Items.{items_in}
use Rattle.cil_levels.specs.Made.{AreDefined}
use Rattle.cil_levels.proofs.DefinedLemmas.{none_defined}
use Rattle.cil_levels.proofs.definitions.definitions_of.Goals as goal

pub loop-at-init : goal.loop-at-init
loop-at-init c = none_defined c.args.known.now c.args.instances.now c.new-all.result.items c.new-all.ensures.items

pub returns : goal.returns
returns c =
    let t = c.loop-at-test.false in
    let b = c.loop-at.auto in
    let n = c.len-at-end.ensures.items in
    let same : c.loop-at.at ≡ length (items_in c.args.instances.now) = omega (arith, t, b, n) in
    subst (λ m. AreDefined c.args.known.now c.args.instances.now m c.loop-at.all.items) same c.loop-at.invariant
