use Rattle.std.proofs.Common.{ap, arith, length}
use Rattle.cil_macros.proofs.MacroLemmas.{no_macros}
use Rattle.cil_macros.proofs.macros.macros_of.Goals as goal

pub loop-rank-init : goal.loop-rank-init
loop-rank-init c =
    let same = ap length c.entries-rank.ensures.same in (
      omega (arith, same),
      no_macros c.args.spaces.now (length c.entries-rank.result.now) _ c.entries-rank.ensures.standings (rw c.namespaces.ensures at c.are_namespaces.ensures) (omega (arith, same)) c.new.ensures.empty,
    )
