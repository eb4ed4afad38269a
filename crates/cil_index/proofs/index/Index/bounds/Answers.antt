use Rattle.std.proofs.Common.{arith, subst}
use Rattle.cil_index.specs.declared.index.Bounds.{Bounds}
use Rattle.cil_index.specs.Entries.{AreBounds}
use Rattle.cil_index.proofs.RunLemmas.{bounds_at}
use Rattle.cil_index.proofs.index.Index.bounds.Goals as goal

pub returns : goal.returns
returns c =
    let less = c.if-part-len.false in
    let same = c.part_of-part.ensures.same (omega (arith, less)) in
    let bounds : Bounds = record { start = c.start_at.result; to = c.start_at-2.result } in
    subst (λ p. AreBounds c.args.self.now p bounds) same (bounds_at c.args.self.now c.part_of-part.result bounds c.requires c.start_at.ensures c.start_at-2.ensures)
