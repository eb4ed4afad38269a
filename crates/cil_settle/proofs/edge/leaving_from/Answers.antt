use Rattle.std.proofs.Common.{arith, subst, length, ap, ◌≡◌, ◌∙◌, ◌<◌, ◌-◌, ◌≤◌}
use Rattle.std.specs.Prelude.{take, drop}
use Rattle.std.specs.List.Sorted.{IsPartitionPoint}
use Rattle.std.proofs.lemmas.List.{length-drop, take_all}
use Rattle.cil_settle.proofs.RowLemmas.{row_is}
use Rattle.cil_settle.proofs.edge.leaving_from.Goals as goal

pub returns : goal.returns
returns c =
    let whole : take (length c.args.edges.now - c.start_of.result) (drop c.start_of.result c.args.edges.now) ≡ drop c.start_of.result c.args.edges.now =
    take_all _ _ (let e = length-drop c.start_of.result c.args.edges.now in omega (arith, e)) in
    ap (take c.end_of.result) whole
    ∙ row_is c.args.edges.now c.args.from c.start_of.result c.end_of.result c.start_of.ensures.bound (subst (λ r. c.end_of.result ≤ length r) whole c.end_of.ensures.bound)
    c.start_of.ensures.parts (subst (λ r. IsPartitionPoint (λ e. e.from ≤ c.args.from) (λ e. c.args.from < e.from) r c.end_of.result) whole c.end_of.ensures.parts)
