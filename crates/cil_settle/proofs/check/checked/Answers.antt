use Rattle.cil_settle.specs.declared.edge.Edge.{Edge}
use Rattle.std.proofs.Common.{subst, List}
use Rattle.cil_settle.specs.Checked.{AreLeaving, IsWhole}
use Rattle.cil_settle.proofs.CheckLemmas.{passes_on, passes_ranks}
use Rattle.cil_settle.proofs.check.checked.Goals as goal

pub returns-clause-on : goal.returns-clause-on
returns-clause-on c =
    let whole = subst (λ (es : List Edge). IsWhole es c.args.nodes c.args.guess.now.roots.items) c.as_slice.ensures.value (c.in_ok-is_whole.ensures c.if-not-branch.false) in
    let leaving = subst (λ (es : List Edge). AreLeaving es c.args.nodes c.in_ok-on.on.items) c.as_slice-2.ensures.value c.in_ok-on.ensures in
    passes_on c.args.edges.now c.in_ok-inner.inner.items c.args.nodes c.args.guess.now.roots.items c.args.guess.now.ranks.items c.in_ok-on.on.items c.requires
    (c.are_steady.ensures c.if-not-are_steady.false) c.in_ok-inner.ensures.inner whole leaving

pub returns-clause-ranks : goal.returns-clause-ranks
returns-clause-ranks c =
    let whole = subst (λ (es : List Edge). IsWhole es c.args.nodes c.args.guess.now.roots.items) c.as_slice.ensures.value (c.in_ok-is_whole.ensures c.if-not-branch.false) in
    let leaving = subst (λ (es : List Edge). AreLeaving es c.args.nodes c.in_ok-on.on.items) c.as_slice-2.ensures.value c.in_ok-on.ensures in
    passes_ranks c.args.edges.now c.in_ok-inner.inner.items c.args.nodes c.args.guess.now.roots.items c.args.guess.now.ranks.items c.in_ok-on.on.items c.requires
    (c.are_steady.ensures c.if-not-are_steady.false) c.in_ok-inner.ensures.inner whole leaving
