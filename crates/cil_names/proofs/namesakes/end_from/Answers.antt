use Rattle.std.proofs.Common.{◌≡◌, ◌∙◌, ◌+◌, arith, rules, sym}
use Rattle.std.proofs.lemmas.Bool.{true≢false}
use Rattle.cil_names.proofs.SoleLemmas.{one_named, one_more_named}
use Rattle.cil_names.proofs.namesakes.end_from.Goals as goal

pub loop-end-init : goal.loop-end-init
loop-end-init c =
    let at : c.args.first + 1 ≡ c.in-Some.behind = search (rules, arith) in
    (omega (arith, at), one_named c.args.entries.now _ c.args.first c.in-Some.behind at c.requires)

pub loop-end-preserved : goal.loop-end-preserved
loop-end-preserved c =
    let h = c.loop-end.invariant.0 in
    (omega (arith, h), one_more_named c.args.entries.now _ c.args.first c.loop-end.end (c.is_named.ensures.0 c.if-not-is_named.false) c.loop-end.invariant.1)

pub returns-then-not-is_named : goal.returns-then-not-is_named
returns-then-not-is_named c = record {
  later = c.loop-end.invariant.0;
  inside = c.loop-end.invariant.1;
  other = λ there. true≢false (sym (c.is_named.ensures.1 there) ∙ c.if-not-is_named.true);
}
