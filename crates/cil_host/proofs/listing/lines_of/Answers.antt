use Rattle.std.specs.Prelude.{◌<◌, ◌≤◌}
use Rattle.std.proofs.Common.{refl, subst}
use Rattle.cil_host.proofs.ListLemmas.{listed_more, listed_all}
use Rattle.cil_host.proofs.listing.lines_of.Goals as goal

pub loop-number-init : goal.loop-number-init
loop-number-init c = c.new-lines.ensures.items

pub loop-number-preserved : goal.loop-number-preserved
loop-number-preserved c =
    listed_more c.args.modules.now _ _ _ _ _ _ (subst (λ n. c.loop-number.number < n) c.len-number-end.ensures.len c.loop-number-test.true) c.loop-number.invariant
    c.in_ok-push.ensures.items c.digest-digest.ensures c.get.ensures refl

pub returns : goal.returns
returns c =
    listed_all c.args.modules.now _ _ c.loop-number.invariant (subst (λ n. n ≤ c.loop-number.number) c.len-number-end.ensures.len c.loop-number-test.false)
