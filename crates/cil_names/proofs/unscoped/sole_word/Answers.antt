use Rattle.std.proofs.Common.{arith, subst}
use Rattle.cil_syntax.specs.Scopes.{IsDotless}
use Rattle.cil_names.specs.Soles.{AreRanked}
use Rattle.cil_names.proofs.UnscopedLemmas.{sole_plain, unparted}
use Rattle.cil_names.proofs.unscoped.sole_word.Goals as goal

pub returns : goal.returns
returns c =
    let ranked = c.in-Some-few_named.ensures in
    let some = ranked.some in
    let one = c.if-same-ne1.false in
    sole_plain c.args.entries.now c.args.word.now c.in-Some.rank
    (subst IsDotless c.as_slice-name.ensures (unparted c.parted.result c.as_slice-name.result.now c.parted.ensures c.if-is_some.ensures)) c.in-Some.ensures c.in-Some-few_named.same
    (subst (λ n. AreRanked c.args.entries.now (record { name = n; rank = c.in-Some.rank }) c.in-Some-few_named.same) c.as_slice-name.ensures ranked) (omega (arith, one, some))
