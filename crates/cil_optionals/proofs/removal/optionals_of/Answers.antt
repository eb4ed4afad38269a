use Rattle.std.specs.Prelude.{false, map}
use Rattle.std.proofs.Common.{ap, ◌∙◌, arith}
use Rattle.std.proofs.lemmas.List.{take_all}
use Rattle.cil_optionals.specs.Parts.{Part, parts_in}
use Rattle.cil_optionals.proofs.RowParts.{one_part}
use Rattle.cil_optionals.proofs.removal.optionals_of.Goals as goal

pub loop-at-preserved : goal.loop-at-preserved
loop-at-preserved c =
    let h = c.loop-at-test.true in
    let n = c.len-at-end.ensures in
    one_part (λ (p : Part). p.optional) false (parts_in c.args.parts.now) c.loop-at.at _ _ _ (omega (arith, h, n)) c.loop-at.invariant c.is_optional.ensures c.in_ok-push.ensures.items

pub returns : goal.returns
returns c =
    let h = c.loop-at-test.false in
    let n = c.len-at-end.ensures in
    c.loop-at.invariant ∙ ap (map (λ (p : Part). p.optional)) (take_all c.loop-at.at (parts_in c.args.parts.now) (omega (arith, h, n)))
