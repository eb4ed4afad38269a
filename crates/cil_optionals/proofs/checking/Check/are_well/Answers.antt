use Rattle.std.proofs.Common.{arith, get_or, refl, sym, ◌∙◌, ◌<◌, length, ◌≡◌}
use Rattle.std.proofs.lemmas.Bool.{true≢false}
use Rattle.std.proofs.lemmas.Option.{slice_get-get_or, slice_get_within}
use Rattle.cil_optionals.specs.Parts.{parts_in}
use Rattle.cil_optionals.proofs.RowParts.{no_such}
use Rattle.cil_optionals.proofs.checking.Check.are_well.Goals as goal

pub returns-then-not-is_well : goal.returns-then-not-is_well
returns-then-not-is_well c =
    let ps = parts_in c.args.self.now.parts.now in
    let at = c.loop-at.at in
    let within : at < length ps = let h = c.loop-at-test.true in let n = c.len-at-end.ensures in omega (arith, h, n) in
    let p = get_or ps at no_such in
    let there = slice_get-get_or ps at no_such within in (
      λ t. absurd (true≢false (sym t)),
      λ well. absurd (true≢false (sym (well at p there) ∙ sym (c.is_well.ensures p there) ∙ c.if-not-is_well.true)),
    )

pub returns : goal.returns
returns c =
    let ps = parts_in c.args.self.now.parts.now in (
      λ t k p e. c.loop-at.invariant k p (let l = slice_get_within ps k p e in let m = c.loop-at-test.false in let n = c.len-at-end.ensures in omega (arith, l, m, n)) e,
      λ well. refl,
    )
