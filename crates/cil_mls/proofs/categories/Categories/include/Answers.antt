use Rattle.std.proofs.Common.{◌≡◌, true, false, arith}
use Rattle.cil_mls.proofs.BitLemmas.{not_included}
use Rattle.cil_mls.proofs.categories.Categories.include.Goals as goal

pub returns-then-not-covers : goal.returns-then-not-covers
returns-then-not-covers c = (
  λ f. absurd (let g : false ≡ true = f in cc),
  λ all. absurd (let t = c.covers.ensures.1 (not_included c.args.self.now.words c.args.other.now.words c.loop-at.at (omega (arith, c.loop-at-test.true)) all) in let n = c.if-not-covers.true in cc),
)
