use Rattle.std.proofs.Common.{◌≡◌, [], ◌∙◌, ap, sym, arith}
use Rattle.cil_locate.specs.Files.{text_at}
use Rattle.cil_locate.specs.Positions.{position_of}
use Rattle.cil_locate.specs.declared.position.Position.{Position}
use Rattle.cil_locate.proofs.telling.Last.start.Goals as goal

pub returns : goal.returns
returns c = λ files.
    let at : c.start.result.at ≡ 0 = ap (λ (p : Position). p.at) (c.start.ensures []) in record {
      here = c.start.ensures (text_at files 0) ∙ ap (position_of (text_at files 0)) (sym at);
      within = omega (arith, at);
    }
