use Rattle.cil_server.proofs.StreamLemmas.{tells_both}
use Rattle.cil_locate.proofs.LineLemmas.{gutter_told}
use Rattle.cil_locate.proofs.lines.put_gutter.Goals as goal

pub returns : goal.returns
returns g c =
    tells_both _ _ _ _ _ (gutter_told _ _ c.args.number _ _ c.format-digits.ensures.text c.saturating_sub.ensures c.put_repeated.ensures) c.put.ensures
