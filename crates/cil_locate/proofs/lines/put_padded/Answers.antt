use Rattle.std.proofs.Common.{◌∙◌}
use Rattle.cil_locate.proofs.LineLemmas.{padded_told}
use Rattle.cil_locate.proofs.lines.put_padded.Goals as goal

pub returns : goal.returns
returns g c =
    padded_told _ _ _ c.args.number _ _ (c.as_bytes-digits.ensures.value ∙ c.format.ensures.text) c.saturating_sub.ensures c.put_repeated.ensures c.put.ensures
