use Rattle.std.proofs.Common.{◌&&◌, sym, ap}
use Rattle.cil_mls.specs.Switch.{is_switch_word}
use Rattle.cil_mls.proofs.SwitchLemmas.{some_parts}
use Rattle.cil_mls.proofs.switch.is_bare_switch.Goals as goal

pub returns-in-len1-up : goal.returns-in-len1-up
returns-in-len1-up c m at = sym (ap (λ b. b && is_switch_word c.args.on c.args.op) (some_parts m c.args.on c.args.parts.now c.in-len1-up.len_at_least))
