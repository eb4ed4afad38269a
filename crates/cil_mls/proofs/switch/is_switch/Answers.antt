use Rattle.std.proofs.Common.{sym, ◌∙◌, ap}
use Rattle.cil_mls.specs.Switch.{is_switch}
use Rattle.cil_mls.proofs.SwitchLemmas.{not_one}
use Rattle.cil_mls.proofs.switch.is_switch.Goals as goal

pub returns-in_default : goal.returns-in_default
returns-in_default c m = sym (not_one m c.args.on c.args.terms.now (c.in_default.ensures m))

pub returns : goal.returns
returns c m = c.is_switch_term.ensures m ∙ sym (ap (is_switch c.args.on) (c.in-Some.ensures m))
