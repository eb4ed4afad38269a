use Rattle.std.proofs.Common.{sym, ◌∙◌, ap}
use Rattle.cil_syntax.specs.Said.{all_said}
use Rattle.cil_syntax.specs.Terms.{Form}
use Rattle.cil_mls.specs.Switch.{is_switch_term}
use Rattle.cil_mls.proofs.SwitchLemmas.{form_is}
use Rattle.cil_mls.proofs.switch.is_switch_term.Goals as goal

pub returns-in-Form : goal.returns-in-Form
returns-in-Form c m =
    c.is_bare_switch.ensures m (record { «module» = m; at = 0 }) ∙ ap (λ ts. is_switch_term c.args.on (Form (record { «module» = m; at = 0 }) c.in-Form.op (all_said m ts))) c.as_slice.ensures.value
    ∙ sym (form_is m c.args.on c.args.term.now _ _ _ c.in-Form.is)
