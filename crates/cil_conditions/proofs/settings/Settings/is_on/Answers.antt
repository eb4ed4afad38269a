use Rattle.cil_conditions.proofs.SettingLemmas.{on_is}
use Rattle.cil_conditions.proofs.settings.Settings.is_on.Goals as goal

pub returns : goal.returns
returns c = on_is _ _ _ c.get.ensures
