use Rattle.std.proofs.Common.{◌/◌, ◌%◌}
use Rattle.cil_conditions.proofs.SettingLemmas.{none_on}
use Rattle.cil_conditions.proofs.settings.Settings.all_off.Goals as goal

pub returns : goal.returns
returns c = λ n. none_on (n / 64) (n % 64)
