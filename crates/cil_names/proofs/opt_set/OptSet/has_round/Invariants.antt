use Rattle.std.proofs.Common.{◌≡◌}
use Rattle.std.specs.List.{list_all}
use Rattle.cil_macros.specs.Item.{is_enabled}
use Rattle.cil_macros.specs.Items.{item_at}
use Rattle.cil_names.specs.Entries.{is_in}
use Rattle.cil_names.proofs.opt_set.OptSet.has_round.Given as goal

abbrev pub invariant-loop-optional : goal.invariant-loop-optional
invariant-loop-optional l = is_enabled (is_in l.self) (item_at l.instances l.at) ≡ list_all (is_in l.self) (item_at l.instances l.place).round

abbrev pub decreases-loop-optional : goal.decreases-loop-optional
decreases-loop-optional l = l.place
