use Rattle.cil_macros.specs.Items.{items_in}
use Rattle.cil_names.specs.Entries.{is_in}
use Rattle.cil_optionals.proofs.LineLemmas.{HasLines}
use Rattle.cil_optionals.proofs.lines.optional_lines.Given as goal

abbrev pub invariant-loop-at : goal.invariant-loop-at
invariant-loop-at l = HasLines (is_in l.enabled) (items_in l.instances) l.at l.lines.items
