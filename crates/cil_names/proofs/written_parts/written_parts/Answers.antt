use Rattle.cil_macros.specs.Items.{all_placed}
use Rattle.cil_names.proofs.WrittenPartLemmas.{parts_alone}
use Rattle.cil_names.proofs.written_parts.written_parts.Goals as goal

pub returns : goal.returns
returns c = parts_alone (all_placed c.args.instances.now) _ _ _ c.new-parts.ensures.items c.in_ok-push_terms.ensures
