use Rattle.std.proofs.Common.{List, ◌∙◌, ap}
use Rattle.std.specs.Prelude.{None}
use Rattle.indexmap.specs.IndexSet.{insert_key}
use Rattle.cil_blocks.specs.Seeds.{Pair}
use Rattle.cil_blocks.proofs.Reached.{pair_eq}
use Rattle.cil_blocks.proofs.seeds.standing_twice.Goals as goal

pub tell_all-requires-clause-first : goal.tell_all-requires-clause-first
tell_all-requires-clause-first c = c.in_ok-insert.ensures.keys ∙ ap (λ (ks : List Pair). insert_key pair_eq ks (None, None)) c.new-pairs.ensures.empty
