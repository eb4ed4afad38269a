use Rattle.std.proofs.Common.{◌∙◌}
use Rattle.cil_index.proofs.KeyLemmas.{heading_of_set, heading_of_type}
use Rattle.cil_index.proofs.index.heading_of.Goals as goal

pub returns-then-target-lt-SEVERAL : goal.returns-then-target-lt-SEVERAL
returns-then-target-lt-SEVERAL c = c.behind.ensures ∙ heading_of_type c.args.sets.now c.args.source c.args.target c.if-target-lt-SEVERAL.true

pub returns : goal.returns
returns c = heading_of_set c.args.sets.now c.args.source c.args.target c.if-target-lt-SEVERAL.false
