use Rattle.cil_label_bytes.proofs.PutLemmas.{fewer_first, fewer_second}
use Rattle.cil_label_bytes.proofs.put_sections.pairs.Goals as goal

pub returns-then-names-others-clause-value : goal.returns-then-names-others-clause-value
returns-then-names-others-clause-value g c = fewer_first c.args.names.now c.args.others.now c.if-names-others.true

pub returns-else-names-others-clause-value : goal.returns-else-names-others-clause-value
returns-else-names-others-clause-value g c = fewer_second c.args.names.now c.args.others.now c.if-names-others.false
