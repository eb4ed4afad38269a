use Rattle.cil_neverallow.proofs.MeetLemmas.{only_reached}
use Rattle.cil_neverallow.proofs.index.only_target.Goals as goal

pub returns-in-Types : goal.returns-in-Types
returns-in-Types c = only_reached c.args.sets.now c.args.target c.in-Types.number c.in-Types.is c.args.source c.only_type.result c.only_type.ensures
