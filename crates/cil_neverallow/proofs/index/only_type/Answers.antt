use Rattle.std.proofs.Common.{◌∙◌, sym}
use Rattle.cil_neverallow.proofs.MeetLemmas.{only_found}
use Rattle.cil_neverallow.proofs.index.only_type.Goals as goal

pub returns : goal.returns
returns c = only_found c.in_ok-set.set.now _ c.next_from.result c.in_ok-set.ensures (sym c.len.ensures ∙ c.if-len-ne1.false) c.next_from.ensures
