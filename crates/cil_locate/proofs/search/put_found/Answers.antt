use Rattle.std.proofs.Common.{◌∙◌, ap, length, subst}
use Rattle.cil_locate.specs.Found.{IsFound}
use Rattle.cil_locate.proofs.FoundLemmas.{as_many}
use Rattle.cil_locate.proofs.search.put_found.Goals as goal

pub put_readings-requires : goal.put_readings-requires
put_readings-requires g c =
    ap length c.as_slice.ensures.value ∙ as_many _ _ (subst (IsFound c.args.files.now) c.in-Unreadable.is c.requires).0
