use Rattle.std.proofs.Common.{refl}
use Rattle.cil_base.proofs.AtPlace.{at_place, past_end}
use Rattle.cil_labels.proofs.SoundLemmas.{none_permitted, set_permits}
use Rattle.cil_labels.proofs.label.permits.Goals as goal

pub returns-in_default : goal.returns-in_default
returns-in_default c =
    let permitted = c.args.permitted.now in
    none_permitted permitted c.args.level.now.sensitivity c.args.level.now _ (past_end permitted permitted c.args.level.now.sensitivity refl c.in_default.ensures.lookup.3)
    c.none.result.words c.none.ensures c.include.ensures

pub returns : goal.returns
returns c =
    let permitted = c.args.permitted.now in
    let found = c.in-Some.ensures.lookup in
    set_permits permitted c.args.level.now.sensitivity c.args.level.now _ c.in-Some.set.now (at_place permitted permitted c.args.level.now.sensitivity refl c.in-Some.set.now found.3.0 found.1)
    c.include-2.ensures
