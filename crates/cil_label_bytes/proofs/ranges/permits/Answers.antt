use Rattle.std.proofs.Common.{refl}
use Rattle.cil_base.proofs.AtPlace.{at_place, past_end}
use Rattle.cil_label_bytes.proofs.RangeLemmas.{none_permits, some_permits}
use Rattle.cil_label_bytes.proofs.ranges.permits.Goals as goal

pub returns-in_default : goal.returns-in_default
returns-in_default c =
    let permitted = c.args.permitted.now in
    none_permits permitted c.args.place c.args.set.now _ c.none.result.words (past_end permitted permitted c.args.place refl c.in_default.ensures.lookup.3) c.none.ensures c.include.ensures

pub returns : goal.returns
returns c =
    let permitted = c.args.permitted.now in
    let found = c.in-Some.ensures.lookup in
    some_permits permitted c.args.place c.args.set.now _ c.in-Some.all.now (at_place permitted permitted c.args.place refl c.in-Some.all.now found.3.0 found.1) c.include-2.ensures
