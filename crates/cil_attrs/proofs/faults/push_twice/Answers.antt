use Rattle.std.specs.Prelude.{◌↔◌, ℕ}
use Rattle.std.proofs.Common.{sym, subst}
use Rattle.cil_attrs.specs.Targets.{HasOther, IsFlagged, IsToldAmong}
use Rattle.cil_attrs.proofs.FaultLemmas.{told_among}
use Rattle.cil_attrs.proofs.ToldLemmas.{told_as}
use Rattle.cil_attrs.proofs.faults.push_twice.Goals as goal

pub returns : goal.returns
returns c =
    let flagged = subst (λ fl. (d : ℕ) → IsFlagged fl d ↔ HasOther c.args.steps.now c.args.lasts.now d) (sym c.as_slice.ensures.value) c.in_ok-flags.ensures in
    told_as c.args.faults.now.items c.push_flagged.new.faults.items (IsToldAmong c.args.instances.now (IsFlagged c.as_slice.result.now) c.args.steps.now)
    (IsToldAmong c.args.instances.now (HasOther c.args.steps.now c.args.lasts.now) c.args.steps.now)
    (told_among c.args.instances.now (IsFlagged c.as_slice.result.now) (HasOther c.args.steps.now c.args.lasts.now) c.args.steps.now flagged) c.in_ok-push_flagged.ensures
