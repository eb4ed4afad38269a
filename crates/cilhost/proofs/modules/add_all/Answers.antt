use Rattle.std.proofs.Common.{◌∙◌, arith, refl}
use Rattle.cilhost.proofs.ReadingLemmas.{handed_on, none_installed, one_more_installed, stops_at}
use Rattle.cilhost.proofs.modules.add_all.Goals as goal

pub loop-file-init : goal.loop-file-init
loop-file-init g c = (refl, refl, none_installed _ _ _ c.requires, refl)

pub loop-file-preserved : goal.loop-file-preserved
loop-file-preserved g c =
    let adds = rw c.loop-file.invariant.0 at c.in_ok-add.ensures.adds in (
      c.add.ensures.stays ∙ c.loop-file.invariant.0,
      c.in_ok-add.ensures.sound ∙ c.loop-file.invariant.1,
      one_more_installed _ _ c.loop-file.file-index _ _ _ (omega (arith, c.loop-file-test.true)) adds c.add.ensures.modules c.loop-file.invariant.2,
      c.add.ensures.unwritten ∙ c.loop-file.invariant.3,
    )

pub returns-in_err-add-clause-due : goal.returns-in_err-add-clause-due
returns-in_err-add-clause-due g c =
    let due = rw (c.loop-file.invariant.0, c.loop-file.invariant.1) at c.in_err-add.ensures.due in
    handed_on _ _ _ c.from_residual.ensures.1
    (stops_at _ _ _ _ c.loop-file.file-index _ _ _ (omega (arith, c.loop-file-test.true)) c.loop-file.invariant.2 due)
