use Rattle.cil_locate.proofs.ReadingLemmas.{all_told, none_told, told_more}
use Rattle.cil_locate.proofs.telling.put_readings.Goals as goal

pub loop-number-init : goal.loop-number-init
loop-number-init g c = none_told _ _ _

pub loop-number-preserved : goal.loop-number-preserved
loop-number-preserved g c =
    told_more _ _ _ _ _ c.loop-number.number c.index-files-number.result _ c.loop-number-test.true c.requires c.index-files-number.is
    c.put_file.ensures c.loop-number.invariant

pub returns : goal.returns
returns g c = all_told _ _ _ _ c.loop-number.number c.loop-number-test.false c.loop-number.invariant
