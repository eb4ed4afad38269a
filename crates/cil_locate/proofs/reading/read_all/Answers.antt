use Rattle.cil_locate.proofs.ReadingLemmas.{all_many, all_read, all_texts, read_more}
use Rattle.cil_locate.proofs.reading.read_all.Goals as goal

pub loop-file-preserved : goal.loop-file-preserved
loop-file-preserved c =
    rw c.in_ok-push.ensures.items (read_more _ _ _ _ c.loop-file.file-index c.file-item.result _ c.loop-file-test.true c.file-item.is c.in_ok-fault.ensures.reading
    c.in_ok-fault.ensures.adds c.loop-file.invariant)

pub returns-clause-many : goal.returns-clause-many
returns-clause-many c = all_many _ _ _ c.loop-file.file-index c.loop-file-test.false c.loop-file.auto.file-index-end c.loop-file.invariant

pub returns-clause-readings : goal.returns-clause-readings
returns-clause-readings c = all_read _ _ _ c.loop-file.file-index c.loop-file-test.false c.loop-file.invariant

pub returns-clause-texts : goal.returns-clause-texts
returns-clause-texts c = λ all. record {
  are_modules = c.len.ensures.modules;
  members = all_texts _ _ _ c.loop-file.file-index c.loop-file-test.false c.loop-file.invariant all;
}
