use Rattle.std.proofs.Common.{inl, inr, refl}
use Rattle.cilhost.proofs.CheckLemmas.{has_faults, writer_failed}
use Rattle.cilhost.proofs.ReadingLemmas.{failed_due, refused_due}
use Rattle.cilhost.proofs.check.run_check.Goals as goal

pub returns-in-Ok-clause-check : goal.returns-in-Ok-clause-check
returns-in-Ok-clause-check g c =
    inl (record {
      host = c.in-Ok.host;
      after = c.load-end.new.host;
      ending = c.load-end.result;
      has_files = c.in-Ok.ensures.installed;
      no_policy = c.in-Ok.ensures.no_policy;
      load = c.load-end.ensures.load;
      write_failures = c.load-end.ensures.failed;
      is_status = c.status_after.ensures;
      sound = c.in-Ok.ensures.sound;
    })

pub returns-in-Ok-clause-failed : goal.returns-in-Ok-clause-failed
returns-in-Ok-clause-failed g c = λ failed. inr (writer_failed _ _ _ _ c.status_after.ensures failed c.load-end.ensures.failed)

pub returns-in-Ok-clause-refused : goal.returns-in-Ok-clause-refused
returns-in-Ok-clause-refused g c = λ refused. inr (has_faults _ _ _ _ _ _ _ _ c.in-Ok.ensures.installed c.load-end.ensures.load c.status_after.ensures refused)

pub returns-in-Err-clause-check : goal.returns-in-Err-clause-check
returns-in-Err-clause-check g c = inr (record { error = c.in-Err.error; is_due = c.in-Err.ensures.due; unused = refl; is_status = c.report.ensures })

pub returns-in-Err-clause-failed : goal.returns-in-Err-clause-failed
returns-in-Err-clause-failed g c = λ failed. inl (failed_due _ _ _ _ _ _ c.in-Err.ensures.due c.report.ensures failed)

pub returns-in-Err-clause-refused : goal.returns-in-Err-clause-refused
returns-in-Err-clause-refused g c = λ refused. inl (refused_due _ _ _ _ _ _ c.in-Err.ensures.due c.report.ensures refused)
