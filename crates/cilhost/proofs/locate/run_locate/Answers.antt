use Rattle.std.proofs.Common.{inl, inr, refl}
use Rattle.cilhost.proofs.LocateLemmas.{unread_failed, writer_failed}
use Rattle.cilhost.proofs.locate.run_locate.Goals as goal

pub returns-in-Ok-clause-locate : goal.returns-in-Ok-clause-locate
returns-in-Ok-clause-locate g c =
    inl (record {
      files = c.in-Ok.files.items;
      ending = c.locate-located.result;
      are_files = c.in-Ok.ensures.files;
      located = rw c.as_slice.ensures.value at c.locate-located.ensures.located;
      write_failures = c.locate-located.ensures.failed;
      is_status = c.status_after.ensures;
      sound = c.in-Ok.ensures.sound;
    })

pub returns-in-Ok-clause-failed : goal.returns-in-Ok-clause-failed
returns-in-Ok-clause-failed g c = λ failed. inr (writer_failed _ _ _ _ c.status_after.ensures failed c.locate-located.ensures.failed)

pub returns-in-Err-clause-locate : goal.returns-in-Err-clause-locate
returns-in-Err-clause-locate g c =
    inr (record { error = c.in-Err.error; is_unread = c.in-Err.ensures.due; unused = refl; is_status = c.report.ensures })

pub returns-in-Err-clause-failed : goal.returns-in-Err-clause-failed
returns-in-Err-clause-failed g c = λ failed. inl (unread_failed _ _ _ _ _ c.in-Err.ensures.due c.report.ensures failed)
