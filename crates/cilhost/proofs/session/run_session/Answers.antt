use Rattle.std.proofs.Common.{inl, inr}
use Rattle.cilhost.proofs.ReadingLemmas.{failed_due, refused_due, stream_failed}
use Rattle.cilhost.proofs.session.run_session.Goals as goal

pub returns-in-Ok-clause-session : goal.returns-in-Ok-clause-session
returns-in-Ok-clause-session g c =
    inl (record {
      host = c.in-Ok.host;
      after = c.serve-served.new.host;
      ending = c.serve-served.result;
      has_files = c.in-Ok.ensures.installed;
      no_policy = c.in-Ok.ensures.no_policy;
      serves = c.serve-served.ensures.serves;
      read_failures = c.serve-served.ensures.reader_failed;
      write_failures = c.serve-served.ensures.writer_failed;
      is_status = c.end.ensures;
      sound = c.in-Ok.ensures.sound;
    })

pub returns-in-Ok-clause-failed : goal.returns-in-Ok-clause-failed
returns-in-Ok-clause-failed g c = λ failed. inr (stream_failed _ _ _ _ _ _ c.end.ensures failed c.serve-served.ensures.reader_failed c.serve-served.ensures.writer_failed)

pub returns-in-Err-clause-failed : goal.returns-in-Err-clause-failed
returns-in-Err-clause-failed g c = λ failed. inl (failed_due _ _ _ _ _ _ c.in-Err.ensures.due c.report.ensures failed)

pub returns-in-Err-clause-refused : goal.returns-in-Err-clause-refused
returns-in-Err-clause-refused g c = refused_due _ _ _ _ _ _ c.in-Err.ensures.due c.report.ensures
