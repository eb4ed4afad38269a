use Rattle.std.proofs.Common.{inl, inr, refl}
use Rattle.cilhost.proofs.CompileLemmas.{replied, stop_of}
use Rattle.cilhost.proofs.compile.write_all.Goals as goal

pub returns-in-Ok : goal.returns-in-Ok
returns-in-Ok g c = λ holds files modules has is.
    inl (record {
      modules = modules;
      result = is.result;
      tables = _;
      has_files = has;
      loads = is.loads;
      writes = c.in-Ok.ensures.written;
      replied = replied modules c.args.laid.now c.reply.result _ _ _ _ is c.reply.ensures.says c.reply.ensures.ends c.tell.ensures.reply c.tell.ensures.failed c.finish.ensures;
      sound = c.in-Ok.ensures.sound;
    })

pub returns-in-Err : goal.returns-in-Err
returns-in-Err g c = λ holds files modules has is.
    inr (record {
      error = c.in-Err.error;
      is_stop = stop_of holds _ _ files _ modules c.args.laid.now _ has is c.in-Err.ensures.due;
      unwritten = c.in-Err.ensures.unwritten;
      unused = refl;
      is_status = c.report.ensures;
    })
