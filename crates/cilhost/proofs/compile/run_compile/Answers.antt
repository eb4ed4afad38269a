use Rattle.std.proofs.Common.{inl, inr, refl}
use Rattle.cilhost.proofs.compile.run_compile.Goals as goal

pub returns-in-Ok : goal.returns-in-Ok
returns-in-Ok g c =
    rw (c.in-Ok.ensures.sound, c.modules_of.ensures.unwritten) at (c.compile_all.ensures (g.Y.System.holds c.args.system.now) c.args.files.now c.in-Ok.ensures.installed)

pub returns-in-Err : goal.returns-in-Err
returns-in-Err g c =
    inr (record {
      error = c.in-Err.error;
      is_stop = inl (inr c.in-Err.ensures.due);
      unwritten = c.modules_of.ensures.unwritten;
      unused = refl;
      is_status = c.report.ensures;
    })
