use Rattle.std.proofs.Common.{sym, subst}
use Rattle.cil_declare.specs.Runs.{AreRunsOf}
use Rattle.cil_declare.proofs.gather.declared_by.Goals as goal

pub runs_of-requires-clause-rows : goal.runs_of-requires-clause-rows
runs_of-requires-clause-rows c = c.requires.rows.each

pub named_by-requires : goal.named_by-requires
named_by-requires c = (
  c.args.rows.now,
  subst (AreRunsOf c.args.instances.now c.args.rows.now) (sym c.as_slice.ensures.value)
      (record { namespaces = c.requires.namespaces; all = c.requires.rows; are = c.in_ok-runs.ensures }),
)
