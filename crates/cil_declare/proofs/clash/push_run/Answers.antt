use Rattle.std.specs.Prelude.{OnOk, if◌then◌else◌}
use Rattle.std.specs.List.{flat_map}
use Rattle.std.proofs.Common.{◌≡◌, ◌++◌, [], sym, ◌∙◌, ap, subst}
use Rattle.std.proofs.lemmas.List.{append-nil}
use Rattle.cil_declare.specs.Runs.{row_faults, run_faults}
use Rattle.cil_declare.proofs.clash.push_run.Goals as goal

pub returns-then-not-run : goal.returns-then-not-run
unfolding run_faults
returns-then-not-run c =
    sym (ap (λ b. c.args.faults.now.items ++ (if b then flat_map (row_faults c.args.instances.now) c.args.run.now.rows.now else [])) c.if-not-run.true ∙ append-nil _)

pub returns : goal.returns
unfolding run_faults
returns c =
    subst (λ b. OnOk c.push_rows.result (c.push_rows.new.faults.items ≡ c.args.faults.now.items ++ (if b then flat_map (row_faults c.args.instances.now) c.args.run.now.rows.now else []))) (sym c.if-not-run.false) c.push_rows.ensures
