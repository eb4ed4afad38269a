use Rattle.std.proofs.Common.{refl, rules}
use Rattle.cil_modset.proofs.InstallLemmas.{refused, put_in, there, installed_union, installed_longer}
use Rattle.cil_modset.proofs.rows.put.Goals as goal

pub returns-in-Ok : goal.returns-in-Ok
returns-in-Ok c = there _ _ _ (rw c.as_slice.ensures.value at c.in-Ok.ensures.found) refl

pub returns-in_err-read-in-Err : goal.returns-in_err-read-in-Err
returns-in_err-read-in-Err c =
    refused _ _ _ c.in-Err.place _ c.from_residual.ensures.0 (rw c.as_slice.ensures.value at c.in-Err.ensures.absent) (search rules) refl

pub returns-in_err-copy-in-Err : goal.returns-in_err-copy-in-Err
returns-in_err-copy-in-Err c =
    refused _ _ _ c.in-Err.place _ c.from_residual-in_err-copy-in-Err.ensures.0 (rw c.as_slice.ensures.value at c.in-Err.ensures.absent) (search rules) refl

pub returns-in_err-insert-in-Err : goal.returns-in_err-insert-in-Err
returns-in_err-insert-in-Err c =
    refused _ _ _ c.in-Err.place _ c.from_residual-in_err-insert-in-Err.ensures.0 (rw c.as_slice.ensures.value at c.in-Err.ensures.absent) (search rules) (search rules)

pub returns-in_ok-insert-in-Err : goal.returns-in_ok-insert-in-Err
returns-in_ok-insert-in-Err c =
    let at = rw c.as_slice.ensures.value at c.in-Err.ensures.absent in
    put_in _ _ _ c.in-Err.place at (record { nodes = _; tree = c.in_ok-read-in-Err.ensures.tree })
    (installed_union c.args.row.now.items c.insert.new.self.items c.in-Err.place c.in_ok-copy-in-Err.copy c.args.text.now c.requires at
    c.in_ok-insert-in-Err.ensures.items c.in_ok-copy-in-Err.ensures.items)
    (installed_longer c.args.row.now.items c.insert.new.self.items c.in-Err.place c.in_ok-copy-in-Err.copy c.args.text.now at c.in_ok-insert-in-Err.ensures.items)
