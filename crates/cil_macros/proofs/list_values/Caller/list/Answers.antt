use Rattle.std.proofs.Common.{refl, subst}
use Rattle.cil_faults.specs.Spots.{spot_at}
use Rattle.cil_macros.specs.declared.listed.Listed.{Listed}
use Rattle.cil_macros.specs.Parameters.{argument_kind, read_argument}
use Rattle.cil_macros.specs.Placed.{meaning}
use Rattle.cil_macros.specs.Puts.{PutsParts, list_cell}
use Rattle.cil_macros.proofs.PutLemmas.{list_says}
use Rattle.cil_macros.proofs.list_values.Caller.list.Goals as goal

pub returns : goal.returns
returns c =
    let call = c.args.self.now in
    let l : Listed = record { at = c.of.result; op = c.in_ok-op.op; parts = c.put_in.new.parts } in
    let bt = spot_at call.«module» c.args.at in
    list_says call.scene.now call.at (read_argument (argument_kind c.args.kind) (list_cell call.«module» bt c.args.items.now)) bt c.in_ok-op.op (c.in_ok-op.ensures.joined bt)
    c.new-asked.result.items c.push_items.new.parts.items c.new-parts.result.items c.new-asked.ensures.items (c.in_ok-op.ensures.parts bt) c.new-parts.ensures.items l c.of.ensures refl
    (subst (λ xs. PutsParts meaning call.scene.now call.at xs c.new-parts.result.items c.put_in.new.parts.items) c.as_slice.ensures.value c.in_ok-put_in.ensures)
