use Rattle.std.specs.Prelude.{Some}
use Rattle.std.proofs.Common.{length, ◌++◌, ◌∙◌, ap, sym, arith, refl}
use Rattle.std.specs.Int.{w32, to_be_bytes}
use Rattle.std.specs.List.{flat_map}
use Rattle.cil_base.specs.Places.{is_there}
use Rattle.cil_format.proofs.OutLemmas.{all_put, one_more, two_pieces}
use Rattle.cil_constraint_bytes.specs.Layout.{constraint, constraints}
use Rattle.cil_constraint_bytes.proofs.put.put_constraints.Goals as goal

pub loop-constraint-preserved : goal.loop-constraint-preserved
loop-constraint-preserved g c = λ limits before h.
    one_more g.O.Out.holds (constraint limits).spell c.args.constraints.now c.loop-constraint.constraint-index c.loop-constraint.out
    (before ++ to_be_bytes w32 (length c.args.constraints.now)) (c.loop-constraint.invariant limits before h) c.give_constraint.new.out c.constraint-item.result
    (is_there c.args.constraints.now c.loop-constraint.constraint-index _ c.loop-constraint-test.true ∙ ap Some (sym c.constraint-item.is))
    (c.in_ok-give_constraint.ensures limits)

pub returns : goal.returns
returns g c = λ limits before h.
    let count = to_be_bytes w32 (length c.args.constraints.now) in
    let records = flat_map (constraint limits).spell c.args.constraints.now in
    two_pieces g.O.Out.holds c.loop-constraint.out before count records ((constraints limits).spell c.args.constraints.now) refl
    (all_put g.O.Out.holds (constraint limits).spell c.args.constraints.now c.loop-constraint.constraint-index c.loop-constraint.out (before ++ count) (c.loop-constraint.invariant limits before h)
    (omega (arith, c.loop-constraint-test.false)))
