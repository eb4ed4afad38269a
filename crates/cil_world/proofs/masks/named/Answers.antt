use Rattle.std.proofs.Common.{arith, refl, sym, ◌∙◌, ap}
use Rattle.std.specs.Prelude.{Some}
use Rattle.std.proofs.lemmas.Nat.{bit_set_by_shift}
use Rattle.std.proofs.lemmas.Option.{slice_get_read, slice_get_within}
use Rattle.cil_world.proofs.masks.named.Goals as goal

pub returns-in_err-name : goal.returns-in_err-name
returns-in_err-name c =
    let over = c.in_err-name.ensures.lookup.3 in
    rw c.from_residual.ensures (λ name is. let within = slice_get_within c.args.names.now c.args.bit name is.is_name in absurd (omega (arith, within, over)))

pub returns-in_ok-name : goal.returns-in_ok-name
returns-in_ok-name c =
    let found = c.in_ok-name.ensures.lookup in
    record {
      is_set = (bit_set_by_shift c.args.mask c.args.bit).0 c.if-mask-bit-eq1.true;
      is_name = slice_get_read _ _ _ _ refl found.3.0 found.1 ∙ ap Some (sym c.as_slice.ensures);
    }

pub returns-else-mask-bit-eq1 : goal.returns-else-mask-bit-eq1
returns-else-mask-bit-eq1 c = λ name is. c.if-mask-bit-eq1.false ((bit_set_by_shift c.args.mask c.args.bit).1 is.is_set)
