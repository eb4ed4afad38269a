use Rattle.std.specs.Prelude.{List}
use Rattle.std.proofs.Common.{subst, sym}
use Rattle.cil_macros.specs.Items.{items_in}
use Rattle.cil_mls.specs.declared.expression.Held.{Held}
use Rattle.cil_levels.specs.Held.{AreHeld, HoldValues}
use Rattle.cil_ranges.proofs.levels.measure.Goals as goal

pub permitted-requires-clause-held : goal.permitted-requires-clause-held
permitted-requires-clause-held c = λ o. subst (λ (l : List Held). HoldValues c.args.known.now (items_in c.args.instances.now) o.of_categories.row l) (sym c.as_slice.ensures.value) (c.in_ok-held.ensures o)

pub returns : goal.returns
returns c = λ o.
    let hold = c.in_ok-held.ensures o in
    record {
      values = hold.0;
      held = hold.1;
      places = c.in_ok-sensitivities.ensures o;
      permitted = c.in_ok-permitted.ensures o hold.0 (subst (λ (l : List Held). AreHeld c.args.known.now (items_in c.args.instances.now) o.of_categories.row l hold.0) (sym c.as_slice.ensures.value) hold.1);
    }
