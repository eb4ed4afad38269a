use Rattle.std.proofs.Common.{arith}
use Rattle.cil_level_rows.proofs.rows.alias_rows.Goals as goal

pub returns : goal.returns
returns c = λ o. record {
  of_sensitivities = c.in_ok-sensitivities.ensures.aliases o;
  of_categories = c.in_ok-categories.ensures.aliases o;
  few_sensitivities =
      let few = c.in_ok-sensitivities.ensures.few in
      let len = o.of_sensitivities.len in omega (arith, few, len);
  few_categories =
      let few = c.in_ok-categories.ensures.few in
      let len = o.of_categories.len in omega (arith, few, len);
}
