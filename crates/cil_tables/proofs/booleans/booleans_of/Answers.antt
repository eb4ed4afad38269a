use Rattle.std.proofs.Common.{List, ℕ, subst}
use Rattle.std.specs.Prelude.{◌≡◌, ◌↔◌, Contains, true}
use Rattle.cil_macros.specs.Items.{items_in}
use Rattle.cil_known.specs.Known.{enabled_in}
use Rattle.cil_tables.specs.Booleans.{is_default_on}
use Rattle.cil_tables.proofs.BooleanLemmas.{same_tests}
use Rattle.cil_tables.proofs.booleans.booleans_of.Goals as goal

pub returns-clause-defaults : goal.returns-clause-defaults
returns-clause-defaults c = λ b there.
    let on = subst (λ (l : List (List ℕ)). (b.default ≡ true) ↔ Contains l b.name) c.as_slice.ensures.value (c.in_ok-booleans.ensures.defaults b there) in
    let by = c.in_ok-on.ensures.members b.name in
    same_tests b.default (is_default_on (items_in c.args.instances.now) (enabled_in c.args.known.now) b.name) (λ t. by.0 (on.0 t), λ e. on.1 (by.1 e))
