-- What the levels of a policy rest on is fixed by its statements.
use Rattle.std.proofs.Common.{◌≡◌, List, sym, ◌∙◌, subst}
use Rattle.cil_macros.specs.Item.{Item, OptSet}
use Rattle.cil_names.specs.Declarations.{Symbol}
use Rattle.cil_levels.specs.Values.{AreValues}
use Rattle.cil_levels.proofs.LawLemmas.{one_values}
use Rattle.cil_ranges.specs.Levels.{Ground}
use Rattle.cil_ranges.specs.Steps.{IsGround}

-- there is one ground alone
pub one_ground : (xs : List Item) (s : OptSet) (g h : Ground) → IsGround xs s g → IsGround xs s h → g ≡ h
one_ground xs s g h of_g of_h =
    let items : g.items ≡ h.items = of_g.items ∙ sym of_h.items in
    let sensitivities : g.sensitivities ≡ h.sensitivities = of_h.sensitivities.only g.sensitivities of_g.sensitivities.is_order in
    let categories : g.categories ≡ h.categories = of_h.categories.only g.categories of_g.categories.is_order in
    let (rank, ranked) = of_g.ranked in
    let too : AreValues xs s g.categories h.values = subst (λ (row : List Symbol). AreValues xs s row h.values) (sym categories) of_h.values in
    let values : g.values ≡ h.values = one_values xs s g.categories rank ranked g.values h.values of_g.values too in
    λ i. record { items = items i; sensitivities = sensitivities i; categories = categories i; values = values i }
