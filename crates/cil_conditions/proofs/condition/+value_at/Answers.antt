use Rattle.std.proofs.Common.{arith, refl, rules, ◌+◌, ◌∙◌, ◌∷◌, ap, drop, sym}
use Rattle.cil_conditions.proofs.ValueLemmas.{boolean_value, not_inner, not_value, two_first, two_second, two_value, within_tokens}
use Rattle.cil_conditions.specs.Bits.{is_on}
use Rattle.cil_conditions.specs.Truth.{values}
use Rattle.cil_conditions.proofs.condition.+value_at.Goals as goal

pub bounds-tokens-at : goal.bounds-tokens-at
bounds-tokens-at t c = within_tokens (is_on c.args.settings.now) c.args.tokens.now c.args.at c.requires

pub value_at-inner-requires : goal.value_at-inner-requires
value_at-inner-requires t c =
    let within = within_tokens (is_on c.args.settings.now) c.args.tokens.now c.args.at c.requires in
    (search rules, not_inner (is_on c.args.settings.now) c.args.tokens.now c.args.at c.requires _ _ c.in-Not.is refl)

pub value_at-first-requires : goal.value_at-first-requires
value_at-first-requires t c =
    let within = within_tokens (is_on c.args.settings.now) c.args.tokens.now c.args.at c.requires in
    (search rules, two_first (is_on c.args.settings.now) c.args.tokens.now c.args.at c.requires _ _ c.in_default.operator-is (λ n e. c.in_default.not-Boolean n (c.in_default.operator-is ∙ e)) (λ e. c.in_default.not-Not (c.in_default.operator-is ∙ e)))

pub value_at-second-requires : goal.value_at-second-requires
value_at-second-requires t c =
    let within = within_tokens (is_on c.args.settings.now) c.args.tokens.now c.args.at c.requires in
    (search rules, two_second (is_on c.args.settings.now) c.args.tokens.now c.args.at c.requires _ _ c.in_default.operator-is (λ n e. c.in_default.not-Boolean n (c.in_default.operator-is ∙ e)) (λ e. c.in_default.not-Not (c.in_default.operator-is ∙ e)) _ _ c.value_at-first.ensures.value)

pub returns-in-Boolean-clause-value : goal.returns-in-Boolean-clause-value
returns-in-Boolean-clause-value t c =
    boolean_value (is_on c.args.settings.now) c.args.tokens.now c.args.at c.requires _ _ c.in-Boolean.is _ refl
    ∙ ap (λ b. b ∷ values (is_on c.args.settings.now) (drop (c.args.at + 1) c.args.tokens.now)) (sym c.is_on.ensures)

pub returns-in-Boolean-clause-within : goal.returns-in-Boolean-clause-within
returns-in-Boolean-clause-within t c =
    let within = within_tokens (is_on c.args.settings.now) c.args.tokens.now c.args.at c.requires in omega (arith, within)

pub bounds : goal.bounds
bounds t c = within_tokens (is_on c.args.settings.now) c.args.tokens.now c.args.at c.requires

pub returns-in-Not-clause-value : goal.returns-in-Not-clause-value
returns-in-Not-clause-value t c = not_value (is_on c.args.settings.now) c.args.tokens.now c.args.at c.requires _ _ c.in-Not.is refl _ _ c.value_at-inner.ensures.value

pub returns-in_default-clause-value : goal.returns-in_default-clause-value
returns-in_default-clause-value t c =
    two_value (is_on c.args.settings.now) c.args.tokens.now c.args.at c.requires _ _ refl (λ n e. c.in_default.not-Boolean n e) (λ e. c.in_default.not-Not e) _ _ _ _ c.value_at-first.ensures.value c.value_at-second.ensures.value
    ∙ ap (λ b. b ∷ values (is_on c.args.settings.now) (drop c.value_at-second.result.end c.args.tokens.now)) (sym c.joined.ensures)

pub overflow_add-result : goal.overflow_add-result
overflow_add-result t c =
    let within = within_tokens (is_on c.args.settings.now) c.args.tokens.now c.args.at c.requires in search (rules, within)

pub offset_bounds-tokens-at : goal.offset_bounds-tokens-at
offset_bounds-tokens-at t c =
    let within = within_tokens (is_on c.args.settings.now) c.args.tokens.now c.args.at c.requires in search (rules, within)
