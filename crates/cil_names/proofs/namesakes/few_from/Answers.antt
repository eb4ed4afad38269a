use Rattle.std.proofs.Common.{◌≡◌, ◌∙◌, ◌+◌, arith, subst, sym}
use Rattle.std.proofs.lemmas.Bool.{true≢false}
use Rattle.cil_names.specs.Soles.{IsNamedAt}
use Rattle.cil_names.proofs.SoleLemmas.{are_ranked}
use Rattle.cil_names.proofs.namesakes.few_from.Goals as goal

pub returns-else-is_named : goal.returns-else-is_named
returns-else-is_named c =
    let front : (b : _) → b + 1 ≡ c.args.first → b ≡ c.in-Some-checked_sub.before = λ b e. let f = c.in-Some-checked_sub.ensures in omega (arith, e, f) in
    are_ranked c.args.entries.now c.requires.sorted _ c.args.first c.requires.named.0 c.requires.named.1 c.requires.named.2 c.in-Some.end c.in-Some.ensures
    (λ b e there. true≢false (sym (c.is_named.ensures.1 (subst (IsNamedAt c.args.entries.now _) (front b e) there)) ∙ c.if-is_named.false))

pub returns-in_default-checked_sub : goal.returns-in_default-checked_sub
returns-in_default-checked_sub c =
    are_ranked c.args.entries.now c.requires.sorted _ c.args.first c.requires.named.0 c.requires.named.1 c.requires.named.2 c.in-Some.end c.in-Some.ensures
    (λ b e there. let f = c.in_default-checked_sub.ensures in omega (arith, e, f))
