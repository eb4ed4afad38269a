use Rattle.std.proofs.Common.{sym, ◌∙◌}
use Rattle.cil_syntax.specs.declared.term.Word.{Word}
use Rattle.cil_syntax.specs.Scopes.{ScopedWord}
use Rattle.cil_constraints.proofs.PushLemmas.{no_variable, not_a_pair, pair_added_in, pair_unsaid_in, refused, taken}
use Rattle.cil_constraints.proofs.push.push_test.Goals as goal

pub returns-then-parts-ne2 : goal.returns-then-parts-ne2
returns-then-parts-ne2 c = not_a_pair c.args.module c.args.op c.args.parts.now c.if-parts-ne2.true

pub returns-in_default-variable_in : goal.returns-in_default-variable_in
returns-in_default-variable_in c =
    no_variable c.args.module c.args.op c.args.parts.now c.index-parts-0.result c.index-parts-0.result c.if-parts-ne2.false c.index-parts-0.is
    (λ f. sym (c.variable_in.ensures f c.args.module) ∙ c.in_default-variable_in.is)

pub returns-then-not-is : goal.returns-then-not-is
returns-then-not-is c =
    let has = sym c.relation_of.ensures ∙ c.in-Some.is in
    let first = λ (f : Word → ScopedWord). sym (c.variable_in.ensures f c.args.module) ∙ c.in-Some-variable_in.is in
    pair_unsaid_in c.args.module c.args.op c.index-parts-0.result c.index-parts-1.result c.in-Some.relation c.in-Some-variable_in.variable has first c.args.parts.now c.index-parts-0.result
    c.index-parts-1.result c.if-parts-ne2.false c.index-parts-0.is c.index-parts-1.is
    (refused c.in_ok-is.is' c.args.sets.now _ _ _ _ c.if-not-is.true c.in_ok-is.ensures)

pub returns : goal.returns
returns c =
    let has = sym c.relation_of.ensures ∙ c.in-Some.is in
    let first = λ (f : Word → ScopedWord). sym (c.variable_in.ensures f c.args.module) ∙ c.in-Some-variable_in.is in
    pair_added_in c.args.module c.args.op c.index-parts-0.result c.index-parts-1.result c.in-Some.relation c.in-Some-variable_in.variable has first c.args.parts.now c.index-parts-0.result
    c.index-parts-1.result c.if-parts-ne2.false c.index-parts-0.is c.index-parts-1.is c.args.sets.now c.args.words.now c.behind-of_operand.result.now c.behind.result.now _ _ c.behind-of_operand.ensures
    c.behind.ensures (taken c.in_ok-is.is' c.args.sets.now _ _ _ _ c.if-not-is.false c.in_ok-is.ensures)
