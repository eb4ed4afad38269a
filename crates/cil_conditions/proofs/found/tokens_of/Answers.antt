use Rattle.std.proofs.Common.{subst, sym}
use Rattle.cil_conditions.specs.Walk.{IsSpelledBy}
use Rattle.cil_conditions.proofs.WalkLemmas.{all_expression, all_spelled}
use Rattle.cil_conditions.proofs.found.tokens_of.Goals as goal

pub of-requires : goal.of-requires
of-requires c =
    all_expression c.args.known.now c.args.module c.args.term.now c.args.words.now c.in-Some._rest.now c.new-tokens.result.items c.push_condition.new.out.items c.new-tokens.ensures.items
    (rw c.in-Some.is at c.in_ok-_rest.ensures)

pub returns : goal.returns
returns c =
    subst (IsSpelledBy c.args.known.now c.args.module c.args.term.now c.args.words.now) (sym c.of.ensures)
    (all_spelled c.args.known.now c.args.module c.args.term.now c.args.words.now c.in-Some._rest.now c.new-tokens.result.items c.push_condition.new.out.items c.new-tokens.ensures.items
    (rw c.in-Some.is at c.in_ok-_rest.ensures))
