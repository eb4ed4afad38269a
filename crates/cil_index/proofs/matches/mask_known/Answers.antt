use Rattle.cil_base.proofs.AtPlace.{made_at}
use Rattle.cil_index.specs.Kept.{rule_of}
use Rattle.cil_rules.specs.conditions.Bits.{is_on}
use Rattle.cil_index.specs.Searched.{rules_in}
use Rattle.cil_index.proofs.CoverLemmas.{at_other, at_rule}
use Rattle.cil_index.proofs.matches.mask_known.Goals as goal

pub returns-then-matches : goal.returns-then-matches
returns-then-matches c =
    let found = c.in-Some.ensures.lookup in
    at_rule (is_on c.args.settings.now) (rules_in c.args.searched.now) c.args.place (rule_of c.args.searched.now.branches.now c.args.searched.now.sets.now c.in-Some.kept.now) c.args.asked.now.source c.args.asked.now.target c.args.asked.now.class
    (made_at (rule_of c.args.searched.now.branches.now c.args.searched.now.sets.now) c.args.searched.now.records.now c.args.place c.in-Some.kept.now found.3.0 found.1) (c.matches.ensures.0 c.if-matches.true)

pub returns-else-matches : goal.returns-else-matches
returns-else-matches c =
    let found = c.in-Some.ensures.lookup in
    at_other (is_on c.args.settings.now) (rules_in c.args.searched.now) c.args.place (rule_of c.args.searched.now.branches.now c.args.searched.now.sets.now c.in-Some.kept.now) c.args.asked.now.source c.args.asked.now.target c.args.asked.now.class
    (made_at (rule_of c.args.searched.now.branches.now c.args.searched.now.sets.now) c.args.searched.now.records.now c.args.place c.in-Some.kept.now found.3.0 found.1)
    (λ m. let yes = c.matches.ensures.1 m in let not = c.if-matches.false in absurd cc)
