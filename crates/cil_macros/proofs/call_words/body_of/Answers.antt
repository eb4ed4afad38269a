use Rattle.std.proofs.Common.{rules}
use Rattle.std.proofs.lemmas.List.Sorted.{IsPartitionPoint-from_clause}
use Rattle.cil_base.specs.Places.{there_as}
use Rattle.cil_macros.proofs.TurnLemmas.{calls_parted, is_earlier, none_behind, none_but}
use Rattle.cil_macros.proofs.call_words.body_of.Goals as goal

pub returns-in_err-body-clause-body : goal.returns-in_err-body-clause-body
returns-in_err-body-clause-body c =
    let point = IsPartitionPoint-from_clause (is_earlier c.args.at) _ _ c.partition_point-number.ensures.partitioned
    (calls_parted c.args.bodies.now c.args.at c.requires) (λ a r f' k. search rules) in
    let none = none_behind c.args.bodies.now c.args.at c.requires c.partition_point-number.result point c.in_err-body.ensures.lookup.3 in
    search (rules, none)

pub returns-then-body-at-clause-body : goal.returns-then-body-at-clause-body
returns-then-body-at-clause-body c =
    let point = IsPartitionPoint-from_clause (is_earlier c.args.at) _ _ c.partition_point-number.ensures.partitioned
    (calls_parted c.args.bodies.now c.args.at c.requires) (λ a r f' k. search rules) in
    let there = there_as c.args.bodies.now c.partition_point-number.result c.in_ok-body.body.now c.in_ok-body.ensures.lookup.3.0 c.in_ok-body.ensures.lookup.1 in
    none_but c.args.bodies.now c.args.at c.requires c.partition_point-number.result point c.in_ok-body.body.now there c.if-body-at.true

pub returns-clause-body : goal.returns-clause-body
returns-clause-body c = record {
  body = c.in_ok-body.body.now;
  is = there_as c.args.bodies.now c.partition_point-number.result c.in_ok-body.body.now c.in_ok-body.ensures.lookup.3.0 c.in_ok-body.ensures.lookup.1;
  by_call = c.if-body-at.false;
}
