use Rattle.std.proofs.Common.{[]}
use Rattle.std.proofs.Common.{ap}
use Rattle.cil_index.specs.rules.Kept.{rule_named, set_named, target_named}
use Rattle.cil_neverallow.specs.Ends.{AreInAll, AreInBoth}
use Rattle.cil_neverallow.proofs.EndLemmas.{both_back, both_there, first_back, first_there, no_source, no_target, one_end_of, second_back, second_there, two_ends}
use Rattle.cil_neverallow.proofs.overlap.first_ends.Goals as goal

pub returns-in_err-source-in-Types-Types : goal.returns-in_err-source-in-Types-Types
returns-in_err-source-in-Types-Types c =
    rw c.from_residual.ensures (no_source (rule_named [] c.args.types.now c.args.rule.now) (rule_named [] c.args.types.now c.args.other.now) c.in_err-source-in-Types-Types.ensures)

pub returns-in_err-target-in-Types-Types : goal.returns-in_err-target-in-Types-Types
returns-in_err-target-in-Types-Types c =
    let sets = c.args.types.now in
    rw c.from_residual-in_err-target-in-Types-Types.ensures
    (no_target (rule_named [] sets c.args.rule.now) (rule_named [] sets c.args.other.now) (set_named sets c.in-Types-Types.mine) (set_named sets c.in-Types-Types.theirs)
    (ap (target_named sets) c.in-Types-Types.is-0) (ap (target_named sets) c.in-Types-Types.is-1) c.in_err-target-in-Types-Types.ensures)

pub returns-in_ok-target-in-Types-Types : goal.returns-in_ok-target-in-Types-Types
returns-in_ok-target-in-Types-Types c =
    let sets = c.args.types.now in
    two_ends (rule_named [] sets c.args.rule.now) (rule_named [] sets c.args.other.now) (set_named sets c.in-Types-Types.mine) (set_named sets c.in-Types-Types.theirs)
    (ap (target_named sets) c.in-Types-Types.is-0) (ap (target_named sets) c.in-Types-Types.is-1) c.in_ok-source-in-Types-Types.source c.in_ok-target-in-Types-Types.target
    c.in_ok-source-in-Types-Types.ensures c.in_ok-target-in-Types-Types.ensures

pub returns-in-Types-Itself : goal.returns-in-Types-Itself
returns-in-Types-Itself c =
    let sets = c.args.types.now in
    let r = rule_named [] sets c.args.rule.now in
    let q = rule_named [] sets c.args.other.now in
    let x = set_named sets c.in-Types-Itself.set in
    rw c.one_end.ensures
    (one_end_of r q (AreInAll r.source q.source x) (second_there r q x (ap (target_named sets) c.in-Types-Itself.is-0) (ap (target_named sets) c.in-Types-Itself.is-1))
    (second_back r q x (ap (target_named sets) c.in-Types-Itself.is-0) (ap (target_named sets) c.in-Types-Itself.is-1)) c.least_in_all.result c.least_in_all.ensures)

pub returns-in-Itself-Types : goal.returns-in-Itself-Types
returns-in-Itself-Types c =
    let sets = c.args.types.now in
    let r = rule_named [] sets c.args.rule.now in
    let q = rule_named [] sets c.args.other.now in
    let x = set_named sets c.in-Itself-Types.set in
    rw c.one_end-in-Itself-Types.ensures
    (one_end_of r q (AreInAll r.source q.source x) (first_there r q x (ap (target_named sets) c.in-Itself-Types.is-0) (ap (target_named sets) c.in-Itself-Types.is-1))
    (first_back r q x (ap (target_named sets) c.in-Itself-Types.is-0) (ap (target_named sets) c.in-Itself-Types.is-1)) c.least_in_all-in-Itself-Types.result c.least_in_all-in-Itself-Types.ensures)

pub returns-in-Itself-Itself : goal.returns-in-Itself-Itself
returns-in-Itself-Itself c =
    let sets = c.args.types.now in
    let r = rule_named [] sets c.args.rule.now in
    let q = rule_named [] sets c.args.other.now in
    rw c.one_end-in-Itself-Itself.ensures
    (one_end_of r q (AreInBoth r.source q.source) (both_there r q (ap (target_named sets) c.in-Itself-Itself.is-0) (ap (target_named sets) c.in-Itself-Itself.is-1))
    (both_back r q (ap (target_named sets) c.in-Itself-Itself.is-0)) c.least_in_both-in-Itself-Itself.result c.least_in_both-in-Itself-Itself.ensures)
