use Rattle.cil_base.proofs.AtPlace.{at_place, past_end}
use Rattle.cil_labels.proofs.SoundLemmas.{cleared_to, none_cleared, not_from}
use Rattle.cil_labels.proofs.labels.Labels.is_cleared.Goals as goal

pub returns-in_default : goal.returns-in_default
returns-in_default c =
    let t = c.args.self.now in
    none_cleared t c.args.user c.args.low.now c.args.high.now (past_end c.users.result.now t.users c.args.user c.users.ensures c.in_default.ensures.lookup.3)

pub returns-then-dominates : goal.returns-then-dominates
returns-then-dominates c =
    let t = c.args.self.now in
    let found = c.in-Some.ensures.lookup in
    cleared_to t c.args.user c.args.low.now c.args.high.now c.in-Some.range.now (at_place c.users.result.now t.users c.args.user c.users.ensures c.in-Some.range.now found.3.0 found.1) _
    (c.dominates.ensures.0 c.if-dominates.true) c.dominates-then-dominates.ensures

pub returns-else-dominates : goal.returns-else-dominates
returns-else-dominates c =
    let t = c.args.self.now in
    let found = c.in-Some.ensures.lookup in
    not_from t c.args.user c.args.low.now c.args.high.now c.in-Some.range.now (at_place c.users.result.now t.users c.args.user c.users.ensures c.in-Some.range.now found.3.0 found.1) _
    c.dominates.ensures c.if-dominates.false
