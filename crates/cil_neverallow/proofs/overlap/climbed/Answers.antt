use Rattle.cil_neverallow.proofs.EndLemmas.{is_climb, none_from, none_middle, none_to}
use Rattle.cil_neverallow.proofs.overlap.climbed.Goals as goal

pub returns-in_err-from : goal.returns-in_err-from
returns-in_err-from c = rw c.from_residual.ensures (none_from c.args.first.now c.args.second.now c.args.third.now c.args.start c.in_err-from.ensures)

pub returns-in_err-middle : goal.returns-in_err-middle
returns-in_err-middle c =
    rw c.from_residual-in_err-middle.ensures (none_middle c.args.first.now c.args.second.now c.args.third.now c.args.start c.in_ok-from.from c.in_ok-from.ensures c.in_err-middle.ensures)

pub returns-in_err-to : goal.returns-in_err-to
returns-in_err-to c =
    rw c.from_residual-in_err-to.ensures
    (none_to c.args.first.now c.args.second.now c.args.third.now c.args.start c.in_ok-from.from c.in_ok-middle.middle c.in_ok-from.ensures c.in_ok-middle.ensures c.in_err-to.ensures)

pub returns : goal.returns
returns c =
    is_climb c.args.first.now c.args.second.now c.args.third.now c.args.start c.in_ok-from.from c.in_ok-middle.middle c.in_ok-to.to c.in_ok-from.ensures c.in_ok-middle.ensures c.in_ok-to.ensures
