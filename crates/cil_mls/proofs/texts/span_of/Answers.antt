use Rattle.std.proofs.Common.{◌<◌}
use Rattle.cil_mls.specs.Names.{IsNamed}
use Rattle.cil_mls.specs.LevelTexts.{one, from_to}
use Rattle.cil_mls.proofs.NameLemmas.{named_once, named_within}
use Rattle.cil_mls.proofs.SpanLemmas.{before, no_high, no_low, no_single, not_upwards}
use Rattle.cil_mls.proofs.texts.span_of.Goals as goal

pub returns-in_err-only-in-None : goal.returns-in_err-only-in-None
returns-in_err-only-in-None c = rw c.from_residual.ensures (no_single (IsNamed c.args.names.now) c.args.item.now c.in-None.ensures c.in_err-only-in-None.ensures)

pub returns-in_err-first-in-Some : goal.returns-in_err-first-in-Some
returns-in_err-first-in-Some c =
    rw c.from_residual-in_err-first-in-Some.ensures (no_low (IsNamed c.args.names.now) c.args.item.now _ _ c.in-Some.ensures c.in_err-first-in-Some.ensures)

pub returns-in_err-last-in-Some : goal.returns-in_err-last-in-Some
returns-in_err-last-in-Some c =
    rw c.from_residual-in_err-last-in-Some.ensures (no_high (IsNamed c.args.names.now) c.args.item.now _ _ c.in-Some.ensures c.in_err-last-in-Some.ensures)

pub returns-in_ok-only-in-None : goal.returns-in_ok-only-in-None
returns-in_ok-only-in-None c = (
  one c.args.item.now c.in_ok-only-in-None.only c.in-None.ensures c.in_ok-only-in-None.ensures,
  named_within c.args.names.now 1024 c.requires.within c.args.item.now c.in_ok-only-in-None.only c.in_ok-only-in-None.ensures,
)

pub returns-then-is_upwards : goal.returns-then-is_upwards
returns-then-is_upwards c = (
  from_to c.args.item.now _ _ _ _ c.in-Some.ensures c.in_ok-first-in-Some.ensures c.in_ok-last-in-Some.ensures (c.is_upwards.ensures.0 c.if-is_upwards.true),
  named_within c.args.names.now 1024 c.requires.within _ _ c.in_ok-last-in-Some.ensures,
)

pub returns-else-is_upwards : goal.returns-else-is_upwards
returns-else-is_upwards c =
    let down : c.in_ok-last-in-Some.last < c.in_ok-first-in-Some.first = before _ _ _ c.is_upwards.ensures c.if-is_upwards.false in
    not_upwards (IsNamed c.args.names.now) (named_once c.args.names.now c.requires.rising) c.args.item.now _ _ _ _ c.in-Some.ensures
    c.in_ok-first-in-Some.ensures c.in_ok-last-in-Some.ensures down
