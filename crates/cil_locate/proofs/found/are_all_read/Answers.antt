use Rattle.std.proofs.Common.{◌∙◌, sym, refl}
use Rattle.cil_locate.proofs.FoundLemmas.{all_are_read, no_reading_yet, one_more_read, some_unread}
use Rattle.cil_locate.proofs.found.are_all_read.Goals as goal

pub loop-fault-init : goal.loop-fault-init
loop-fault-init c = no_reading_yet c.args.faults.now

pub returns-then-is_some : goal.returns-then-is_some
returns-then-is_some c = (
  λ t. absurd cc,
  λ all. absurd (some_unread _ _ c.loop-fault-test.true (sym c.is_some.ensures ∙ c.if-is_some.true) all),
)

pub loop-fault-preserved : goal.loop-fault-preserved
loop-fault-preserved c = one_more_read _ _ c.loop-fault-test.true (sym c.is_some.ensures ∙ c.if-is_some.false) c.loop-fault.invariant

pub returns : goal.returns
returns c = (λ t. all_are_read _ _ c.loop-fault-test.false c.loop-fault.invariant, λ all. refl)
