use Rattle.std.proofs.Common.{◌≡◌, refl, subst, sym}
use Rattle.std.specs.Prelude.{None, Some, find}
use Rattle.cil_base.proofs.AtPlace.{past_end}
use Rattle.cil_names.specs.Entries.{is_declared_at, is_in, listed}
use Rattle.cil_names.proofs.EntryLemmas.{declared_there, none_there, not_declared}
use Rattle.cil_names.proofs.SoleLemmas.{at_got}
use Rattle.cil_names.proofs.enabled.where_declared.Goals as goal

pub returns-in_default-get : goal.returns-in_default-get
returns-in_default-get c =
    subst (λ o. None ≡ find (is_declared_at (is_in c.args.enabled.now) c.args.entries.now) (listed o)) (sym c.in-Some.is)
    (none_there (is_in c.args.enabled.now) c.args.entries.now c.in-Some.d (past_end c.args.entries.now c.args.entries.now c.in-Some.d refl c.in_default-get.ensures.lookup.3))

pub returns-then-not-is_declared : goal.returns-then-not-is_declared
returns-then-not-is_declared c =
    subst (λ o. None ≡ find (is_declared_at (is_in c.args.enabled.now) c.args.entries.now) (listed o)) (sym c.in-Some.is)
    (not_declared (is_in c.args.enabled.now) c.args.entries.now c.in-Some.d c.in-Some-get.entry.now
    (at_got c.args.entries.now c.in-Some.d c.in-Some-get.entry.now c.in-Some-get.ensures.lookup.3.0 c.in-Some-get.ensures.lookup.1) c.is_declared.result c.is_declared.ensures c.if-not-is_declared.true)

pub returns : goal.returns
returns c =
    subst (λ o. Some c.in-Some.d ≡ find (is_declared_at (is_in c.args.enabled.now) c.args.entries.now) (listed o)) (sym c.in-Some.is)
    (declared_there (is_in c.args.enabled.now) c.args.entries.now c.in-Some.d c.in-Some-get.entry.now
    (at_got c.args.entries.now c.in-Some.d c.in-Some-get.entry.now c.in-Some-get.ensures.lookup.3.0 c.in-Some-get.ensures.lookup.1) c.is_declared.result c.is_declared.ensures c.if-not-is_declared.false)
