use Rattle.std.specs.Prelude.{◌≡◌, true, false}
use Rattle.std.proofs.Common.{subst, sym}
use Rattle.cil_names.specs.Entries.{is_in}
use Rattle.cil_optionals.specs.Parts.{IsShown, parts_in}
use Rattle.cil_optionals.specs.Removals.{IsTaken}
use Rattle.cil_optionals.proofs.RemovalLemmas.{shown_by, taken_none}
use Rattle.cil_optionals.proofs.removal.by_removal.Goals as goal

pub loop-taken-init : goal.loop-taken-init
loop-taken-init c = (
  subst (IsTaken (parts_in c.args.parts.now) c.args.entries.now c.in_ok-left.left.items) (sym c.new-reasons.ensures.items)
      (taken_none (parts_in c.args.parts.now) c.args.entries.now c.in_ok-left.left.items c.in_ok-left.ensures),
  λ e. absurd (let g : true ≡ false = e in cc),
)

pub returns : goal.returns
returns c =
    subst (λ flags. IsShown (parts_in c.args.parts.now) c.args.entries.now (is_in flags) c.loop-taken.reasons.items) (sym c.of.ensures)
    (shown_by (parts_in c.args.parts.now) c.args.entries.now c.loop-taken.left.items c.loop-taken.reasons.items c.loop-taken.invariant.0 (c.loop-taken.invariant.1 c.loop-taken-test.false))
