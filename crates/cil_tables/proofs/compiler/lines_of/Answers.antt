use Rattle.std.proofs.Common.{List, subst, sym}
use Rattle.cil_macros.specs.Items.{items_in}
use Rattle.cil_names.specs.Entries.{is_in}
use Rattle.cil_optionals.specs.Certificate.{IsRight}
use Rattle.cil_optionals.specs.Lines.{AreReasonsOf}
use Rattle.cil_optionals.specs.declared.reason.Reason.{Reason}
use Rattle.cil_tables.proofs.compiler.lines_of.Goals as goal

pub why_lines-requires : goal.why_lines-requires
why_lines-requires c = record {
  right = (is_in c.args.chosen.now.enabled, subst (IsRight (items_in c.args.instances.now) (is_in c.args.chosen.now.enabled)) (sym c.as_slice.ensures.value) c.requires.right);
}

pub returns-clause-reasons : goal.returns-clause-reasons
returns-clause-reasons c = subst (λ (rs : List Reason). AreReasonsOf (items_in c.args.instances.now) rs c.in_ok-reasons.reasons.items) c.as_slice.ensures.value c.in_ok-reasons.ensures
