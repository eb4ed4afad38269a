use Rattle.std.proofs.Common.{◌++◌, ◌∷◌, ◌∙◌, [], ap}
use Rattle.cil_base.specs.MadeLists.{all_mapped, one_mapped}
use Rattle.cil_names.specs.Entries.{is_declared_in, is_in}
use Rattle.cil_names.proofs.enabled.flags_of.Goals as goal

pub loop-entry-preserved : goal.loop-entry-preserved
loop-entry-preserved c =
    one_mapped (is_declared_in (is_in c.args.enabled.now)) c.args.entries.now _ _ _ [] _ _ c.loop-entry-test.true c.entry-item.is c.loop-entry.invariant
    (c.in_ok-push.ensures.items ∙ ap (λ b. c.loop-entry.flags.items ++ b ∷ []) c.is_declared.ensures)

pub returns : goal.returns
returns c = all_mapped (is_declared_in (is_in c.args.enabled.now)) c.args.entries.now _ [] _ c.loop-entry-test.false c.loop-entry.invariant
