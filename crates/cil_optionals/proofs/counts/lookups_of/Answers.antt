use Rattle.std.specs.Prelude.{Bool, List, map, sum_by}
use Rattle.std.proofs.Common.{ap, ◌∙◌}
use Rattle.cil_macros.specs.Items.{items_in}
use Rattle.cil_names.specs.Entries.{is_declared_in, is_in}
use Rattle.cil_optionals.specs.Parts.{parts_in}
use Rattle.cil_optionals.specs.PartCounts.{lost_inside}
use Rattle.cil_optionals.proofs.CountLemmas.{counted_so}
use Rattle.cil_optionals.proofs.counts.lookups_of.Goals as goal

pub returns : goal.returns
returns c =
    counted_so (items_in c.args.instances.now) (parts_in c.args.parts.now) c.args.entries.now (is_in c.args.enabled.now) c.in_ok-declared.declared.items c.in_ok-statements.statements
    c.in_ok-candidates.candidates c.in_ok-lookups.lookups
    (c.in_ok-declared.ensures ∙ ap (λ (l : List Bool). map (is_declared_in (is_in l)) c.args.entries.now) c.as_slice.ensures) c.in_ok-statements.ensures
    (c.in_ok-candidates.ensures ∙ ap (λ (l : List Bool). sum_by (lost_inside l) (parts_in c.args.parts.now)) c.as_slice-2.ensures.value) c.in_ok-lookups.ensures
