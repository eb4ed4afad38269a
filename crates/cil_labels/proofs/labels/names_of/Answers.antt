use Rattle.std.proofs.Common.{subst}
use Rattle.cil_mls.specs.Names.{AreNames}
use Rattle.cil_labels.specs.Parts.{table_of}
use Rattle.cil_labels.proofs.IndexLemmas.{are_indexed, not_apart}
use Rattle.cil_labels.proofs.labels.names_of.Goals as goal

pub returns-in_default : goal.returns-in_default
returns-in_default c =
    not_apart (table_of c.args.parts.now) _ _ _ _ _ _ c.as_slice.ensures.value c.as_slice-2.ensures.value c.as_slice-3.ensures.value c.as_slice-4.ensures.value
    c.in_ok-sensitivities.ensures c.in_ok-categories.ensures c.in_default.ensures

pub returns : goal.returns
returns c =
    are_indexed (table_of c.args.parts.now) _ _ _ _ _ _ c.as_slice.ensures.value c.as_slice-2.ensures.value c.as_slice-3.ensures.value c.as_slice-4.ensures.value
    c.in_ok-sensitivities.ensures c.in_ok-categories.ensures c.in-Some.names c.in-Some.ensures
    (subst (AreNames 256) c.sensitivities.ensures.names c.sensitivities.ensures.rising) (subst (AreNames 1024) c.categories.ensures.names c.categories.ensures.rising)
