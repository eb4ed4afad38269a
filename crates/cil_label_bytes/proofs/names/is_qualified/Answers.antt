use Rattle.std.specs.Prelude.{◌==◌}
use Rattle.std.proofs.Common.{rules}
use Rattle.std.proofs.lemmas.Iterator.Search.{all_from_yields_List}
use Rattle.std.proofs.lemmas.Iterator.Splits.{YieldsList-from_slice_split}
use Rattle.cil_label_bytes.specs.Names.{is_part}
use Rattle.cil_label_bytes.proofs.names.is_qualified.Goals as goal

pub returns : goal.returns
returns c =
    all_from_yields_List is_part _ _ _ c.all.ensures.ran
    (YieldsList-from_slice_split _ (λ b. b == 46) _ c.split.ensures.rest c.split.ensures.done c.split.ensures.closure (λ x b q k. search rules))
    (λ x b q k. search rules)
