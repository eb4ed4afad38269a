use Rattle.std.specs.Prelude.{All}
use Rattle.std.proofs.Common.{◌∙◌, subst}
use Rattle.cil_level_rows.specs.KeptRanges.{AreRangeWords}
use Rattle.cil_level_rows.proofs.KeptLemmas.{all_kept}
use Rattle.cil_level_rows.proofs.users.all_ranges.Goals as goal

pub returns : goal.returns
returns c =
    all_kept c.args.known.now c.args.ranges.now c.args.count c.in_ok-kept.kept.items c.in_ok-rows.rows.items c.in_ok-kept.ensures.len c.in_ok-kept.ensures.kept (c.in_ok-rows.ensures ∙ c.as_slice.ensures.value)
    (subst (All AreRangeWords) c.as_slice-2.ensures.value c.ranges_have_words.ensures)
