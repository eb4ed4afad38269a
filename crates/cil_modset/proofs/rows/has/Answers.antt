use Rattle.cil_modset.proofs.PlaceLemmas.{found_or_absent}
use Rattle.cil_modset.proofs.RowLemmas.{home_contains, row_rises}
use Rattle.cil_modset.proofs.rows.has.Goals as goal

pub place_of-requires : goal.place_of-requires
place_of-requires c =
    rw c.as_slice-row.ensures.value
    (row_rises _ _ c.index-rows-home_of.result c.requires c.home_of.ensures.within c.index-rows-home_of.is)

pub returns : goal.returns
returns c =
    let found = rw c.as_slice-row.ensures.value at (found_or_absent _ _ c.place_of.result c.place_of.ensures.found c.place_of.ensures.absent) in
    let home = home_contains _ _ c.index-rows-home_of.result _ c.home_of.ensures c.index-rows-home_of.is in
    rw c.is_ok.ensures.value (λ e. home.0 (found.0 e), λ h. found.1 (home.1 h))
