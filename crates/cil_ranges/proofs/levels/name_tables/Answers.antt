use Rattle.std.specs.Prelude.{List, Option}
use Rattle.std.proofs.Common.{subst, sym}
use Rattle.cil_mls.specs.declared.level.Level.{Level}
use Rattle.cil_ranges.specs.Reading.{HasLevels}
use Rattle.cil_ranges.proofs.MadeLemmas.{measures_by}
use Rattle.cil_ranges.proofs.levels.name_tables.Goals as goal

pub returns : goal.returns
returns c = λ g items right.
    let measures = measures_by c.args.known.now c.args.measured.now c.args.count g c.scale_of-scale.result c.scale_of-scale.ensures right in
    let levels = c.in_ok-levels.ensures g items measures in
    record {
      levels = levels;
      ranges = c.in_ok-ranges.ensures g items measures (subst (λ (l : List (Option Level)). HasLevels c.args.known.now l g) (sym c.as_slice.ensures.value) levels);
    }
