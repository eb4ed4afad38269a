use Rattle.std.specs.Prelude.{MatchOption}
use Rattle.std.proofs.Common.{◌≡◌, subst}
use Rattle.cil_labels.specs.Parts.{AreApart, table_of}
use Rattle.cil_level_rows.proofs.rows.level_rows.Goals as goal

pub unreachable-requires : goal.unreachable-requires
unreachable-requires c =
    let table = table_of c.in_ok-parts.parts in
    (subst (λ o. MatchOption o (AreApart table → ⊥) (λ labels. labels ≡ table)) c.in_default.is c.in_ok-labels.ensures) c.in_ok-parts.ensures.apart
