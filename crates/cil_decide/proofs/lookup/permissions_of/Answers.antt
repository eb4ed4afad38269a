use Rattle.std.proofs.Common.{ℕ, List, [], refl, arith}
use Rattle.std.proofs.lemmas.Option.{slice_get_within}
use Rattle.cil_decide.proofs.TableRows.{in_row, no_row}
use Rattle.cil_decide.proofs.lookup.permissions_of.Goals as goal

pub returns-in-Some : goal.returns-in-Some
returns-in-Some c = λ bit name.
    let found = c.in-Some.ensures.lookup in
    in_row c.args.tables.now c.args.tables.now refl c.classes.result.now c.args.class.number c.classes.ensures.rows c.in-Some.row.now found.3.0 found.1 c.as_slice.result.now bit name c.as_slice.ensures

abbrev none : List (List ℕ)
none = []

pub returns-in-None : goal.returns-in-None
returns-in-None c = λ bit name. (
  λ p. absurd (no_row c.args.tables.now c.args.tables.now refl c.classes.result.now c.args.class.number c.classes.ensures.rows c.in-None.ensures.lookup.3 p.row p.is_row),
  λ at. let within = slice_get_within none bit name at in absurd (omega (arith, within)),
)
