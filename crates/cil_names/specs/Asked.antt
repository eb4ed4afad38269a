-- What a placed statement asks for. Only this crate and cil_words need these words.
use Rattle.std.specs.Prelude.{◌≡◌, List, [], ◌∷◌, false, map}
use Rattle.std.specs.List.{flat_map}
use Rattle.cil_macros.specs.Calls.{is_call}
use Rattle.cil_macros.specs.Items.{all_placed, scoped_by}
use Rattle.cil_macros.specs.Placed.{Placed}
use Rattle.cil_names.specs.declared.asked.Asked.{Asked}
use Rattle.cil_names.specs.declared.asked.Asked.TheVariants as asked
use Rattle.cil_names.specs.declared.reading.Reading.{Reading}
use Rattle.cil_names.specs.Readings.{ReadsWords}
use Rattle.cil_names.specs.Resolves.{Permission, Wanted, Word}

-- what is wanted, each word in the scope of its place
abbrev pub wanted_by : List Placed → Asked → List Wanted
wanted_by ps (asked.Word w) = Word (scoped_by ps w) ∷ []
wanted_by ps (asked.ClassList c ws) = Word (scoped_by ps c) ∷ map (λ w. Permission (scoped_by ps c) (scoped_by ps w)) ws.items

abbrev pub asked_by : Reading → List Asked → List Wanted
asked_by r them = flat_map (wanted_by (all_placed r.instances.now)) them

-- the statement is no call, and says words alone
pub record SaysWritten (r : Reading) : Type 0 where
  pub here : is_call r.statement.now.keyword ≡ false
  pub words : ReadsWords r
