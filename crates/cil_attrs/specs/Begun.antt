-- What declared names hold before any statement gives a set something. No other crate needs these words.
use Rattle.std.specs.Prelude.{ℕ, Bool, false, ◌&&◌, ◌||◌, if◌then◌else◌, List, [], Option, get_or}
use Rattle.std.specs.Option.{option_map_or}
use Rattle.cil_syntax.specs.declared.kind.Kind.{Kind}
use Rattle.cil_known.specs.macros.Item.{OptSet}
use Rattle.cil_known.specs.names.Entry.{Entry}
use Rattle.cil_known.specs.names.Entries.{is_declared_in}
use Rattle.cil_attrs.specs.declared.evaluator.Held.{Held}
use Rattle.cil_attrs.specs.declared.evaluator.Held.TheVariants.{Nothing, Item, Set}
use Rattle.cil_attrs.specs.declared.giver.SetKind.{SetKind}
use Rattle.cil_attrs.specs.declared.giver.SpaceKinds.{SpaceKinds}
use Rattle.cil_attrs.specs.Holding.{is_kind}

abbrev pub has_kind : Option SetKind → Kind → Bool
has_kind sets kind = option_map_or (λ (j : SetKind). is_kind kind j.kind) sets false

-- the kind is that of aliases or of attributes
abbrev pub is_sets_kind : SpaceKinds → Kind → Bool
is_sets_kind r kind = has_kind r.aliases kind || has_kind r.attributes kind

-- a declared item holds its number, a set nothing yet, and any other name nothing ever
abbrev pub begun_as : SpaceKinds → OptSet → List ℕ → ℕ → Entry → Held
begun_as r s numbers d e =
    if is_kind e.kind r.item && is_declared_in s e then Item (get_or numbers d 0) else (if is_sets_kind r e.kind then Set [] else Nothing)
