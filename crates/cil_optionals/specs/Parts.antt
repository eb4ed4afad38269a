-- What the choice of optionals goes by: of each statement whether it is an optional, the optional round it, and what its words
-- could name; and when each reason holds, as tests over these. No other crate needs these words.
use Rattle.std.specs.Prelude.{◌≡◌, ℕ, Bool, true, false, ◌&&◌, ◌||◌, ◌==◌, not, List, [], ◌∷◌, map, take, None, Option, Some, slice_get}
use Rattle.std.specs.List.{list_all, list_any}
use Rattle.std.specs.Option.{option_map_or}
use Rattle.cil_base.specs.Among.{among}
use Rattle.cil_blocks.specs.Contents.{is_optional}
use Rattle.cil_blocks.specs.Namespaces.{AreNamespaces}
use Rattle.cil_blocks.specs.declared.namespaces.Space.{Space}
use Rattle.cil_macros.specs.Item.{Item, OptSet, innermost}
use Rattle.cil_macros.specs.Items.{items_in}
use Rattle.cil_macros.specs.Rounds.{AreNested}
use Rattle.cil_names.specs.declared.entry.Entry.{Entry}
use Rattle.cil_names.specs.Entries.{AreEntries, is_declared_at}
use Rattle.cil_words.specs.Table.{asks, could_in}
use Rattle.cil_optionals.specs.declared.parts.Parts.{Parts}
use Rattle.cil_optionals.specs.declared.reason.Reason.{Reason}
use Rattle.cil_optionals.specs.declared.reason.Reason.TheVariants.{Missing, ParentOut}
use Rattle.cil_optionals.specs.Certificate.{left_out}

-- what the choice reads of a statement
pub record Part : Type 0 where
  -- whether it is an optional
  pub optional : Bool
  -- the number of the innermost optional round it
  pub inside : Option ℕ
  -- for each of its words the entries that it could name, whatever is enabled
  pub asked : List (List ℕ)

-- the part of a statement with this row of what its words could name
abbrev pub part_with : Item → List (List ℕ) → Part
part_with x asked = record { optional = is_optional x.keyword; inside = innermost x; asked = asked }

-- the parts of statements, each with its row; one for which there is no row asks for nothing
unfoldable pub parts_with : List Item → List (List (List ℕ)) → List Part
parts_with [] rows = []
parts_with (x ∷ xs) [] = part_with x [] ∷ parts_with xs []
parts_with (x ∷ xs) (row ∷ rows) = part_with x row ∷ parts_with xs rows

-- what the choice reads, as it is kept
abbrev pub parts_in : Parts → List Part
parts_in p = parts_with (items_in p.instances.now) (could_in p.asks.now)

abbrev pub part_of : List Space → List Entry → List Item → Item → Part
part_of ss es xs x = part_with x (asks ss es xs x)

-- the parts are those of these items
pub record ArePartsOf (ss : List Space) (es : List Entry) (xs : List Item) (ps : List Part) : Type 0 where
  pub namespaces : AreNamespaces ss
  pub entries : AreEntries ss xs es
  pub nested : AreNested xs
  pub parts : ps ≡ map (part_of ss es xs) xs

-- ---- the part of a number

-- the innermost optional round a statement, and what its words could name; nothing of one that is not there
abbrev pub inside_of : Option Part → Option ℕ
inside_of None = None
inside_of (Some p) = p.inside

abbrev pub asked_of : Option Part → List (List ℕ)
asked_of None = []
asked_of (Some p) = p.asked

abbrev pub inside_at : List Part → ℕ → Option ℕ
inside_at ps at = inside_of (slice_get ps at)

abbrev pub asked_at : List Part → ℕ → List (List ℕ)
asked_at ps at = asked_of (slice_get ps at)

-- ---- tests

-- what can be named where some optionals are in force: one of these entries is declared
abbrev pub WordTest : Type 0
WordTest = List ℕ → Bool

abbrev pub names_one : List Entry → OptSet → WordTest
names_one es s ds = list_any (is_declared_at s es) ds

-- the part of this number is that of an optional
abbrev pub is_optional_part : List Part → ℕ → Bool
is_optional_part ps o = option_map_or (λ (p : Part). p.optional) (slice_get ps o) false

-- the innermost optional round a statement is this one
abbrev pub is_inside : ℕ → Option ℕ → Bool
is_inside o inside = option_map_or (λ p. p == o) inside false

-- the innermost optional round a statement is out
abbrev pub is_outside : OptSet → Option ℕ → Bool
is_outside s inside = option_map_or (λ p. not (s p)) inside false

-- the word of this number names nothing
abbrev pub lacks : WordTest → List (List ℕ) → ℕ → Bool
lacks names asked j = option_map_or (λ ds. not (names ds)) (slice_get asked j) false

abbrev pub parent_is_out : OptSet → Part → Bool
parent_is_out s p = is_outside s p.inside

abbrev pub word_is_missing : WordTest → ℕ → ℕ → Part → Bool
word_is_missing names o j p = is_inside o p.inside && lacks names p.asked j

-- a reason holds where these optionals are left
abbrev pub holds_in : List Part → OptSet → WordTest → Reason → Bool
holds_in ps s names (ParentOut o) = option_map_or (parent_is_out s) (slice_get ps o) false
holds_in ps s names (Missing o i j) = option_map_or (word_is_missing names o j) (slice_get ps i) false

-- the optional of a reason is left, and the reason holds
abbrev pub is_step : List Part → OptSet → WordTest → Reason → Bool
is_step ps s names r = s (left_out r) && holds_in ps s names r

-- in the optional of this number all is well with a statement: the optional is in force if the statement is one that is in
-- force, and if the optional is in force, all words name something
abbrev pub is_well_inside : OptSet → WordTest → ℕ → List (List ℕ) → ℕ → Bool
is_well_inside s names at asked q = (not (s at) || s q) && (not (s q) || list_all names asked)

abbrev pub is_well : OptSet → WordTest → ℕ → Part → Bool
is_well s names at p = option_map_or (is_well_inside s names at p.asked) p.inside true

-- ---- a right choice

-- the optionals that are left after these reasons
abbrev pub left_after : List Part → List Reason → OptSet
left_after ps rs o = is_optional_part ps o && not (among (map left_out rs) o)

-- each reason holds where those before it have taken out their optionals; the enabled ones are left; and all is well with these
pub record IsShown (ps : List Part) (es : List Entry) (enabled : OptSet) (rs : List Reason) : Type 0 where
  pub steps : (k : ℕ) (r : Reason) → slice_get rs k ≡ Some r
      → is_step ps (left_after ps (take k rs)) (names_one es (left_after ps (take k rs))) r ≡ true
  pub left : (o : ℕ) → enabled o ≡ left_after ps rs o
  pub well : (at : ℕ) (p : Part) → slice_get ps at ≡ Some p → is_well (left_after ps rs) (names_one es (left_after ps rs)) at p ≡ true
