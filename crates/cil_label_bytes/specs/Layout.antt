-- The sections of tables that levels are in: categories, their aliases, sensitivities, their aliases, and users. This project's profile.
use Rattle.std.specs.Prelude.{ℕ, Bool, false, not, nat_le, List, [], ◌∷◌, length, map, Option, Some, None, slice_get}
use Rattle.std.specs.List.{list_any}
use Rattle.cil_syntax.specs.Spelling.{same_bytes}
use Rattle.cil_mls.specs.declared.categories.Categories.{Categories}
use Rattle.cil_mls.specs.declared.level.Level.{Level}
use Rattle.cil_mls.specs.declared.level.Range.{Range}
use Rattle.cil_mls.specs.declared.named.Named.{Named}
use Rattle.cil_mls.specs.Bits.{in_words}
use Rattle.cil_mls.specs.Dominance.{are_covered, dominates}
use Rattle.cil_labels.specs.LevelTable.{LevelTable}
use Rattle.cil_format.specs.declared.fault.TableFault.TheVariants.{OutOfRange}
use Rattle.cil_format.specs.Fields.{by_text, small}
use Rattle.cil_format.specs.Format.{Format, as_type, both, checked, choose, listing, section}
use Rattle.cil_label_bytes.specs.Names.{name}
use Rattle.cil_label_bytes.specs.Sets.{categories_below}

-- what tables hold of levels, and the names of users
pub record LabelNames : Type 0 where
  pub levels : LevelTable
  pub users : List (List ℕ)

-- ---- categories

-- no one of these
abbrev pub is_new : List (List ℕ) → List ℕ → Bool
is_new names text = not (list_any (same_bytes text) names)

-- a name that is not among these
abbrev pub new_name : List (List ℕ) → Format (List ℕ)
new_name names = checked (is_new names) OutOfRange name

-- in their order, each once
abbrev pub categories : Format (List (List ℕ))
categories = listing (λ n. nat_le n 1024) new_name

-- ---- aliases

abbrev pub alias_of : List ℕ × ℕ → Named
alias_of p = record { name = p.0; place = p.1 }

-- an alias of an item with one of these names, and named as none of them
abbrev pub alias : List (List ℕ) → Format Named
alias names = as_type alias_of (λ a. (a.name, a.place)) (both (new_name names) (λ n. small (length names)))

-- a section whose records are as many as its count can say
abbrev pub any_count : ℕ → Bool
any_count n = nat_le n 4294967295

abbrev pub aliases : List (List ℕ) → Format (List Named)
aliases names = section by_text any_count (alias names)

-- ---- sensitivities

-- pairs as two lists
abbrev pub zipped : {A B : Type 0} → List A → List B → List (A × B)
zipped [] bs = []
zipped (a ∷ more) [] = []
zipped (a ∷ more) (b ∷ bs) = (a, b) ∷ zipped more bs

abbrev pub pairs_of : {A B : Type 0} → List A × List B → List (A × B)
pairs_of p = zipped p.0 p.1

abbrev pub lists_of : {A B : Type 0} → List (A × B) → List A × List B
lists_of ps = (map (λ p. p.0) ps, map (λ p. p.1) ps)

-- a sensitivity: a name that is not among those before, and the categories that it permits
abbrev pub sensitivity : ℕ → List (List ℕ × Categories) → Format (List ℕ × Categories)
sensitivity count before = both (new_name (lists_of before).0) (λ n. categories_below count)

-- in their order, each once: the names and the sets
abbrev pub sensitivities : ℕ → Format (List (List ℕ) × List Categories)
sensitivities count = as_type lists_of pairs_of (listing (λ n. nat_le n 256) (sensitivity count))

-- ---- levels

-- whether a set that may be missing has a category
abbrev pub set_has : Option Categories → ℕ → Bool
set_has None c = false
set_has (Some set) c = in_words set.words c

-- the sensitivity at this place permits all of these categories
abbrev pub permits : List Categories → ℕ → Categories → Bool
permits permitted place set = are_covered 1024 (set_has (slice_get permitted place)) (in_words set.words)

abbrev pub level_of : ℕ × Categories → Level
level_of p = record { sensitivity = p.0; categories = p.1 }

-- a level, of so many categories, and of sensitivities that permit these
abbrev pub level : ℕ → List Categories → Format Level
level count permitted =
    as_type level_of (λ l. (l.sensitivity, l.categories)) (both (small (length permitted)) (λ place. checked (permits permitted place) OutOfRange (categories_below count)))

abbrev pub range_of : Level × Level → Range
range_of p = record { low = p.0; high = p.1 }

-- two levels, of which the high one dominates the low one
abbrev pub range : ℕ → List Categories → Format Range
range count permitted =
    as_type range_of (λ r. (r.low, r.high)) (both (level count permitted) (λ low. checked (λ high. dominates high low) OutOfRange (level count permitted)))

-- ---- users

abbrev pub user_count : ℕ → Bool
user_count n = nat_le n 4096

-- users with their ranges
abbrev pub ranged_users : ℕ → List Categories → Format (List (List ℕ) × List Range)
ranged_users count permitted = as_type lists_of pairs_of (section by_text user_count (both name (λ n. range count permitted)))

-- users without
abbrev pub plain_users : Format (List (List ℕ) × List Range)
plain_users = as_type (λ names. (names, [])) (λ p. p.0) (section by_text user_count name)

-- the names of users, and their ranges where levels are on
abbrev pub users : Bool → ℕ → List Categories → Format (List (List ℕ) × List Range)
users are_on count permitted = choose are_on (ranged_users count permitted) plain_users

-- ---- the five sections

-- categories, and their aliases
abbrev pub category_part : Format (List (List ℕ) × List Named)
category_part = both categories aliases

-- sensitivities with what they permit, and their aliases
abbrev pub sensitivity_part : ℕ → Format ((List (List ℕ) × List Categories) × List Named)
sensitivity_part count = both (sensitivities count) (λ s. aliases s.0)

-- what the sections say
abbrev pub Parts : Type 0
Parts = (List (List ℕ) × List Named) × (((List (List ℕ) × List Categories) × List Named) × (List (List ℕ) × List Range))

abbrev pub labels_of : Bool → Parts → LabelNames
labels_of are_on p = record {
  levels = record {
    are_on = are_on;
    categories = p.0.0;
    category_aliases = p.0.1;
    sensitivities = p.1.0.0.0;
    permitted = p.1.0.0.1;
    sensitivity_aliases = p.1.0.1;
    users = p.1.1.1;
  };
  users = p.1.1.0;
}

abbrev pub parts_of : LabelNames → Parts
parts_of t = (
  (t.levels.categories, t.levels.category_aliases),
  (((t.levels.sensitivities, t.levels.permitted), t.levels.sensitivity_aliases), (t.users, t.levels.users)),
)

-- sections 1 to 5, where levels are on or off
unfoldable pub labels : Bool → Format LabelNames
labels are_on =
    as_type (labels_of are_on) parts_of
    (both category_part (λ c. both (sensitivity_part (length c.0)) (λ s. users are_on (length c.0) s.0.1)))
