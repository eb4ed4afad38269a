-- Worked bytes of sections, computed.
use Rattle.std.proofs.Common.{◌≡◌, ℕ, List, [], ◌∷◌, ◌++◌, Ok, Err, true, false, refl}
use Rattle.std.specs.Prelude.{codes}
use Rattle.cil_format.specs.declared.fault.TableFault.TheVariants.{Short, NotCanonical, OutOfRange}
use Rattle.cil_mls.specs.declared.categories.Categories.{Categories}
use Rattle.cil_mls.specs.declared.level.Level.{Level}
use Rattle.cil_mls.specs.Dominance.{are_covered, dominates}
use Rattle.cil_format.specs.Fields.{text}
use Rattle.cil_format.specs.Format.{many_at, each_at, rising_at}
use Rattle.cil_label_bytes.specs.Layout.{LabelNames, aliases, categories, labels, range, sensitivities, users}
use Rattle.cil_label_bytes.specs.Sets.{categories_below, passing, word_of, words_from, words_of}

-- ---- categories and their aliases

abbrev count_of : ℕ → List ℕ
count_of n = 0 ∷ 0 ∷ 0 ∷ n ∷ []

abbrev word : List ℕ → List ℕ
word w = text.spell w

abbrev c0 : List ℕ
c0 = codes "c0"

abbrev c1 : List ℕ
c1 = codes "c1"

-- in any order of their names
categories_read : categories.read (count_of 2 ++ word c1 ++ word c0) ≡ Ok (c1 ∷ c0 ∷ [], [])
unfolding each_at
categories_read = refl

-- a name twice is told at the name, before the end of what follows
category_twice : categories.read (count_of 3 ++ word c1 ++ word c1) ≡ Err OutOfRange
unfolding each_at
category_twice = refl

category_short : categories.read (count_of 3 ++ word c1 ++ word c0) ≡ Err Short
unfolding each_at
category_short = refl

-- one too many, before their records
categories_many : categories.read (0 ∷ 0 ∷ 4 ∷ 1 ∷ []) ≡ Err OutOfRange
unfolding each_at
categories_many = refl

categories_most : categories.read (0 ∷ 0 ∷ 4 ∷ 0 ∷ []) ≡ Err Short
unfolding each_at
categories_most = refl

aliases_read : (aliases (c0 ∷ c1 ∷ [])).read (count_of 2 ++ word (codes "a") ++ (0 ∷ 1 ∷ []) ++ word (codes "b") ++ (0 ∷ 0 ∷ [])) ≡
    Ok (record { name = codes "a"; place = 1 } ∷ record { name = codes "b"; place = 0 } ∷ [], [])
unfolding rising_at
aliases_read = refl

-- an alias that is named as a category is told at its name
alias_named_so : (aliases (c0 ∷ [])).read (count_of 1 ++ word c0) ≡ Err OutOfRange
unfolding rising_at
alias_named_so = refl

alias_of_none : (aliases (c0 ∷ [])).read (count_of 1 ++ word (codes "a") ++ (0 ∷ 1 ∷ [])) ≡ Err OutOfRange
unfolding rising_at
alias_of_none = refl

-- one name twice, or names that fall, are told at the end of the record
alias_twice : (aliases (c0 ∷ c1 ∷ [])).read (count_of 2 ++ word (codes "a") ++ (0 ∷ 0 ∷ []) ++ word (codes "a") ++ (0 ∷ 1 ∷ [])) ≡ Err NotCanonical
unfolding rising_at
alias_twice = refl

alias_falls_late : (aliases (c0 ∷ c1 ∷ [])).read (count_of 2 ++ word (codes "b") ++ (0 ∷ 0 ∷ []) ++ word (codes "a") ++ (0 ∷ 2 ∷ [])) ≡ Err OutOfRange
unfolding rising_at
alias_falls_late = refl

-- a shorter name comes before those that it begins, however many bytes say its size
alias_order : (aliases (c0 ∷ [])).read (count_of 2 ++ word (codes "ab") ++ (0 ∷ 0 ∷ []) ++ word (codes "b") ++ (0 ∷ 0 ∷ [])) ≡
    Ok (record { name = codes "ab"; place = 0 } ∷ record { name = codes "b"; place = 0 } ∷ [], [])
unfolding rising_at
alias_order = refl

-- ---- sets of categories

set_bytes : List ℕ
set_bytes = 0 ∷ 2 ∷ 0 ∷ 1 ∷ 3 ∷ 255 ∷ []

set_read : (categories_below 1024).read set_bytes ≡ Ok (record { words = 2 ∷ 0 ∷ 0 ∷ 0 ∷ 0 ∷ 0 ∷ 0 ∷ 0 ∷ 0 ∷ 0 ∷ 0 ∷ 0 ∷ 0 ∷ 0 ∷ 0 ∷ 9223372036854775808 ∷ [] }, [])
unfolding many_at word_of words_from set_bytes
set_read = refl

set_written : (categories_below 1024).spell (words_of (1 ∷ 1023 ∷ [])) ≡ set_bytes
unfolding passing word_of words_from set_bytes
set_written = refl

-- a set of more members than there are categories
set_large : (categories_below 1).read (0 ∷ 2 ∷ []) ≡ Err OutOfRange
unfolding many_at
set_large = refl

-- ---- sensitivities

sensitivity_twice : (sensitivities 1).read (count_of 2 ++ word c0 ++ (0 ∷ 0 ∷ []) ++ word c0 ++ (0 ∷ 9 ∷ [])) ≡ Err OutOfRange
unfolding each_at many_at
sensitivity_twice = refl

sensitivities_many : (sensitivities 1).read (0 ∷ 0 ∷ 1 ∷ 1 ∷ []) ≡ Err OutOfRange
unfolding each_at many_at
sensitivities_many = refl

sensitivity_falls : (sensitivities 2).read (count_of 1 ++ word c0 ++ (0 ∷ 2 ∷ 0 ∷ 1 ∷ 0 ∷ 1 ∷ [])) ≡ Err NotCanonical
unfolding each_at many_at
sensitivity_falls = refl

-- ---- ranges

-- two categories, and two sensitivities: the first permits the first category alone
abbrev sets : List Categories
sets = words_of (0 ∷ []) ∷ words_of (0 ∷ 1 ∷ []) ∷ []

-- the level of this sensitivity with both categories, which fall in the first
abbrev falling : ℕ → List ℕ
falling s = 0 ∷ s ∷ 0 ∷ 2 ∷ 0 ∷ 1 ∷ 0 ∷ 0 ∷ []

abbrev with_both : ℕ → List ℕ
with_both s = 0 ∷ s ∷ 0 ∷ 2 ∷ 0 ∷ 0 ∷ 0 ∷ 1 ∷ []

abbrev bare : ℕ → List ℕ
bare s = 0 ∷ s ∷ 0 ∷ 0 ∷ []

not_permitted : (range 2 sets).read (with_both 0) ≡ Err OutOfRange
unfolding many_at word_of words_from are_covered
not_permitted = refl

-- where the set falls, that is told first
falls_first : (range 2 sets).read (falling 0) ≡ Err NotCanonical
unfolding many_at word_of words_from are_covered
falls_first = refl

no_sensitivity : (range 2 sets).read (bare 2) ≡ Err OutOfRange
unfolding many_at word_of words_from are_covered
no_sensitivity = refl

permitted_low : (range 2 sets).read (with_both 1) ≡ Err Short
unfolding many_at word_of words_from are_covered
permitted_low = refl

-- a range that is turned is told behind its high level, whose set is told first
turned : (range 2 sets).read (bare 1 ++ bare 0) ≡ Err OutOfRange
unfolding many_at word_of words_from are_covered dominates
turned = refl

turned_sets : (range 2 sets).read (with_both 1 ++ bare 1) ≡ Err OutOfRange
unfolding many_at word_of words_from are_covered dominates
turned_sets = refl

turned_and_falls : (range 2 sets).read (bare 1 ++ falling 0) ≡ Err NotCanonical
unfolding many_at word_of words_from are_covered dominates
turned_and_falls = refl

range_read : (range 2 sets).read (bare 0 ++ with_both 1) ≡
    Ok (record { low = record { sensitivity = 0; categories = words_of [] }; high = record { sensitivity = 1; categories = words_of (0 ∷ 1 ∷ []) } }, [])
unfolding many_at word_of words_from are_covered dominates
range_read = refl

-- ---- users

abbrev u : List ℕ
u = codes "u"

abbrev v : List ℕ
v = codes "v"

turned_before_order : (users true 2 sets).read (count_of 2 ++ word v ++ bare 0 ++ bare 0 ++ word u ++ bare 1 ++ bare 0) ≡ Err OutOfRange
unfolding rising_at many_at word_of words_from are_covered dominates
turned_before_order = refl

users_fall : (users true 2 sets).read (count_of 2 ++ word v ++ bare 0 ++ bare 0 ++ word u ++ bare 0 ++ bare 0) ≡ Err NotCanonical
unfolding rising_at many_at word_of words_from are_covered dominates
users_fall = refl

users_many : (users false 2 sets).read (0 ∷ 0 ∷ 16 ∷ 1 ∷ []) ≡ Err OutOfRange
unfolding rising_at
users_many = refl

plain_read : (users false 2 sets).read (count_of 2 ++ word u ++ word v) ≡ Ok ((u ∷ v ∷ [], []), [])
unfolding rising_at
plain_read = refl

-- ---- all five

-- sensitivities are numbered in their order, and aliases and users rise by their names
abbrev front : List ℕ
front =
    (count_of 2 ++ word c1 ++ word c0) ++ (count_of 1 ++ word (codes "a") ++ (0 ∷ 1 ∷ []))
    ++ (count_of 2 ++ word (codes "s0") ++ (0 ∷ 1 ∷ 0 ∷ 0 ∷ []) ++ word (codes "s1") ++ (0 ∷ 2 ∷ 0 ∷ 0 ∷ 0 ∷ 1 ∷ []))
    ++ (count_of 1 ++ word (codes "low") ++ (0 ∷ 0 ∷ []))

abbrev with_ranges : List ℕ
with_ranges = front ++ (count_of 2 ++ word u ++ bare 0 ++ with_both 1 ++ word v ++ bare 1 ++ bare 1)

abbrev bare_level : ℕ → Level
bare_level s = record { sensitivity = s; categories = words_of [] }

abbrev value : LabelNames
value = record {
  levels = record {
    are_on = true;
    categories = c1 ∷ c0 ∷ [];
    category_aliases = record { name = codes "a"; place = 1 } ∷ [];
    sensitivities = codes "s0" ∷ codes "s1" ∷ [];
    permitted = sets;
    sensitivity_aliases = record { name = codes "low"; place = 0 } ∷ [];
    users = record { low = bare_level 0; high = record { sensitivity = 1; categories = words_of (0 ∷ 1 ∷ []) } }
        ∷ record { low = bare_level 1; high = bare_level 1 } ∷ [];
  };
  users = u ∷ v ∷ [];
}

all_read : (labels true).read with_ranges ≡ Ok (value, [])
unfolding labels each_at rising_at many_at word_of words_from are_covered dominates
all_read = refl

all_written : (labels true).spell value ≡ with_ranges
unfolding labels passing word_of words_from
all_written = refl

-- the same without levels: users have no ranges
off_read : (labels false).read (front ++ (count_of 2 ++ word u ++ word v)) ≡
    Ok (
      record {
        levels = record {
          are_on = false;
          categories = value.levels.categories;
          category_aliases = value.levels.category_aliases;
          sensitivities = value.levels.sensitivities;
          permitted = sets;
          sensitivity_aliases = value.levels.sensitivity_aliases;
          users = [];
        };
        users = u ∷ v ∷ [];
      },
      [],
    )
unfolding labels each_at rising_at many_at word_of words_from
off_read = refl

-- nothing at all: five counts
none_read : (labels true).read (count_of 0 ++ count_of 0 ++ count_of 0 ++ count_of 0 ++ count_of 0) ≡
    Ok (
      record {
        levels = record {
          are_on = true;
          categories = [];
          category_aliases = [];
          sensitivities = [];
          permitted = [];
          sensitivity_aliases = [];
          users = [];
        };
        users = [];
      },
      [],
    )
unfolding labels each_at rising_at many_at
none_read = refl

-- an alias of a sensitivity that is named as one
sensitivity_alias : (labels true).read (count_of 0 ++ count_of 0 ++ (count_of 1 ++ word u ++ (0 ∷ 0 ∷ [])) ++ (count_of 1 ++ word u)) ≡ Err OutOfRange
unfolding labels each_at rising_at many_at word_of words_from
sensitivity_alias = refl
