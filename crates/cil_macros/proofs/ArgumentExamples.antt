-- What may be an argument of each kind, computed: also of those that are not supported yet.
use Rattle.std.specs.Prelude.{◌≡◌, ℕ, Bool, true, false, List, [], ◌∷◌, codes, refl}
use Rattle.std.specs.Option.{is_some}
use Rattle.cil_syntax.specs.declared.kind.Sign.{Sign}
use Rattle.cil_syntax.specs.declared.kind.Sign.TheVariants as signs
use Rattle.cil_syntax.specs.declared.term.Op.{Op}
use Rattle.cil_syntax.specs.declared.term.Op.TheVariants as ops
use Rattle.cil_faults.specs.declared.spot.Spot.{Spot}
use Rattle.cil_syntax.specs.declared.term.Word.{Word}
use Rattle.cil_macros.specs.Parameters.{argument_kind, read_argument, serves_sign, cell_in, cells_in}
use Rattle.cil_macros.specs.Placed.{is_misplaced, put}
use Rattle.cil_syntax.specs.Scopes.{ScopedWord}
use Rattle.cil_syntax.specs.Heads.{begins_with, first_words, heads}
use Rattle.cil_syntax.specs.Readings.{read_list, read_row}
use Rattle.cil_syntax.specs.Words.{read_string, read_word}
use Rattle.cil_syntax.specs.Terms.{Term, Leaf, Name, Form, nil, cons}

abbrev spot : ℕ → Spot
spot at = record { «module» = 7; at = at }

abbrev kept : ℕ → List ℕ → Term Word
kept at bytes = Leaf record { at = spot at; bytes = bytes; sign = signs.Unread }

abbrev is_argument : Op → Term Word → Bool
is_argument kind t = is_some (read_argument (argument_kind kind) (cell_in t))

-- TypeKind: `a`
-- TypeKind: `(a)`
-- TypeKind: `all`
-- TypeKind: `"a"`
-- BooleanKind: `b`
-- BooleanKind: `(not b)`
-- BooleanKind: `not`
-- ClassMapKind: `m`
pub arguments_1 : (is_argument ops.TypeKind (kept 0 (codes "a")) ≡ true)
    × (is_argument ops.TypeKind (Form (spot 0) ops.UnreadList (cons (kept 1 (codes "a")) nil)) ≡ false)
    × (is_argument ops.TypeKind (kept 0 (codes "all")) ≡ false)
    × (is_argument ops.TypeKind (Form (spot 0) ops.UnreadText (cons (Name (spot 0) (34 ∷ 97 ∷ 34 ∷ [])) nil)) ≡ false)
    × (is_argument ops.BooleanKind (kept 0 (codes "b")) ≡ true)
    × (is_argument ops.BooleanKind (Form (spot 0) ops.UnreadList (cons (kept 1 (codes "not")) (cons (kept 5 (codes "b")) nil))) ≡ false)
    × (is_argument ops.BooleanKind (kept 0 (codes "not")) ≡ false)
    × (is_argument ops.ClassMapKind (kept 0 (codes "m")) ≡ true)
unfolding cell_in cells_in read_word read_string read_row read_list heads first_words begins_with
arguments_1 = (refl, refl, refl, refl, refl, refl, refl, refl)

-- ClassPermissionKind: `p`, since no name of a class permission is supported yet
-- ClassPermissionKind: `(c (p q))`
-- ClassPermissionKind: `(c (not))`
-- ClassPermissionKind: `(c)`
-- ClassPermissionKind: `(c (a.b))`
-- CategoryKind: `c0`
-- CategoryKind: `(c0)`
-- CategorySetKind: `c0`
pub arguments_2 : (is_argument ops.ClassPermissionKind (kept 0 (codes "p")) ≡ true)
    × (is_argument ops.ClassPermissionKind (Form (spot 0) ops.UnreadList (cons (kept 1 (codes "c")) (cons (Form (spot 3) ops.UnreadList (cons (kept 4 (codes "p")) (cons (kept 6 (codes "q")) nil))) nil))) ≡ true)
    × (is_argument ops.ClassPermissionKind (Form (spot 0) ops.UnreadList (cons (kept 1 (codes "c")) (cons (Form (spot 3) ops.UnreadList (cons (kept 4 (codes "not")) nil)) nil))) ≡ false)
    × (is_argument ops.ClassPermissionKind (Form (spot 0) ops.UnreadList (cons (kept 1 (codes "c")) nil)) ≡ false)
    × (is_argument ops.ClassPermissionKind (Form (spot 0) ops.UnreadList (cons (kept 1 (codes "c")) (cons (Form (spot 3) ops.UnreadList (cons (kept 4 (codes "a.b")) nil)) nil))) ≡ false)
    × (is_argument ops.CategoryKind (kept 0 (codes "c0")) ≡ true)
    × (is_argument ops.CategoryKind (Form (spot 0) ops.UnreadList (cons (kept 1 (codes "c0")) nil)) ≡ false)
    × (is_argument ops.CategorySetKind (kept 0 (codes "c0")) ≡ true)
unfolding cell_in cells_in read_word read_string read_row read_list heads first_words begins_with
arguments_2 = (refl, refl, refl, refl, refl, refl, refl, refl)

-- CategorySetKind: `(range c0 c3)`
-- CategorySetKind: `all`
-- CategorySetKind: `(not (c0 c1))`
-- CategorySetKind: `(range c0)`
-- LevelKind: `l`
-- LevelKind: `(s0 (range c0 c3))`
-- LevelKind: `(s0 c0 c1)`
-- LevelKind: `()`
pub arguments_3 : (is_argument ops.CategorySetKind (Form (spot 0) ops.UnreadList (cons (kept 1 (codes "range")) (cons (kept 7 (codes "c0")) (cons (kept 10 (codes "c3")) nil)))) ≡ true)
    × (is_argument ops.CategorySetKind (kept 0 (codes "all")) ≡ true)
    × (is_argument ops.CategorySetKind (Form (spot 0) ops.UnreadList (cons (kept 1 (codes "not")) (cons (Form (spot 5) ops.UnreadList (cons (kept 6 (codes "c0")) (cons (kept 9 (codes "c1")) nil))) nil))) ≡ true)
    × (is_argument ops.CategorySetKind (Form (spot 0) ops.UnreadList (cons (kept 1 (codes "range")) (cons (kept 7 (codes "c0")) nil))) ≡ false)
    × (is_argument ops.LevelKind (kept 0 (codes "l")) ≡ true)
    × (is_argument ops.LevelKind (Form (spot 0) ops.UnreadList (cons (kept 1 (codes "s0")) (cons (Form (spot 4) ops.UnreadList (cons (kept 5 (codes "range")) (cons (kept 11 (codes "c0")) (cons (kept 14 (codes "c3")) nil)))) nil))) ≡ true)
    × (is_argument ops.LevelKind (Form (spot 0) ops.UnreadList (cons (kept 1 (codes "s0")) (cons (kept 4 (codes "c0")) (cons (kept 7 (codes "c1")) nil)))) ≡ false)
    × (is_argument ops.LevelKind (Form (spot 0) ops.UnreadList nil) ≡ false)
unfolding cell_in cells_in read_word read_string read_row read_list heads first_words begins_with
arguments_3 = (refl, refl, refl, refl, refl, refl, refl, refl)

-- LevelRangeKind: `r`
-- LevelRangeKind: `(l (s0))`
-- LevelRangeKind: `(l)`
-- NameKind: `"x"`
-- NameKind: `all`
-- NameKind: `(x)`
-- SensitivityKind: `s0`
-- SensitivityKind: `(s0)`
pub arguments_4 : (is_argument ops.LevelRangeKind (kept 0 (codes "r")) ≡ true)
    × (is_argument ops.LevelRangeKind (Form (spot 0) ops.UnreadList (cons (kept 1 (codes "l")) (cons (Form (spot 3) ops.UnreadList (cons (kept 4 (codes "s0")) nil)) nil))) ≡ true)
    × (is_argument ops.LevelRangeKind (Form (spot 0) ops.UnreadList (cons (kept 1 (codes "l")) nil)) ≡ false)
    × (is_argument ops.NameKind (Form (spot 0) ops.UnreadText (cons (Name (spot 0) (34 ∷ 120 ∷ 34 ∷ [])) nil)) ≡ true)
    × (is_argument ops.NameKind (kept 0 (codes "all")) ≡ true)
    × (is_argument ops.NameKind (Form (spot 0) ops.UnreadList (cons (kept 1 (codes "x")) nil)) ≡ false)
    × (is_argument ops.SensitivityKind (kept 0 (codes "s0")) ≡ true)
    × (is_argument ops.SensitivityKind (Form (spot 0) ops.UnreadList (cons (kept 1 (codes "s0")) nil)) ≡ false)
unfolding cell_in cells_in read_word read_string read_row read_list heads first_words begins_with
arguments_4 = (refl, refl, refl, refl, refl, refl, refl, refl)

-- ---- where arguments may be put

abbrev scoped_word : ℕ → List ℕ → Sign → ScopedWord
scoped_word at bytes sign = record { at = spot at; bytes = bytes; sign = sign; scope = [] }

-- `all`
abbrev every : Term ScopedWord
every = Form (spot 0) ops.All nil

-- `(c (p))`
abbrev permissions_of : Sign → Term ScopedWord
permissions_of sign =
    Form (spot 0) ops.ClassPermissions
    (cons (Leaf (scoped_word 1 (codes "c") sign)) (cons (Form (spot 3) ops.Union (cons (Leaf (scoped_word 4 (codes "p") signs.Permission)) nil)) nil))

-- `all` as a set of categories, where one category or a set may stand
-- the same at an alias of a category
-- a class permission where one may stand, where a name alone may, and where one of a class map does
-- a level, a range
-- a string where texts stand
pub misplaced : (is_misplaced signs.Categories every ≡ true)
    × (is_misplaced signs.CategorySets every ≡ false)
    × (is_misplaced signs.CategoryAliases every ≡ true)
    × (is_misplaced signs.ClassPermissions (permissions_of signs.Classes) ≡ false)
    × (is_misplaced signs.NamedPermissions (permissions_of signs.Classes) ≡ true)
    × (is_misplaced signs.MappedPermissions (permissions_of signs.Classes) ≡ false)
    × (is_misplaced signs.Levels (Form (spot 0) ops.Level (cons (Leaf (scoped_word 1 (codes "s0") signs.Sensitivities)) nil)) ≡ false)
    × (is_misplaced signs.LevelRanges (Form (spot 0) ops.LevelRange nil) ≡ false)
    × (is_misplaced signs.Text (Form (spot 0) ops.UnreadText (cons (Name (spot 0) (34 ∷ 120 ∷ 34 ∷ [])) nil)) ≡ false)
misplaced = (refl, refl, refl, refl, refl, refl, refl, refl, refl)

-- a class permission as a permission of a class map is of a class alone, and elsewhere of a class or a class map
-- a word wants what its place wants
pub put_there : (put signs.MappedPermissions (permissions_of signs.Classes) ≡ permissions_of signs.PlainClass)
    × (put signs.ClassPermissions (permissions_of signs.Classes) ≡ permissions_of signs.Classes)
    × (put signs.PlainType (Leaf (scoped_word 0 (codes "a") signs.Types)) ≡ Leaf (scoped_word 0 (codes "a") signs.PlainType))
put_there = (refl, refl, refl)

-- which places arguments serve: a category also where sets of categories stand, and a set where one category does; a class
-- where class maps do; a boolean no type
pub served : (serves_sign (argument_kind ops.CategoryKind) signs.CategorySets ≡ true)
    × (serves_sign (argument_kind ops.CategorySetKind) signs.Categories ≡ true)
    × (serves_sign (argument_kind ops.SensitivityKind) signs.SensitivityAliases ≡ true)
    × (serves_sign (argument_kind ops.ClassKind) signs.ClassMaps ≡ true)
    × (serves_sign (argument_kind ops.ClassPermissionKind) signs.NamedPermissions ≡ true)
    × (serves_sign (argument_kind ops.BooleanKind) signs.Booleans ≡ true)
    × (serves_sign (argument_kind ops.BooleanKind) signs.Types ≡ false)
    × (serves_sign (argument_kind ops.LevelKind) signs.LevelRanges ≡ false)
    × (serves_sign (argument_kind ops.ClassPermissionKind) signs.Permission ≡ false)
served = (refl, refl, refl, refl, refl, refl, refl, refl, refl)
