-- Arguments that are lists, computed as they are once their kinds are supported: handed on by macros, put where lists may stand, and where
-- only a name may.
use Rattle.std.specs.Prelude.{◌≡◌, ℕ, Bool, true, false, ◌&&◌, List, [], ◌∷◌, Option, Some, None, codes, find, refl}
use Rattle.std.specs.List.{list_any}
use Rattle.std.specs.Option.{option_map}
use Rattle.cil_syntax.specs.declared.kind.Sign.{Sign}
use Rattle.cil_syntax.specs.declared.kind.Sign.TheVariants as signs
use Rattle.cil_syntax.specs.declared.term.Op.{Op}
use Rattle.cil_syntax.specs.declared.term.Op.TheVariants as ops
use Rattle.cil_faults.specs.declared.spot.Spot.{Spot}
use Rattle.cil_syntax.specs.declared.term.Word.{Word}
use Rattle.cil_syntax.specs.Heads.{begins_with, first_words, heads}
use Rattle.cil_syntax.specs.Readings.{read_list, read_row}
use Rattle.cil_syntax.specs.Scopes.{Scope, ScopedWord}
use Rattle.cil_syntax.specs.Spelling.{same_bytes}
use Rattle.cil_syntax.specs.Terms.{Term, Leaf, Form, Terms, nil, cons}
use Rattle.cil_syntax.specs.Words.{read_string, read_word}
use Rattle.cil_blocks.specs.Entries.{nothing}
use Rattle.cil_macros.specs.Item.{words_in}
use Rattle.cil_macros.specs.Listed as lists
use Rattle.cil_macros.specs.Listed.{parts_of}
use Rattle.cil_macros.specs.Parameters.{cell_in, cells_in, argument_kind, read_argument, serves_sign}
use Rattle.cil_macros.specs.Placed.{Bound, Placed, filled, is_misplaced, meant_by}

abbrev spot : ℕ → Spot
spot at = record { «module» = 7; at = at }

-- a word of an argument, as it is kept
abbrev kept : ℕ → List ℕ → Term Word
kept at bytes = Leaf record { at = spot at; bytes = bytes; sign = signs.Unread }

abbrev kept_list : ℕ → Terms Word → Term Word
kept_list at ts = Form (spot at) ops.UnreadList ts

abbrev scoped : Scope → ℕ → List ℕ → Sign → Term ScopedWord
scoped scope at bytes sign = Leaf record { at = spot at; bytes = bytes; sign = sign; scope = scope }

abbrev word : ℕ → List ℕ → Sign → Word
word at bytes sign = record { at = spot at; bytes = bytes; sign = sign }

-- ---- words and arguments, where each kind is supported

-- a parameter with its argument
abbrev given : Op → List ℕ → Term ScopedWord → Bound
given kind name value = record { parameter = record { kind = kind; name = record { at = spot 0; name = name } }; value = value }

abbrev stands_for : Word → Bound → Bool
stands_for w b = same_bytes b.parameter.name.name w.bytes && serves_sign (argument_kind b.parameter.kind) w.sign

-- a statement whose words are looked up in this scope
abbrev placed_in : Scope → Placed
placed_in scope = record {
  standing = record {
    statement = nothing;
    space = [];
    chain = [];
    scope = scope;
    round = [];
    branch = None;
    trail = [];
  };
  bounds = [];
  body = None;
  macros = [];
  steps = 0;
}

-- what a word means in a body with these arguments
abbrev means : Scope → List Bound → Word → Term ScopedWord
means scope bs w = meant_by [] (placed_in scope) w (find (stands_for w) bs)

-- what a call in such a body hands on
abbrev handed : Scope → List Bound → Op → Term Word → Option (Term ScopedWord)
handed scope bs kind t = option_map (filled (means scope bs)) (read_argument (argument_kind kind) (cell_in t))

abbrev words_of : Option (Term Word) → List Word
words_of None = []
words_of (Some t) = words_in t

-- whether a word of an argument of such a call stands for a list where only a name may
abbrev fills_wrongly : List Bound → Op → Term Word → Bool
fills_wrongly bs kind t = list_any (λ w. is_misplaced w.sign (means [] bs w)) (words_of (read_argument (argument_kind kind) (cell_in t)))

-- ---- a list that two macros hand on

-- the scope of the first call, and those in the bodies of two macros of blocks
abbrev outside : Scope
outside = [] ∷ []

abbrev in_first : Scope
in_first = (codes "m" ∷ []) ∷ [] ∷ []

abbrev in_second : Scope
in_second = (codes "n" ∷ []) ∷ [] ∷ []

-- `(range c0 c1)`, given for x
abbrev of_first : Term ScopedWord
of_first = Form (spot 0) ops.Range (cons (scoped outside 7 (codes "c0") signs.Categories) (cons (scoped outside 10 (codes "c1") signs.Categories) nil))

-- `(x c2)`, given for y: what x stands for keeps the scope of the call outside
abbrev of_second : Term ScopedWord
of_second = Form (spot 20) ops.Union (cons of_first (cons (scoped in_first 23 (codes "c2") signs.CategorySets) nil))

-- `(not y)`, given for z
abbrev of_third : Term ScopedWord
of_third = Form (spot 40) ops.Not (cons of_second nil)

pub handed_on : (handed outside [] ops.CategorySetKind
    (kept_list 0 (cons (kept 1 (codes "range")) (cons (kept 7 (codes "c0")) (cons (kept 10 (codes "c1")) nil)))) ≡ Some of_first)
    × (handed in_first (given ops.CategorySetKind (codes "x") of_first ∷ []) ops.CategorySetKind
    (kept_list 20 (cons (kept 21 (codes "x")) (cons (kept 23 (codes "c2")) nil))) ≡ Some of_second)
    × (handed in_second (given ops.CategorySetKind (codes "y") of_second ∷ []) ops.CategorySetKind
    (kept_list 40 (cons (kept 41 (codes "not")) (cons (kept 45 (codes "y")) nil))) ≡ Some of_third)
unfolding cell_in cells_in read_word read_string read_row read_list heads first_words begins_with filled
handed_on = (refl, refl, refl)

-- the same as it is kept, part by part
pub kept_so : parts_of of_third
    ≡ lists.opens (spot 40) ops.Not
    ∷ lists.opens (spot 20) ops.Union
    ∷ lists.opens (spot 0) ops.Range
    ∷ lists.word (record { at = spot 7; bytes = codes "c0"; sign = signs.Categories; scope = outside })
    ∷ lists.word (record { at = spot 10; bytes = codes "c1"; sign = signs.Categories; scope = outside })
    ∷ lists.closes
    ∷ lists.word (record { at = spot 23; bytes = codes "c2"; sign = signs.CategorySets; scope = in_first })
    ∷ lists.closes
    ∷ lists.closes
    ∷ []
unfolding parts_of
kept_so = refl

-- ---- a list where only a name may stand

-- `(c0 c1)`, given for x of a category set
abbrev two_categories : Bound
two_categories = given ops.CategorySetKind (codes "x") (Form (spot 0) ops.Union (cons (scoped outside 1 (codes "c0") signs.CategorySets) (cons (scoped outside 4 (codes "c1") signs.CategorySets) nil)))

-- handed on as it is to a category set: no fault of the call that gave it
-- in a set that it is in
-- to a category: a fault of the call that gave it
-- at an end of a range
-- in a level, at an end of a range
pub where_it_fills : (fills_wrongly (two_categories ∷ []) ops.CategorySetKind (kept 0 (codes "x")) ≡ false)
    × (fills_wrongly (two_categories ∷ []) ops.CategorySetKind (kept_list 0 (cons (kept 1 (codes "x")) (cons (kept 3 (codes "c2")) nil))) ≡ false)
    × (fills_wrongly (two_categories ∷ []) ops.CategoryKind (kept 0 (codes "x")) ≡ true)
    × (fills_wrongly (two_categories ∷ []) ops.CategorySetKind (kept_list 0 (cons (kept 1 (codes "range")) (cons (kept 7 (codes "x")) (cons (kept 9 (codes "c2")) nil)))) ≡ true)
    × (fills_wrongly (two_categories ∷ []) ops.LevelKind
    (kept_list 0 (cons (kept 1 (codes "s0")) (cons (kept_list 4 (cons (kept 5 (codes "range")) (cons (kept 11 (codes "c2")) (cons (kept 14 (codes "x")) nil)))) nil))) ≡ true)
unfolding cell_in cells_in read_word read_string read_row read_list heads first_words begins_with words_in
where_it_fills = (refl, refl, refl, refl, refl)

-- handed on by a first macro to a second one: it fills a category in the body of the second, so it is a fault of the call that is in
-- the first, and none of the call of the first
abbrev handed_to_second : Term ScopedWord
handed_to_second = means outside (two_categories ∷ []) (word 0 (codes "x") signs.CategorySets)

pub at_the_innermost_call : (fills_wrongly (two_categories ∷ []) ops.CategorySetKind (kept 0 (codes "x")) ≡ false)
    × (is_misplaced signs.Categories (means outside (given ops.CategorySetKind (codes "y") handed_to_second ∷ []) (word 0 (codes "y") signs.Categories)) ≡ true)
    × (is_misplaced signs.CategorySets (means outside (given ops.CategorySetKind (codes "y") handed_to_second ∷ []) (word 0 (codes "y") signs.CategorySets)) ≡ false)
unfolding cell_in cells_in read_word read_string read_row read_list heads first_words begins_with words_in
at_the_innermost_call = (refl, refl, refl)

-- `all`, given for a category set: it is an operator, and no name of a category
abbrev everything : Bound
everything = given ops.CategorySetKind (codes "x") (Form (spot 0) ops.All nil)

pub all_is_no_name : (handed outside [] ops.CategorySetKind (kept 0 (codes "all")) ≡ Some (Form (spot 0) ops.All nil))
    × (fills_wrongly (everything ∷ []) ops.CategoryKind (kept 0 (codes "x")) ≡ true)
    × (fills_wrongly (everything ∷ []) ops.CategorySetKind (kept_list 0 (cons (kept 1 (codes "not")) (cons (kept 5 (codes "x")) nil))) ≡ false)
unfolding cell_in cells_in read_word read_string read_row read_list heads first_words begins_with words_in filled
all_is_no_name = (refl, refl, refl)

-- ---- a class permission

-- `(c (p q))`, given for x; its class word wants this
abbrev permissions : Sign → Term ScopedWord
permissions sign =
    Form (spot 0) ops.ClassPermissions
    (cons (scoped outside 1 (codes "c") sign)
    (cons (Form (spot 3) ops.Union (cons (scoped outside 4 (codes "p") signs.Permission) (cons (scoped outside 6 (codes "q") signs.Permission) nil))) nil))

abbrev given_permissions : Bound
given_permissions = given ops.ClassPermissionKind (codes "x") (permissions signs.Classes)

-- it is read so; in a rule it is so; in a classmapping it is of a class alone; and a classpermissionset wants a name
pub class_permissions : (handed outside [] ops.ClassPermissionKind
    (kept_list 0 (cons (kept 1 (codes "c")) (cons (kept_list 3 (cons (kept 4 (codes "p")) (cons (kept 6 (codes "q")) nil))) nil))) ≡ Some (permissions signs.Classes))
    × (means outside (given_permissions ∷ []) (word 9 (codes "x") signs.ClassPermissions) ≡ permissions signs.Classes)
    × (means outside (given_permissions ∷ []) (word 9 (codes "x") signs.MappedPermissions) ≡ permissions signs.PlainClass)
    × (is_misplaced signs.MappedPermissions (permissions signs.PlainClass) ≡ false)
    × (is_misplaced signs.NamedPermissions (means outside (given_permissions ∷ []) (word 9 (codes "x") signs.NamedPermissions)) ≡ true)
unfolding cell_in cells_in read_word read_string read_row read_list heads first_words begins_with filled
class_permissions = (refl, refl, refl, refl, refl)
