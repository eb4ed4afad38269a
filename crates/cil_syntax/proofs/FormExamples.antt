-- Each form of statement, read by the definition: which faults its words have, or that it is refused.
-- Written by scripts/forms from scripts/forms.txt, where the faults stand that are expected.
use Rattle.std.specs.Prelude.{◌≡◌, ℕ, ◌+◌, List, [], ◌∷◌, length, codes, refl}
use Rattle.cil_sexpr.specs.Tree.{Node, Word as TextWord, Quoted, Branch, Nodes, none, next}
use Rattle.cil_faults.specs.declared.code.FaultCode.{FaultCode}
use Rattle.cil_faults.specs.declared.code.FaultCode.TheVariants as causes
use Rattle.cil_syntax.specs.Shapes.{Inner}
use Rattle.cil_syntax.specs.Words.{read_string, read_word}
use Rattle.cil_syntax.specs.Heads.{begins_with, first_words, heads}
use Rattle.cil_syntax.specs.Readings.{cell_of, cells_of, read_list, read_row}
use Rattle.cil_syntax.specs.Table.{entry_of, rules, containers, types, classes, levels, later_words, set_aside_words, left_out_words}
use Rattle.cil_syntax.specs.Written.{Verdict, Refused, Shaped, verdict_of, at_top}

-- a word at a place, and a list that begins at one
abbrev word : ℕ → List ℕ → Node
word at bytes = TextWord (record { start = at; end = at + length bytes }) bytes

abbrev list : ℕ → Nodes → Node
list at items = Branch (record { start = at; end = at + 2 }) items

abbrev fault : FaultCode → ℕ → List ℕ → Inner
fault code at bytes = record { code = code; at = at; word = bytes }

abbrev faults_by : Verdict → List Inner
faults_by (Refused i) = i ∷ []
faults_by (Shaped s faults) = faults

-- the faults that a node at the top of module 7 has
abbrev found : Node → List Inner
found n = faults_by (verdict_of 7 at_top n)

-- `(typeattributeset x a)`
-- `(typeattributeset x (a b))`
-- `(typeattributeset x all)`
-- `(typeattributeset x (all))`
-- `(typeattributeset x (all y))`
-- `(typeattributeset x (not a))`
-- `(typeattributeset x (and a (not b)))`
-- `(typeattributeset x (or a b))`
pub sets_1 : (found (list 0 (next (word 1 (codes "typeattributeset")) (next (word 18 (codes "x")) (next (word 20 (codes "a")) none)))) ≡ [])
    × (found (list 0 (next (word 1 (codes "typeattributeset")) (next (word 18 (codes "x")) (next (list 20 (next (word 21 (codes "a")) (next (word 23 (codes "b")) none))) none)))) ≡ [])
    × (found (list 0 (next (word 1 (codes "typeattributeset")) (next (word 18 (codes "x")) (next (word 20 (codes "all")) none)))) ≡ [])
    × (found (list 0 (next (word 1 (codes "typeattributeset")) (next (word 18 (codes "x")) (next (list 20 (next (word 21 (codes "all")) none)) none)))) ≡ [])
    × (found (list 0 (next (word 1 (codes "typeattributeset")) (next (word 18 (codes "x")) (next (list 20 (next (word 21 (codes "all")) (next (word 25 (codes "y")) none))) none)))) ≡ [])
    × (found (list 0 (next (word 1 (codes "typeattributeset")) (next (word 18 (codes "x")) (next (list 20 (next (word 21 (codes "not")) (next (word 25 (codes "a")) none))) none)))) ≡ [])
    × (found (list 0 (next (word 1 (codes "typeattributeset")) (next (word 18 (codes "x")) (next (list 20 (next (word 21 (codes "and")) (next (word 25 (codes "a")) (next (list 27 (next (word 28 (codes "not")) (next (word 32 (codes "b")) none))) none)))) none)))) ≡ [])
    × (found (list 0 (next (word 1 (codes "typeattributeset")) (next (word 18 (codes "x")) (next (list 20 (next (word 21 (codes "or")) (next (word 24 (codes "a")) (next (word 26 (codes "b")) none)))) none)))) ≡ [])
unfolding verdict_of cells_of cell_of read_row read_word read_string read_list rules containers types classes levels entry_of set_aside_words later_words left_out_words heads first_words begins_with
sets_1 = (refl, refl, refl, refl, refl, refl, refl, refl)

-- `(typeattributeset x (xor (a b) c))`
-- `(typeattributeset x ())`
-- `(typeattributeset x (and))`
-- `(typeattributeset x (not))`
-- `(typeattributeset x (not a b))`
-- `(typeattributeset x (and a))`
-- `(typeattributeset x (and a b c))`
-- `(typeattributeset x (a and b))`
pub sets_2 : (found (list 0 (next (word 1 (codes "typeattributeset")) (next (word 18 (codes "x")) (next (list 20 (next (word 21 (codes "xor")) (next (list 25 (next (word 26 (codes "a")) (next (word 28 (codes "b")) none))) (next (word 31 (codes "c")) none)))) none)))) ≡ [])
    × (found (list 0 (next (word 1 (codes "typeattributeset")) (next (word 18 (codes "x")) (next (list 20 none) none)))) ≡ [])
    × (found (list 0 (next (word 1 (codes "typeattributeset")) (next (word 18 (codes "x")) (next (list 20 (next (word 21 (codes "and")) none)) none)))) ≡ fault causes.BadShape 0 (codes "typeattributeset") ∷ [])
    × (found (list 0 (next (word 1 (codes "typeattributeset")) (next (word 18 (codes "x")) (next (list 20 (next (word 21 (codes "not")) none)) none)))) ≡ fault causes.BadShape 0 (codes "typeattributeset") ∷ [])
    × (found (list 0 (next (word 1 (codes "typeattributeset")) (next (word 18 (codes "x")) (next (list 20 (next (word 21 (codes "not")) (next (word 25 (codes "a")) (next (word 27 (codes "b")) none)))) none)))) ≡ fault causes.BadShape 0 (codes "typeattributeset") ∷ [])
    × (found (list 0 (next (word 1 (codes "typeattributeset")) (next (word 18 (codes "x")) (next (list 20 (next (word 21 (codes "and")) (next (word 25 (codes "a")) none))) none)))) ≡ fault causes.BadShape 0 (codes "typeattributeset") ∷ [])
    × (found (list 0 (next (word 1 (codes "typeattributeset")) (next (word 18 (codes "x")) (next (list 20 (next (word 21 (codes "and")) (next (word 25 (codes "a")) (next (word 27 (codes "b")) (next (word 29 (codes "c")) none))))) none)))) ≡ fault causes.BadShape 0 (codes "typeattributeset") ∷ [])
    × (found (list 0 (next (word 1 (codes "typeattributeset")) (next (word 18 (codes "x")) (next (list 20 (next (word 21 (codes "a")) (next (word 23 (codes "and")) (next (word 27 (codes "b")) none)))) none)))) ≡ fault causes.ReservedName 23 (codes "and") ∷ [])
unfolding verdict_of cells_of cell_of read_row read_word read_string read_list rules containers types classes levels entry_of set_aside_words later_words left_out_words heads first_words begins_with
sets_2 = (refl, refl, refl, refl, refl, refl, refl, refl)

-- `(typeattributeset x (range a b))`
-- `(typeattributeset x (eq a b))`
-- `(typeattributeset x (a (b (c "d"))))`
-- `(typeattributeset x "a")`
-- `(typeattributeset x b..c)`
-- `(roleattributeset x (and r1 r))`
-- `(userattributeset x (not .a))`
-- `(categoryset c (range a b))`
pub sets_3 : (found (list 0 (next (word 1 (codes "typeattributeset")) (next (word 18 (codes "x")) (next (list 20 (next (word 21 (codes "range")) (next (word 27 (codes "a")) (next (word 29 (codes "b")) none)))) none)))) ≡ fault causes.ReservedName 21 (codes "range") ∷ [])
    × (found (list 0 (next (word 1 (codes "typeattributeset")) (next (word 18 (codes "x")) (next (list 20 (next (word 21 (codes "eq")) (next (word 24 (codes "a")) (next (word 26 (codes "b")) none)))) none)))) ≡ fault causes.ReservedName 21 (codes "eq") ∷ [])
    × (found (list 0 (next (word 1 (codes "typeattributeset")) (next (word 18 (codes "x")) (next (list 20 (next (word 21 (codes "a")) (next (list 23 (next (word 24 (codes "b")) (next (list 26 (next (word 27 (codes "c")) (next (Quoted (record { start = 29; end = 32 }) (34 ∷ 100 ∷ 34 ∷ [])) none))) none))) none))) none)))) ≡ fault causes.BadShape 0 (codes "typeattributeset") ∷ [])
    × (found (list 0 (next (word 1 (codes "typeattributeset")) (next (word 18 (codes "x")) (next (Quoted (record { start = 20; end = 23 }) (34 ∷ 97 ∷ 34 ∷ [])) none)))) ≡ fault causes.BadShape 0 (codes "typeattributeset") ∷ [])
    × (found (list 0 (next (word 1 (codes "typeattributeset")) (next (word 18 (codes "x")) (next (word 20 (codes "b..c")) none)))) ≡ fault causes.BadName 20 (codes "b..c") ∷ [])
    × (found (list 0 (next (word 1 (codes "roleattributeset")) (next (word 18 (codes "x")) (next (list 20 (next (word 21 (codes "and")) (next (word 25 (codes "r1")) (next (word 28 (codes "r")) none)))) none)))) ≡ fault causes.ReservedName 25 (codes "r1") ∷ [])
    × (found (list 0 (next (word 1 (codes "userattributeset")) (next (word 18 (codes "x")) (next (list 20 (next (word 21 (codes "not")) (next (word 25 (codes ".a")) none))) none)))) ≡ [])
    × (found (list 0 (next (word 1 (codes "categoryset")) (next (word 13 (codes "c")) (next (list 15 (next (word 16 (codes "range")) (next (word 22 (codes "a")) (next (word 24 (codes "b")) none)))) none)))) ≡ [])
unfolding verdict_of cells_of cell_of read_row read_word read_string read_list rules containers types classes levels entry_of set_aside_words later_words left_out_words heads first_words begins_with
sets_3 = (refl, refl, refl, refl, refl, refl, refl, refl)

-- `(categoryset c (range a))`
-- `(categoryset c ((range a b) d (not all)))`
-- `(categoryset c (range a (b)))`
-- `(categoryset c (range all b))`
-- `(sensitivitycategory s (and all (range x y)))`
-- `(sensitivitycategory s all)`
-- `(allow a b (file (not read)))`
-- `(allow a b (file (all)))`
pub sets_4 : (found (list 0 (next (word 1 (codes "categoryset")) (next (word 13 (codes "c")) (next (list 15 (next (word 16 (codes "range")) (next (word 22 (codes "a")) none))) none)))) ≡ fault causes.BadShape 0 (codes "categoryset") ∷ [])
    × (found (list 0 (next (word 1 (codes "categoryset")) (next (word 13 (codes "c")) (next (list 15 (next (list 16 (next (word 17 (codes "range")) (next (word 23 (codes "a")) (next (word 25 (codes "b")) none)))) (next (word 28 (codes "d")) (next (list 30 (next (word 31 (codes "not")) (next (word 35 (codes "all")) none))) none)))) none)))) ≡ [])
    × (found (list 0 (next (word 1 (codes "categoryset")) (next (word 13 (codes "c")) (next (list 15 (next (word 16 (codes "range")) (next (word 22 (codes "a")) (next (list 24 (next (word 25 (codes "b")) none)) none)))) none)))) ≡ fault causes.BadShape 0 (codes "categoryset") ∷ [])
    × (found (list 0 (next (word 1 (codes "categoryset")) (next (word 13 (codes "c")) (next (list 15 (next (word 16 (codes "range")) (next (word 22 (codes "all")) (next (word 26 (codes "b")) none)))) none)))) ≡ fault causes.ReservedName 22 (codes "all") ∷ [])
    × (found (list 0 (next (word 1 (codes "sensitivitycategory")) (next (word 21 (codes "s")) (next (list 23 (next (word 24 (codes "and")) (next (word 28 (codes "all")) (next (list 32 (next (word 33 (codes "range")) (next (word 39 (codes "x")) (next (word 41 (codes "y")) none)))) none)))) none)))) ≡ [])
    × (found (list 0 (next (word 1 (codes "sensitivitycategory")) (next (word 21 (codes "s")) (next (word 23 (codes "all")) none)))) ≡ [])
    × (found (list 0 (next (word 1 (codes "allow")) (next (word 7 (codes "a")) (next (word 9 (codes "b")) (next (list 11 (next (word 12 (codes "file")) (next (list 17 (next (word 18 (codes "not")) (next (word 22 (codes "read")) none))) none))) none))))) ≡ [])
    × (found (list 0 (next (word 1 (codes "allow")) (next (word 7 (codes "a")) (next (word 9 (codes "b")) (next (list 11 (next (word 12 (codes "file")) (next (list 17 (next (word 18 (codes "all")) none)) none))) none))))) ≡ [])
unfolding verdict_of cells_of cell_of read_row read_word read_string read_list rules containers types classes levels entry_of set_aside_words later_words left_out_words heads first_words begins_with
sets_4 = (refl, refl, refl, refl, refl, refl, refl, refl)

-- `(allow a b (file all))`
-- `(allow a b (file read))`
-- `(allow a b (file (and (a b) (not c))))`
-- `(allow a b (file (a.b)))`
-- `(allow a b (file (range a b)))`
-- `(allow a b perm)`
-- `(allow a b 1x)`
-- `(allow a b all)`
pub sets_5 : (found (list 0 (next (word 1 (codes "allow")) (next (word 7 (codes "a")) (next (word 9 (codes "b")) (next (list 11 (next (word 12 (codes "file")) (next (word 17 (codes "all")) none))) none))))) ≡ [])
    × (found (list 0 (next (word 1 (codes "allow")) (next (word 7 (codes "a")) (next (word 9 (codes "b")) (next (list 11 (next (word 12 (codes "file")) (next (word 17 (codes "read")) none))) none))))) ≡ [])
    × (found (list 0 (next (word 1 (codes "allow")) (next (word 7 (codes "a")) (next (word 9 (codes "b")) (next (list 11 (next (word 12 (codes "file")) (next (list 17 (next (word 18 (codes "and")) (next (list 22 (next (word 23 (codes "a")) (next (word 25 (codes "b")) none))) (next (list 28 (next (word 29 (codes "not")) (next (word 33 (codes "c")) none))) none)))) none))) none))))) ≡ [])
    × (found (list 0 (next (word 1 (codes "allow")) (next (word 7 (codes "a")) (next (word 9 (codes "b")) (next (list 11 (next (word 12 (codes "file")) (next (list 17 (next (word 18 (codes "a.b")) none)) none))) none))))) ≡ fault causes.BadName 18 (codes "a.b") ∷ [])
    × (found (list 0 (next (word 1 (codes "allow")) (next (word 7 (codes "a")) (next (word 9 (codes "b")) (next (list 11 (next (word 12 (codes "file")) (next (list 17 (next (word 18 (codes "range")) (next (word 24 (codes "a")) (next (word 26 (codes "b")) none)))) none))) none))))) ≡ fault causes.ReservedName 18 (codes "range") ∷ [])
    × (found (list 0 (next (word 1 (codes "allow")) (next (word 7 (codes "a")) (next (word 9 (codes "b")) (next (word 11 (codes "perm")) none))))) ≡ [])
    × (found (list 0 (next (word 1 (codes "allow")) (next (word 7 (codes "a")) (next (word 9 (codes "b")) (next (word 11 (codes "1x")) none))))) ≡ fault causes.BadName 11 (codes "1x") ∷ [])
    × (found (list 0 (next (word 1 (codes "allow")) (next (word 7 (codes "a")) (next (word 9 (codes "b")) (next (word 11 (codes "all")) none))))) ≡ fault causes.ReservedName 11 (codes "all") ∷ [])
unfolding verdict_of cells_of cell_of read_row read_word read_string read_list rules containers types classes levels entry_of set_aside_words later_words left_out_words heads first_words begins_with
sets_5 = (refl, refl, refl, refl, refl, refl, refl, refl)

-- `(allow a self p)`
-- `(allow a notself p)`
pub sets_6 : (found (list 0 (next (word 1 (codes "allow")) (next (word 7 (codes "a")) (next (word 9 (codes "self")) (next (word 14 (codes "p")) none))))) ≡ [])
    × (found (list 0 (next (word 1 (codes "allow")) (next (word 7 (codes "a")) (next (word 9 (codes "notself")) (next (word 17 (codes "p")) none))))) ≡ fault causes.Unsupported 9 (codes "notself") ∷ [])
unfolding verdict_of cells_of cell_of read_row read_word read_string read_list rules containers types classes levels entry_of set_aside_words later_words left_out_words heads first_words begins_with
sets_6 = (refl, refl)

-- `(booleanif b (true))`
-- `(booleanif b (false (allow a b (c (d)))))`
-- `(booleanif b (true (allow a b (c (d)))) (false (call m)))`
-- `(booleanif b (false) (true))`
-- `(booleanif (b) (true))`
-- `(booleanif (not b) (true))`
-- `(booleanif (and a (xor b (c))) (true))`
-- `(booleanif (eq a b) (true))`
pub conditions_1 : (found (list 0 (next (word 1 (codes "booleanif")) (next (word 11 (codes "b")) (next (list 13 (next (word 14 (codes "true")) none)) none)))) ≡ [])
    × (found (list 0 (next (word 1 (codes "booleanif")) (next (word 11 (codes "b")) (next (list 13 (next (word 14 (codes "false")) (next (list 20 (next (word 21 (codes "allow")) (next (word 27 (codes "a")) (next (word 29 (codes "b")) (next (list 31 (next (word 32 (codes "c")) (next (list 34 (next (word 35 (codes "d")) none)) none))) none))))) none))) none)))) ≡ [])
    × (found (list 0 (next (word 1 (codes "booleanif")) (next (word 11 (codes "b")) (next (list 13 (next (word 14 (codes "true")) (next (list 19 (next (word 20 (codes "allow")) (next (word 26 (codes "a")) (next (word 28 (codes "b")) (next (list 30 (next (word 31 (codes "c")) (next (list 33 (next (word 34 (codes "d")) none)) none))) none))))) none))) (next (list 40 (next (word 41 (codes "false")) (next (list 47 (next (word 48 (codes "call")) (next (word 53 (codes "m")) none))) none))) none))))) ≡ [])
    × (found (list 0 (next (word 1 (codes "booleanif")) (next (word 11 (codes "b")) (next (list 13 (next (word 14 (codes "false")) none)) (next (list 21 (next (word 22 (codes "true")) none)) none))))) ≡ [])
    × (found (list 0 (next (word 1 (codes "booleanif")) (next (list 11 (next (word 12 (codes "b")) none)) (next (list 15 (next (word 16 (codes "true")) none)) none)))) ≡ [])
    × (found (list 0 (next (word 1 (codes "booleanif")) (next (list 11 (next (word 12 (codes "not")) (next (word 16 (codes "b")) none))) (next (list 19 (next (word 20 (codes "true")) none)) none)))) ≡ [])
    × (found (list 0 (next (word 1 (codes "booleanif")) (next (list 11 (next (word 12 (codes "and")) (next (word 16 (codes "a")) (next (list 18 (next (word 19 (codes "xor")) (next (word 23 (codes "b")) (next (list 25 (next (word 26 (codes "c")) none)) none)))) none)))) (next (list 31 (next (word 32 (codes "true")) none)) none)))) ≡ [])
    × (found (list 0 (next (word 1 (codes "booleanif")) (next (list 11 (next (word 12 (codes "eq")) (next (word 15 (codes "a")) (next (word 17 (codes "b")) none)))) (next (list 20 (next (word 21 (codes "true")) none)) none)))) ≡ [])
unfolding verdict_of cells_of cell_of read_row read_word read_string read_list rules containers types classes levels entry_of set_aside_words later_words left_out_words heads first_words begins_with
conditions_1 = (refl, refl, refl, refl, refl, refl, refl, refl)

-- `(booleanif (neq (not a) b) (true))`
-- `(booleanif (not) (true))`
-- `(booleanif (and) (true))`
-- `(booleanif (and a) (true))`
-- `(booleanif (not a b) (true))`
-- `(booleanif (a b) (true))`
-- `(booleanif () (true))`
-- `(booleanif (true) (true))`
pub conditions_2 : (found (list 0 (next (word 1 (codes "booleanif")) (next (list 11 (next (word 12 (codes "neq")) (next (list 16 (next (word 17 (codes "not")) (next (word 21 (codes "a")) none))) (next (word 24 (codes "b")) none)))) (next (list 27 (next (word 28 (codes "true")) none)) none)))) ≡ [])
    × (found (list 0 (next (word 1 (codes "booleanif")) (next (list 11 (next (word 12 (codes "not")) none)) (next (list 17 (next (word 18 (codes "true")) none)) none)))) ≡ fault causes.BadShape 0 (codes "booleanif") ∷ [])
    × (found (list 0 (next (word 1 (codes "booleanif")) (next (list 11 (next (word 12 (codes "and")) none)) (next (list 17 (next (word 18 (codes "true")) none)) none)))) ≡ fault causes.BadShape 0 (codes "booleanif") ∷ [])
    × (found (list 0 (next (word 1 (codes "booleanif")) (next (list 11 (next (word 12 (codes "and")) (next (word 16 (codes "a")) none))) (next (list 19 (next (word 20 (codes "true")) none)) none)))) ≡ fault causes.BadShape 0 (codes "booleanif") ∷ [])
    × (found (list 0 (next (word 1 (codes "booleanif")) (next (list 11 (next (word 12 (codes "not")) (next (word 16 (codes "a")) (next (word 18 (codes "b")) none)))) (next (list 21 (next (word 22 (codes "true")) none)) none)))) ≡ fault causes.BadShape 0 (codes "booleanif") ∷ [])
    × (found (list 0 (next (word 1 (codes "booleanif")) (next (list 11 (next (word 12 (codes "a")) (next (word 14 (codes "b")) none))) (next (list 17 (next (word 18 (codes "true")) none)) none)))) ≡ fault causes.BadShape 0 (codes "booleanif") ∷ [])
    × (found (list 0 (next (word 1 (codes "booleanif")) (next (list 11 none) (next (list 14 (next (word 15 (codes "true")) none)) none)))) ≡ fault causes.BadShape 0 (codes "booleanif") ∷ [])
    × (found (list 0 (next (word 1 (codes "booleanif")) (next (list 11 (next (word 12 (codes "true")) none)) (next (list 18 (next (word 19 (codes "true")) none)) none)))) ≡ fault causes.ReservedName 12 (codes "true") ∷ [])
unfolding verdict_of cells_of cell_of read_row read_word read_string read_list rules containers types classes levels entry_of set_aside_words later_words left_out_words heads first_words begins_with
conditions_2 = (refl, refl, refl, refl, refl, refl, refl, refl)

-- `(booleanif (self) (true))`
-- `(booleanif not (true))`
-- `(booleanif "b" (true))`
-- `(booleanif b)`
-- `(booleanif b (true) (true))`
-- `(booleanif b (false) (false))`
-- `(booleanif b (true) (false) (true))`
-- `(booleanif b (maybe))`
pub conditions_3 : (found (list 0 (next (word 1 (codes "booleanif")) (next (list 11 (next (word 12 (codes "self")) none)) (next (list 18 (next (word 19 (codes "true")) none)) none)))) ≡ fault causes.ReservedName 12 (codes "self") ∷ [])
    × (found (list 0 (next (word 1 (codes "booleanif")) (next (word 11 (codes "not")) (next (list 15 (next (word 16 (codes "true")) none)) none)))) ≡ fault causes.ReservedName 11 (codes "not") ∷ [])
    × (found (list 0 (next (word 1 (codes "booleanif")) (next (Quoted (record { start = 11; end = 14 }) (34 ∷ 98 ∷ 34 ∷ [])) (next (list 15 (next (word 16 (codes "true")) none)) none)))) ≡ fault causes.BadShape 0 (codes "booleanif") ∷ [])
    × (found (list 0 (next (word 1 (codes "booleanif")) (next (word 11 (codes "b")) none))) ≡ fault causes.BadShape 0 (codes "booleanif") ∷ [])
    × (found (list 0 (next (word 1 (codes "booleanif")) (next (word 11 (codes "b")) (next (list 13 (next (word 14 (codes "true")) none)) (next (list 20 (next (word 21 (codes "true")) none)) none))))) ≡ fault causes.BadShape 0 (codes "booleanif") ∷ [])
    × (found (list 0 (next (word 1 (codes "booleanif")) (next (word 11 (codes "b")) (next (list 13 (next (word 14 (codes "false")) none)) (next (list 21 (next (word 22 (codes "false")) none)) none))))) ≡ fault causes.BadShape 0 (codes "booleanif") ∷ [])
    × (found (list 0 (next (word 1 (codes "booleanif")) (next (word 11 (codes "b")) (next (list 13 (next (word 14 (codes "true")) none)) (next (list 20 (next (word 21 (codes "false")) none)) (next (list 28 (next (word 29 (codes "true")) none)) none)))))) ≡ fault causes.BadShape 0 (codes "booleanif") ∷ [])
    × (found (list 0 (next (word 1 (codes "booleanif")) (next (word 11 (codes "b")) (next (list 13 (next (word 14 (codes "maybe")) none)) none)))) ≡ fault causes.BadShape 0 (codes "booleanif") ∷ [])
unfolding verdict_of cells_of cell_of read_row read_word read_string read_list rules containers types classes levels entry_of set_aside_words later_words left_out_words heads first_words begins_with
conditions_3 = (refl, refl, refl, refl, refl, refl, refl, refl)

-- `(booleanif b ())`
-- `(booleanif b true)`
-- `(booleanif b (true x))`
-- `(booleanif b (true "x"))`
-- `(booleanif b (true) (maybe))`
-- `(booleanif (dom a b) (true))`
-- `(boolean b true)`
-- `(boolean b false)`
pub conditions_4 : (found (list 0 (next (word 1 (codes "booleanif")) (next (word 11 (codes "b")) (next (list 13 none) none)))) ≡ fault causes.BadShape 0 (codes "booleanif") ∷ [])
    × (found (list 0 (next (word 1 (codes "booleanif")) (next (word 11 (codes "b")) (next (word 13 (codes "true")) none)))) ≡ fault causes.BadShape 0 (codes "booleanif") ∷ [])
    × (found (list 0 (next (word 1 (codes "booleanif")) (next (word 11 (codes "b")) (next (list 13 (next (word 14 (codes "true")) (next (word 19 (codes "x")) none))) none)))) ≡ fault causes.BadShape 0 (codes "booleanif") ∷ [])
    × (found (list 0 (next (word 1 (codes "booleanif")) (next (word 11 (codes "b")) (next (list 13 (next (word 14 (codes "true")) (next (Quoted (record { start = 19; end = 22 }) (34 ∷ 120 ∷ 34 ∷ [])) none))) none)))) ≡ fault causes.BadShape 0 (codes "booleanif") ∷ [])
    × (found (list 0 (next (word 1 (codes "booleanif")) (next (word 11 (codes "b")) (next (list 13 (next (word 14 (codes "true")) none)) (next (list 20 (next (word 21 (codes "maybe")) none)) none))))) ≡ fault causes.BadShape 0 (codes "booleanif") ∷ [])
    × (found (list 0 (next (word 1 (codes "booleanif")) (next (list 11 (next (word 12 (codes "dom")) (next (word 16 (codes "a")) (next (word 18 (codes "b")) none)))) (next (list 21 (next (word 22 (codes "true")) none)) none)))) ≡ fault causes.BadShape 0 (codes "booleanif") ∷ [])
    × (found (list 0 (next (word 1 (codes "boolean")) (next (word 9 (codes "b")) (next (word 11 (codes "true")) none)))) ≡ [])
    × (found (list 0 (next (word 1 (codes "boolean")) (next (word 9 (codes "b")) (next (word 11 (codes "false")) none)))) ≡ [])
unfolding verdict_of cells_of cell_of read_row read_word read_string read_list rules containers types classes levels entry_of set_aside_words later_words left_out_words heads first_words begins_with
conditions_4 = (refl, refl, refl, refl, refl, refl, refl, refl)

-- `(boolean b yes)`
-- `(boolean b)`
-- `(boolean true false)`
-- `(mls true)`
-- `(mls maybe)`
pub conditions_5 : (found (list 0 (next (word 1 (codes "boolean")) (next (word 9 (codes "b")) (next (word 11 (codes "yes")) none)))) ≡ fault causes.BadShape 0 (codes "boolean") ∷ [])
    × (found (list 0 (next (word 1 (codes "boolean")) (next (word 9 (codes "b")) none))) ≡ fault causes.BadShape 0 (codes "boolean") ∷ [])
    × (found (list 0 (next (word 1 (codes "boolean")) (next (word 9 (codes "true")) (next (word 14 (codes "false")) none)))) ≡ fault causes.ReservedName 9 (codes "true") ∷ [])
    × (found (list 0 (next (word 1 (codes "mls")) (next (word 5 (codes "true")) none))) ≡ [])
    × (found (list 0 (next (word 1 (codes "mls")) (next (word 5 (codes "maybe")) none))) ≡ fault causes.BadShape 0 (codes "mls") ∷ [])
unfolding verdict_of cells_of cell_of read_row read_word read_string read_list rules containers types classes levels entry_of set_aside_words later_words left_out_words heads first_words begins_with
conditions_5 = (refl, refl, refl, refl, refl)

-- `(constrain (c (p)) (eq u1 u2))`
-- `(constrain (c (p)) (neq r1 r2))`
-- `(constrain (c (p)) (eq t1 t2))`
-- `(constrain (c (p)) (eq u1 x))`
-- `(constrain (c (p)) (eq u2 (x y)))`
-- `(constrain (c (p)) (neq r2 r))`
-- `(constrain (c (p)) (eq t2 (a)))`
-- `(constrain (c (p)) (eq t2 ()))`
pub constraints_1 : (found (list 0 (next (word 1 (codes "constrain")) (next (list 11 (next (word 12 (codes "c")) (next (list 14 (next (word 15 (codes "p")) none)) none))) (next (list 19 (next (word 20 (codes "eq")) (next (word 23 (codes "u1")) (next (word 26 (codes "u2")) none)))) none)))) ≡ [])
    × (found (list 0 (next (word 1 (codes "constrain")) (next (list 11 (next (word 12 (codes "c")) (next (list 14 (next (word 15 (codes "p")) none)) none))) (next (list 19 (next (word 20 (codes "neq")) (next (word 24 (codes "r1")) (next (word 27 (codes "r2")) none)))) none)))) ≡ [])
    × (found (list 0 (next (word 1 (codes "constrain")) (next (list 11 (next (word 12 (codes "c")) (next (list 14 (next (word 15 (codes "p")) none)) none))) (next (list 19 (next (word 20 (codes "eq")) (next (word 23 (codes "t1")) (next (word 26 (codes "t2")) none)))) none)))) ≡ [])
    × (found (list 0 (next (word 1 (codes "constrain")) (next (list 11 (next (word 12 (codes "c")) (next (list 14 (next (word 15 (codes "p")) none)) none))) (next (list 19 (next (word 20 (codes "eq")) (next (word 23 (codes "u1")) (next (word 26 (codes "x")) none)))) none)))) ≡ [])
    × (found (list 0 (next (word 1 (codes "constrain")) (next (list 11 (next (word 12 (codes "c")) (next (list 14 (next (word 15 (codes "p")) none)) none))) (next (list 19 (next (word 20 (codes "eq")) (next (word 23 (codes "u2")) (next (list 26 (next (word 27 (codes "x")) (next (word 29 (codes "y")) none))) none)))) none)))) ≡ [])
    × (found (list 0 (next (word 1 (codes "constrain")) (next (list 11 (next (word 12 (codes "c")) (next (list 14 (next (word 15 (codes "p")) none)) none))) (next (list 19 (next (word 20 (codes "neq")) (next (word 24 (codes "r2")) (next (word 27 (codes "r")) none)))) none)))) ≡ [])
    × (found (list 0 (next (word 1 (codes "constrain")) (next (list 11 (next (word 12 (codes "c")) (next (list 14 (next (word 15 (codes "p")) none)) none))) (next (list 19 (next (word 20 (codes "eq")) (next (word 23 (codes "t2")) (next (list 26 (next (word 27 (codes "a")) none)) none)))) none)))) ≡ [])
    × (found (list 0 (next (word 1 (codes "constrain")) (next (list 11 (next (word 12 (codes "c")) (next (list 14 (next (word 15 (codes "p")) none)) none))) (next (list 19 (next (word 20 (codes "eq")) (next (word 23 (codes "t2")) (next (list 26 none) none)))) none)))) ≡ fault causes.BadShape 0 (codes "constrain") ∷ [])
unfolding verdict_of cells_of cell_of read_row read_word read_string read_list rules containers types classes levels entry_of set_aside_words later_words left_out_words heads first_words begins_with
constraints_1 = (refl, refl, refl, refl, refl, refl, refl, refl)

-- `(constrain (c (p)) (eq u1 u1))`
-- `(constrain (c (p)) (eq t2 t1))`
-- `(constrain (c (p)) (eq t1 l1))`
-- `(constrain (c (p)) (eq t1 (a (b))))`
-- `(constrain (c (p)) (eq t1 (not a)))`
-- `(constrain (c (p)) (eq u2 u1))`
-- `(constrain (c (p)) (eq x u1))`
-- `(constrain (c (p)) (eq u1))`
pub constraints_2 : (found (list 0 (next (word 1 (codes "constrain")) (next (list 11 (next (word 12 (codes "c")) (next (list 14 (next (word 15 (codes "p")) none)) none))) (next (list 19 (next (word 20 (codes "eq")) (next (word 23 (codes "u1")) (next (word 26 (codes "u1")) none)))) none)))) ≡ fault causes.ReservedName 26 (codes "u1") ∷ [])
    × (found (list 0 (next (word 1 (codes "constrain")) (next (list 11 (next (word 12 (codes "c")) (next (list 14 (next (word 15 (codes "p")) none)) none))) (next (list 19 (next (word 20 (codes "eq")) (next (word 23 (codes "t2")) (next (word 26 (codes "t1")) none)))) none)))) ≡ fault causes.ReservedName 26 (codes "t1") ∷ [])
    × (found (list 0 (next (word 1 (codes "constrain")) (next (list 11 (next (word 12 (codes "c")) (next (list 14 (next (word 15 (codes "p")) none)) none))) (next (list 19 (next (word 20 (codes "eq")) (next (word 23 (codes "t1")) (next (word 26 (codes "l1")) none)))) none)))) ≡ fault causes.ReservedName 26 (codes "l1") ∷ [])
    × (found (list 0 (next (word 1 (codes "constrain")) (next (list 11 (next (word 12 (codes "c")) (next (list 14 (next (word 15 (codes "p")) none)) none))) (next (list 19 (next (word 20 (codes "eq")) (next (word 23 (codes "t1")) (next (list 26 (next (word 27 (codes "a")) (next (list 29 (next (word 30 (codes "b")) none)) none))) none)))) none)))) ≡ fault causes.BadShape 0 (codes "constrain") ∷ [])
    × (found (list 0 (next (word 1 (codes "constrain")) (next (list 11 (next (word 12 (codes "c")) (next (list 14 (next (word 15 (codes "p")) none)) none))) (next (list 19 (next (word 20 (codes "eq")) (next (word 23 (codes "t1")) (next (list 26 (next (word 27 (codes "not")) (next (word 31 (codes "a")) none))) none)))) none)))) ≡ fault causes.ReservedName 27 (codes "not") ∷ [])
    × (found (list 0 (next (word 1 (codes "constrain")) (next (list 11 (next (word 12 (codes "c")) (next (list 14 (next (word 15 (codes "p")) none)) none))) (next (list 19 (next (word 20 (codes "eq")) (next (word 23 (codes "u2")) (next (word 26 (codes "u1")) none)))) none)))) ≡ fault causes.ReservedName 26 (codes "u1") ∷ [])
    × (found (list 0 (next (word 1 (codes "constrain")) (next (list 11 (next (word 12 (codes "c")) (next (list 14 (next (word 15 (codes "p")) none)) none))) (next (list 19 (next (word 20 (codes "eq")) (next (word 23 (codes "x")) (next (word 25 (codes "u1")) none)))) none)))) ≡ fault causes.BadShape 0 (codes "constrain") ∷ [])
    × (found (list 0 (next (word 1 (codes "constrain")) (next (list 11 (next (word 12 (codes "c")) (next (list 14 (next (word 15 (codes "p")) none)) none))) (next (list 19 (next (word 20 (codes "eq")) (next (word 23 (codes "u1")) none))) none)))) ≡ fault causes.BadShape 0 (codes "constrain") ∷ [])
unfolding verdict_of cells_of cell_of read_row read_word read_string read_list rules containers types classes levels entry_of set_aside_words later_words left_out_words heads first_words begins_with
constraints_2 = (refl, refl, refl, refl, refl, refl, refl, refl)

-- `(constrain (c (p)) (eq))`
-- `(constrain (c (p)) (eq u1 u2 u2))`
-- `(constrain (c (p)) (eq l1 l2))`
-- `(constrain (c (p)) (eq l2 l1))`
-- `(constrain (c (p)) (and (eq u1 u2) (not (eq r1 r2))))`
-- `(constrain (c (p)) (or (eq u1 u2)))`
-- `(constrain (c (p)) ((eq u1 u2)))`
-- `(constrain (c (p)) (((eq u1 u2))))`
pub constraints_3 : (found (list 0 (next (word 1 (codes "constrain")) (next (list 11 (next (word 12 (codes "c")) (next (list 14 (next (word 15 (codes "p")) none)) none))) (next (list 19 (next (word 20 (codes "eq")) none)) none)))) ≡ fault causes.BadShape 0 (codes "constrain") ∷ [])
    × (found (list 0 (next (word 1 (codes "constrain")) (next (list 11 (next (word 12 (codes "c")) (next (list 14 (next (word 15 (codes "p")) none)) none))) (next (list 19 (next (word 20 (codes "eq")) (next (word 23 (codes "u1")) (next (word 26 (codes "u2")) (next (word 29 (codes "u2")) none))))) none)))) ≡ fault causes.BadShape 0 (codes "constrain") ∷ [])
    × (found (list 0 (next (word 1 (codes "constrain")) (next (list 11 (next (word 12 (codes "c")) (next (list 14 (next (word 15 (codes "p")) none)) none))) (next (list 19 (next (word 20 (codes "eq")) (next (word 23 (codes "l1")) (next (word 26 (codes "l2")) none)))) none)))) ≡ fault causes.BadShape 0 (codes "constrain") ∷ [])
    × (found (list 0 (next (word 1 (codes "constrain")) (next (list 11 (next (word 12 (codes "c")) (next (list 14 (next (word 15 (codes "p")) none)) none))) (next (list 19 (next (word 20 (codes "eq")) (next (word 23 (codes "l2")) (next (word 26 (codes "l1")) none)))) none)))) ≡ fault causes.BadShape 0 (codes "constrain") ∷ [])
    × (found (list 0 (next (word 1 (codes "constrain")) (next (list 11 (next (word 12 (codes "c")) (next (list 14 (next (word 15 (codes "p")) none)) none))) (next (list 19 (next (word 20 (codes "and")) (next (list 24 (next (word 25 (codes "eq")) (next (word 28 (codes "u1")) (next (word 31 (codes "u2")) none)))) (next (list 35 (next (word 36 (codes "not")) (next (list 40 (next (word 41 (codes "eq")) (next (word 44 (codes "r1")) (next (word 47 (codes "r2")) none)))) none))) none)))) none)))) ≡ [])
    × (found (list 0 (next (word 1 (codes "constrain")) (next (list 11 (next (word 12 (codes "c")) (next (list 14 (next (word 15 (codes "p")) none)) none))) (next (list 19 (next (word 20 (codes "or")) (next (list 23 (next (word 24 (codes "eq")) (next (word 27 (codes "u1")) (next (word 30 (codes "u2")) none)))) none))) none)))) ≡ fault causes.BadShape 0 (codes "constrain") ∷ [])
    × (found (list 0 (next (word 1 (codes "constrain")) (next (list 11 (next (word 12 (codes "c")) (next (list 14 (next (word 15 (codes "p")) none)) none))) (next (list 19 (next (list 20 (next (word 21 (codes "eq")) (next (word 24 (codes "u1")) (next (word 27 (codes "u2")) none)))) none)) none)))) ≡ [])
    × (found (list 0 (next (word 1 (codes "constrain")) (next (list 11 (next (word 12 (codes "c")) (next (list 14 (next (word 15 (codes "p")) none)) none))) (next (list 19 (next (list 20 (next (list 21 (next (word 22 (codes "eq")) (next (word 25 (codes "u1")) (next (word 28 (codes "u2")) none)))) none)) none)) none)))) ≡ [])
unfolding verdict_of cells_of cell_of read_row read_word read_string read_list rules containers types classes levels entry_of set_aside_words later_words left_out_words heads first_words begins_with
constraints_3 = (refl, refl, refl, refl, refl, refl, refl, refl)

-- `(constrain (c (p)) ())`
-- `(constrain (c (p)) u1)`
-- `(constrain (c (p)) (xor (eq u1 u2) (eq u1 u2)))`
-- `(constrain (c (p)) (dom r1 r2))`
-- `(constrain (c (p)) (and (domby r1 r2) (eq u1 1x)))`
-- `(constrain (c (p)) (incomp r1 r2))`
-- `(constrain (c (p)) (dom r2 r1))`
-- `(constrain (c (p)) (dom r1 x))`
pub constraints_4 : (found (list 0 (next (word 1 (codes "constrain")) (next (list 11 (next (word 12 (codes "c")) (next (list 14 (next (word 15 (codes "p")) none)) none))) (next (list 19 none) none)))) ≡ fault causes.BadShape 0 (codes "constrain") ∷ [])
    × (found (list 0 (next (word 1 (codes "constrain")) (next (list 11 (next (word 12 (codes "c")) (next (list 14 (next (word 15 (codes "p")) none)) none))) (next (word 19 (codes "u1")) none)))) ≡ fault causes.BadShape 0 (codes "constrain") ∷ [])
    × (found (list 0 (next (word 1 (codes "constrain")) (next (list 11 (next (word 12 (codes "c")) (next (list 14 (next (word 15 (codes "p")) none)) none))) (next (list 19 (next (word 20 (codes "xor")) (next (list 24 (next (word 25 (codes "eq")) (next (word 28 (codes "u1")) (next (word 31 (codes "u2")) none)))) (next (list 35 (next (word 36 (codes "eq")) (next (word 39 (codes "u1")) (next (word 42 (codes "u2")) none)))) none)))) none)))) ≡ fault causes.BadShape 0 (codes "constrain") ∷ [])
    × (found (list 0 (next (word 1 (codes "constrain")) (next (list 11 (next (word 12 (codes "c")) (next (list 14 (next (word 15 (codes "p")) none)) none))) (next (list 19 (next (word 20 (codes "dom")) (next (word 24 (codes "r1")) (next (word 27 (codes "r2")) none)))) none)))) ≡ fault causes.Unsupported 20 (codes "dom") ∷ [])
    × (found (list 0 (next (word 1 (codes "constrain")) (next (list 11 (next (word 12 (codes "c")) (next (list 14 (next (word 15 (codes "p")) none)) none))) (next (list 19 (next (word 20 (codes "and")) (next (list 24 (next (word 25 (codes "domby")) (next (word 31 (codes "r1")) (next (word 34 (codes "r2")) none)))) (next (list 38 (next (word 39 (codes "eq")) (next (word 42 (codes "u1")) (next (word 45 (codes "1x")) none)))) none)))) none)))) ≡ fault causes.Unsupported 25 (codes "domby") ∷ fault causes.BadName 45 (codes "1x") ∷ [])
    × (found (list 0 (next (word 1 (codes "constrain")) (next (list 11 (next (word 12 (codes "c")) (next (list 14 (next (word 15 (codes "p")) none)) none))) (next (list 19 (next (word 20 (codes "incomp")) (next (word 27 (codes "r1")) (next (word 30 (codes "r2")) none)))) none)))) ≡ fault causes.Unsupported 20 (codes "incomp") ∷ [])
    × (found (list 0 (next (word 1 (codes "constrain")) (next (list 11 (next (word 12 (codes "c")) (next (list 14 (next (word 15 (codes "p")) none)) none))) (next (list 19 (next (word 20 (codes "dom")) (next (word 24 (codes "r2")) (next (word 27 (codes "r1")) none)))) none)))) ≡ fault causes.BadShape 0 (codes "constrain") ∷ [])
    × (found (list 0 (next (word 1 (codes "constrain")) (next (list 11 (next (word 12 (codes "c")) (next (list 14 (next (word 15 (codes "p")) none)) none))) (next (list 19 (next (word 20 (codes "dom")) (next (word 24 (codes "r1")) (next (word 27 (codes "x")) none)))) none)))) ≡ fault causes.BadShape 0 (codes "constrain") ∷ [])
unfolding verdict_of cells_of cell_of read_row read_word read_string read_list rules containers types classes levels entry_of set_aside_words later_words left_out_words heads first_words begins_with
constraints_4 = (refl, refl, refl, refl, refl, refl, refl, refl)

-- `(constrain (c (p)) (dom r1 r2 r2))`
-- `(constrain (c (p)) (dom l1 l2))`
-- `(constrain (c (p)) (dom u1 u2))`
-- `(constrain (c (p)) (eq u1 "x"))`
-- `(constrain (c (p)) ("eq" u1 u2))`
-- `(mlsconstrain (c (p)) (dom l1 l2))`
-- `(mlsconstrain (c (p)) (domby l1 h2))`
-- `(mlsconstrain (c (p)) (incomp h1 l2))`
pub constraints_5 : (found (list 0 (next (word 1 (codes "constrain")) (next (list 11 (next (word 12 (codes "c")) (next (list 14 (next (word 15 (codes "p")) none)) none))) (next (list 19 (next (word 20 (codes "dom")) (next (word 24 (codes "r1")) (next (word 27 (codes "r2")) (next (word 30 (codes "r2")) none))))) none)))) ≡ fault causes.BadShape 0 (codes "constrain") ∷ [])
    × (found (list 0 (next (word 1 (codes "constrain")) (next (list 11 (next (word 12 (codes "c")) (next (list 14 (next (word 15 (codes "p")) none)) none))) (next (list 19 (next (word 20 (codes "dom")) (next (word 24 (codes "l1")) (next (word 27 (codes "l2")) none)))) none)))) ≡ fault causes.BadShape 0 (codes "constrain") ∷ [])
    × (found (list 0 (next (word 1 (codes "constrain")) (next (list 11 (next (word 12 (codes "c")) (next (list 14 (next (word 15 (codes "p")) none)) none))) (next (list 19 (next (word 20 (codes "dom")) (next (word 24 (codes "u1")) (next (word 27 (codes "u2")) none)))) none)))) ≡ fault causes.BadShape 0 (codes "constrain") ∷ [])
    × (found (list 0 (next (word 1 (codes "constrain")) (next (list 11 (next (word 12 (codes "c")) (next (list 14 (next (word 15 (codes "p")) none)) none))) (next (list 19 (next (word 20 (codes "eq")) (next (word 23 (codes "u1")) (next (Quoted (record { start = 26; end = 29 }) (34 ∷ 120 ∷ 34 ∷ [])) none)))) none)))) ≡ fault causes.BadShape 0 (codes "constrain") ∷ [])
    × (found (list 0 (next (word 1 (codes "constrain")) (next (list 11 (next (word 12 (codes "c")) (next (list 14 (next (word 15 (codes "p")) none)) none))) (next (list 19 (next (Quoted (record { start = 20; end = 24 }) (34 ∷ 101 ∷ 113 ∷ 34 ∷ [])) (next (word 25 (codes "u1")) (next (word 28 (codes "u2")) none)))) none)))) ≡ fault causes.BadShape 0 (codes "constrain") ∷ [])
    × (found (list 0 (next (word 1 (codes "mlsconstrain")) (next (list 14 (next (word 15 (codes "c")) (next (list 17 (next (word 18 (codes "p")) none)) none))) (next (list 22 (next (word 23 (codes "dom")) (next (word 27 (codes "l1")) (next (word 30 (codes "l2")) none)))) none)))) ≡ [])
    × (found (list 0 (next (word 1 (codes "mlsconstrain")) (next (list 14 (next (word 15 (codes "c")) (next (list 17 (next (word 18 (codes "p")) none)) none))) (next (list 22 (next (word 23 (codes "domby")) (next (word 29 (codes "l1")) (next (word 32 (codes "h2")) none)))) none)))) ≡ [])
    × (found (list 0 (next (word 1 (codes "mlsconstrain")) (next (list 14 (next (word 15 (codes "c")) (next (list 17 (next (word 18 (codes "p")) none)) none))) (next (list 22 (next (word 23 (codes "incomp")) (next (word 30 (codes "h1")) (next (word 33 (codes "l2")) none)))) none)))) ≡ [])
unfolding verdict_of cells_of cell_of read_row read_word read_string read_list rules containers types classes levels entry_of set_aside_words later_words left_out_words heads first_words begins_with
constraints_5 = (refl, refl, refl, refl, refl, refl, refl, refl)

-- `(mlsconstrain (c (p)) (eq h1 h2))`
-- `(mlsconstrain (c (p)) (neq l1 h1))`
-- `(mlsconstrain (c (p)) (eq l2 h2))`
-- `(mlsconstrain (c (p)) (eq l2 l1))`
-- `(mlsconstrain (c (p)) (eq h2 l2))`
-- `(mlsconstrain (c (p)) (dom l2 h1))`
-- `(mlsconstrain (c (p)) (dom h1 l1))`
-- `(mlsconstrain (c (p)) (eq l1 t2))`
pub constraints_6 : (found (list 0 (next (word 1 (codes "mlsconstrain")) (next (list 14 (next (word 15 (codes "c")) (next (list 17 (next (word 18 (codes "p")) none)) none))) (next (list 22 (next (word 23 (codes "eq")) (next (word 26 (codes "h1")) (next (word 29 (codes "h2")) none)))) none)))) ≡ [])
    × (found (list 0 (next (word 1 (codes "mlsconstrain")) (next (list 14 (next (word 15 (codes "c")) (next (list 17 (next (word 18 (codes "p")) none)) none))) (next (list 22 (next (word 23 (codes "neq")) (next (word 27 (codes "l1")) (next (word 30 (codes "h1")) none)))) none)))) ≡ [])
    × (found (list 0 (next (word 1 (codes "mlsconstrain")) (next (list 14 (next (word 15 (codes "c")) (next (list 17 (next (word 18 (codes "p")) none)) none))) (next (list 22 (next (word 23 (codes "eq")) (next (word 26 (codes "l2")) (next (word 29 (codes "h2")) none)))) none)))) ≡ [])
    × (found (list 0 (next (word 1 (codes "mlsconstrain")) (next (list 14 (next (word 15 (codes "c")) (next (list 17 (next (word 18 (codes "p")) none)) none))) (next (list 22 (next (word 23 (codes "eq")) (next (word 26 (codes "l2")) (next (word 29 (codes "l1")) none)))) none)))) ≡ fault causes.BadShape 0 (codes "mlsconstrain") ∷ [])
    × (found (list 0 (next (word 1 (codes "mlsconstrain")) (next (list 14 (next (word 15 (codes "c")) (next (list 17 (next (word 18 (codes "p")) none)) none))) (next (list 22 (next (word 23 (codes "eq")) (next (word 26 (codes "h2")) (next (word 29 (codes "l2")) none)))) none)))) ≡ fault causes.BadShape 0 (codes "mlsconstrain") ∷ [])
    × (found (list 0 (next (word 1 (codes "mlsconstrain")) (next (list 14 (next (word 15 (codes "c")) (next (list 17 (next (word 18 (codes "p")) none)) none))) (next (list 22 (next (word 23 (codes "dom")) (next (word 27 (codes "l2")) (next (word 30 (codes "h1")) none)))) none)))) ≡ fault causes.BadShape 0 (codes "mlsconstrain") ∷ [])
    × (found (list 0 (next (word 1 (codes "mlsconstrain")) (next (list 14 (next (word 15 (codes "c")) (next (list 17 (next (word 18 (codes "p")) none)) none))) (next (list 22 (next (word 23 (codes "dom")) (next (word 27 (codes "h1")) (next (word 30 (codes "l1")) none)))) none)))) ≡ fault causes.BadShape 0 (codes "mlsconstrain") ∷ [])
    × (found (list 0 (next (word 1 (codes "mlsconstrain")) (next (list 14 (next (word 15 (codes "c")) (next (list 17 (next (word 18 (codes "p")) none)) none))) (next (list 22 (next (word 23 (codes "eq")) (next (word 26 (codes "l1")) (next (word 29 (codes "t2")) none)))) none)))) ≡ fault causes.BadShape 0 (codes "mlsconstrain") ∷ [])
unfolding verdict_of cells_of cell_of read_row read_word read_string read_list rules containers types classes levels entry_of set_aside_words later_words left_out_words heads first_words begins_with
constraints_6 = (refl, refl, refl, refl, refl, refl, refl, refl)

-- `(mlsconstrain (c (p)) (eq l1 x))`
-- `(mlsconstrain (c (p)) (dom r1 r2))`
-- `(mlsconstrain (c (p)) (dom r1 r))`
-- `(mlsconstrain (c (p)) (or (eq t1 x) (and (dom l1 l2) (domby h1 h2))))`
-- `(mlsconstrain (c (p)) (eq t1 t2))`
-- `(mlsconstrain (c (p)) (eq u1 h1))`
pub constraints_7 : (found (list 0 (next (word 1 (codes "mlsconstrain")) (next (list 14 (next (word 15 (codes "c")) (next (list 17 (next (word 18 (codes "p")) none)) none))) (next (list 22 (next (word 23 (codes "eq")) (next (word 26 (codes "l1")) (next (word 29 (codes "x")) none)))) none)))) ≡ fault causes.BadShape 0 (codes "mlsconstrain") ∷ [])
    × (found (list 0 (next (word 1 (codes "mlsconstrain")) (next (list 14 (next (word 15 (codes "c")) (next (list 17 (next (word 18 (codes "p")) none)) none))) (next (list 22 (next (word 23 (codes "dom")) (next (word 27 (codes "r1")) (next (word 30 (codes "r2")) none)))) none)))) ≡ fault causes.Unsupported 23 (codes "dom") ∷ [])
    × (found (list 0 (next (word 1 (codes "mlsconstrain")) (next (list 14 (next (word 15 (codes "c")) (next (list 17 (next (word 18 (codes "p")) none)) none))) (next (list 22 (next (word 23 (codes "dom")) (next (word 27 (codes "r1")) (next (word 30 (codes "r")) none)))) none)))) ≡ fault causes.BadShape 0 (codes "mlsconstrain") ∷ [])
    × (found (list 0 (next (word 1 (codes "mlsconstrain")) (next (list 14 (next (word 15 (codes "c")) (next (list 17 (next (word 18 (codes "p")) none)) none))) (next (list 22 (next (word 23 (codes "or")) (next (list 26 (next (word 27 (codes "eq")) (next (word 30 (codes "t1")) (next (word 33 (codes "x")) none)))) (next (list 36 (next (word 37 (codes "and")) (next (list 41 (next (word 42 (codes "dom")) (next (word 46 (codes "l1")) (next (word 49 (codes "l2")) none)))) (next (list 53 (next (word 54 (codes "domby")) (next (word 60 (codes "h1")) (next (word 63 (codes "h2")) none)))) none)))) none)))) none)))) ≡ [])
    × (found (list 0 (next (word 1 (codes "mlsconstrain")) (next (list 14 (next (word 15 (codes "c")) (next (list 17 (next (word 18 (codes "p")) none)) none))) (next (list 22 (next (word 23 (codes "eq")) (next (word 26 (codes "t1")) (next (word 29 (codes "t2")) none)))) none)))) ≡ [])
    × (found (list 0 (next (word 1 (codes "mlsconstrain")) (next (list 14 (next (word 15 (codes "c")) (next (list 17 (next (word 18 (codes "p")) none)) none))) (next (list 22 (next (word 23 (codes "eq")) (next (word 26 (codes "u1")) (next (word 29 (codes "h1")) none)))) none)))) ≡ fault causes.ReservedName 29 (codes "h1") ∷ [])
unfolding verdict_of cells_of cell_of read_row read_word read_string read_list rules containers types classes levels entry_of set_aside_words later_words left_out_words heads first_words begins_with
constraints_7 = (refl, refl, refl, refl, refl, refl)

-- `(common k (a b))`
-- `(common k ())`
-- `(class c ())`
-- `(classmap m ())`
-- `(classmap m (a))`
-- `(classcommon c k)`
-- `(classmapping m p (c (q)))`
-- `(classmapping m p cp)`
pub statements_1 : (found (list 0 (next (word 1 (codes "common")) (next (word 8 (codes "k")) (next (list 10 (next (word 11 (codes "a")) (next (word 13 (codes "b")) none))) none)))) ≡ [])
    × (found (list 0 (next (word 1 (codes "common")) (next (word 8 (codes "k")) (next (list 10 none) none)))) ≡ fault causes.BadShape 0 (codes "common") ∷ [])
    × (found (list 0 (next (word 1 (codes "class")) (next (word 7 (codes "c")) (next (list 9 none) none)))) ≡ [])
    × (found (list 0 (next (word 1 (codes "classmap")) (next (word 10 (codes "m")) (next (list 12 none) none)))) ≡ fault causes.BadShape 0 (codes "classmap") ∷ [])
    × (found (list 0 (next (word 1 (codes "classmap")) (next (word 10 (codes "m")) (next (list 12 (next (word 13 (codes "a")) none)) none)))) ≡ [])
    × (found (list 0 (next (word 1 (codes "classcommon")) (next (word 13 (codes "c")) (next (word 15 (codes "k")) none)))) ≡ [])
    × (found (list 0 (next (word 1 (codes "classmapping")) (next (word 14 (codes "m")) (next (word 16 (codes "p")) (next (list 18 (next (word 19 (codes "c")) (next (list 21 (next (word 22 (codes "q")) none)) none))) none))))) ≡ [])
    × (found (list 0 (next (word 1 (codes "classmapping")) (next (word 14 (codes "m")) (next (word 16 (codes "p")) (next (word 18 (codes "cp")) none))))) ≡ [])
unfolding verdict_of cells_of cell_of read_row read_word read_string read_list rules containers types classes levels entry_of set_aside_words later_words left_out_words heads first_words begins_with
statements_1 = (refl, refl, refl, refl, refl, refl, refl, refl)

-- `(classmapping m a.b (c (q)))`
-- `(classmapping m (p) (c (q)))`
-- `(classpermission p)`
-- `(classpermissionset p (c (a)))`
-- `(classpermissionset p q)`
-- `(classorder (a b))`
-- `(classorder (unordered a b))`
-- `(classorder (a unordered))`
pub statements_2 : (found (list 0 (next (word 1 (codes "classmapping")) (next (word 14 (codes "m")) (next (word 16 (codes "a.b")) (next (list 20 (next (word 21 (codes "c")) (next (list 23 (next (word 24 (codes "q")) none)) none))) none))))) ≡ fault causes.BadName 16 (codes "a.b") ∷ [])
    × (found (list 0 (next (word 1 (codes "classmapping")) (next (word 14 (codes "m")) (next (list 16 (next (word 17 (codes "p")) none)) (next (list 20 (next (word 21 (codes "c")) (next (list 23 (next (word 24 (codes "q")) none)) none))) none))))) ≡ fault causes.BadShape 0 (codes "classmapping") ∷ [])
    × (found (list 0 (next (word 1 (codes "classpermission")) (next (word 17 (codes "p")) none))) ≡ [])
    × (found (list 0 (next (word 1 (codes "classpermissionset")) (next (word 20 (codes "p")) (next (list 22 (next (word 23 (codes "c")) (next (list 25 (next (word 26 (codes "a")) none)) none))) none)))) ≡ [])
    × (found (list 0 (next (word 1 (codes "classpermissionset")) (next (word 20 (codes "p")) (next (word 22 (codes "q")) none)))) ≡ fault causes.BadShape 0 (codes "classpermissionset") ∷ [])
    × (found (list 0 (next (word 1 (codes "classorder")) (next (list 12 (next (word 13 (codes "a")) (next (word 15 (codes "b")) none))) none))) ≡ [])
    × (found (list 0 (next (word 1 (codes "classorder")) (next (list 12 (next (word 13 (codes "unordered")) (next (word 23 (codes "a")) (next (word 25 (codes "b")) none)))) none))) ≡ [])
    × (found (list 0 (next (word 1 (codes "classorder")) (next (list 12 (next (word 13 (codes "a")) (next (word 15 (codes "unordered")) none))) none))) ≡ fault causes.ReservedName 15 (codes "unordered") ∷ [])
unfolding verdict_of cells_of cell_of read_row read_word read_string read_list rules containers types classes levels entry_of set_aside_words later_words left_out_words heads first_words begins_with
statements_2 = (refl, refl, refl, refl, refl, refl, refl, refl)

-- `(classorder ())`
-- `(classorder (unordered))`
-- `(classorder (unordered unordered))`
-- `(classorder a)`
-- `(typealias a)`
-- `(typealiasactual a b)`
-- `(typealiasactual a (b))`
-- `(typeattribute a)`
pub statements_3 : (found (list 0 (next (word 1 (codes "classorder")) (next (list 12 none) none))) ≡ [])
    × (found (list 0 (next (word 1 (codes "classorder")) (next (list 12 (next (word 13 (codes "unordered")) none)) none))) ≡ [])
    × (found (list 0 (next (word 1 (codes "classorder")) (next (list 12 (next (word 13 (codes "unordered")) (next (word 23 (codes "unordered")) none))) none))) ≡ fault causes.ReservedName 23 (codes "unordered") ∷ [])
    × (found (list 0 (next (word 1 (codes "classorder")) (next (word 12 (codes "a")) none))) ≡ fault causes.BadShape 0 (codes "classorder") ∷ [])
    × (found (list 0 (next (word 1 (codes "typealias")) (next (word 11 (codes "a")) none))) ≡ [])
    × (found (list 0 (next (word 1 (codes "typealiasactual")) (next (word 17 (codes "a")) (next (word 19 (codes "b")) none)))) ≡ [])
    × (found (list 0 (next (word 1 (codes "typealiasactual")) (next (word 17 (codes "a")) (next (list 19 (next (word 20 (codes "b")) none)) none)))) ≡ fault causes.BadShape 0 (codes "typealiasactual") ∷ [])
    × (found (list 0 (next (word 1 (codes "typeattribute")) (next (word 15 (codes "a")) none))) ≡ [])
unfolding verdict_of cells_of cell_of read_row read_word read_string read_list rules containers types classes levels entry_of set_aside_words later_words left_out_words heads first_words begins_with
statements_3 = (refl, refl, refl, refl, refl, refl, refl, refl)

-- `(expandtypeattribute a true)`
-- `(expandtypeattribute (a b) false)`
-- `(expandtypeattribute () true)`
-- `(expandtypeattribute a maybe)`
-- `(expandtypeattribute (a (b)) true)`
-- `(typetransition a b c d)`
-- `(typetransition a b c "name" d)`
-- `(typetransition a b c name d)`
pub statements_4 : (found (list 0 (next (word 1 (codes "expandtypeattribute")) (next (word 21 (codes "a")) (next (word 23 (codes "true")) none)))) ≡ [])
    × (found (list 0 (next (word 1 (codes "expandtypeattribute")) (next (list 21 (next (word 22 (codes "a")) (next (word 24 (codes "b")) none))) (next (word 27 (codes "false")) none)))) ≡ [])
    × (found (list 0 (next (word 1 (codes "expandtypeattribute")) (next (list 21 none) (next (word 24 (codes "true")) none)))) ≡ fault causes.BadShape 0 (codes "expandtypeattribute") ∷ [])
    × (found (list 0 (next (word 1 (codes "expandtypeattribute")) (next (word 21 (codes "a")) (next (word 23 (codes "maybe")) none)))) ≡ fault causes.BadShape 0 (codes "expandtypeattribute") ∷ [])
    × (found (list 0 (next (word 1 (codes "expandtypeattribute")) (next (list 21 (next (word 22 (codes "a")) (next (list 24 (next (word 25 (codes "b")) none)) none))) (next (word 29 (codes "true")) none)))) ≡ fault causes.BadShape 0 (codes "expandtypeattribute") ∷ [])
    × (found (list 0 (next (word 1 (codes "typetransition")) (next (word 16 (codes "a")) (next (word 18 (codes "b")) (next (word 20 (codes "c")) (next (word 22 (codes "d")) none)))))) ≡ [])
    × (found (list 0 (next (word 1 (codes "typetransition")) (next (word 16 (codes "a")) (next (word 18 (codes "b")) (next (word 20 (codes "c")) (next (Quoted (record { start = 22; end = 28 }) (34 ∷ 110 ∷ 97 ∷ 109 ∷ 101 ∷ 34 ∷ [])) (next (word 29 (codes "d")) none))))))) ≡ [])
    × (found (list 0 (next (word 1 (codes "typetransition")) (next (word 16 (codes "a")) (next (word 18 (codes "b")) (next (word 20 (codes "c")) (next (word 22 (codes "name")) (next (word 27 (codes "d")) none))))))) ≡ [])
unfolding verdict_of cells_of cell_of read_row read_word read_string read_list rules containers types classes levels entry_of set_aside_words later_words left_out_words heads first_words begins_with
statements_4 = (refl, refl, refl, refl, refl, refl, refl, refl)

-- `(typetransition a b c all d)`
-- `(typetransition a b c (x) d)`
-- `(typetransition a self c d)`
-- `(typetransition a b c d e f)`
-- `(typetransition a notself c d)`
-- `(typechange a b c d)`
-- `(typechange a b c n d)`
-- `(typemember a self c d)`
pub statements_5 : (found (list 0 (next (word 1 (codes "typetransition")) (next (word 16 (codes "a")) (next (word 18 (codes "b")) (next (word 20 (codes "c")) (next (word 22 (codes "all")) (next (word 26 (codes "d")) none))))))) ≡ [])
    × (found (list 0 (next (word 1 (codes "typetransition")) (next (word 16 (codes "a")) (next (word 18 (codes "b")) (next (word 20 (codes "c")) (next (list 22 (next (word 23 (codes "x")) none)) (next (word 26 (codes "d")) none))))))) ≡ fault causes.BadShape 0 (codes "typetransition") ∷ [])
    × (found (list 0 (next (word 1 (codes "typetransition")) (next (word 16 (codes "a")) (next (word 18 (codes "self")) (next (word 23 (codes "c")) (next (word 25 (codes "d")) none)))))) ≡ [])
    × (found (list 0 (next (word 1 (codes "typetransition")) (next (word 16 (codes "a")) (next (word 18 (codes "b")) (next (word 20 (codes "c")) (next (word 22 (codes "d")) (next (word 24 (codes "e")) (next (word 26 (codes "f")) none)))))))) ≡ fault causes.BadShape 0 (codes "typetransition") ∷ [])
    × (found (list 0 (next (word 1 (codes "typetransition")) (next (word 16 (codes "a")) (next (word 18 (codes "notself")) (next (word 26 (codes "c")) (next (word 28 (codes "d")) none)))))) ≡ fault causes.Unsupported 18 (codes "notself") ∷ [])
    × (found (list 0 (next (word 1 (codes "typechange")) (next (word 12 (codes "a")) (next (word 14 (codes "b")) (next (word 16 (codes "c")) (next (word 18 (codes "d")) none)))))) ≡ [])
    × (found (list 0 (next (word 1 (codes "typechange")) (next (word 12 (codes "a")) (next (word 14 (codes "b")) (next (word 16 (codes "c")) (next (word 18 (codes "n")) (next (word 20 (codes "d")) none))))))) ≡ fault causes.BadShape 0 (codes "typechange") ∷ [])
    × (found (list 0 (next (word 1 (codes "typemember")) (next (word 12 (codes "a")) (next (word 14 (codes "self")) (next (word 19 (codes "c")) (next (word 21 (codes "d")) none)))))) ≡ [])
unfolding verdict_of cells_of cell_of read_row read_word read_string read_list rules containers types classes levels entry_of set_aside_words later_words left_out_words heads first_words begins_with
statements_5 = (refl, refl, refl, refl, refl, refl, refl, refl)

-- `(roleattribute r)`
-- `(roleallow a b)`
-- `(roletransition a b c d)`
-- `(userattribute u)`
-- `(userlevel u l)`
-- `(userlevel u (s))`
-- `(userlevel u (s (c)))`
-- `(userlevel u (s c d))`
pub statements_6 : (found (list 0 (next (word 1 (codes "roleattribute")) (next (word 15 (codes "r")) none))) ≡ [])
    × (found (list 0 (next (word 1 (codes "roleallow")) (next (word 11 (codes "a")) (next (word 13 (codes "b")) none)))) ≡ [])
    × (found (list 0 (next (word 1 (codes "roletransition")) (next (word 16 (codes "a")) (next (word 18 (codes "b")) (next (word 20 (codes "c")) (next (word 22 (codes "d")) none)))))) ≡ [])
    × (found (list 0 (next (word 1 (codes "userattribute")) (next (word 15 (codes "u")) none))) ≡ [])
    × (found (list 0 (next (word 1 (codes "userlevel")) (next (word 11 (codes "u")) (next (word 13 (codes "l")) none)))) ≡ [])
    × (found (list 0 (next (word 1 (codes "userlevel")) (next (word 11 (codes "u")) (next (list 13 (next (word 14 (codes "s")) none)) none)))) ≡ [])
    × (found (list 0 (next (word 1 (codes "userlevel")) (next (word 11 (codes "u")) (next (list 13 (next (word 14 (codes "s")) (next (list 16 (next (word 17 (codes "c")) none)) none))) none)))) ≡ [])
    × (found (list 0 (next (word 1 (codes "userlevel")) (next (word 11 (codes "u")) (next (list 13 (next (word 14 (codes "s")) (next (word 16 (codes "c")) (next (word 18 (codes "d")) none)))) none)))) ≡ fault causes.BadShape 0 (codes "userlevel") ∷ [])
unfolding verdict_of cells_of cell_of read_row read_word read_string read_list rules containers types classes levels entry_of set_aside_words later_words left_out_words heads first_words begins_with
statements_6 = (refl, refl, refl, refl, refl, refl, refl, refl)

-- `(userlevel u ())`
-- `(userrange u lr)`
-- `(userrange u (l m))`
-- `(userrange u ((s) (s (range a b))))`
-- `(userrange u (l))`
-- `(userrange u (l m n))`
-- `(level l (s))`
-- `(level l (s (a b)))`
pub statements_7 : (found (list 0 (next (word 1 (codes "userlevel")) (next (word 11 (codes "u")) (next (list 13 none) none)))) ≡ fault causes.BadShape 0 (codes "userlevel") ∷ [])
    × (found (list 0 (next (word 1 (codes "userrange")) (next (word 11 (codes "u")) (next (word 13 (codes "lr")) none)))) ≡ [])
    × (found (list 0 (next (word 1 (codes "userrange")) (next (word 11 (codes "u")) (next (list 13 (next (word 14 (codes "l")) (next (word 16 (codes "m")) none))) none)))) ≡ [])
    × (found (list 0 (next (word 1 (codes "userrange")) (next (word 11 (codes "u")) (next (list 13 (next (list 14 (next (word 15 (codes "s")) none)) (next (list 18 (next (word 19 (codes "s")) (next (list 21 (next (word 22 (codes "range")) (next (word 28 (codes "a")) (next (word 30 (codes "b")) none)))) none))) none))) none)))) ≡ [])
    × (found (list 0 (next (word 1 (codes "userrange")) (next (word 11 (codes "u")) (next (list 13 (next (word 14 (codes "l")) none)) none)))) ≡ fault causes.BadShape 0 (codes "userrange") ∷ [])
    × (found (list 0 (next (word 1 (codes "userrange")) (next (word 11 (codes "u")) (next (list 13 (next (word 14 (codes "l")) (next (word 16 (codes "m")) (next (word 18 (codes "n")) none)))) none)))) ≡ fault causes.BadShape 0 (codes "userrange") ∷ [])
    × (found (list 0 (next (word 1 (codes "level")) (next (word 7 (codes "l")) (next (list 9 (next (word 10 (codes "s")) none)) none)))) ≡ [])
    × (found (list 0 (next (word 1 (codes "level")) (next (word 7 (codes "l")) (next (list 9 (next (word 10 (codes "s")) (next (list 12 (next (word 13 (codes "a")) (next (word 15 (codes "b")) none))) none))) none)))) ≡ [])
unfolding verdict_of cells_of cell_of read_row read_word read_string read_list rules containers types classes levels entry_of set_aside_words later_words left_out_words heads first_words begins_with
statements_7 = (refl, refl, refl, refl, refl, refl, refl, refl)

-- `(level l s)`
-- `(level l ((s)))`
-- `(levelrange r (a b))`
-- `(levelrange r a)`
-- `(levelrange r ((s) b))`
-- `(rangetransition a b c r)`
-- `(rangetransition a b c ((s) (s)))`
-- `(rangetransition a self c r)`
pub statements_8 : (found (list 0 (next (word 1 (codes "level")) (next (word 7 (codes "l")) (next (word 9 (codes "s")) none)))) ≡ fault causes.BadShape 0 (codes "level") ∷ [])
    × (found (list 0 (next (word 1 (codes "level")) (next (word 7 (codes "l")) (next (list 9 (next (list 10 (next (word 11 (codes "s")) none)) none)) none)))) ≡ fault causes.BadShape 0 (codes "level") ∷ [])
    × (found (list 0 (next (word 1 (codes "levelrange")) (next (word 12 (codes "r")) (next (list 14 (next (word 15 (codes "a")) (next (word 17 (codes "b")) none))) none)))) ≡ [])
    × (found (list 0 (next (word 1 (codes "levelrange")) (next (word 12 (codes "r")) (next (word 14 (codes "a")) none)))) ≡ fault causes.BadShape 0 (codes "levelrange") ∷ [])
    × (found (list 0 (next (word 1 (codes "levelrange")) (next (word 12 (codes "r")) (next (list 14 (next (list 15 (next (word 16 (codes "s")) none)) (next (word 19 (codes "b")) none))) none)))) ≡ [])
    × (found (list 0 (next (word 1 (codes "rangetransition")) (next (word 17 (codes "a")) (next (word 19 (codes "b")) (next (word 21 (codes "c")) (next (word 23 (codes "r")) none)))))) ≡ [])
    × (found (list 0 (next (word 1 (codes "rangetransition")) (next (word 17 (codes "a")) (next (word 19 (codes "b")) (next (word 21 (codes "c")) (next (list 23 (next (list 24 (next (word 25 (codes "s")) none)) (next (list 28 (next (word 29 (codes "s")) none)) none))) none)))))) ≡ [])
    × (found (list 0 (next (word 1 (codes "rangetransition")) (next (word 17 (codes "a")) (next (word 19 (codes "self")) (next (word 24 (codes "c")) (next (word 26 (codes "r")) none)))))) ≡ fault causes.ReservedName 19 (codes "self") ∷ [])
unfolding verdict_of cells_of cell_of read_row read_word read_string read_list rules containers types classes levels entry_of set_aside_words later_words left_out_words heads first_words begins_with
statements_8 = (refl, refl, refl, refl, refl, refl, refl, refl)

-- `(sensitivity s)`
-- `(sensitivityalias s)`
-- `(sensitivityaliasactual a s)`
-- `(sensitivityorder (a b))`
-- `(sensitivityorder ())`
-- `(sensitivityorder a)`
-- `(category c)`
-- `(categoryalias c)`
pub statements_9 : (found (list 0 (next (word 1 (codes "sensitivity")) (next (word 13 (codes "s")) none))) ≡ [])
    × (found (list 0 (next (word 1 (codes "sensitivityalias")) (next (word 18 (codes "s")) none))) ≡ [])
    × (found (list 0 (next (word 1 (codes "sensitivityaliasactual")) (next (word 24 (codes "a")) (next (word 26 (codes "s")) none)))) ≡ [])
    × (found (list 0 (next (word 1 (codes "sensitivityorder")) (next (list 18 (next (word 19 (codes "a")) (next (word 21 (codes "b")) none))) none))) ≡ [])
    × (found (list 0 (next (word 1 (codes "sensitivityorder")) (next (list 18 none) none))) ≡ fault causes.BadShape 0 (codes "sensitivityorder") ∷ [])
    × (found (list 0 (next (word 1 (codes "sensitivityorder")) (next (word 18 (codes "a")) none))) ≡ fault causes.BadShape 0 (codes "sensitivityorder") ∷ [])
    × (found (list 0 (next (word 1 (codes "category")) (next (word 10 (codes "c")) none))) ≡ [])
    × (found (list 0 (next (word 1 (codes "categoryalias")) (next (word 15 (codes "c")) none))) ≡ [])
unfolding verdict_of cells_of cell_of read_row read_word read_string read_list rules containers types classes levels entry_of set_aside_words later_words left_out_words heads first_words begins_with
statements_9 = (refl, refl, refl, refl, refl, refl, refl, refl)

-- `(categoryaliasactual a c)`
-- `(categoryorder (a))`
-- `(categoryset c (all))`
-- `(auditallow a b (c (d)))`
-- `(dontaudit a b p)`
-- `(neverallow a self (c (d)))`
-- `(neverallow a other (c (d)))`
-- `(macro m ((typealias a)(bool b)(boolean c)(classmap d)(classpermission e)))`
pub statements_10 : (found (list 0 (next (word 1 (codes "categoryaliasactual")) (next (word 21 (codes "a")) (next (word 23 (codes "c")) none)))) ≡ [])
    × (found (list 0 (next (word 1 (codes "categoryorder")) (next (list 15 (next (word 16 (codes "a")) none)) none))) ≡ [])
    × (found (list 0 (next (word 1 (codes "categoryset")) (next (word 13 (codes "c")) (next (list 15 (next (word 16 (codes "all")) none)) none)))) ≡ [])
    × (found (list 0 (next (word 1 (codes "auditallow")) (next (word 12 (codes "a")) (next (word 14 (codes "b")) (next (list 16 (next (word 17 (codes "c")) (next (list 19 (next (word 20 (codes "d")) none)) none))) none))))) ≡ [])
    × (found (list 0 (next (word 1 (codes "dontaudit")) (next (word 11 (codes "a")) (next (word 13 (codes "b")) (next (word 15 (codes "p")) none))))) ≡ [])
    × (found (list 0 (next (word 1 (codes "neverallow")) (next (word 12 (codes "a")) (next (word 14 (codes "self")) (next (list 19 (next (word 20 (codes "c")) (next (list 22 (next (word 23 (codes "d")) none)) none))) none))))) ≡ [])
    × (found (list 0 (next (word 1 (codes "neverallow")) (next (word 12 (codes "a")) (next (word 14 (codes "other")) (next (list 20 (next (word 21 (codes "c")) (next (list 23 (next (word 24 (codes "d")) none)) none))) none))))) ≡ fault causes.Unsupported 14 (codes "other") ∷ [])
    × (found (list 0 (next (word 1 (codes "macro")) (next (word 7 (codes "m")) (next (list 9 (next (list 10 (next (word 11 (codes "typealias")) (next (word 21 (codes "a")) none))) (next (list 23 (next (word 24 (codes "bool")) (next (word 29 (codes "b")) none))) (next (list 31 (next (word 32 (codes "boolean")) (next (word 40 (codes "c")) none))) (next (list 42 (next (word 43 (codes "classmap")) (next (word 52 (codes "d")) none))) (next (list 54 (next (word 55 (codes "classpermission")) (next (word 71 (codes "e")) none))) none)))))) none)))) ≡ [])
unfolding verdict_of cells_of cell_of read_row read_word read_string read_list rules containers types classes levels entry_of set_aside_words later_words left_out_words heads first_words begins_with
statements_10 = (refl, refl, refl, refl, refl, refl, refl, refl)

-- `(macro m ((sensitivity a)(category b)(categoryset c)(level d)(levelrange e)))`
-- `(macro m ((block a)(ipaddr b)(sensitivityalias c)))`
-- `(macro m ((self a)(1x b)))`
-- `(macro m (("type" a)))`
pub statements_11 : (found (list 0 (next (word 1 (codes "macro")) (next (word 7 (codes "m")) (next (list 9 (next (list 10 (next (word 11 (codes "sensitivity")) (next (word 23 (codes "a")) none))) (next (list 25 (next (word 26 (codes "category")) (next (word 35 (codes "b")) none))) (next (list 37 (next (word 38 (codes "categoryset")) (next (word 50 (codes "c")) none))) (next (list 52 (next (word 53 (codes "level")) (next (word 59 (codes "d")) none))) (next (list 61 (next (word 62 (codes "levelrange")) (next (word 73 (codes "e")) none))) none)))))) none)))) ≡ [])
    × (found (list 0 (next (word 1 (codes "macro")) (next (word 7 (codes "m")) (next (list 9 (next (list 10 (next (word 11 (codes "block")) (next (word 17 (codes "a")) none))) (next (list 19 (next (word 20 (codes "ipaddr")) (next (word 27 (codes "b")) none))) (next (list 29 (next (word 30 (codes "sensitivityalias")) (next (word 47 (codes "c")) none))) none)))) none)))) ≡ fault causes.Unsupported 11 (codes "block") ∷ fault causes.Unsupported 20 (codes "ipaddr") ∷ fault causes.Unsupported 30 (codes "sensitivityalias") ∷ [])
    × (found (list 0 (next (word 1 (codes "macro")) (next (word 7 (codes "m")) (next (list 9 (next (list 10 (next (word 11 (codes "self")) (next (word 16 (codes "a")) none))) (next (list 18 (next (word 19 (codes "1x")) (next (word 22 (codes "b")) none))) none))) none)))) ≡ fault causes.Unsupported 11 (codes "self") ∷ fault causes.Unsupported 19 (codes "1x") ∷ [])
    × (found (list 0 (next (word 1 (codes "macro")) (next (word 7 (codes "m")) (next (list 9 (next (list 10 (next (Quoted (record { start = 11; end = 17 }) (34 ∷ 116 ∷ 121 ∷ 112 ∷ 101 ∷ 34 ∷ [])) (next (word 18 (codes "a")) none))) none)) none)))) ≡ fault causes.BadShape 0 (codes "macro") ∷ [])
unfolding verdict_of cells_of cell_of read_row read_word read_string read_list rules containers types classes levels entry_of set_aside_words later_words left_out_words heads first_words begins_with
statements_11 = (refl, refl, refl, refl)

-- `(constrain p (eq u1 u2))`
-- `(constrain 1x (eq u1 1x))`
-- `(mlsconstrain p (dom r1 r2))`
-- `(neverallow a b p)`
-- `(classpermissionset p (c (not a)))`
-- `(classmapping m p (c all))`
pub names_1 : (found (list 0 (next (word 1 (codes "constrain")) (next (word 11 (codes "p")) (next (list 13 (next (word 14 (codes "eq")) (next (word 17 (codes "u1")) (next (word 20 (codes "u2")) none)))) none)))) ≡ [])
    × (found (list 0 (next (word 1 (codes "constrain")) (next (word 11 (codes "1x")) (next (list 14 (next (word 15 (codes "eq")) (next (word 18 (codes "u1")) (next (word 21 (codes "1x")) none)))) none)))) ≡ fault causes.BadName 11 (codes "1x") ∷ fault causes.BadName 21 (codes "1x") ∷ [])
    × (found (list 0 (next (word 1 (codes "mlsconstrain")) (next (word 14 (codes "p")) (next (list 16 (next (word 17 (codes "dom")) (next (word 21 (codes "r1")) (next (word 24 (codes "r2")) none)))) none)))) ≡ fault causes.Unsupported 17 (codes "dom") ∷ [])
    × (found (list 0 (next (word 1 (codes "neverallow")) (next (word 12 (codes "a")) (next (word 14 (codes "b")) (next (word 16 (codes "p")) none))))) ≡ [])
    × (found (list 0 (next (word 1 (codes "classpermissionset")) (next (word 20 (codes "p")) (next (list 22 (next (word 23 (codes "c")) (next (list 25 (next (word 26 (codes "not")) (next (word 30 (codes "a")) none))) none))) none)))) ≡ [])
    × (found (list 0 (next (word 1 (codes "classmapping")) (next (word 14 (codes "m")) (next (word 16 (codes "p")) (next (list 18 (next (word 19 (codes "c")) (next (word 21 (codes "all")) none))) none))))) ≡ [])
unfolding verdict_of cells_of cell_of read_row read_word read_string read_list rules containers types classes levels entry_of set_aside_words later_words left_out_words heads first_words begins_with
names_1 = (refl, refl, refl, refl, refl, refl)

-- `(common)`
-- `(classcommon)`
-- `(classmap)`
-- `(sensitivity)`
-- `(sensitivityalias)`
-- `(sensitivityaliasactual)`
-- `(sensitivityorder)`
-- `(sensitivitycategory)`
pub bare_1 : (found (list 0 (next (word 1 (codes "common")) none)) ≡ fault causes.BadShape 0 (codes "common") ∷ [])
    × (found (list 0 (next (word 1 (codes "classcommon")) none)) ≡ fault causes.BadShape 0 (codes "classcommon") ∷ [])
    × (found (list 0 (next (word 1 (codes "classmap")) none)) ≡ fault causes.BadShape 0 (codes "classmap") ∷ [])
    × (found (list 0 (next (word 1 (codes "sensitivity")) none)) ≡ fault causes.BadShape 0 (codes "sensitivity") ∷ [])
    × (found (list 0 (next (word 1 (codes "sensitivityalias")) none)) ≡ fault causes.BadShape 0 (codes "sensitivityalias") ∷ [])
    × (found (list 0 (next (word 1 (codes "sensitivityaliasactual")) none)) ≡ fault causes.BadShape 0 (codes "sensitivityaliasactual") ∷ [])
    × (found (list 0 (next (word 1 (codes "sensitivityorder")) none)) ≡ fault causes.BadShape 0 (codes "sensitivityorder") ∷ [])
    × (found (list 0 (next (word 1 (codes "sensitivitycategory")) none)) ≡ fault causes.BadShape 0 (codes "sensitivitycategory") ∷ [])
unfolding verdict_of cells_of cell_of read_row read_word read_string read_list rules containers types classes levels entry_of set_aside_words later_words left_out_words heads first_words begins_with
bare_1 = (refl, refl, refl, refl, refl, refl, refl, refl)

-- `(mls)`
-- `(category)`
-- `(categoryalias)`
-- `(categoryaliasactual)`
-- `(categoryorder)`
-- `(categoryset)`
-- `(booleanif)`
-- `(roleallow)`
pub bare_2 : (found (list 0 (next (word 1 (codes "mls")) none)) ≡ fault causes.BadShape 0 (codes "mls") ∷ [])
    × (found (list 0 (next (word 1 (codes "category")) none)) ≡ fault causes.BadShape 0 (codes "category") ∷ [])
    × (found (list 0 (next (word 1 (codes "categoryalias")) none)) ≡ fault causes.BadShape 0 (codes "categoryalias") ∷ [])
    × (found (list 0 (next (word 1 (codes "categoryaliasactual")) none)) ≡ fault causes.BadShape 0 (codes "categoryaliasactual") ∷ [])
    × (found (list 0 (next (word 1 (codes "categoryorder")) none)) ≡ fault causes.BadShape 0 (codes "categoryorder") ∷ [])
    × (found (list 0 (next (word 1 (codes "categoryset")) none)) ≡ fault causes.BadShape 0 (codes "categoryset") ∷ [])
    × (found (list 0 (next (word 1 (codes "booleanif")) none)) ≡ fault causes.BadShape 0 (codes "booleanif") ∷ [])
    × (found (list 0 (next (word 1 (codes "roleallow")) none)) ≡ fault causes.BadShape 0 (codes "roleallow") ∷ [])
unfolding verdict_of cells_of cell_of read_row read_word read_string read_list rules containers types classes levels entry_of set_aside_words later_words left_out_words heads first_words begins_with
bare_2 = (refl, refl, refl, refl, refl, refl, refl, refl)

-- `(userlevel)`
-- `(userrange)`
-- `(classpermission)`
-- `(classpermissionset)`
-- `(classmapping)`
-- `(classorder)`
-- `(boolean)`
-- `(level)`
pub bare_3 : (found (list 0 (next (word 1 (codes "userlevel")) none)) ≡ fault causes.BadShape 0 (codes "userlevel") ∷ [])
    × (found (list 0 (next (word 1 (codes "userrange")) none)) ≡ fault causes.BadShape 0 (codes "userrange") ∷ [])
    × (found (list 0 (next (word 1 (codes "classpermission")) none)) ≡ fault causes.BadShape 0 (codes "classpermission") ∷ [])
    × (found (list 0 (next (word 1 (codes "classpermissionset")) none)) ≡ fault causes.BadShape 0 (codes "classpermissionset") ∷ [])
    × (found (list 0 (next (word 1 (codes "classmapping")) none)) ≡ fault causes.BadShape 0 (codes "classmapping") ∷ [])
    × (found (list 0 (next (word 1 (codes "classorder")) none)) ≡ fault causes.BadShape 0 (codes "classorder") ∷ [])
    × (found (list 0 (next (word 1 (codes "boolean")) none)) ≡ fault causes.BadShape 0 (codes "boolean") ∷ [])
    × (found (list 0 (next (word 1 (codes "level")) none)) ≡ fault causes.BadShape 0 (codes "level") ∷ [])
unfolding verdict_of cells_of cell_of read_row read_word read_string read_list rules containers types classes levels entry_of set_aside_words later_words left_out_words heads first_words begins_with
bare_3 = (refl, refl, refl, refl, refl, refl, refl, refl)

-- `(levelrange)`
-- `(rangetransition)`
-- `(neverallow)`
-- `(constrain)`
-- `(mlsconstrain)`
-- `(auditallow)`
-- `(dontaudit)`
pub bare_4 : (found (list 0 (next (word 1 (codes "levelrange")) none)) ≡ fault causes.BadShape 0 (codes "levelrange") ∷ [])
    × (found (list 0 (next (word 1 (codes "rangetransition")) none)) ≡ fault causes.BadShape 0 (codes "rangetransition") ∷ [])
    × (found (list 0 (next (word 1 (codes "neverallow")) none)) ≡ fault causes.BadShape 0 (codes "neverallow") ∷ [])
    × (found (list 0 (next (word 1 (codes "constrain")) none)) ≡ fault causes.BadShape 0 (codes "constrain") ∷ [])
    × (found (list 0 (next (word 1 (codes "mlsconstrain")) none)) ≡ fault causes.BadShape 0 (codes "mlsconstrain") ∷ [])
    × (found (list 0 (next (word 1 (codes "auditallow")) none)) ≡ fault causes.BadShape 0 (codes "auditallow") ∷ [])
    × (found (list 0 (next (word 1 (codes "dontaudit")) none)) ≡ fault causes.BadShape 0 (codes "dontaudit") ∷ [])
unfolding verdict_of cells_of cell_of read_row read_word read_string read_list rules containers types classes levels entry_of set_aside_words later_words left_out_words heads first_words begins_with
bare_4 = (refl, refl, refl, refl, refl, refl, refl)

-- `(boolean bo true)`
-- `(booleanif bo (false (allow b a (file (open)))))`
-- `(neverallow b a (file (open read)))`
-- `(mls true)`
-- `(sensitivity s0)`
-- `(category c0)`
-- `(sensitivityorder (s0 s1))`
-- `(categoryorder (c0 c1 c2 c3))`
pub rows_1 : (found (list 0 (next (word 1 (codes "boolean")) (next (word 9 (codes "bo")) (next (word 12 (codes "true")) none)))) ≡ [])
    × (found (list 0 (next (word 1 (codes "booleanif")) (next (word 11 (codes "bo")) (next (list 14 (next (word 15 (codes "false")) (next (list 21 (next (word 22 (codes "allow")) (next (word 28 (codes "b")) (next (word 30 (codes "a")) (next (list 32 (next (word 33 (codes "file")) (next (list 38 (next (word 39 (codes "open")) none)) none))) none))))) none))) none)))) ≡ [])
    × (found (list 0 (next (word 1 (codes "neverallow")) (next (word 12 (codes "b")) (next (word 14 (codes "a")) (next (list 16 (next (word 17 (codes "file")) (next (list 22 (next (word 23 (codes "open")) (next (word 28 (codes "read")) none))) none))) none))))) ≡ [])
    × (found (list 0 (next (word 1 (codes "mls")) (next (word 5 (codes "true")) none))) ≡ [])
    × (found (list 0 (next (word 1 (codes "sensitivity")) (next (word 13 (codes "s0")) none))) ≡ [])
    × (found (list 0 (next (word 1 (codes "category")) (next (word 10 (codes "c0")) none))) ≡ [])
    × (found (list 0 (next (word 1 (codes "sensitivityorder")) (next (list 18 (next (word 19 (codes "s0")) (next (word 22 (codes "s1")) none))) none))) ≡ [])
    × (found (list 0 (next (word 1 (codes "categoryorder")) (next (list 15 (next (word 16 (codes "c0")) (next (word 19 (codes "c1")) (next (word 22 (codes "c2")) (next (word 25 (codes "c3")) none))))) none))) ≡ [])
unfolding verdict_of cells_of cell_of read_row read_word read_string read_list rules containers types classes levels entry_of set_aside_words later_words left_out_words heads first_words begins_with
rows_1 = (refl, refl, refl, refl, refl, refl, refl, refl)

-- `(sensitivitycategory s0 (all))`
-- `(userrange u ((s0) (s1 (range c0 c3))))`
-- `(mlsconstrain (file (read)) (dom l1 l2))`
-- `(typeattribute cil_gen_require)`
-- `(roleattribute cil_gen_require)`
-- `(roletype system_r foo_t)`
-- `(typeattributeset cil_gen_require foo_t)`
-- `(optional foo_optional_2 (typeattributeset cil_gen_require bar_t) (allow foo_t bar_t (file (read ))))`
pub rows_2 : (found (list 0 (next (word 1 (codes "sensitivitycategory")) (next (word 21 (codes "s0")) (next (list 24 (next (word 25 (codes "all")) none)) none)))) ≡ [])
    × (found (list 0 (next (word 1 (codes "userrange")) (next (word 11 (codes "u")) (next (list 13 (next (list 14 (next (word 15 (codes "s0")) none)) (next (list 19 (next (word 20 (codes "s1")) (next (list 23 (next (word 24 (codes "range")) (next (word 30 (codes "c0")) (next (word 33 (codes "c3")) none)))) none))) none))) none)))) ≡ [])
    × (found (list 0 (next (word 1 (codes "mlsconstrain")) (next (list 14 (next (word 15 (codes "file")) (next (list 20 (next (word 21 (codes "read")) none)) none))) (next (list 28 (next (word 29 (codes "dom")) (next (word 33 (codes "l1")) (next (word 36 (codes "l2")) none)))) none)))) ≡ [])
    × (found (list 0 (next (word 1 (codes "typeattribute")) (next (word 15 (codes "cil_gen_require")) none))) ≡ [])
    × (found (list 0 (next (word 1 (codes "roleattribute")) (next (word 15 (codes "cil_gen_require")) none))) ≡ [])
    × (found (list 0 (next (word 1 (codes "roletype")) (next (word 10 (codes "system_r")) (next (word 19 (codes "foo_t")) none)))) ≡ [])
    × (found (list 0 (next (word 1 (codes "typeattributeset")) (next (word 18 (codes "cil_gen_require")) (next (word 34 (codes "foo_t")) none)))) ≡ [])
    × (found (list 0 (next (word 1 (codes "optional")) (next (word 10 (codes "foo_optional_2")) (next (list 25 (next (word 26 (codes "typeattributeset")) (next (word 43 (codes "cil_gen_require")) (next (word 59 (codes "bar_t")) none)))) (next (list 66 (next (word 67 (codes "allow")) (next (word 73 (codes "foo_t")) (next (word 79 (codes "bar_t")) (next (list 85 (next (word 86 (codes "file")) (next (list 91 (next (word 92 (codes "read")) none)) none))) none))))) none))))) ≡ [])
unfolding verdict_of cells_of cell_of read_row read_word read_string read_list rules containers types classes levels entry_of set_aside_words later_words left_out_words heads first_words begins_with
rows_2 = (refl, refl, refl, refl, refl, refl, refl, refl)

-- `(optional foo_optional_3 (typeattributeset cil_gen_require foo_t) (allow foo_t self (file (open read ))))`
-- `(allow foo_t bar_t (file (read )))`
-- `(allow foo_t self (file (open read )))`
-- `(filecon "/usr/bin/foo" file (system_u object_r foo_t ((s0) (s0))))`
-- `(classmap m (rw))`
-- `(classmapping m rw (file (all)))`
-- `(allow b a (m (rw)))`
pub rows_3 : (found (list 0 (next (word 1 (codes "optional")) (next (word 10 (codes "foo_optional_3")) (next (list 25 (next (word 26 (codes "typeattributeset")) (next (word 43 (codes "cil_gen_require")) (next (word 59 (codes "foo_t")) none)))) (next (list 66 (next (word 67 (codes "allow")) (next (word 73 (codes "foo_t")) (next (word 79 (codes "self")) (next (list 84 (next (word 85 (codes "file")) (next (list 90 (next (word 91 (codes "open")) (next (word 96 (codes "read")) none))) none))) none))))) none))))) ≡ [])
    × (found (list 0 (next (word 1 (codes "allow")) (next (word 7 (codes "foo_t")) (next (word 13 (codes "bar_t")) (next (list 19 (next (word 20 (codes "file")) (next (list 25 (next (word 26 (codes "read")) none)) none))) none))))) ≡ [])
    × (found (list 0 (next (word 1 (codes "allow")) (next (word 7 (codes "foo_t")) (next (word 13 (codes "self")) (next (list 18 (next (word 19 (codes "file")) (next (list 24 (next (word 25 (codes "open")) (next (word 30 (codes "read")) none))) none))) none))))) ≡ [])
    × (found (list 0 (next (word 1 (codes "filecon")) (next (Quoted (record { start = 9; end = 23 }) (34 ∷ 47 ∷ 117 ∷ 115 ∷ 114 ∷ 47 ∷ 98 ∷ 105 ∷ 110 ∷ 47 ∷ 102 ∷ 111 ∷ 111 ∷ 34 ∷ [])) (next (word 24 (codes "file")) (next (list 29 (next (word 30 (codes "system_u")) (next (word 39 (codes "object_r")) (next (word 48 (codes "foo_t")) (next (list 54 (next (list 55 (next (word 56 (codes "s0")) none)) (next (list 60 (next (word 61 (codes "s0")) none)) none))) none))))) none))))) ≡ [])
    × (found (list 0 (next (word 1 (codes "classmap")) (next (word 10 (codes "m")) (next (list 12 (next (word 13 (codes "rw")) none)) none)))) ≡ [])
    × (found (list 0 (next (word 1 (codes "classmapping")) (next (word 14 (codes "m")) (next (word 16 (codes "rw")) (next (list 19 (next (word 20 (codes "file")) (next (list 25 (next (word 26 (codes "all")) none)) none))) none))))) ≡ [])
    × (found (list 0 (next (word 1 (codes "allow")) (next (word 7 (codes "b")) (next (word 9 (codes "a")) (next (list 11 (next (word 12 (codes "m")) (next (list 14 (next (word 15 (codes "rw")) none)) none))) none))))) ≡ [])
unfolding verdict_of cells_of cell_of read_row read_word read_string read_list rules containers types classes levels entry_of set_aside_words later_words left_out_words heads first_words begins_with
rows_3 = (refl, refl, refl, refl, refl, refl, refl)
