-- What a statement asks for, by what it says part by part. Only this crate needs these words.
use Rattle.std.specs.Prelude.{ℕ, zero, suc, ◌+◌, if◌then◌else◌, List, [], ◌∷◌, ◌++◌, drop, map, take}
use Rattle.cil_syntax.specs.Forms.{is_class_list}
use Rattle.cil_macros.specs.Listed.{Part, closes, opens, text, word as part_word, words_in_parts}
use Rattle.cil_names.specs.Resolves.{Permission, Wanted, Word as AWord}

-- of parts that begin in a list, how many are in it, with the sign that ends it; so many lists inside it have begun
unfoldable pub parts_inside : ℕ → List Part → ℕ
parts_inside depth [] = 0
parts_inside depth (part_word w ∷ xs) = suc (parts_inside depth xs)
parts_inside depth (text at bytes ∷ xs) = suc (parts_inside depth xs)
parts_inside depth (opens at op ∷ xs) = suc (parts_inside (suc depth) xs)
parts_inside zero (closes ∷ xs) = 1
parts_inside (suc depth) (closes ∷ xs) = suc (parts_inside depth xs)

-- the parts of a class list: behind its class word each word is a permission, however deep it stands
abbrev pub class_asked : List Part → List Wanted
class_asked [] = []
class_asked (part_word w ∷ xs) = AWord w ∷ map (Permission w) (words_in_parts xs)
class_asked (text at bytes ∷ xs) = []
class_asked (opens at op ∷ xs) = []
class_asked (closes ∷ xs) = []

-- all parts but the first so many, which a class list has
unfoldable pub parts_asked : ℕ → List Part → List Wanted
parts_asked passed [] = []
parts_asked (suc passed) (x ∷ xs) = parts_asked passed xs
parts_asked zero (part_word w ∷ xs) = AWord w ∷ parts_asked 0 xs
parts_asked zero (text at bytes ∷ xs) = parts_asked 0 xs
parts_asked zero (closes ∷ xs) = parts_asked 0 xs
parts_asked zero (opens at op ∷ xs) =
    if is_class_list op then class_asked (take (parts_inside 0 xs) xs) ++ parts_asked (parts_inside 0 xs) xs else parts_asked 0 xs

-- how many parts the first term has
abbrev pub term_parts : List Part → ℕ
term_parts [] = 0
term_parts (part_word w ∷ xs) = 1
term_parts (text at bytes ∷ xs) = 1
term_parts (opens at op ∷ xs) = suc (parts_inside 0 xs)
term_parts (closes ∷ xs) = 1

-- and the first two
abbrev pub two_parts : List Part → ℕ
two_parts xs = term_parts xs + term_parts (drop (term_parts xs) xs)

-- the parts of a classmapping: its first two terms are read as a class list
abbrev pub mapping_asked : List Part → List Wanted
mapping_asked xs = class_asked (take (two_parts xs) xs) ++ parts_asked 0 (drop (two_parts xs) xs)
