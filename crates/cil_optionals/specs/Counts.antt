-- How many steps the choice of optionals takes, by what it leaves out: the optionals that are removed, and the look-ups. A
-- look-up is a visit of a declaring statement that is left out, or of a word in an optional together with something that it could
-- name and that is not declared. This project's profile.
use Rattle.std.specs.Prelude.{ℕ, suc, ◌+◌, Bool, true, false, ◌&&◌, not, cond, List, [], ◌∷◌, count_by, sum_by, is_some}
use Rattle.cil_syntax.specs.Scopes.{asked, spaces_asked}
use Rattle.cil_blocks.specs.Contents.{is_optional}
use Rattle.cil_macros.specs.Item.{Item, OptSet, everybody, innermost, is_enabled}
use Rattle.cil_names.specs.Declarations.{Declaration, declared_by}
use Rattle.cil_names.specs.Resolves.{Wanted, Word, Permission, has, words_of}

-- ---- removals

-- how many of these statements are optionals that are not in the set, where the first has the number n
unfoldable pub removed_from : ℕ → OptSet → List Item → ℕ
removed_from n s [] = 0
removed_from n s (x ∷ xs) = cond (is_optional x.keyword && not (s n)) 1 0 + removed_from (suc n) s xs

-- how many optionals are left out
abbrev pub removals : List Item → OptSet → ℕ
removals xs s = removed_from 0 s xs

-- ---- look-ups

abbrev pub is_some_of : List Declaration → Bool
is_some_of [] = false
is_some_of (d ∷ ds) = true

-- the statement declares something
abbrev pub declares : Item → Bool
declares x = is_some_of (declared_by x)

-- the statement declares something, and is left out
abbrev pub is_lost : OptSet → Item → Bool
is_lost s x = declares x && not (is_enabled s x)

-- what a word could name and what is not declared, told by its namespace: a namespace has one name of a wanted kind at most.
-- Classes and their permissions do not hang on optionals
abbrev pub lost_candidates : List Item → OptSet → Wanted → ℕ
lost_candidates xs s (Word w) =
    count_by (λ n. has xs everybody (asked w.bytes).name w.sign n && not (has xs s (asked w.bytes).name w.sign n)) (spaces_asked (asked w.bytes) w.scope)
lost_candidates xs s (Permission c p) = 0

-- the same of all words of a statement, if it is in an optional
abbrev pub lost_in : List Item → OptSet → Item → ℕ
lost_in xs s x = cond (is_some (innermost x)) (sum_by (lost_candidates xs s) (words_of x)) 0

-- the look-ups: one for each declaring statement that is left out, and one for each word in an optional with each thing that it
-- could name and that is not declared
unfoldable pub lookups : List Item → OptSet → ℕ
lookups xs s = count_by (is_lost s) xs + sum_by (lost_in xs s) xs
