-- An argument that is a list, as it is kept: its parts one after another, not as a tree. So no pass over it calls itself, however
-- many macros handed it on. This project's profile.
use Rattle.std.specs.Prelude.{◌≡◌, ℕ, List, [], ◌∷◌, ◌++◌, map, Option, Some, None, slice_get}
use Rattle.cil_syntax.specs.declared.kind.Sign.TheVariants as signs
use Rattle.cil_syntax.specs.declared.term.Op.{Op}
use Rattle.cil_faults.specs.declared.spot.Spot.{Spot}
use Rattle.cil_syntax.specs.Scopes.{ScopedWord}
use Rattle.cil_syntax.specs.Terms.{Term, Leaf, Name, Form, Terms, nil, cons}
use Rattle.cil_macros.specs.declared.listed.Listed as kept
use Rattle.cil_macros.specs.declared.listed.Part as kept_part
use Rattle.cil_macros.specs.declared.listed.Part.TheVariants as kept_parts
use Rattle.cil_macros.specs.declared.placed_word.PlacedWord.{PlacedWord}
use Rattle.cil_macros.specs.Placed.{Placed, wanting}

-- ---- words in scopes

-- the scope of what is placed somewhere
abbrev pub scope_there : Option Placed → List (List (List ℕ))
scope_there None = []
scope_there (Some p) = p.standing.scope

abbrev pub scope_by : List Placed → Option ℕ → List (List (List ℕ))
scope_by ps None = []
scope_by ps (Some k) = scope_there (slice_get ps k)

-- a word in the scope of what is placed somewhere
abbrev pub scoped_by : List Placed → PlacedWord → ScopedWord
scoped_by ps w = record { at = w.word.at; bytes = w.word.bytes; sign = w.word.sign; scope = scope_by ps w.scope }

-- ---- parts

-- a part of a list: a word, a string, and where a list inside begins and ends
pub data Part : Type 0 where
  word : ScopedWord → Part
  text : Spot → List ℕ → Part
  opens : Spot → Op → Part
  closes : Part

unfoldable mutual
  -- the parts of a term, in order
  pub parts_of : Term ScopedWord → List Part
  parts_of (Leaf w) = word w ∷ []
  parts_of (Name at bytes) = text at bytes ∷ []
  parts_of (Form at op ts) = opens at op ∷ (all_parts_of ts ++ closes ∷ [])

  pub all_parts_of : Terms ScopedWord → List Part
  all_parts_of nil = []
  all_parts_of (cons t ts) = parts_of t ++ all_parts_of ts

-- the words among some parts, in order
unfoldable pub words_in_parts : List Part → List ScopedWord
words_in_parts [] = []
words_in_parts (word w ∷ xs) = w ∷ words_in_parts xs
words_in_parts (text at bytes ∷ xs) = words_in_parts xs
words_in_parts (opens at op ∷ xs) = words_in_parts xs
words_in_parts (closes ∷ xs) = words_in_parts xs

-- where a permission of a class map stands, a list is of a class alone: so its first part is, if it is a word
abbrev pub plain_first : List Part → List Part
plain_first [] = []
plain_first (word w ∷ xs) = word (wanting signs.PlainClass w) ∷ xs
plain_first (text at bytes ∷ xs) = text at bytes ∷ xs
plain_first (opens at op ∷ xs) = opens at op ∷ xs
plain_first (closes ∷ xs) = closes ∷ xs

-- ---- what parts say

-- the terms of the list in which some parts begin, and those of the lists round it that end behind them
abbrev pub Read : Type 0
Read = Terms ScopedWord × List (Terms ScopedWord)

abbrev pub listed_in : Spot → Op → Terms ScopedWord → List (Terms ScopedWord) → Read
listed_in at op ts [] = (cons (Form at op ts) nil, [])
listed_in at op ts (us ∷ outer) = (cons (Form at op ts) us, outer)

abbrev pub with_part : Part → Read → Read
with_part (word w) r = (cons (Leaf w) r.0, r.1)
with_part (text at bytes) r = (cons (Name at bytes) r.0, r.1)
with_part (opens at op) r = listed_in at op r.0 r.1
with_part closes r = (nil, r.0 ∷ r.1)

unfoldable pub read_parts : List Part → Read
read_parts [] = (nil, [])
read_parts (x ∷ xs) = with_part x (read_parts xs)

-- the terms that parts are
abbrev pub terms_in : List Part → Terms ScopedWord
terms_in xs = (read_parts xs).0

-- ---- as they are kept

abbrev pub part_there : List Placed → kept_part.Part → Part
part_there ps (kept_parts.Word w) = word (scoped_by ps w)
part_there ps (kept_parts.Text at bytes) = text at bytes
part_there ps (kept_parts.Opens at op) = opens at op
part_there ps kept_parts.Closes = closes

abbrev pub parts_there : List Placed → List kept_part.Part → List Part
parts_there ps xs = map (part_there ps) xs

-- the list that is kept
abbrev pub list_there : List Placed → kept.Listed → Term ScopedWord
list_there ps l = Form l.at l.op (terms_in (parts_there ps l.parts.items))

-- its parts are those of its terms: each list inside ends where it has to
abbrev pub IsWholeList : List Placed → kept.Listed → Type 0
IsWholeList ps l = parts_there ps l.parts.items ≡ all_parts_of (terms_in (parts_there ps l.parts.items))
