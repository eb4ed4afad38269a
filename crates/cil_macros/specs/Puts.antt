-- Arguments that are lists, as they are put in part by part: first as they are written, and then with the arguments of the caller put
-- in. No other crate needs these words.
use Rattle.std.specs.Prelude.{◌≡◌, ℕ, Bool, true, false, List, [], ◌∷◌, ◌++◌, Option, Some, slice_get}
use Rattle.cil_syntax.specs.declared.kind.Sign.{Sign}
use Rattle.cil_syntax.specs.declared.kind.Sign.TheVariants as signs
use Rattle.cil_syntax.specs.declared.term.Op.{Op}
use Rattle.cil_syntax.specs.declared.term.Op.TheVariants as ops
use Rattle.cil_syntax.specs.declared.term.Term as rust
use Rattle.cil_syntax.specs.declared.term.Word.{Word}
use Rattle.cil_faults.specs.declared.spot.Spot.{Spot}
use Rattle.cil_syntax.specs.Readings.{head_word, read_list}
use Rattle.cil_syntax.specs.Scopes.{ScopedWord}
use Rattle.cil_syntax.specs.Shapes.{Cell, a_list}
use Rattle.cil_syntax.specs.Terms.{Term, Leaf, Name, Form, Terms, nil}
use Rattle.cil_syntax.specs.Written.{Written}
use Rattle.cil_macros.specs.declared.listed.Part.{Part}
use Rattle.cil_macros.specs.declared.scene.Scene.{Scene}
use Rattle.cil_macros.specs.Items.{said_by}
use Rattle.cil_macros.specs.ListForms.{kept_cells}
use Rattle.cil_macros.specs.declared.listed.Listed.{Listed}
use Rattle.cil_macros.specs.declared.listed.Part.TheVariants as kept_parts
use Rattle.cil_macros.specs.Listed as lists
use Rattle.cil_macros.specs.Listed.{IsWholeList, all_parts_of, list_there, parts_of, parts_there}
use Rattle.cil_macros.specs.Placed.{Placed, all_filled, filled, meaning, unasked}
use Rattle.cil_macros.specs.Scene.{placed_of_scene}
use Rattle.cil_macros.specs.Walks.{written_in}

-- a permission of a class map, behind which a list is of a class alone. No word of an argument is one
abbrev pub is_mapped : Sign → Bool
is_mapped signs.MappedPermissions = true
is_mapped sign = false

-- sets may be lists
abbrev pub is_of_sets : Op → Bool
is_of_sets ops.CategorySetKind = true
is_of_sets kind = false

-- the list that some items are, as it was kept
abbrev pub list_cell : ℕ → Spot → List rust.Term → Cell
list_cell n at items = record { at = at; face = a_list (head_word (kept_cells n items)); read = read_list at (kept_cells n items) }

-- what a term joins
abbrev pub inside : Term Word → Terms Word
inside (Leaf w) = nil
inside (Name at bytes) = nil
inside (Form at op ts) = ts

-- what was read, if something was, is joined so
abbrev pub IsJoinedBy : Spot → Option (Term Word) → Op → Type 0
IsJoinedBy at o op = (t : Term Word) → o ≡ Some t → t ≡ Form at op (inside t)

-- ---- as it is written

-- a word as it is written: in no scope yet
abbrev pub bare : Word → Term ScopedWord
bare w = Leaf (unasked w)

-- parts of which each word is bare
abbrev pub bare_parts : List Part → List lists.Part
bare_parts xs = parts_there [] xs

-- the parts of a term were put behind others
abbrev pub WritesTerm : Term Word → List Part → List Part → Type 0
WritesTerm t old new = bare_parts new ≡ bare_parts old ++ parts_of (filled bare t)

abbrev pub WritesTerms : Terms Word → List Part → List Part → Type 0
WritesTerms ts old new = bare_parts new ≡ bare_parts old ++ all_parts_of (all_filled bare ts)

-- those of what was read, if something was
abbrev pub AsksTerm : Option (Term Word) → List Part → List Part → Type 0
AsksTerm o old new = (t : Term Word) → o ≡ Some t → bare_parts new ≡ bare_parts old ++ parts_of (filled bare t)

abbrev pub AsksTerms : Option (Terms Word) → List Part → List Part → Type 0
AsksTerms o old new = (ts : Terms Word) → o ≡ Some ts → bare_parts new ≡ bare_parts old ++ all_parts_of (all_filled bare ts)

-- those of what it joins
abbrev pub AsksInside : Option (Term Word) → List Part → List Part → Type 0
AsksInside o old new = (t : Term Word) → o ≡ Some t → bare_parts new ≡ bare_parts old ++ all_parts_of (all_filled bare (inside t))

-- ---- as it is meant

-- the word that is in a scope
abbrev pub unscoped : ScopedWord → Word
unscoped w = record { at = w.at; bytes = w.bytes; sign = w.sign }

-- a part, where words are replaced
abbrev pub put_part : (Word → Term ScopedWord) → lists.Part → List lists.Part
put_part f (lists.word w) = parts_of (f (unscoped w))
put_part f (lists.text at bytes) = lists.text at bytes ∷ []
put_part f (lists.opens at op) = lists.opens at op ∷ []
put_part f lists.closes = lists.closes ∷ []

unfoldable pub put_parts : (Word → Term ScopedWord) → List lists.Part → List lists.Part
put_parts f [] = []
put_parts f (x ∷ xs) = put_part f x ++ put_parts f xs

-- the parts of what a word means at a place were put behind others
abbrev pub PutsMeaning : Scene → ℕ → Word → List Part → List Part → Type 0
PutsMeaning s at w old new =
    (p : Placed) → slice_get (placed_of_scene s) at ≡ Some p
    → parts_there (placed_of_scene s) new ≡ parts_there (placed_of_scene s) old ++ parts_of (meaning (written_in s.spaces.now) p w)

-- how a word is read where a statement is placed: as it is meant (`meaning`), or as it is said (`said_by`)
abbrev pub Placing : Type 0
Placing = List Written → Placed → Word → Term ScopedWord

-- the parts of a bare part, if it is a word as that is read at a place
abbrev pub PutsPart : Placing → Scene → ℕ → Part → List Part → List Part → Type 0
PutsPart f s at x old new =
    (p : Placed) → slice_get (placed_of_scene s) at ≡ Some p
    → parts_there (placed_of_scene s) new ≡ parts_there (placed_of_scene s) old ++ put_part (f (written_in s.spaces.now) p) (lists.part_there [] x)

-- those of bare parts
abbrev pub PutsParts : Placing → Scene → ℕ → List Part → List Part → List Part → Type 0
PutsParts f s at asked old new =
    (p : Placed) → slice_get (placed_of_scene s) at ≡ Some p
    → parts_there (placed_of_scene s) new ≡ parts_there (placed_of_scene s) old ++ put_parts (f (written_in s.spaces.now) p) (bare_parts asked)

-- the list is what was read, if something was, as it is at a place
abbrev pub SaysList : Scene → ℕ → Option (Term Word) → Listed → Type 0
SaysList s at o l =
    (p : Placed) (t : Term Word) → slice_get (placed_of_scene s) at ≡ Some p → o ≡ Some t
    → (list_there (placed_of_scene s) l ≡ filled (meaning (written_in s.spaces.now) p) t) × IsWholeList (placed_of_scene s) l

-- the parts of what a word says at a place were put behind others
abbrev pub SaysWord : Scene → ℕ → Word → List Part → List Part → Type 0
SaysWord s at w old new =
    (p : Placed) → slice_get (placed_of_scene s) at ≡ Some p
    → parts_there (placed_of_scene s) new ≡ parts_there (placed_of_scene s) old ++ parts_of (said_by (written_in s.spaces.now) p w)

-- a string, as it is kept
abbrev pub text_parts : Spot → List ℕ → List Part
text_parts at bytes = kept_parts.Opens at ops.UnreadText ∷ kept_parts.Text at bytes ∷ kept_parts.Closes ∷ []
