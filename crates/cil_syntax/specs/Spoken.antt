-- The tables of languages of Rust, as those of the definitions. No other crate needs these words.
use Rattle.std.specs.Prelude.{◌≡◌, ℕ, List, [], map, find, Option, Some, None}
use Rattle.std.specs.Borrow.{Bor}
use Rattle.cil_sexpr.specs.declared.node.Node as nodes
use Rattle.cil_sexpr.specs.View.{nodes_of}
use Rattle.cil_syntax.specs.declared.kind.Language.{Language}
use Rattle.cil_syntax.specs.declared.kind.Language.TheVariants as languages
use Rattle.cil_syntax.specs.declared.head.Behind as behinds
use Rattle.cil_syntax.specs.declared.head.Behind.TheVariants.{One, Two, Parts}
use Rattle.cil_syntax.specs.declared.head.Head as rust
use Rattle.cil_syntax.specs.declared.head.Part as parts
use Rattle.cil_syntax.specs.declared.head.Part.TheOpen.{Part-F}
use Rattle.cil_syntax.specs.Laid.{items_of}
use Rattle.cil_syntax.specs.Shapes.{Shape, looked_up, fixed, either, Row}
use Rattle.cil_syntax.specs.Heads.{Head, begins_with, head_in, level_heads, names, one_operand, two_operands, first_words}
use Rattle.cil_syntax.specs.Readings.{cells_of}

abbrev pub part_layer : Part-F Shape → Shape
part_layer (Part-F.Fixed word op) = fixed word.now op
part_layer (Part-F.LookedUp sign) = looked_up sign
part_layer (Part-F.Names sign) = names sign
part_layer (Part-F.Or word op part) = either (fixed word.now op) part.now

abbrev pub part_of : parts.Part → Shape
part_of = parts.fold-Part Shape part_layer

abbrev pub behind_seen : Language → behinds.Behind → Row
behind_seen language One = one_operand language
behind_seen language Two = two_operands language
behind_seen language (Parts ps) = items_of (map part_of ps.now)

abbrev pub words_seen : List (Bor (List ℕ)) → List (List ℕ)
words_seen words = map (λ w. w.now) words

abbrev pub head_seen : Language → rust.Head → Head
head_seen language h = record { words = words_seen h.words.now; op = h.op; taken = h.taken; row = behind_seen language h.behind }

-- the comparisons of levels that a language has
abbrev pub levels_compared : Language → List Head
levels_compared languages.LevelConstraints = level_heads
levels_compared language = []

-- the first of some heads with which nodes begin, or none
abbrev pub HasHeadOf : Language → List Head → List ℕ → List nodes.Node → Option (Bor rust.Head) → Type 0
HasHeadOf language hs text ns None = (m : ℕ) → find (λ h. begins_with h.words (first_words (cells_of m (nodes_of text ns)))) hs ≡ None
HasHeadOf language hs text ns (Some h) = (m : ℕ) → find (λ h. begins_with h.words (first_words (cells_of m (nodes_of text ns)))) hs ≡ Some (head_seen language h.now)

-- the head of a language with which nodes begin, or none
abbrev pub HasHead : Language → List ℕ → List nodes.Node → Option (Bor rust.Head) → Type 0
HasHead language text ns None = (m : ℕ) → head_in language (first_words (cells_of m (nodes_of text ns))) ≡ None
HasHead language text ns (Some h) = (m : ℕ) → head_in language (first_words (cells_of m (nodes_of text ns))) ≡ Some (head_seen language h.now)
