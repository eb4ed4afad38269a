-- How a node is read by a shape: this interpreter is the definition of a statement's shape. A grammar without faults
-- stands in Grammar.antt. This project's profile.
use Rattle.std.specs.Prelude.{ℕ, ◌==◌, length, Bool, true, false, if◌then◌else◌, List, [], ◌∷◌, ◌++◌, Option, Some, None}
use Rattle.std.specs.List.{list_all}
use Rattle.cil_sexpr.specs.Tree.{Node, Word as TextWord, Quoted, Branch, Nodes, none, next}
use Rattle.cil_faults.specs.declared.code.FaultCode.TheVariants as causes
use Rattle.cil_syntax.specs.declared.kind.Language.{Language}
use Rattle.cil_syntax.specs.declared.term.Op.{Op}
use Rattle.cil_syntax.specs.declared.term.Op.TheVariants as ops
use Rattle.cil_faults.specs.declared.spot.Spot.{Spot}
use Rattle.cil_syntax.specs.declared.term.Word.{Word}
use Rattle.cil_syntax.specs.Terms.{Term, Form, Terms, nil, cons, spot_of}
use Rattle.cil_syntax.specs.Shapes.{Shape, declared_name, looked_up, expression, fixed, left_out, any_left_out, either, list_of, tagged, unread, any_text, object_name, Row, close, item, many, counted, led, statements, anything, Inner, Reading, a_word, a_string, a_list, Cell, is_list, is_this_word, word_of, is_meant}
use Rattle.cil_syntax.specs.Words.{inner_at, reads, read_word, read_string}
use Rattle.cil_syntax.specs.Heads.{Head, other_op, other_row, first_words, head_in}

-- ---- lists

-- one item more in front
abbrev pub joined : Option (Reading (Term Word)) → Option (Reading (Terms Word)) → Option (Reading (Terms Word))
joined None rest = None
joined (Some r) None = None
joined (Some r) (Some s) = reads (cons r.value s.value) (r.faults ++ s.faults)

-- each is a list
abbrev pub all_lists : List Cell → Bool
all_lists = list_all (λ c. is_list c.face)

-- the shape is meant for the first of some cells
abbrev pub is_led : Shape → List Cell → Bool
is_led shape [] = false
is_led shape (c ∷ cs) = is_meant shape c.face

-- the items of a list by a row
unfoldable pub read_row : Row → List Cell → Option (Reading (Terms Word))
read_row close [] = reads nil []
read_row close (c ∷ cs) = None
read_row (item shape row) [] = None
read_row (item shape row) (c ∷ cs) = joined (c.read shape) (read_row row cs)
read_row (many shape) [] = reads nil []
read_row (many shape) (c ∷ cs) = joined (c.read shape) (read_row (many shape) cs)
read_row (counted count first second) cells = if length cells == count then read_row first cells else read_row second cells
read_row (led shape first second) cells = if is_led shape cells then read_row first cells else read_row second cells
read_row statements cells = if all_lists cells then reads nil [] else None
read_row anything cells = reads nil []

-- the items of a list, joined to one term
abbrev pub formed : Spot → Op → List Inner → Option (Reading (Terms Word)) → Option (Reading (Term Word))
formed at op faults None = None
formed at op faults (Some r) = reads (Form at op r.value) (faults ++ r.faults)

-- a form that is not taken is refused by its first word
abbrev pub refused_head : Bool → List Cell → List Inner
refused_head taken [] = []
refused_head true (c ∷ cs) = []
refused_head false (c ∷ cs) = inner_at c.at causes.Unsupported (word_of c.face) ∷ []

-- what is behind the first item
abbrev pub read_behind : Row → List Cell → Option (Reading (Terms Word))
read_behind row [] = None
read_behind row (c ∷ cs) = read_row row cs

abbrev pub read_headed : Spot → Head → List Cell → Option (Reading (Term Word))
read_headed at h cells = formed at h.op (refused_head h.taken cells) (read_behind h.row cells)

abbrev pub read_by_head : Spot → Language → List Cell → Option Head → Option (Reading (Term Word))
read_by_head at language cells None = formed at (other_op language) [] (read_row (other_row language) cells)
read_by_head at language cells (Some h) = read_headed at h cells

-- an expression that is a list: by the words at its head
abbrev pub read_expression : Spot → Language → List Cell → Option (Reading (Term Word))
read_expression at language cells = read_by_head at language cells (head_in language (first_words cells))

-- the word at the head of a list
abbrev pub head_word : List Cell → List ℕ
head_word [] = []
head_word (c ∷ cs) = word_of c.face

-- a list that begins with a word
abbrev pub read_tagged : Spot → List ℕ → Op → Row → List Cell → Option (Reading (Term Word))
read_tagged at word op row [] = None
read_tagged at word op row (c ∷ cs) = if is_this_word word c.face then formed at op [] (read_row row cs) else None

-- a list by a shape
unfoldable pub read_list : Spot → List Cell → Shape → Option (Reading (Term Word))
read_list at cells declared_name = None
read_list at cells (looked_up sign) = None
read_list at cells (expression language) = read_expression at language cells
read_list at cells (fixed word op) = None
read_list at cells (left_out word) = None
read_list at cells any_left_out = None
read_list at cells (either first second) = if is_meant first (a_list (head_word cells)) then read_list at cells first else read_list at cells second
read_list at cells (list_of op row) = formed at op [] (read_row row cells)
read_list at cells (tagged word op row) = read_tagged at word op row cells
read_list at cells unread = formed at ops.UnreadList [] (read_row (many unread) cells)
read_list at cells any_text = None
read_list at cells object_name = None

-- ---- nodes

unfoldable mutual
  -- a node of a module as a cell
  pub cell_of : ℕ → Node → Cell
  cell_of m (TextWord place bytes) = record { at = spot_of m place; face = a_word bytes; read = read_word (spot_of m place) bytes }
  cell_of m (Quoted place bytes) = record { at = spot_of m place; face = a_string; read = read_string (spot_of m place) bytes }
  cell_of m (Branch place inner) = record { at = spot_of m place; face = a_list (head_word (cells_of m inner)); read = read_list (spot_of m place) (cells_of m inner) }

  pub cells_of : ℕ → Nodes → List Cell
  cells_of m none = []
  cells_of m (next n ns) = cell_of m n ∷ cells_of m ns
