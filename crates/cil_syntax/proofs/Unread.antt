-- Nodes that are kept as they are, and lists behind items.
use Rattle.std.proofs.Common.{◌≡◌, ℕ, Bool, true, false, if◌then◌else◌, ◌&&◌, List, [], ◌∷◌, refl, sym, ◌∙◌, ap, slice_range, subst, rules}
use Rattle.std.specs.Prelude.{Some, None, Result}
use Rattle.std.specs.List.{list_all}
use Rattle.std.specs.declared.vec.Vec.{Vec}
use Rattle.std.specs.declared.alloc.Global.{Global}
use Rattle.std.proofs.lemmas.List.{append-nil}
use Rattle.cil_sexpr.specs.declared.node.Node as nodes
use Rattle.cil_sexpr.specs.declared.node.Node.{the_lemmas}
use Rattle.cil_sexpr.specs.declared.node.Span.{Span}
use Rattle.cil_sexpr.specs.Tree.{Node, Word as TextWord, Quoted, Branch}
use Rattle.cil_sexpr.specs.View.{node_of, nodes_of}
use Rattle.cil_faults.specs.declared.fault.Fault.{Fault}
use Rattle.cil_syntax.specs.declared.kind.Sign.TheVariants as signs
use Rattle.cil_syntax.specs.declared.shape.Row as rows
use Rattle.cil_syntax.specs.declared.shape.Shape as shapes
use Rattle.cil_syntax.specs.declared.stop.Stop.{Stop}
use Rattle.cil_syntax.specs.declared.term.Op.TheVariants as ops
use Rattle.cil_syntax.specs.declared.term.Term as rust
use Rattle.cil_syntax.specs.Laid.{row_of, shape_of}
use Rattle.cil_syntax.specs.Words.{kept_string, reads, read_word, read_string}
use Rattle.cil_syntax.specs.Shapes.{unread, object_name, many, statements, anything, is_list, Cell}
use Rattle.cil_syntax.specs.Readings.{all_lists, formed, read_list, read_row, cell_of, cells_of}
use Rattle.cil_syntax.specs.Terms.{nil, spot_of}
use Rattle.cil_syntax.specs.Told.{AreTold, Tells, is_branch, kept_as, kept_name}
use Rattle.cil_syntax.proofs.Heads.{word_view, quoted_view, list_read}

-- ---- nodes

-- the name of an object is kept
name_kept : (m : ℕ) (n : Node) → (cell_of m n).read object_name ≡ kept_name m n
unfolding cell_of read_word read_string read_list
name_kept m (TextWord place bytes) = refl
name_kept m (Quoted place bytes) = refl
name_kept m (Branch place inner) = refl

module _ (m : ℕ) (text : List ℕ) (n : nodes.Node) (place : Span) where
  pub word_kept : n ≡ nodes.Word place → (cell_of m (node_of text n)).read unread ≡ kept_as m signs.Unread (node_of text n)
  unfolding cell_of read_word
  word_kept is =
      subst (λ x. (cell_of m (node_of text x)).read unread ≡ kept_as m signs.Unread (node_of text x)) (sym is)
      (subst (λ v. (cell_of m v).read unread ≡ kept_as m signs.Unread v) (sym (word_view text place)) refl)

  pub string_kept : n ≡ nodes.Quoted place → (cell_of m (node_of text n)).read unread ≡ kept_as m signs.Unread (node_of text n)
  unfolding cell_of read_string
  string_kept is =
      subst (λ x. (cell_of m (node_of text x)).read unread ≡ kept_as m signs.Unread (node_of text x)) (sym is)
      (subst (λ v. (cell_of m v).read unread ≡ kept_as m signs.Unread v) (sym (quoted_view text place)) refl)

  -- what a word and a string are kept as, where they are kept as texts
  pub word_name : n ≡ nodes.Word place → kept_name m (node_of text n) ≡ kept_string (spot_of m place) (slice_range text place.start place.end)
  word_name is = ap (λ x. kept_name m (node_of text x)) is ∙ ap (kept_name m) (word_view text place)

  pub string_name : n ≡ nodes.Quoted place → kept_name m (node_of text n) ≡ kept_string (spot_of m place) (slice_range text place.start place.end)
  string_name is = ap (λ x. kept_name m (node_of text x)) is ∙ ap (kept_name m) (quoted_view text place)

  pub string_text : n ≡ nodes.Quoted place → kept_as m signs.Unread (node_of text n) ≡ kept_string (spot_of m place) (slice_range text place.start place.end)
  string_text is = ap (λ x. kept_as m signs.Unread (node_of text x)) is ∙ ap (kept_as m signs.Unread) (quoted_view text place)

  pub list_kept : (items : Vec nodes.Node Global) (inner : List nodes.Node) → n ≡ nodes.List place items → inner ≡ items.items
      → (cell_of m (node_of text n)).read unread ≡ formed (spot_of m place) ops.UnreadList [] (read_row (many unread) (cells_of m (nodes_of text inner)))
  unfolding read_list
  list_kept items inner is same = list_read text m n place items inner unread is same

module _ (m : ℕ) (space : List ℕ) (n : Node) (s : shapes.Shape) (old new : List Fault) (r : Result rust.Term Stop) where
  pub unread_told : s ≡ shapes.Unread → Tells m space ((cell_of m n).read unread) old new r → Tells m space ((cell_of m n).read (shape_of s)) old new r
  unread_told is told =
      let view : shape_of shapes.Unread ≡ unread = search (rules, rows.the_lemmas) in
      subst (λ x. Tells m space ((cell_of m n).read x) old new r) (sym (ap shape_of is ∙ view)) told

  pub object_told : s ≡ shapes.ObjectName → Tells m space (kept_name m n) old new r → Tells m space ((cell_of m n).read (shape_of s)) old new r
  object_told is told =
      let view : shape_of shapes.ObjectName ≡ object_name = search (rules, rows.the_lemmas) in
      subst (λ x. Tells m space ((cell_of m n).read x) old new r) (sym (ap shape_of is ∙ view))
      (subst (λ w. Tells m space w old new r) (sym (name_kept m n)) told)

-- ---- rows

-- whatever stands there is nothing
pub anything_told : (m : ℕ) (space : List ℕ) (cells : List Cell) (row : rows.Row) (old : List Fault) (terms : Vec rust.Term Global) → row ≡ rows.Anything → terms.items ≡ []
    → AreTold m space (read_row (row_of row) cells) old old (Some terms)
unfolding read_row
anything_told m space cells row old terms is empty =
    let view : row_of rows.Anything ≡ anything = search (rules, rows.the_lemmas) in
    subst (λ x. AreTold m space (read_row x cells) old old (Some terms)) (sym (ap row_of is ∙ view)) (rw empty refl, sym (append-nil old))

-- ---- lists

-- a node is a list where its cell is one
list_faced : (m : ℕ) (n : Node) → is_list (cell_of m n).face ≡ is_branch n
unfolding cell_of
list_faced m (TextWord place bytes) = refl
list_faced m (Quoted place bytes) = refl
list_faced m (Branch place inner) = refl

module _ (m : ℕ) (space : List ℕ) (text : List ℕ) where
  lists_seen : (ns : List nodes.Node) → all_lists (cells_of m (nodes_of text ns)) ≡ list_all (λ n. is_branch (node_of text n)) ns
  unfolding cells_of
  lists_seen [] = refl
  lists_seen (n ∷ ns) = λ i. list_faced m (node_of text n) i && lists_seen ns i

  -- statements are lists, each judged by itself
  statements_read : (ns : List nodes.Node) (b : Bool) → b ≡ list_all (λ n. is_branch (node_of text n)) ns
      → read_row statements (cells_of m (nodes_of text ns)) ≡ (if b then reads nil [] else None)
  unfolding read_row
  statements_read ns b e = ap (λ x. if x then reads nil [] else None) (lists_seen ns ∙ sym e)

  pub lists_told : (ns : List nodes.Node) (old : List Fault) (v : Vec rust.Term Global) (b : Bool) → b ≡ list_all (λ n. is_branch (node_of text n)) ns → b ≡ true → v.items ≡ []
      → AreTold m space (read_row statements (cells_of m (nodes_of text ns))) old old (Some v)
  lists_told ns old v b e h empty =
      subst (λ w. AreTold m space w old old (Some v)) (sym (statements_read ns true (sym h ∙ e))) (rw empty refl, sym (append-nil old))

  pub no_lists_told : (ns : List nodes.Node) (old : List Fault) (b : Bool) → b ≡ list_all (λ n. is_branch (node_of text n)) ns → b ≡ false
      → AreTold m space (read_row statements (cells_of m (nodes_of text ns))) old old None
  no_lists_told ns old b e h = subst (λ w. AreTold m space w old old None) (sym (statements_read ns false (sym h ∙ e))) ([], sym (append-nil old))
