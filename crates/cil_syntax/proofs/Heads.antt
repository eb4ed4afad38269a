-- A node of Rust as a cell: how it is read.
use Rattle.std.proofs.Common.{◌≡◌, ℕ, List, [], ◌∷◌, drop, refl, sym, ◌∙◌, ap, subst, rules}
use Rattle.std.specs.Prelude.{Some, None, slice_get, slice_range}
use Rattle.std.specs.declared.vec.Vec.{Vec}
use Rattle.std.specs.declared.alloc.Global.{Global}
use Rattle.cil_sexpr.specs.declared.node.Node as nodes
use Rattle.cil_sexpr.specs.declared.node.Node.{the_lemmas}
use Rattle.cil_sexpr.specs.declared.node.Span.{Span}
use Rattle.cil_sexpr.specs.Tree.{Word as TextWord, Quoted, Branch}
use Rattle.cil_sexpr.specs.View.{node_of, nodes_of}
use Rattle.cil_syntax.specs.Shapes.{Shape, a_list, word_of}
use Rattle.cil_syntax.specs.Words.{read_word}
use Rattle.cil_syntax.specs.Readings.{read_list, head_word, cell_of, cells_of}
use Rattle.cil_syntax.specs.Terms.{spot_of}

module _ (text : List ℕ) where
  pub word_view : (place : Span) → node_of text (nodes.Word place) ≡ TextWord place (slice_range text place.start place.end)
  word_view place = search (rules, the_lemmas)

  pub quoted_view : (place : Span) → node_of text (nodes.Quoted place) ≡ Quoted place (slice_range text place.start place.end)
  quoted_view place = search (rules, the_lemmas)

  pub list_view : (place : Span) (items : Vec nodes.Node Global) → node_of text (nodes.List place items) ≡ Branch place (nodes_of text items.items)
  list_view place items = search (rules, the_lemmas)

  -- ---- how a node is read

  pub word_read : (m : ℕ) (n : nodes.Node) (place : Span) (bytes : List ℕ) (shape : Shape) → n ≡ nodes.Word place → bytes ≡ slice_range text place.start place.end
      → (cell_of m (node_of text n)).read shape ≡ read_word (spot_of m place) bytes shape
  unfolding cell_of
  word_read m n place bytes shape is spelled =
      ap (λ x. (cell_of m (node_of text x)).read shape) is ∙ ap (λ v. (cell_of m v).read shape) (word_view place)
      ∙ ap (λ b. read_word (spot_of m place) b shape) (sym spelled)

  pub list_read : (m : ℕ) (n : nodes.Node) (place : Span) (items : Vec nodes.Node Global) (inner : List nodes.Node) (shape : Shape)
      → n ≡ nodes.List place items → inner ≡ items.items
      → (cell_of m (node_of text n)).read shape ≡ read_list (spot_of m place) (cells_of m (nodes_of text inner)) shape
  unfolding cell_of
  list_read m n place items inner shape is same =
      ap (λ x. (cell_of m (node_of text x)).read shape) is ∙ ap (λ v. (cell_of m v).read shape) (list_view place items)
      ∙ ap (λ ns. read_list (spot_of m place) (cells_of m (nodes_of text ns)) shape) (sym same)

  -- ---- the word at the head of some nodes

  headed : (P : List nodes.Node → Type 0) (ns : List nodes.Node) (n : nodes.Node) → Some n ≡ slice_get ns 0 → P (n ∷ drop 1 ns) → P ns
  headed P [] n e h = absurd cc
  headed P (x ∷ xs) n e h = subst (λ y. P (y ∷ xs)) (let same : n ≡ x = cc in same) h

  pub nothing_heads : (m : ℕ) (ns : List nodes.Node) → None ≡ slice_get ns 0 → [] ≡ head_word (cells_of m (nodes_of text ns))
  unfolding cells_of
  nothing_heads m [] e = refl
  nothing_heads m (x ∷ xs) e = absurd cc

  pub word_heads : (m : ℕ) (ns : List nodes.Node) (n : nodes.Node) (place : Span) (bytes : List ℕ) → Some n ≡ slice_get ns 0 → n ≡ nodes.Word place
      → bytes ≡ slice_range text place.start place.end → bytes ≡ head_word (cells_of m (nodes_of text ns))
  unfolding cell_of cells_of
  word_heads m ns n place bytes e is spelled =
      headed (λ xs. bytes ≡ head_word (cells_of m (nodes_of text xs))) ns n e
      (spelled ∙ sym (ap (λ x. word_of (cell_of m (node_of text x)).face) is ∙ ap (λ v. word_of (cell_of m v).face) (word_view place)))

  pub string_heads : (m : ℕ) (ns : List nodes.Node) (n : nodes.Node) (place : Span) → Some n ≡ slice_get ns 0 → n ≡ nodes.Quoted place
      → [] ≡ head_word (cells_of m (nodes_of text ns))
  unfolding cell_of cells_of
  string_heads m ns n place e is =
      headed (λ xs. [] ≡ head_word (cells_of m (nodes_of text xs))) ns n e
      (sym (ap (λ x. word_of (cell_of m (node_of text x)).face) is ∙ ap (λ v. word_of (cell_of m v).face) (quoted_view place)))

  pub list_heads : (m : ℕ) (ns : List nodes.Node) (n : nodes.Node) (place : Span) (items : Vec nodes.Node Global) → Some n ≡ slice_get ns 0
      → n ≡ nodes.List place items → [] ≡ head_word (cells_of m (nodes_of text ns))
  unfolding cell_of cells_of
  list_heads m ns n place items e is =
      headed (λ xs. [] ≡ head_word (cells_of m (nodes_of text xs))) ns n e
      (sym (ap (λ x. word_of (cell_of m (node_of text x)).face) is ∙ ap (λ v. word_of (cell_of m v).face) (list_view place items)))

  -- the face of a list has the word at its head
  pub list_faced : (m : ℕ) (n : nodes.Node) (place : Span) (items : Vec nodes.Node Global) (inner : List nodes.Node) (head : List ℕ) → n ≡ nodes.List place items
      → inner ≡ items.items → head ≡ head_word (cells_of m (nodes_of text inner)) → (cell_of m (node_of text n)).face ≡ a_list head
  unfolding cell_of
  list_faced m n place items inner head is same heads =
      ap (λ x. (cell_of m (node_of text x)).face) is ∙ ap (λ v. (cell_of m v).face) (list_view place items)
      ∙ ap (λ ns. a_list (head_word (cells_of m (nodes_of text ns)))) (sym same) ∙ ap a_list (sym heads)
