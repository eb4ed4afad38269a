-- An argument of a call is kept whole: read by any shape later, it reads as its node does.
use Rattle.std.proofs.Common.{◌≡◌, ℕ, [], ◌∷◌, refl, sym, ◌∙◌, ap}
use Rattle.std.specs.Prelude.{Some}
use Rattle.cil_syntax.specs.sexpr.Tree.{Node, Word as TextWord, Quoted, Branch, Nodes, none, next}
use Rattle.cil_syntax.specs.declared.kind.Sign.TheVariants as signs
use Rattle.cil_syntax.specs.declared.term.Op.TheVariants as ops
use Rattle.cil_syntax.specs.declared.term.Word.{Word}
use Rattle.cil_syntax.specs.Shapes.{Reading, a_list, many, unread}
use Rattle.cil_syntax.specs.Readings.{head_word, cell_of, cells_of, formed, joined, read_list, read_row}
use Rattle.cil_syntax.specs.Words.{read_string, read_word, reads}
use Rattle.cil_syntax.specs.Terms.{Term, Leaf, Name, Form, Terms, nil, cons, spot_of}
use Rattle.cil_macros.specs.Laws.{AreKept}
use Rattle.cil_macros.specs.Parameters.{cell_in, cells_in}

module _ (m : ℕ) where
  -- what is kept of a node
  mutual
    kept : Node → Term Word
    kept (TextWord place bytes) = Leaf record { at = spot_of m place; bytes = bytes; sign = signs.Unread }
    kept (Quoted place bytes) = Form (spot_of m place) ops.UnreadText (cons (Name (spot_of m place) bytes) nil)
    kept (Branch place inner) = Form (spot_of m place) ops.UnreadList (all_kept inner)

    all_kept : Nodes → Terms Word
    all_kept none = nil
    all_kept (next n ns) = cons (kept n) (all_kept ns)

  mutual
    unfolding kept all_kept cell_of cells_of read_word read_string read_list read_row

    is_kept : (n : Node) → (cell_of m n).read unread ≡ reads (kept n) []
    is_kept (TextWord place bytes) = refl
    is_kept (Quoted place bytes) = refl
    is_kept (Branch place inner) = ap (formed (spot_of m place) ops.UnreadList []) (are_kept inner)

    are_kept : (ns : Nodes) → read_row (many unread) (cells_of m ns) ≡ reads (all_kept ns) []
    are_kept none = refl
    are_kept (next n ns) = ap (λ a. joined a (read_row (many unread) (cells_of m ns))) (is_kept n) ∙ ap (joined (reads (kept n) [])) (are_kept ns)

  mutual
    unfolding kept all_kept cell_of cells_of cell_in cells_in

    reads_as_node : (n : Node) → cell_in (kept n) ≡ cell_of m n
    reads_as_node (TextWord place bytes) = refl
    reads_as_node (Quoted place bytes) = refl
    reads_as_node (Branch place inner) = ap (λ cs. record { at = spot_of m place; face = a_list (head_word cs); read = read_list (spot_of m place) cs }) (read_as_nodes inner)

    read_as_nodes : (ns : Nodes) → cells_in (all_kept ns) ≡ cells_of m ns
    read_as_nodes none = refl
    read_as_nodes (next n ns) = λ i. reads_as_node n i ∷ read_as_nodes ns i

one_reading : (r s : Reading (Term Word)) → Some r ≡ Some s → r ≡ s
one_reading r s e = cc

pub are_kept_whole : AreKept
are_kept_whole m n t faults e =
    let same = one_reading (record { value = t; faults = faults }) (record { value = kept m n; faults = [] }) (sym e ∙ is_kept m n) in
    (ap (λ (r : Reading (Term Word)). cell_in r.value) same ∙ reads_as_node m n, ap (λ (r : Reading (Term Word)). r.faults) same)
