-- The terms that are read of a statement nest no deeper than the lists of its text.
use Rattle.std.specs.Prelude.{Contains, Option, Some, None}
use Rattle.std.proofs.Common.{◌≡◌, ℕ, zero, suc, ◌+◌, List, [], ◌∷◌, refl, subst, arith}
use Rattle.cil_sexpr.specs.Text.{IsNode, AreNodes, deepest}
use Rattle.cil_sexpr.specs.Tree.{Node, Word as TextWord, Quoted, Branch, Nodes, none, next, span_of, inner_of}
use Rattle.cil_modset.specs.Modules.{module_of}
use Rattle.cil_faults.specs.declared.fault.Fault.{Fault}
use Rattle.cil_faults.specs.declared.spot.Spot.{Spot}
use Rattle.cil_base.specs.Lists.{contains_here}
use Rattle.cil_syntax.specs.declared.term.Op.{Op}
use Rattle.cil_syntax.specs.declared.term.Op.TheVariants as ops
use Rattle.cil_syntax.specs.declared.term.Word.{Word}
use Rattle.cil_syntax.specs.declared.program.Statement as rust
use Rattle.cil_syntax.specs.Depths.{AllNest, AreShallow, Nests, below, most_nested}
use Rattle.cil_syntax.specs.Grammar.{Fits, name, word, single, every, headed, headless, exact, left, right, bracketed, begun, any_word, any_string, any_list, text_word, text_string, object_word, object_string, FitsRow, closed, one, no_more, more, as_many, not_as_many, led_by, not_led, body, whatever}
use Rattle.cil_syntax.specs.Program.{program_of}
use Rattle.cil_syntax.specs.Heads.{other_op, other_row}
use Rattle.cil_syntax.specs.Shapes.{Row, Shape, many, unread}
use Rattle.cil_syntax.specs.Table.{Body, plain, behind, branched, entry_of}
use Rattle.cil_syntax.specs.Terms.{Term, Leaf, Name, Form, Terms, nil, cons, spot_of}
use Rattle.cil_syntax.specs.Written.{Context, Written, FoundIn, top, inside, IsItem, first, later, IsWritten, written, ShapeFault, inner, fault_of, skipped, beside, all_behind_first, within, body_of}
use Rattle.cil_syntax.proofs.SpelledSo.{read_as_spelled}

-- ---- what nests so deep nests deeper

data IsDeeper : Option ℕ → Option ℕ → Type 0 where
  from_none : {o : Option ℕ} → IsDeeper None o
  by_one : {k : ℕ} → IsDeeper (Some k) (Some (suc k))

below_deeper : (op : Op) (k : ℕ) → IsDeeper (below op k) (below op (suc k))
below_deeper ops.UnreadText k = by_one
below_deeper op zero = from_none
below_deeper op (suc k) = by_one

mutual
  deeper : (k : ℕ) (t : Term Word) → Nests k t → Nests (suc k) t
  deeper k (Leaf w) h = tt
  deeper k (Name at v) h = tt
  deeper k (Form at op parts) h = all_deeper (below op k) (below op (suc k)) parts (below_deeper op k) h

  all_deeper : (a b : Option ℕ) (ts : Terms Word) → IsDeeper a b → AllNest a ts → AllNest b ts
  all_deeper a b nil i h = tt
  all_deeper _ b (cons t ts) from_none h = absurd h
  all_deeper _ _ (cons t ts) (by_one {k = k}) h = (deeper k t h.0, all_deeper (Some k) (Some (suc k)) ts by_one h.1)

-- a form of parts that nest so deep nests one deeper
form_nests : (at : Spot) (op : Op) (k : ℕ) (ts : Terms Word) → AllNest (Some k) ts → Nests (suc k) (Form at op ts)
form_nests at ops.UnreadText k ts h = all_deeper (Some k) (Some (suc k)) ts by_one h
form_nests at op k ts h = h

-- ---- nodes

-- the lists of some nodes nest at most so deep
abbrev mutual
  NodeNests : ℕ → Node → Type 0
  NodeNests k (TextWord place bytes) = Unit {0}
  NodeNests k (Quoted place bytes) = Unit {0}
  NodeNests zero (Branch place kids) = ⊥
  NodeNests (suc k) (Branch place kids) = NodesNest k kids

  NodesNest : ℕ → Nodes → Type 0
  NodesNest k none = Unit {0}
  NodesNest k (next n ns) = NodeNests k n × NodesNest k ns

mutual
  node_deeper : (k : ℕ) (n : Node) → NodeNests k n → NodeNests (suc k) n
  node_deeper k (TextWord place bytes) h = tt
  node_deeper k (Quoted place bytes) h = tt
  node_deeper zero (Branch place kids) h = absurd h
  node_deeper (suc k) (Branch place kids) h = nodes_deeper k kids h

  nodes_deeper : (k : ℕ) (ns : Nodes) → NodesNest k ns → NodesNest (suc k) ns
  nodes_deeper k none h = tt
  nodes_deeper k (next n ns) h = (node_deeper k n h.0, nodes_deeper k ns h.1)

-- what is in a text has at most as many lists inside as may still be round it
module _ (text : List ℕ) where
  mutual
    node_nests : (depth k : ℕ) (n : Node) → depth + k ≡ deepest → IsNode text depth n → NodeNests k n
    node_nests depth k (TextWord place bytes) e is = tt
    node_nests depth k (Quoted place bytes) e is = tt
    node_nests depth zero (Branch place kids) e is = absurd (omega (arith, e, is.0))
    node_nests depth (suc k) (Branch place kids) e is = nodes_nest (depth + 1) k (place.start + 1) is.2 kids (omega (arith, e)) is.5

    nodes_nest : (depth k from to : ℕ) (ns : Nodes) → depth + k ≡ deepest → AreNodes text depth from to ns → NodesNest k ns
    nodes_nest depth k from to none e is = tt
    nodes_nest depth k from to (next n ns) e is = (node_nests depth k n e is.1, nodes_nest depth k (span_of n).end to ns e is.2)

-- ---- terms of nodes

module _ (m : ℕ) where
  mutual
    fits_nests : (k : ℕ) (shape : Shape) (n : Node) (t : Term Word) → NodeNests k n → Fits m shape n t → Nests k t
    fits_nests k _ _ _ h (name place bytes free spelled) = tt
    fits_nests k _ _ _ h (word sign place bytes free spelled) = tt
    fits_nests k _ _ _ h (single language sign place bytes of_words free spelled) = tt
    fits_nests k _ _ _ h (every language sign place bytes of_words all taken) = tt
    fits_nests zero _ _ _ h (headed language head place front rest parts found taken fit) = absurd h
    fits_nests (suc k) _ _ _ h (headed language head place front rest parts found taken fit) =
        form_nests (spot_of m place) head.op k parts (row_nests k head.row rest parts h.1 fit)
    fits_nests zero _ _ _ h (headless language place kids parts found fit) = absurd h
    fits_nests (suc k) _ _ _ h (headless language place kids parts found fit) = form_nests (spot_of m place) (other_op language) k parts (row_nests k (other_row language) kids parts h fit)
    fits_nests k _ _ _ h (exact fixed op place bytes same) = tt
    fits_nests k _ _ _ h (left a b n t meant fit) = fits_nests k a n t h fit
    fits_nests k _ _ _ h (right a b n t meant fit) = fits_nests k b n t h fit
    fits_nests zero _ _ _ h (bracketed op row place kids parts fit) = absurd h
    fits_nests (suc k) _ _ _ h (bracketed op row place kids parts fit) = form_nests (spot_of m place) op k parts (row_nests k row kids parts h fit)
    fits_nests zero _ _ _ h (begun fixed op row place at rest parts fit) = absurd h
    fits_nests (suc k) _ _ _ h (begun fixed op row place at rest parts fit) = form_nests (spot_of m place) op k parts (row_nests k row rest parts h.1 fit)
    fits_nests k _ _ _ h (any_word place bytes) = tt
    fits_nests k _ _ _ h (any_string place bytes) = (tt, tt)
    fits_nests zero _ _ _ h (any_list place kids parts fit) = absurd h
    fits_nests (suc k) _ _ _ h (any_list place kids parts fit) = form_nests (spot_of m place) ops.UnreadList k parts (row_nests k (many unread) kids parts h fit)
    fits_nests k _ _ _ h (text_word place bytes) = tt
    fits_nests k _ _ _ h (text_string place bytes) = (tt, tt)
    fits_nests k _ _ _ h (object_word place bytes) = (tt, tt)
    fits_nests k _ _ _ h (object_string place bytes) = (tt, tt)

    row_nests : (k : ℕ) (row : Row) (ns : Nodes) (ts : Terms Word) → NodesNest k ns → FitsRow m row ns ts → AllNest (Some k) ts
    row_nests k _ _ _ h closed = tt
    row_nests k _ _ _ h (one shape row n ns t ts fit rest) = (fits_nests k shape n t h.0 fit, row_nests k row ns ts h.1 rest)
    row_nests k _ _ _ h (no_more shape) = tt
    row_nests k _ _ _ h (more shape n ns t ts fit rest) = (fits_nests k shape n t h.0 fit, row_nests k (many shape) ns ts h.1 rest)
    row_nests k _ _ _ h (as_many count a b ns ts long fit) = row_nests k a ns ts h fit
    row_nests k _ _ _ h (not_as_many count a b ns ts other fit) = row_nests k b ns ts h fit
    row_nests k _ _ _ h (led_by shape a b n ns ts meant fit) = row_nests k a (next n ns) ts h fit
    row_nests k _ _ _ h (not_led shape a b ns ts meant fit) = row_nests k b ns ts h fit
    row_nests k _ _ _ h (body ns lists) = tt
    row_nests k _ _ _ h (whatever ns) = tt

-- ---- where statements stand

item_nests : (k : ℕ) (n : Node) (ns : Nodes) → IsItem n ns → NodesNest k ns → NodeNests k n
item_nests k n none i h = elim i [ ]
item_nests k n (next q ns) first h = h.0
item_nests k n (next q ns) (later i) h = item_nests k n ns i h.1

inner_nests : (k : ℕ) (n : Node) → NodeNests (suc k) n → NodesNest k (inner_of n)
inner_nests k (TextWord place bytes) h = tt
inner_nests k (Quoted place bytes) h = tt
inner_nests k (Branch place kids) h = h

skipped_nest : (k count : ℕ) (ns : Nodes) → NodesNest k ns → NodesNest k (skipped count ns)
unfolding skipped
skipped_nest k count none h = tt
skipped_nest k zero (next n ns) h = h
skipped_nest k (suc count) (next n ns) h = skipped_nest k count ns h.1

beside_nest : (k : ℕ) (ns ms : Nodes) → NodesNest k ns → NodesNest k ms → NodesNest k (beside ns ms)
unfolding beside
beside_nest k none ms h j = j
beside_nest k (next n ns) ms h j = (h.0, beside_nest k ns ms h.1 j)

behind_first_nest : (k : ℕ) (ns : Nodes) → NodesNest k ns → NodesNest k (all_behind_first ns)
unfolding all_behind_first
behind_first_nest k none h = tt
behind_first_nest k (next n ns) h =
    beside_nest k (skipped 1 (inner_of n)) (all_behind_first ns) (skipped_nest k 1 (inner_of n) (inner_nests k n (node_deeper k n h.0))) (behind_first_nest k ns h.1)

within_nests : (k : ℕ) (where_inside : Body) (ns : Nodes) → NodesNest k ns → NodesNest k (within where_inside ns)
within_nests k plain ns h = tt
within_nests k (behind count nesting) ns h = skipped_nest k count ns h
within_nests k (branched count) ns h = behind_first_nest k (skipped count ns) (skipped_nest k count ns h)

module _ (modules : List (List ℕ)) where
  found_nests : (m : ℕ) (context : Context) (n : Node) → FoundIn modules m context n → NodeNests (suc most_nested) n
  found_nests m context n (top tree k below_end text i) =
      item_nests (suc most_nested) n tree i (nodes_nest (module_of modules m) 0 (suc most_nested) 0 _ tree refl text.whole)
  found_nests m context n (inside d p k s faults f v i) =
      item_nests (suc most_nested) n (body_of s p) i
      (within_nests (suc most_nested) (entry_of s.keyword).body (inner_of p)
      (nodes_deeper most_nested (inner_of p) (inner_nests most_nested p (found_nests m d p f))))

  written_nests : ((f : Fault) → ShapeFault modules f → ⊥) → (w : Written) → IsWritten modules w → AllNest (Some most_nested) w.statement.args
  written_nests clean w (written m context n s [] found verdict) =
      let spelled = (read_as_spelled m context n s).0 verdict in
      let inside_of_it = subst (NodesNest most_nested) spelled.begins (inner_nests most_nested n (found_nests m context n found)) in
      row_nests m most_nested spelled.entry.row spelled.rest s.args inside_of_it.1 spelled.fits
  written_nests clean w (written m context n s (i ∷ is) found verdict) =
      absurd (clean (fault_of m context i) (inner m context n s (i ∷ is) i found verdict (contains_here i is)))

  pub shallow : ((f : Fault) → ShapeFault modules f → ⊥) → (ss : List rust.Statement) → ((w : Written) → Contains (program_of ss) w → IsWritten modules w) → AreShallow ss
  shallow clean ss all = λ w c. written_nests clean w (all w c)
