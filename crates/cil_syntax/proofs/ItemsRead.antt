-- Reading items one after another: whatever is read behind some items completes the whole.
use Rattle.std.proofs.Common.{◌≡◌, ◌≢◌, ℕ, suc, ◌+◌, ◌<◌, ◌≤◌, List, [], ◌∷◌, ◌++◌, length, get_or, map, drop, refl, sym, ◌∙◌, ap, subst, arith, append_assoc}
use Rattle.std.specs.Prelude.{Option, Some, None, Result, Ok, Err, IsErrAnd}
use Rattle.std.specs.Global.{Vec}
use Rattle.std.proofs.lemmas.List.{append-nil, drop_all, map-append, length-map}
use Rattle.cil_sexpr.specs.declared.node.Node as nodes
use Rattle.cil_sexpr.specs.View.{node_of, nodes_of}
use Rattle.cil_base.specs.Places.{drop_at}
use Rattle.cil_faults.specs.declared.fault.Fault.{Fault}
use Rattle.cil_syntax.specs.declared.stop.Stop.{Stop}
use Rattle.cil_syntax.specs.declared.stop.Stop.TheVariants.{OtherShape, NoMemory}
use Rattle.cil_syntax.specs.declared.term.Term as rust
use Rattle.cil_syntax.specs.declared.term.Word.{Word}
use Rattle.cil_syntax.specs.Laid.{items_of, shape_of}
use Rattle.cil_syntax.specs.Said.{said_of, terms_of}
use Rattle.cil_syntax.specs.Shapes.{Inner, Reading, Shape, many, Cell}
use Rattle.cil_syntax.specs.Words.{reads}
use Rattle.cil_syntax.specs.Readings.{joined, read_row, cell_of, cells_of}
use Rattle.cil_syntax.specs.Terms.{Term, Terms, nil, cons}
use Rattle.cil_syntax.specs.Told.{told, IsTold, AreTold, Tells, TellAll, before, behind, AreRead}
use Rattle.cil_syntax.specs.Written.{fault_in}

-- the faults of two parts, told one after the other
pub told-append : (m : ℕ) (space : List ℕ) (old mid new : List Fault) (f g : List Inner) → mid ≡ old ++ told m space f → new ≡ mid ++ told m space g → new ≡ old ++ told m space (f ++ g)
told-append m space old mid new f g p q =
    q ∙ ap (λ x. x ++ told m space g) p ∙ append_assoc (old) (told m space f) (told m space g) ∙ ap (λ x. old ++ x) (sym (map-append (fault_in m space) f g))

before-push : (ts : List (Term Word)) (t : Term Word) (more : Terms Word) → before ts (cons t more) ≡ before (ts ++ t ∷ []) more
before-push [] t more = refl
before-push (u ∷ us) t more = ap (cons u) (before-push us t more)

before-nil : (ts : List (Term Word)) → terms_of ts ≡ before ts nil
before-nil [] = refl
before-nil (t ∷ ts) = ap (cons t) (before-nil ts)

behind-none : (r : Option (Reading (Terms Word))) → r ≡ behind [] [] r
behind-none None = refl
behind-none (Some r) = refl

behind-joined : (ts : List (Term Word)) (f : List Inner) (r : Reading (Term Word)) (rest : Option (Reading (Terms Word)))
    → behind ts f (joined (Some r) rest) ≡ behind (ts ++ r.value ∷ []) (f ++ r.faults) rest
behind-joined ts f r None = refl
behind-joined ts f r (Some s) = λ i. reads (before-push ts r.value s.value i) (sym (append_assoc (f) (r.faults) (s.faults)) i)

-- ---- the steps of a loop over items, whatever the row

pub none_yet : (m : ℕ) (space : List ℕ) (whole : Option (Reading (Terms Word))) (old : List Fault) (terms : List rust.Term) → terms ≡ [] → AreRead m space whole whole old old terms
none_yet m space whole old terms e = rw e (record { faults = []; more = sym (append-nil old); completes = behind-none whole })

module _ (m : ℕ) (space : List ℕ) (whole rest : Option (Reading (Terms Word))) (old mid : List Fault) (terms : List rust.Term) where
  pub more_read : (later : Option (Reading (Terms Word))) (a : Option (Reading (Term Word))) (new : List Fault) (t : rust.Term) (more : List rust.Term)
      → AreRead m space whole rest old mid terms → rest ≡ joined a later → IsTold m space a mid new (Some t) → more ≡ terms ++ t ∷ []
      → AreRead m space whole later old new more
  more_read later None new t more r cut tells push = absurd tells
  more_read later (Some a) new t more r cut tells push = record {
    faults = r.faults ++ a.faults;
    more = told-append m space old mid new r.faults a.faults r.more tells.1;
    completes =
        r.completes
        ∙ ap (behind (map (said_of m) terms) r.faults) cut
        ∙ behind-joined (map (said_of m) terms) r.faults a later
        ∙ ap (λ ts. behind ts (r.faults ++ a.faults) later)
        (ap (λ v. map (said_of m) terms ++ v ∷ []) (sym tells.0) ∙ sym (map-append (said_of m) terms (t ∷ [])) ∙ ap (map (said_of m)) (sym push));
  }

  pub none_stops : (later : Option (Reading (Terms Word))) (a : Option (Reading (Term Word))) (new : List Fault)
      → AreRead m space whole rest old mid terms → rest ≡ joined a later → IsTold m space a mid new None → AreTold m space whole old new None
  none_stops later (Some a) new r cut tells = absurd tells
  none_stops later None new r cut tells =
      subst (λ w. AreTold m space w old new None) (sym (r.completes ∙ ap (behind (map (said_of m) terms) r.faults) cut))
      (told m space r.faults ++ tells.0, tells.1 ∙ ap (λ x. x ++ tells.0) r.more ∙ append_assoc (old) (told m space r.faults) (tells.0))

-- an error that was handed on: another shape, or want of memory
pub stop_told : (m : ℕ) (space : List ℕ) (whole rest later : Option (Reading (Terms Word))) (a : Option (Reading (Term Word))) (old mid new : List Fault) (terms : List rust.Term) (e : Stop)
    (r : Result (Vec rust.Term) Stop) → AreRead m space whole rest old mid terms → rest ≡ joined a later → Tells m space a mid new (Err e) → IsErrAnd r (λ x. x ≡ e)
    → TellAll m space whole old new r
stop_told m space whole rest later a old mid new terms e (Ok ts) so cut tells handed = absurd handed
stop_told m space whole rest later a old mid new terms OtherShape (Err x) so cut tells handed =
    subst (λ y. TellAll m space whole old new (Err y)) (sym handed) (none_stops m space whole rest old mid terms later a new so cut tells)
stop_told m space whole rest later a old mid new terms NoMemory (Err x) so cut tells handed = subst (λ y. TellAll m space whole old new (Err y)) (sym handed) tt

pub all_read : (m : ℕ) (space : List ℕ) (whole rest : Option (Reading (Terms Word))) (old new : List Fault) (terms : Vec rust.Term) → AreRead m space whole rest old new terms.items
    → rest ≡ reads nil [] → AreTold m space whole old new (Some terms)
all_read m space whole rest old new terms r end =
    subst (λ w. AreTold m space w old new (Some terms)) (sym (r.completes ∙ ap (behind (map (said_of m) terms.items) r.faults) end))
    (before-nil (map (said_of m) terms.items), r.more ∙ ap (λ f. old ++ told m space f) (sym (append-nil r.faults)))

-- ---- what is left of a row

module _ (m : ℕ) (text : List ℕ) (ns : List nodes.Node) where
  -- the cells from a node on
  abbrev pub from_node : ℕ → List Cell
  from_node i = cells_of m (nodes_of text (drop i ns))

  pub cells_more : (i : ℕ) (n : nodes.Node) → i < length ns → n ≡ get_or ns i n → from_node i ≡ cell_of m (node_of text n) ∷ from_node (i + 1)
  unfolding cells_of
  cells_more i n within is = ap (λ ks. cells_of m (nodes_of text ks)) (drop_at ns i n n within is)

  pub no_cells : (i : ℕ) → length ns ≤ i → from_node i ≡ []
  unfolding cells_of
  no_cells i over = ap (λ ks. cells_of m (nodes_of text ks)) (drop_all i ns over)

  module _ (shape : Shape) (i : ℕ) where
    pub many_more : (n : nodes.Node) → i < length ns → n ≡ get_or ns i n
        → read_row (many shape) (from_node i) ≡ joined ((cell_of m (node_of text n)).read shape) (read_row (many shape) (from_node (i + 1)))
    unfolding read_row
    many_more n within is = ap (read_row (many shape)) (cells_more i n within is)

    pub many_end : length ns ≤ i → read_row (many shape) (from_node i) ≡ reads nil []
    unfolding read_row
    many_end over = ap (read_row (many shape)) (no_cells i over)

  module _ {S : Type 0} (shape_of : S → Shape) (ss : List S) (long : length ns ≡ length ss) (i : ℕ) where
    pub items_more : (n : nodes.Node) (s : S) → i < length ns → n ≡ get_or ns i n → s ≡ get_or ss i s
        → read_row (items_of (map shape_of (drop i ss))) (from_node i)
        ≡ joined ((cell_of m (node_of text n)).read (shape_of s)) (read_row (items_of (map shape_of (drop (i + 1) ss))) (from_node (i + 1)))
    unfolding read_row
    items_more n s within is shaped =
        ap (λ x. read_row (items_of (map shape_of x)) (from_node i)) (drop_at ss i s s (omega (arith, within, long)) shaped)
        ∙ ap (read_row (items_of (map shape_of (s ∷ drop (i + 1) ss)))) (cells_more i n within is)

    pub items_end : length ns ≤ i → read_row (items_of (map shape_of (drop i ss))) (from_node i) ≡ reads nil []
    unfolding read_row
    items_end over =
        ap (λ x. read_row (items_of (map shape_of x)) (from_node i)) (drop_all i ss (omega (arith, over, long)))
        ∙ ap (read_row (items_of [])) (no_cells i over)

-- ---- another number of items than there are shapes

-- what is not read makes nothing of what stands before it
pub joined-none : (a : Option (Reading (Term Word))) → joined a None ≡ None
joined-none None = refl
joined-none (Some r) = refl

wrong_cells : (shapes : List Shape) (cells : List Cell) → length cells ≢ length shapes → read_row (items_of shapes) cells ≡ None
unfolding read_row
wrong_cells [] [] h = absurd (h refl)
wrong_cells [] (c ∷ cs) h = refl
wrong_cells (s ∷ ss) [] h = refl
wrong_cells (s ∷ ss) (c ∷ cs) h = ap (joined (c.read s)) (wrong_cells ss cs (λ e. h (ap suc e))) ∙ joined-none (c.read s)

-- each node is a cell
pub length-cells : (m : ℕ) (text : List ℕ) (ns : List nodes.Node) → length (cells_of m (nodes_of text ns)) ≡ length ns
unfolding cells_of
length-cells m text [] = refl
length-cells m text (n ∷ ns) = ap suc (length-cells m text ns)

pub wrong_length : {S : Type 0} (shape_of : S → Shape) (m : ℕ) (space : List ℕ) (text : List ℕ) (ns : List nodes.Node) (ss : List S) (old : List Fault) → length ns ≢ length ss
    → AreTold m space (read_row (items_of (map shape_of ss)) (cells_of m (nodes_of text ns))) old old None
wrong_length shape_of m space text ns ss old h =
    subst (λ r. AreTold m space r old old None)
    (sym (wrong_cells (map shape_of ss) (cells_of m (nodes_of text ns)) (λ e. h (sym (length-cells m text ns) ∙ e ∙ length-map ss shape_of))))
    ([], sym (append-nil old))
