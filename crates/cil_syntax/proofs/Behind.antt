-- Items, and what is behind them by a row.
use Rattle.std.proofs.Common.{◌≡◌, ℕ, suc, zero, ◌-◌, ◌<◌, ◌≤◌, List, [], ◌∷◌, ◌++◌, length, map, take, drop, refl, sym, ◌∙◌, ap, subst, Bor, arith, append_assoc}
use Rattle.std.specs.Prelude.{Option, Some, None, Result, Ok, Err, IsErrAnd}
use Rattle.std.specs.declared.vec.Vec.{Vec}
use Rattle.std.specs.declared.alloc.Global.{Global}
use Rattle.std.proofs.lemmas.List.{append-nil, length-map, map-append, take_rest}
use Rattle.cil_sexpr.specs.declared.node.Node as nodes
use Rattle.cil_sexpr.specs.View.{node_of, nodes_of}
use Rattle.cil_faults.specs.declared.fault.Fault.{Fault}
use Rattle.cil_syntax.specs.declared.shape.Row as rows
use Rattle.cil_syntax.specs.declared.shape.Shape as shapes
use Rattle.cil_syntax.specs.declared.stop.Stop.{Stop}
use Rattle.cil_syntax.specs.declared.stop.Stop.TheVariants.{OtherShape, NoMemory}
use Rattle.cil_syntax.specs.declared.term.Term as rust
use Rattle.cil_syntax.specs.declared.term.Word.{Word}
use Rattle.cil_syntax.specs.Laid.{items_before, items_of, row_of, shape_of}
use Rattle.cil_syntax.specs.Said.{said_of, all_said, terms_of}
use Rattle.cil_syntax.specs.Shapes.{Reading, Row, Shape, Cell}
use Rattle.cil_syntax.specs.Words.{reads}
use Rattle.cil_syntax.specs.Readings.{joined, read_row, cell_of, cells_of}
use Rattle.cil_syntax.specs.Terms.{Term, Terms, nil, cons}
use Rattle.cil_syntax.specs.Told.{told, AreTold, TellAll}
use Rattle.cil_syntax.proofs.ItemsRead.{joined-none, length-cells, told-append}
use Rattle.cil_syntax.proofs.Laid.{then_view}

-- some terms, and then others
abbrev beside : Terms Word → Terms Word → Terms Word
beside nil more = more
beside (cons t ts) more = cons t (beside ts more)

abbrev appended : Option (Reading (Terms Word)) → Option (Reading (Terms Word)) → Option (Reading (Terms Word))
appended None b = None
appended (Some a) None = None
appended (Some a) (Some b) = reads (beside a.value b.value) (a.faults ++ b.faults)

appended_none : (a : Option (Reading (Terms Word))) → appended a None ≡ None
appended_none None = refl
appended_none (Some a) = refl

appended_nil : (b : Option (Reading (Terms Word))) → b ≡ appended (reads nil []) b
appended_nil None = refl
appended_nil (Some b) = refl

joined_appended : (a : Option (Reading (Term Word))) (x y : Option (Reading (Terms Word))) → joined a (appended x y) ≡ appended (joined a x) y
joined_appended None x y = refl
joined_appended (Some a) None y = refl
joined_appended (Some a) (Some x) None = refl
joined_appended (Some a) (Some x) (Some y) = λ i. reads (cons a.value (beside x.value y.value)) (sym (append_assoc a.faults x.faults y.faults) i)

then_read : (row : Row) (ss : List Shape) (cells : List Cell) → length ss ≤ length cells
    → read_row (items_before row ss) cells ≡ appended (read_row (items_of ss) (take (length ss) cells)) (read_row row (drop (length ss) cells))
unfolding read_row
then_read row [] cells long = appended_nil (read_row row cells)
then_read row (s ∷ ss) [] long = absurd (omega (arith, long))
then_read row (s ∷ ss) (c ∷ cs) long =
    ap (joined (c.read s)) (then_read row ss cs (omega (arith, long)))
    ∙ joined_appended (c.read s) (read_row (items_of ss) (take (length ss) cs)) (read_row row (drop (length ss) cs))

then_short : (row : Row) (ss : List Shape) (cells : List Cell) → length cells < length ss → read_row (items_before row ss) cells ≡ None
unfolding read_row
then_short row [] cells short = absurd (omega (arith, short))
then_short row (s ∷ ss) [] short = refl
then_short row (s ∷ ss) (c ∷ cs) short = ap (joined (c.read s)) (then_short row ss cs (omega (arith, short))) ∙ joined-none (c.read s)

said_beside : (m : ℕ) (xs ys : List rust.Term) → all_said m (xs ++ ys) ≡ beside (all_said m xs) (all_said m ys)
said_beside m xs ys = ap terms_of (map-append (said_of m) xs ys) ∙ listed (map (said_of m) xs) (map (said_of m) ys) where
  listed : (ts us : List (Term Word)) → terms_of (ts ++ us) ≡ beside (terms_of ts) (terms_of us)
  listed [] us = refl
  listed (t ∷ ts) us = ap (cons t) (listed ts us)

-- ---- two readings, one behind the other

module _ (m : ℕ) (space : List ℕ) (x y : Option (Reading (Terms Word))) (old mid new : List Fault) where
  first_none : AreTold m space x old mid None → AreTold m space (appended x y) old mid None
  first_none told = subst (λ w. AreTold m space (appended w y) old mid None) (sym (is_none x told)) (more x told) where
    is_none : (o : Option (Reading (Terms Word))) → AreTold m space o old mid None → o ≡ None
    is_none None t = refl
    is_none (Some r) t = absurd t

    more : (o : Option (Reading (Terms Word))) → AreTold m space o old mid None → AreTold m space None old mid None
    more None t = t
    more (Some r) t = absurd t

  second_none : (v : Vec rust.Term Global) → AreTold m space x old mid (Some v) → AreTold m space y mid new None → AreTold m space (appended x y) old new None
  second_none v a b = both x y a b where
    both : (p q : Option (Reading (Terms Word))) → AreTold m space p old mid (Some v) → AreTold m space q mid new None → AreTold m space (appended p q) old new None
    both None q s t = absurd s
    both (Some p) None s t = (told m space p.faults ++ t.0, t.1 ∙ ap (λ z. z ++ t.0) s.1 ∙ append_assoc old (told m space p.faults) t.0)
    both (Some p) (Some q) s t = absurd t

  both_told : (v w all : Vec rust.Term Global) → AreTold m space x old mid (Some v) → AreTold m space y mid new (Some w) → all.items ≡ v.items ++ w.items
      → AreTold m space (appended x y) old new (Some all)
  both_told v w all a b is = both x y a b where
    both : (p q : Option (Reading (Terms Word))) → AreTold m space p old mid (Some v) → AreTold m space q mid new (Some w) → AreTold m space (appended p q) old new (Some all)
    both None q s t = absurd s
    both (Some p) None s t = absurd t
    both (Some p) (Some q) s t = (
      ap (all_said m) is ∙ said_beside m v.items w.items ∙ (λ i. beside (s.0 i) (t.0 i)),
      told-append m space old mid new p.faults q.faults s.1 t.1,
    )

-- ---- the same of nodes

module _ (m : ℕ) (space : List ℕ) (text : List ℕ) (ns : List nodes.Node) (row : rows.Row) (shapes : Bor (List shapes.Shape)) (behind : Bor rows.Row) (is : row ≡ rows.Then shapes behind) where
  abbrev whole : Option (Reading (Terms Word))
  whole = read_row (row_of row) (cells_of m (nodes_of text ns))

  abbrev count : ℕ
  count = length shapes.now

  abbrev first_part : Option (Reading (Terms Word))
  first_part = read_row (items_of (map shape_of shapes.now)) (cells_of m (nodes_of text (take count ns)))

  abbrev second_part : Option (Reading (Terms Word))
  second_part = read_row (row_of behind.now) (cells_of m (nodes_of text (take (length ns - count) (drop count ns))))

  seen : whole ≡ read_row (items_before (row_of behind.now) (map shape_of shapes.now)) (cells_of m (nodes_of text ns))
  seen = ap (λ w. read_row w (cells_of m (nodes_of text ns))) (ap row_of is ∙ then_view shapes behind)

  pub short_told : (old : List Fault) → length ns < count → AreTold m space whole old old None
  short_told old short =
      let cells = length-cells m text ns in
      let many = length-map shapes.now shape_of in
      subst (λ w. AreTold m space w old old None)
      (sym (seen ∙ then_short (row_of behind.now) (map shape_of shapes.now) (cells_of m (nodes_of text ns)) (omega (arith, cells, many, short)))) ([], sym (append-nil old))

  cells_dropped : (k : ℕ) (ks : List nodes.Node) → drop k (cells_of m (nodes_of text ks)) ≡ cells_of m (nodes_of text (drop k ks))
  unfolding cells_of
  cells_dropped zero ks = refl
  cells_dropped (suc k) [] = refl
  cells_dropped (suc k) (n ∷ ks) = cells_dropped k ks

  cells_taken : (k : ℕ) (ks : List nodes.Node) → take k (cells_of m (nodes_of text ks)) ≡ cells_of m (nodes_of text (take k ks))
  unfolding cells_of
  cells_taken zero ks = refl
  cells_taken (suc k) [] = refl
  cells_taken (suc k) (n ∷ ks) = ap (λ cs. cell_of m (node_of text n) ∷ cs) (cells_taken k ks)

  parted : count ≤ length ns → whole ≡ appended first_part second_part
  parted long =
      let cells = length-cells m text ns in
      let many = length-map shapes.now shape_of in
      seen ∙ then_read (row_of behind.now) (map shape_of shapes.now) (cells_of m (nodes_of text ns)) (omega (arith, cells, many, long))
      ∙ ap (λ k. appended (read_row (items_of (map shape_of shapes.now)) (take k (cells_of m (nodes_of text ns)))) (read_row (row_of behind.now) (drop k (cells_of m (nodes_of text ns))))) many
      ∙ (λ i. appended (read_row (items_of (map shape_of shapes.now)) (cells_taken count ns i)) (read_row (row_of behind.now) (cells_dropped count ns i)))
      ∙ ap (λ ks. appended first_part (read_row (row_of behind.now) (cells_of m (nodes_of text ks)))) (sym (take_rest ns count))

  pub first_stops : (old new : List Fault) (e : Stop) (r : Result (Vec rust.Term Global) Stop) → count ≤ length ns → TellAll m space first_part old new (Err e)
      → IsErrAnd r (λ x. x ≡ e) → TellAll m space whole old new r
  first_stops old new e (Ok v) long told handed = absurd handed
  first_stops old new OtherShape (Err x) long told handed =
      subst (λ y. TellAll m space whole old new (Err y)) (sym handed)
      (subst (λ w. AreTold m space w old new None) (sym (parted long)) (first_none m space first_part second_part old new new told))
  first_stops old new NoMemory (Err x) long told handed = subst (λ y. TellAll m space whole old new (Err y)) (sym handed) tt

  pub second_stops : (old mid new : List Fault) (v : Vec rust.Term Global) (e : Stop) (r : Result (Vec rust.Term Global) Stop) → count ≤ length ns
      → AreTold m space first_part old mid (Some v) → TellAll m space second_part mid new (Err e) → IsErrAnd r (λ x. x ≡ e) → TellAll m space whole old new r
  second_stops old mid new v e (Ok w) long first told handed = absurd handed
  second_stops old mid new v OtherShape (Err x) long first told handed =
      subst (λ y. TellAll m space whole old new (Err y)) (sym handed)
      (subst (λ w. AreTold m space w old new None) (sym (parted long)) (second_none m space first_part second_part old mid new v first told))
  second_stops old mid new v NoMemory (Err x) long first told handed = subst (λ y. TellAll m space whole old new (Err y)) (sym handed) tt

  pub then_told : (old mid new : List Fault) (v w all : Vec rust.Term Global) → count ≤ length ns → AreTold m space first_part old mid (Some v)
      → AreTold m space second_part mid new (Some w) → all.items ≡ v.items ++ w.items → AreTold m space whole old new (Some all)
  then_told old mid new v w all long first second so =
      subst (λ o. AreTold m space o old new (Some all)) (sym (parted long)) (both_told m space first_part second_part old mid new v w all first second so)
