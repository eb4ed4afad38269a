-- Nodes read by shapes.
use Rattle.std.proofs.Common.{◌≡◌, ℕ, Bool, true, false, if◌then◌else◌, List, [], ◌∷◌, map, length, refl, sym, ◌∙◌, ap, subst, Bor, rules}
use Rattle.cil_sexpr.specs.declared.node.Node as nodes
use Rattle.cil_sexpr.specs.Tree.{Node, Word, Quoted, Branch}
use Rattle.cil_sexpr.specs.View.{node_of, nodes_of}
use Rattle.cil_syntax.specs.Shapes.{Row, Shape, declared_name, looked_up, expression, fixed, left_out, any_left_out, either, list_of, tagged, unread, object_name, many, counted, led, statements, anything, is_meant, Cell}
use Rattle.cil_syntax.specs.Readings.{is_led, read_list, read_row, cell_of, cells_of}
use Rattle.cil_syntax.specs.Words.{read_word, read_string}
use Rattle.std.specs.Prelude.{Result, Some, None, slice_get}
use Rattle.cil_faults.specs.declared.fault.Fault.{Fault}
use Rattle.cil_syntax.specs.declared.shape.Row.{the_lemmas}
use Rattle.cil_syntax.specs.declared.shape.Shape as shapes
use Rattle.cil_syntax.specs.declared.term.Term as rust
use Rattle.cil_syntax.specs.declared.kind.Language.{Language}
use Rattle.cil_syntax.specs.declared.kind.Sign.{Sign}
use Rattle.cil_syntax.specs.declared.shape.Row as rows
use Rattle.cil_syntax.specs.declared.term.Op.{Op}
use Rattle.cil_syntax.specs.Laid.{items_before, items_of, row_of, shape_of}
use Rattle.cil_syntax.specs.declared.stop.Stop.{Stop}
use Rattle.cil_syntax.specs.Told.{TellAll, Tells}
use Rattle.std.specs.Global.{Vec}
use Rattle.std.proofs.lemmas.Bool.{eq-eqb, ne_eqb}
use Rattle.std.proofs.lemmas.List.{length-map}
use Rattle.cil_syntax.proofs.ItemsRead.{length-cells}

-- one of two shapes reads as the one that is meant
pub either_read : (m : ℕ) (n : Node) (first second : Shape)
    → (cell_of m n).read (either first second) ≡ (if is_meant first (cell_of m n).face then (cell_of m n).read first else (cell_of m n).read second)
unfolding cell_of read_word read_string read_list
either_read m (Word place bytes) first second = refl
either_read m (Quoted place bytes) first second = refl
either_read m (Branch place inner) first second = refl

module _ (m : ℕ) (n : Node) (first second : Shape) where
  by_either : (b : Bool) → b ≡ is_meant first (cell_of m n).face
      → (cell_of m n).read (either first second) ≡ (if b then (cell_of m n).read first else (cell_of m n).read second)
  by_either b e = either_read m n first second ∙ ap (λ x. if x then (cell_of m n).read first else (cell_of m n).read second) (sym e)

either_view : (s : shapes.Shape) (a b : Bor shapes.Shape) → s ≡ shapes.Either a b → shape_of s ≡ either (shape_of a.now) (shape_of b.now)
either_view s a b is = rw is (search (rules, the_lemmas))

module _ (m : ℕ) (space : List ℕ) (n : Node) (s : shapes.Shape) (first second : Bor shapes.Shape) (is : s ≡ shapes.Either first second) (old new : List Fault) (r : Result rust.Term Stop) where
  -- it reads as the first
  pub first_told : (b : Bool) → b ≡ is_meant (shape_of first.now) (cell_of m n).face → b ≡ true
      → Tells m space ((cell_of m n).read (shape_of first.now)) old new r → Tells m space ((cell_of m n).read (shape_of s)) old new r
  first_told b e holds told =
      subst (λ w. Tells m space w old new r)
      (sym (ap (cell_of m n).read (either_view s first second is) ∙ by_either m n (shape_of first.now) (shape_of second.now) true (sym holds ∙ e))) told

  -- it reads as the second
  pub second_told : (b : Bool) → b ≡ is_meant (shape_of first.now) (cell_of m n).face → b ≡ false
      → Tells m space ((cell_of m n).read (shape_of second.now)) old new r → Tells m space ((cell_of m n).read (shape_of s)) old new r
  second_told b e fails told =
      subst (λ w. Tells m space w old new r)
      (sym (ap (cell_of m n).read (either_view s first second is) ∙ by_either m n (shape_of first.now) (shape_of second.now) false (sym fails ∙ e))) told

-- ---- how each shape and row of Rust is seen

module _ (b : Bor (List shapes.Shape)) where
  pub items_view : row_of (rows.Items b) ≡ items_of (map shape_of b.now)
  items_view = search (rules, the_lemmas)

pub many_view : (b : Bor shapes.Shape) → row_of (rows.Many b) ≡ many (shape_of b.now)
many_view b = search (rules, the_lemmas)

pub one_of_view : (a b : Bor (List shapes.Shape))
    → row_of (rows.OneOf a b) ≡ counted (length (map shape_of a.now)) (items_of (map shape_of a.now)) (items_of (map shape_of b.now))
one_of_view a b = search (rules, the_lemmas)

pub name_view : shape_of shapes.DeclaredName ≡ declared_name
name_view = search (rules, the_lemmas)

pub looked_up_view : (sign : Sign) → shape_of (shapes.LookedUp sign) ≡ looked_up sign
looked_up_view sign = search (rules, the_lemmas)

pub expression_view : (language : Language) → shape_of (shapes.Expression language) ≡ expression language
expression_view language = search (rules, the_lemmas)

pub tagged_view : (b : Bor (List ℕ)) (op : Op) (row : rows.Row) → shape_of (shapes.Tagged b op row) ≡ tagged b.now op (row_of row)
tagged_view b op row = search (rules, the_lemmas)

pub fixed_view : (b : Bor (List ℕ)) (op : Op) → shape_of (shapes.Fixed b op) ≡ fixed b.now op
fixed_view b op = search (rules, the_lemmas)

pub left_out_view : (b : Bor (List ℕ)) → shape_of (shapes.LeftOut b) ≡ left_out b.now
left_out_view b = search (rules, the_lemmas)

pub any_view : shape_of shapes.AnyLeftOut ≡ any_left_out
any_view = search (rules, the_lemmas)

pub either_is : (a b : Bor shapes.Shape) → shape_of (shapes.Either a b) ≡ either (shape_of a.now) (shape_of b.now)
either_is a b = search (rules, the_lemmas)

pub listed_view : (op : Op) (row : rows.Row) → shape_of (shapes.ListOf op row) ≡ list_of op (row_of row)
listed_view op row = search (rules, the_lemmas)

pub then_view : (b : Bor (List shapes.Shape)) (row : Bor rows.Row) → row_of (rows.Then b row) ≡ items_before (row_of row.now) (map shape_of b.now)
then_view b row = search (rules, the_lemmas)

pub led_view : (shape : Bor shapes.Shape) (first second : Bor rows.Row) → row_of (rows.Led shape first second) ≡ led (shape_of shape.now) (row_of first.now) (row_of second.now)
led_view shape first second = search (rules, the_lemmas)

pub statements_view : row_of rows.Statements ≡ statements
statements_view = search (rules, the_lemmas)

pub anything_view : row_of rows.Anything ≡ anything
anything_view = search (rules, the_lemmas)

pub unread_view : shape_of shapes.Unread ≡ unread
unread_view = search (rules, the_lemmas)

pub object_view : shape_of shapes.ObjectName ≡ object_name
object_view = search (rules, the_lemmas)

pub ruleset the_views = (then_view, led_view, statements_view, expression_view, tagged_view, anything_view, unread_view, object_view, items_view, many_view, one_of_view, name_view, looked_up_view, fixed_view, left_out_view, any_view, either_is, listed_view)

-- ---- a shape or a row of Rust reads as it is seen

pub read_as : (m : ℕ) (space : List ℕ) (n : Node) (s : shapes.Shape) (x : Shape) (old new : List Fault) (r : Result rust.Term Stop) → shape_of s ≡ x
    → Tells m space ((cell_of m n).read x) old new r → Tells m space ((cell_of m n).read (shape_of s)) old new r
read_as m space n s x old new r is told = subst (λ y. Tells m space ((cell_of m n).read y) old new r) (sym is) told

pub row_as : (m : ℕ) (space : List ℕ) (cells : List Cell) (row : rows.Row) (x : Row) (old new : List Fault) (r : Result (Vec rust.Term) Stop) → row_of row ≡ x
    → TellAll m space (read_row x cells) old new r → TellAll m space (read_row (row_of row) cells) old new r
row_as m space cells row x old new r is told = subst (λ y. TellAll m space (read_row y cells) old new r) (sym is) told

-- ---- which of two rows reads some items

module _ (cells : List Cell) (first second : Row) (n : ℕ) where
  as_many : length cells ≡ n → read_row (counted n first second) cells ≡ read_row first cells
  unfolding read_row
  as_many e = ap (λ b. if b then read_row first cells else read_row second cells) (eq-eqb (length cells) n e)

  not_as_many : (length cells ≡ n → ⊥) → read_row (counted n first second) cells ≡ read_row second cells
  unfolding read_row
  not_as_many h = ap (λ b. if b then read_row first cells else read_row second cells) (ne_eqb (length cells) n h)

module _ (m : ℕ) (space : List ℕ) (text : List ℕ) (ns : List nodes.Node) (row : rows.Row) (a b : Bor (List shapes.Shape)) (is : row ≡ rows.OneOf a b) (old new : List Fault) (r : Result (Vec rust.Term) Stop) where
  abbrev cells_there : List Cell
  cells_there = cells_of m (nodes_of text ns)

  row_is : row_of row ≡ counted (length (map shape_of a.now)) (items_of (map shape_of a.now)) (items_of (map shape_of b.now))
  row_is = ap row_of is ∙ one_of_view a b

  counts : length (cells_of m (nodes_of text ns)) ≡ length (map shape_of a.now) → length ns ≡ length a.now
  counts e = sym (length-cells m text ns) ∙ e ∙ length-map a.now shape_of

  pub first_row_told : length ns ≡ length a.now → TellAll m space (read_row (items_of (map shape_of a.now)) cells_there) old new r
      → TellAll m space (read_row (row_of row) cells_there) old new r
  first_row_told long told =
      subst (λ w. TellAll m space w old new r)
      (sym (ap (λ w. read_row w cells_there) row_is ∙ as_many cells_there _ _ _ (length-cells m text ns ∙ long ∙ sym (length-map a.now shape_of)))) told

  pub second_row_told : (length ns ≡ length a.now → ⊥) → TellAll m space (read_row (items_of (map shape_of b.now)) cells_there) old new r
      → TellAll m space (read_row (row_of row) cells_there) old new r
  second_row_told other told =
      subst (λ w. TellAll m space w old new r)
      (sym (ap (λ w. read_row w cells_there) row_is ∙ not_as_many cells_there _ _ _ (λ e. other (counts e)))) told

-- ---- by the first item

module _ (m : ℕ) (text : List ℕ) (ns : List nodes.Node) (shape : Shape) where
  pub none_led : None ≡ slice_get ns 0 → false ≡ is_led shape (cells_of m (nodes_of text ns))
  unfolding cells_of
  none_led e = empty ns e where
    empty : (ks : List nodes.Node) → None ≡ slice_get ks 0 → false ≡ is_led shape (cells_of m (nodes_of text ks))
    empty [] f = refl
    empty (k ∷ ks) f = absurd cc

  pub led_so : (n : nodes.Node) (b : Bool) → Some n ≡ slice_get ns 0 → b ≡ is_meant shape (cell_of m (node_of text n)).face → b ≡ is_led shape (cells_of m (nodes_of text ns))
  unfolding cells_of
  led_so n b e meant = some ns e where
    some : (ks : List nodes.Node) → Some n ≡ slice_get ks 0 → b ≡ is_led shape (cells_of m (nodes_of text ks))
    some [] f = absurd cc
    some (k ∷ ks) f = meant ∙ ap (λ x. is_meant shape (cell_of m (node_of text x)).face) (let same : n ≡ k = cc in same)

module _ (m : ℕ) (space : List ℕ) (cells : List Cell) (row : rows.Row) (shape : Bor shapes.Shape) (first second : Bor rows.Row) (is : row ≡ rows.Led shape first second) (old new : List Fault)
    (r : Result (Vec rust.Term) Stop) (b : Bool) (led_by : b ≡ is_led (shape_of shape.now) cells) where
  led_read : (c : Bool) → b ≡ c → read_row (row_of row) cells ≡ (if c then read_row (row_of first.now) cells else read_row (row_of second.now) cells)
  unfolding read_row
  led_read c e =
      ap (λ w. read_row w cells) (ap row_of is ∙ led_view shape first second)
      ∙ ap (λ x. if x then read_row (row_of first.now) cells else read_row (row_of second.now) cells) (sym led_by ∙ e)

  pub led_told : b ≡ true → TellAll m space (read_row (row_of first.now) cells) old new r → TellAll m space (read_row (row_of row) cells) old new r
  led_told e told = subst (λ w. TellAll m space w old new r) (sym (led_read true e)) told

  pub not_led_told : b ≡ false → TellAll m space (read_row (row_of second.now) cells) old new r → TellAll m space (read_row (row_of row) cells) old new r
  not_led_told e told = subst (λ w. TellAll m space w old new r) (sym (led_read false e)) told

pub statements_told : (m : ℕ) (space : List ℕ) (cells : List Cell) (row : rows.Row) (old new : List Fault) (r : Result (Vec rust.Term) Stop) → row ≡ rows.Statements
    → TellAll m space (read_row statements cells) old new r → TellAll m space (read_row (row_of row) cells) old new r
statements_told m space cells row old new r is told = subst (λ w. TellAll m space (read_row w cells) old new r) (sym (ap row_of is ∙ statements_view)) told
