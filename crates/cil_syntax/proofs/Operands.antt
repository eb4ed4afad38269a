-- The operands of an operator, and forms over terms that were read.
use Rattle.std.proofs.Common.{◌≡◌, ◌≢◌, ℕ, Bool, true, false, if◌then◌else◌, List, [], ◌∷◌, length, ◌++◌, refl, sym, ◌∙◌, ap, subst, arith, rules, append_assoc}
use Rattle.std.specs.Prelude.{Option, Some, None, Result, Ok, Err, IsErrAnd}
use Rattle.std.specs.declared.vec.Vec.{Vec}
use Rattle.std.specs.declared.alloc.Global.{Global}
use Rattle.std.proofs.lemmas.List.{append-nil}
use Rattle.cil_sexpr.specs.declared.node.Node as nodes
use Rattle.cil_sexpr.specs.View.{nodes_of}
use Rattle.cil_faults.specs.declared.fault.Fault.{Fault}
use Rattle.cil_syntax.specs.declared.stop.Stop.{Stop}
use Rattle.cil_syntax.specs.declared.stop.Stop.TheVariants.{OtherShape, NoMemory}
use Rattle.cil_syntax.specs.declared.term.Op.{Op}
use Rattle.cil_faults.specs.declared.spot.Spot.{Spot}
use Rattle.cil_syntax.specs.declared.term.Term as rust
use Rattle.cil_syntax.specs.declared.term.Term.{the_lemmas}
use Rattle.cil_syntax.specs.declared.term.Term.TheVariants as variants
use Rattle.cil_syntax.specs.declared.term.Word.{Word}
use Rattle.cil_syntax.specs.Said.{said_of, all_said}
use Rattle.cil_syntax.specs.Shapes.{Inner, Reading, Shape, Row, close, item, many, Cell}
use Rattle.cil_syntax.specs.Readings.{joined, read_row, formed, cells_of}
use Rattle.cil_syntax.specs.Terms.{Form, Terms}
use Rattle.cil_faults.specs.Spots.{spot_at}
use Rattle.cil_syntax.specs.Told.{told, IsTold, AreTold, Tells, TellAll}
use Rattle.cil_syntax.proofs.ItemsRead.{joined-none, length-cells, told-append}

-- some of one shape: one, or two
abbrev pub some_of : Shape → Bool → Row
some_of shape single = if single then item shape close else item shape (item shape close)

no_operands : (shape : Shape) (single : Bool) (cells : List Cell) → length cells ≢ (if single then 1 else 2) → read_row (some_of shape single) cells ≡ None
unfolding read_row
no_operands shape true [] h = refl
no_operands shape true (c ∷ []) h = absurd (h refl)
no_operands shape true (c ∷ d ∷ cs) h = joined-none (c.read shape)
no_operands shape false [] h = refl
no_operands shape false (c ∷ []) h = joined-none (c.read shape)
no_operands shape false (c ∷ d ∷ []) h = absurd (h refl)
no_operands shape false (c ∷ d ∷ e ∷ cs) h = ap (joined (c.read shape)) (joined-none (d.read shape)) ∙ joined-none (c.read shape)

right_operands : (shape : Shape) (single : Bool) (cells : List Cell) → length cells ≡ (if single then 1 else 2)
    → read_row (some_of shape single) cells ≡ read_row (many shape) cells
unfolding read_row
right_operands shape true [] h = absurd (omega (arith, h))
right_operands shape true (c ∷ []) h = refl
right_operands shape true (c ∷ d ∷ cs) h = absurd (omega (arith, h))
right_operands shape false [] h = absurd (omega (arith, h))
right_operands shape false (c ∷ []) h = absurd (omega (arith, h))
right_operands shape false (c ∷ d ∷ []) h = refl
right_operands shape false (c ∷ d ∷ e ∷ cs) h = absurd (omega (arith, h))

-- a form of terms that were read
pub formed_told : (m : ℕ) (space : List ℕ) (at : ℕ) (op : Op) (r : Option (Reading (Terms Word))) (old new : List Fault) (parts : Vec rust.Term Global)
    → AreTold m space r old new (Some parts) → IsTold m space (formed (spot_at m at) op [] r) old new (Some (variants.Form op at parts))
formed_told m space at op None old new parts h = absurd h
formed_told m space at op (Some r) old new parts h =
    let view : said_of m (variants.Form op at parts) ≡ Form (spot_at m at) op (all_said m parts.items) = search (rules, the_lemmas) in
    (view ∙ ap (Form (spot_at m at) op) h.0, h.1)

-- nothing was read, and so no form
pub none_formed : (m : ℕ) (space : List ℕ) (at : Spot) (op : Op) (r : Option (Reading (Terms Word))) (old new : List Fault)
    → AreTold m space r old new None → IsTold m space (formed at op [] r) old new None
none_formed m space at op None old new h = h
none_formed m space at op (Some r) old new h = absurd h

-- an error that was handed on makes no form
pub stop_formed : (m : ℕ) (space : List ℕ) (at : Spot) (op : Op) (r : Option (Reading (Terms Word))) (old new : List Fault) (e : Stop) (answer : Result rust.Term Stop)
    → TellAll m space r old new (Err e) → IsErrAnd answer (λ x. x ≡ e) → Tells m space (formed at op [] r) old new answer
stop_formed m space at op r old new e (Ok t) told handed = absurd handed
stop_formed m space at op r old new OtherShape (Err x) told handed =
    subst (λ y. Tells m space (formed at op [] r) old new (Err y)) (sym handed) (none_formed m space at op r old new told)
stop_formed m space at op r old new NoMemory (Err x) told handed = subst (λ y. Tells m space (formed at op [] r) old new (Err y)) (sym handed) tt

-- a form with faults in front of those of its parts
pub faulted : (m : ℕ) (space : List ℕ) (at : Spot) (op : Op) (fs : List Inner) (r : Option (Reading (Terms Word))) (old mid new : List Fault) (t : Option rust.Term)
    → mid ≡ old ++ told m space fs → IsTold m space (formed at op [] r) mid new t → IsTold m space (formed at op fs r) old new t
faulted m space at op fs None old mid new None e h = (told m space fs ++ h.0, h.1 ∙ ap (λ x. x ++ h.0) e ∙ append_assoc old (told m space fs) h.0)
faulted m space at op fs None old mid new (Some t) e h = absurd h
faulted m space at op fs (Some r) old mid new None e h = absurd h
faulted m space at op fs (Some r) old mid new (Some t) e h = (h.0, told-append m space old mid new fs r.faults e h.1)

-- the same of an answer that may be an error
pub faulted_so : (m : ℕ) (space : List ℕ) (at : Spot) (op : Op) (fs : List Inner) (r : Option (Reading (Terms Word))) (old mid new : List Fault) (answer : Result rust.Term Stop)
    → mid ≡ old ++ told m space fs → Tells m space (formed at op [] r) mid new answer → Tells m space (formed at op fs r) old new answer
faulted_so m space at op fs r old mid new (Ok t) e h = faulted m space at op fs r old mid new (Some t) e h
faulted_so m space at op fs r old mid new (Err OtherShape) e h = faulted m space at op fs r old mid new None e h
faulted_so m space at op fs r old mid new (Err NoMemory) e h = tt

-- ---- one operand or two, of one shape

module _ (m : ℕ) (space : List ℕ) (text : List ℕ) (ns : List nodes.Node) (shape : Shape) (single : Bool) where
  abbrev counted : ℕ
  counted = if single then 1 else 2

  pub wrong_operands : (old : List Fault) → length ns ≢ counted → AreTold m space (read_row (some_of shape single) (cells_of m (nodes_of text ns))) old old None
  wrong_operands old h =
      subst (λ r. AreTold m space r old old None) (sym (no_operands shape single (cells_of m (nodes_of text ns)) (λ e. h (sym (length-cells m text ns) ∙ e)))) ([], sym (append-nil old))

  -- as many as there should be are read as any number is
  pub operands_counted : (r : Result (Vec rust.Term Global) Stop) (old new : List Fault) → length ns ≡ counted
      → TellAll m space (read_row (many shape) (cells_of m (nodes_of text ns))) old new r
      → TellAll m space (read_row (some_of shape single) (cells_of m (nodes_of text ns))) old new r
  operands_counted r old new long told =
      subst (λ w. TellAll m space w old new r) (sym (right_operands shape single (cells_of m (nodes_of text ns)) (length-cells m text ns ∙ long))) told
