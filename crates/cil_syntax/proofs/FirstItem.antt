-- The items of a node, of which the first must be a word.
use Rattle.std.proofs.Common.{◌≡◌, ◌-◌, ◌≤◌, ◌<◌, ℕ, List, [], ◌∷◌, ◌++◌, length, take, drop, get_or, refl, sym, ◌∙◌, ap, subst, arith}
use Rattle.std.specs.Prelude.{Option, None, Result, Ok, Err, IfOk, slice_range}
use Rattle.std.specs.Global.{Vec}
use Rattle.std.proofs.lemmas.List.{take_rest}
use Rattle.cil_sexpr.specs.declared.node.Node as nodes
use Rattle.cil_sexpr.specs.declared.node.Span.{Span}
use Rattle.cil_sexpr.specs.View.{node_of, nodes_of}
use Rattle.cil_faults.specs.declared.code.FaultCode.TheVariants as causes
use Rattle.cil_faults.specs.declared.fault.Fault.{Fault}
use Rattle.cil_faults.specs.declared.spot.Spot.{Spot}
use Rattle.cil_syntax.specs.declared.place.Place.{Place}
use Rattle.cil_syntax.specs.declared.program.Statement as program
use Rattle.cil_syntax.specs.Around.{IsAround, space_of}
use Rattle.cil_syntax.specs.Readings.{cell_of, cells_of}
use Rattle.cil_syntax.specs.Table.{entry_named}
use Rattle.cil_syntax.specs.Told.{told, IsJudged}
use Rattle.cil_syntax.specs.Words.{inner_at}
use Rattle.cil_syntax.specs.Written.{Context, Verdict, Refused, by_entry, by_head, by_items}
use Rattle.cil_syntax.proofs.Heads.{word_view, quoted_view, list_view}
use Rattle.cil_syntax.proofs.Judged.{judged_refused}

module _ (m : ℕ) (text : List ℕ) (ns : List nodes.Node) (at : Spot) where
  abbrev items_verdict : Context → Verdict
  items_verdict context = by_items context at (cells_of m (nodes_of text ns))

  -- what is said of the items in all contexts
  abbrev AreWordless : Type 0
  AreWordless = (context : Context) → items_verdict context ≡ Refused (inner_at at causes.BadShape [])

  pub none_there : length ns < 1 → AreWordless
  unfolding cells_of
  none_there short = λ context. empty ns short context where
    empty : (ks : List nodes.Node) → length ks < 1 → (context : Context) → by_items context at (cells_of m (nodes_of text ks)) ≡ Refused (inner_at at causes.BadShape [])
    empty [] e context = refl
    empty (k ∷ ks) e context = absurd (omega (arith, e))

  module _ (n : nodes.Node) (long : 1 ≤ length ns) (first : n ≡ get_or ns 0 n) where
    begun : ns ≡ n ∷ drop 1 ns
    begun = some ns long first where
      some : (ks : List nodes.Node) → 1 ≤ length ks → n ≡ get_or ks 0 n → ks ≡ n ∷ drop 1 ks
      some [] l e = absurd (omega (arith, l))
      some (k ∷ ks) l e = ap (λ x. x ∷ ks) (sym e)

    by_first : (context : Context) → items_verdict context ≡ by_head context at (cell_of m (node_of text n)).face (cells_of m (nodes_of text (drop 1 ns)))
    unfolding cells_of
    by_first context = ap (λ ks. by_items context at (cells_of m (nodes_of text ks))) begun

    pub string_there : (place : Span) → n ≡ nodes.Quoted place → AreWordless
    unfolding cell_of
    string_there place is = λ context.
        by_first context
        ∙ ap (λ v. by_head context at (cell_of m v).face (cells_of m (nodes_of text (drop 1 ns)))) (ap (node_of text) is ∙ quoted_view text place)

    pub list_there : (place : Span) (items : Vec nodes.Node) → n ≡ nodes.List place items → AreWordless
    unfolding cell_of
    list_there place items is = λ context.
        by_first context
        ∙ ap (λ v. by_head context at (cell_of m v).face (cells_of m (nodes_of text (drop 1 ns)))) (ap (node_of text) is ∙ list_view text place items)

    by_word : (place : Span) (word : List ℕ) → n ≡ nodes.Word place → word ≡ slice_range text place.start place.end → (context : Context)
        → items_verdict context ≡ by_entry context at word (cells_of m (nodes_of text (take (length ns - 1) (drop 1 ns)))) (entry_named word)
    unfolding cell_of
    by_word place word is spelled context =
        by_first context
        ∙ ap (λ v. by_head context at (cell_of m v).face (cells_of m (nodes_of text (drop 1 ns)))) (ap (node_of text) is ∙ word_view text place)
        ∙ (λ i. by_entry context at (sym spelled i) (cells_of m (nodes_of text (sym (take_rest ns 1) i))) (entry_named (sym spelled i)))

    module _ {E : Type 0} (place : Place) (r : Result (Option program.Statement) E) (old new : List Fault) where
      pub word_judged : (span : Span) (word : List ℕ) → n ≡ nodes.Word span → word ≡ slice_range text span.start span.end
          → IfOk r (λ found. (context : Context) → IsAround context place
          → IsJudged m context (by_entry context at word (cells_of m (nodes_of text (take (length ns - 1) (drop 1 ns)))) (entry_named word)) place.under old new found)
          → IfOk r (λ found. (context : Context) → IsAround context place → IsJudged m context (items_verdict context) place.under old new found)
      word_judged span word is spelled judged = so r judged where
        so : (q : Result (Option program.Statement) E)
            → IfOk q (λ found. (context : Context) → IsAround context place
            → IsJudged m context (by_entry context at word (cells_of m (nodes_of text (take (length ns - 1) (drop 1 ns)))) (entry_named word)) place.under old new found)
            → IfOk q (λ found. (context : Context) → IsAround context place → IsJudged m context (items_verdict context) place.under old new found)
        so (Ok found) h = λ context around. subst (λ v. IsJudged m context v place.under old new found) (sym (by_word span word is spelled context)) (h context around)
        so (Err e) h = h

  -- what is refused in all contexts has one fault
  module _ {E : Type 0} (place : Place) (old new : List Fault) where
    pub items_refused : (r : Result (Option program.Statement) E) → AreWordless
        → IfOk r (λ found. (found ≡ None) × (new ≡ old ++ told m (space_of place) (inner_at at causes.BadShape [] ∷ [])))
        → IfOk r (λ found. (context : Context) → IsAround context place → IsJudged m context (items_verdict context) place.under old new found)
    items_refused (Ok found) wordless h = λ context around.
        subst (λ f. IsJudged m context (items_verdict context) place.under old new f) (sym h.0)
        (judged_refused m context place around (items_verdict context) (inner_at at causes.BadShape []) place.under old new (wordless context) h.1)
    items_refused (Err e) wordless h = h
