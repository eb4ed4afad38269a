-- The statements of instances that declare something: their names, and what is behind them.
use Rattle.std.specs.Prelude.{◌↔◌, Contains, IsTrue, None, Some}
use Rattle.std.proofs.Common.{◌≡◌, ℕ, ◌+◌, ◌<◌, ◌≤◌, Bool, true, List, [], ◌∷◌, ◌++◌, length, refl, sym, ◌∙◌, ap, subst, arith}
use Rattle.cil_base.specs.Lists.{contains_here}
use Rattle.cil_faults.specs.declared.code.FaultCode.TheVariants as causes
use Rattle.cil_faults.specs.declared.fault.Fault.{Fault}
use Rattle.cil_syntax.specs.declared.kind.Kind.{Kind}
use Rattle.cil_syntax.specs.declared.program.Statement as rust
use Rattle.cil_faults.specs.declared.spot.Spot.{Spot}
use Rattle.cil_syntax.specs.declared.term.Term as terms
use Rattle.cil_syntax.specs.declared.term.Word.{Word}
use Rattle.cil_syntax.specs.Forms.{BeginsWithName, name_in_front}
use Rattle.cil_syntax.specs.Program.{statement_of}
use Rattle.cil_faults.specs.Reported.{spelled_fault}
use Rattle.cil_syntax.specs.Said.{all_said, args_of}
use Rattle.cil_syntax.specs.Scopes.{ScopedWord}
use Rattle.cil_syntax.specs.Table.{entry_of}
use Rattle.cil_syntax.specs.Terms.{Term, nil}
use Rattle.cil_faults.specs.Namespaces.{qualified}
use Rattle.cil_blocks.specs.Namespaces.{IsNumber, space_at}
use Rattle.cil_macros.specs.Item.{all_replaced}
use Rattle.cil_macros.specs.Items.{Kept, item_at, items_in, namespaces_in, placed_at, says_as_written}
use Rattle.cil_macros.specs.Placed.{all_filled}
use Rattle.cil_declare.specs.declared.row.Row.{Row}
use Rattle.cil_names.specs.Declarations.{content_of}
use Rattle.cil_declare.specs.Rows.{AreRowsUpTo, IsNamed, IsRowAt, behind, content_at}
use Rattle.cil_declare.specs.Runs.{faults_at, faults_named}
use Rattle.cil_names.proofs.DeclaringLemmas.{args_there, begins_there, declares_written, keyword_there, no_front, there, without_kind, without_name}
use Rattle.cil_declare.proofs.RowLemmas.{no_row, one_row}

-- terms say nothing behind the first where there is no other
alone : (f : Word → Term ScopedWord) (m : ℕ) (ts : List terms.Term) (b : Bool) → IsTrue b ↔ (length ts ≤ 1) → IsTrue b ↔ (nil ≡ content_of (behind (all_filled f (all_said m ts))))
unfolding all_filled all_replaced
alone f m [] b tells = ((λ t. refl), (λ e. tells.1 (omega arith)))
alone f m (t ∷ []) b tells = ((λ h. refl), (λ e. tells.1 (omega arith)))
alone f m (t ∷ u ∷ us) b tells = ((λ h. absurd (let over = tells.0 h in omega (arith, over))), (λ e. absurd cc))

-- ---- what is behind the name

module _ (i : Kept) (k : ℕ) (s : rust.Statement) (is : statement_of s ≡ there i k) (written : says_as_written (item_at i k).keyword ≡ true) where
  -- it says nothing behind its name where that is its only term
  pub nothing_there : (b : Bool) (ts : List terms.Term) → ts ≡ s.args.items → IsTrue b ↔ (length ts ≤ 1) → IsTrue b ↔ (content_at i None ≡ content_at i (Some k))
  nothing_there b ts same tells =
      let one = args_there i k s is written in
      let e : content_at i (Some k) ≡ content_of (behind (all_filled one.term (all_said s.at.«module» ts))) =
      ap (λ args. content_of (behind args)) (one.are ∙ ap (λ us. all_filled one.term (all_said s.at.«module» us)) (sym same)) in
      let (on, off) = alone one.term s.at.«module» ts b tells in ((λ t. on t ∙ sym e), (λ g. off (g ∙ e)))

-- ---- the row of the statement at a place

module _ (i : Kept) (k : ℕ) (within : k < length (items_in i)) (s : rust.Statement) (is : statement_of s ≡ there i k) where
  declares_there : (entry_of s.keyword).declares ≡ (entry_of (item_at i k).keyword).declares
  declares_there = ap (λ w. (entry_of w).declares) (keyword_there i k s is)

  pub kind_missing : (rows : List Row) → (entry_of s.keyword).declares ≡ [] → AreRowsUpTo i k rows → AreRowsUpTo i (k + 1) rows
  kind_missing rows e up = no_row i k rows (without_kind (item_at i k) (sym declares_there ∙ e)) up

  module _ (kind : Kind) (e : (entry_of s.keyword).declares ≡ kind ∷ []) where
    declares : (entry_of (item_at i k).keyword).declares ≡ kind ∷ []
    declares = sym declares_there ∙ e

    is_declared : Contains (entry_of (item_at i k).keyword).declares kind
    is_declared = subst (λ ks. Contains ks kind) (sym declares) (contains_here kind [])

    written_there : says_as_written (item_at i k).keyword ≡ true
    written_there = declares_written (item_at i k).keyword kind is_declared

    pub name_missing : (rows : List Row) → name_in_front (args_of s) ≡ None → AreRowsUpTo i k rows → AreRowsUpTo i (k + 1) rows
    name_missing rows none up = no_row i k rows (without_name (item_at i k) (no_front i k s is written_there none)) up

    pub row_pushed : (spot : Spot) (name bytes : List ℕ) (space : ℕ) (old new : List Row) → IsNumber (namespaces_in i) (item_at i k).space space
        → BeginsWithName (args_of s) spot name → bytes ≡ name → new ≡ old ++ record { space = space; name = bytes; kind = kind; at = Some k } ∷ []
        → AreRowsUpTo i k old → AreRowsUpTo i (k + 1) new
    row_pushed spot name bytes space old new number begins same push up =
        one_row i k old new (record { space = space; name = bytes; kind = kind; at = Some k }) (record {
          at = refl;
          within = within;
          space = number;
          spot = spot;
          named = subst (BeginsWithName (item_at i k).args spot) (sym same) (begins_there i k s is written_there spot name begins);
          kind = is_declared;
        }) declares push up

-- ---- the fault of a row

module _ (i : Kept) (k : ℕ) (r : Row) (of : IsRowAt i k r) where
  pub row_written : says_as_written (item_at i k).keyword ≡ true
  row_written = declares_written (item_at i k).keyword r.kind of.kind

  pub row_named : IsNamed i k
  row_named = record { within = of.within; spot = of.spot; name = r.name; begins = of.named }

  module _ (s : rust.Statement) (is : statement_of s ≡ there i k) where
    pub never_nameless : name_in_front (args_of s) ≡ None → ⊥
    never_nameless none =
        let e : None ≡ Some r.name = sym (no_front i k s is row_written none) ∙ ap name_in_front of.named.1 in absurd cc

    pub fault_pushed : (spot : Spot) (bytes space : List ℕ) (old new : List Fault) → BeginsWithName (args_of s) spot bytes → space ≡ qualified (space_at (namespaces_in i) r.space)
        → new ≡ old ++ spelled_fault causes.Clash spot space bytes ∷ [] → new ≡ old ++ faults_at i (Some k)
    fault_pushed spot bytes space old new begins spelled push =
        push
        ∙ ap (λ (z : List ℕ). old ++ spelled_fault causes.Clash spot z bytes ∷ []) (spelled ∙ ap qualified of.space.is)
        ∙ ap (λ fs. old ++ fs) (sym (ap (faults_named (item_at i k).space) (begins_there i k s is row_written spot bytes begins).1))
