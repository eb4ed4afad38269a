-- The faults of runs are those of declarations that differ.
use Rattle.std.specs.Prelude.{Contains, slice_get, if◌then◌else◌}
use Rattle.std.specs.List.{flat_map, list_all}
use Rattle.std.specs.Option.{unwrap_or}
use Rattle.std.proofs.Common.{◌≡◌, ℕ, Bool, true, false, List, [], ◌∷◌, refl, sym, ◌∙◌, ap, subst, inl, inr}
use Rattle.std.proofs.lemmas.Bool.{true≢false}
use Rattle.cil_base.specs.Lists.{contains_here, contains_cases, contains_none}
use Rattle.cil_base.specs.MadeLists.{contains_flat, from_flat}
use Rattle.cil_base.specs.Places.{get_at}
use Rattle.cil_faults.specs.declared.code.FaultCode.TheVariants as causes
use Rattle.cil_faults.specs.declared.fault.Fault.{Fault}
use Rattle.cil_syntax.specs.declared.kind.Kind.{Kind}
use Rattle.cil_faults.specs.declared.spot.Spot.{Spot}
use Rattle.cil_syntax.specs.Terms.{Name, Terms, cons}
use Rattle.cil_faults.specs.Reported.{fault_at}
use Rattle.cil_syntax.specs.Scopes.{ScopedWord}
use Rattle.cil_blocks.specs.Namespaces.{space_at}
use Rattle.cil_blocks.proofs.NamespaceLemmas.{one_to_one}
use Rattle.cil_macros.specs.Item.{Item, everybody}
use Rattle.cil_macros.specs.Items.{Kept, item_at, items_in, namespaces_in}
use Rattle.cil_declare.specs.declared.row.Row.{Row}
use Rattle.cil_declare.specs.declared.run.Run.{Run}
use Rattle.cil_names.specs.Declarations.{Declaration, declared_by}
use Rattle.cil_declare.specs.Rows.{AreAlike, IsRowAt, TellsDiffering, declaration_of, is_row_enabled, object_row, round_at, row_key}
use Rattle.cil_declare.specs.Runs.{AreRunsOf, faults_at, faults_named, row_faults, run_faults, run_key}
use Rattle.cil_names.specs.Entries.{Key, by_name_cmp}
use Rattle.cil_syntax.specs.declared.name_space.NameSpace.TheVariants as name_spaces
use Rattle.cil_syntax.specs.NameSpaces.{name_space, rank, rank_in}
use Rattle.cil_names.specs.Faults.{ClashFault, clash}
use Rattle.cil_names.proofs.DeclareDecided.{name_space_at, ranked_back, same_declaration}
use Rattle.cil_declare.proofs.DoneLemmas.{declared_row, is_row, item_within, place_of, row_declared, run_of, space_within}
use Rattle.cil_declare.proofs.RowLemmas.{row_declares}
use Rattle.cil_names.proofs.OrderLemmas.{key_total, one_key}
use Rattle.cil_base.proofs.SearchLemmas.{one_number}

-- ---- name spaces and their numbers

pub same_name_space : (j k : Kind) → rank j ≡ rank k → name_space j ≡ name_space k
same_name_space j k e =
    sym (ranked_back (name_space j)) ∙ ap name_space_at e ∙ ranked_back (name_space k)

same_rank : (j k : Kind) → name_space j ≡ name_space k → rank j ≡ rank k
same_rank j k e = ap rank_in e

pub one_name_space : (a b : Row) → row_key a ≡ row_key b → name_space a.kind ≡ name_space b.kind
one_name_space a b key = same_name_space a.kind b.kind (ap (λ (k : Key). k.rank) key)

-- ---- the fault of a row

pub all_enabled : (round : List ℕ) → list_all everybody round ≡ true
all_enabled [] = refl
all_enabled (o ∷ os) = all_enabled os

enabled : (i : Kept) (r : Row) → is_row_enabled i everybody r ≡ true
enabled i r = all_enabled (round_at i r.at)

module _ (i : Kept) (k : ℕ) (r : Row) (of : IsRowAt i k r) where
  abbrev fault_of : Fault
  fault_of = fault_at causes.Clash of.spot (item_at i k).space r.name

  faults_are : row_faults i r ≡ fault_of ∷ []
  unfolding row_faults
  faults_are = ap (faults_at i) of.at ∙ ap (faults_named (item_at i k).space) of.named.1

no_fault : (i : Kept) (r : Row) → r ≡ object_row → (f : Fault) → Contains (row_faults i r) f → ⊥
unfolding row_faults
no_fault i r e f c = contains_none f (subst (λ (x : Row). Contains (faults_at i x.at) f) e c)

-- the fault of a row, as that of the item of its instance
fault_there : (i : Kept) (k : ℕ) (r : Row) → IsRowAt i k r → (x : Item) → item_at i k ≡ x → (at : Spot) (name : List ℕ) (rest : Terms ScopedWord) → x.args ≡ cons (Name at name) rest
    → Contains (row_faults i r) (fault_at causes.Clash at x.space name)
unfolding row_faults
fault_there i k r of x same at name rest says =
    subst (λ fs. Contains fs (fault_at causes.Clash at x.space name))
    (sym (ap (faults_at i) of.at ∙ ap (λ (y : Item). faults_named y.space y.args) same ∙ ap (faults_named x.space) says))
    (contains_here (fault_at causes.Clash at x.space name) [])

-- ---- runs with rows that differ

differing_of : (i : Kept) (first : Row) (rows : List Row) (b : Bool) → b ≡ true → TellsDiffering i first rows b
    → (r : Row) × Contains rows r × (AreAlike (declaration_of i first) (declaration_of i r) → ⊥)
differing_of i first rows b e tells = subst (TellsDiffering i first rows) e tells

pub alike_of : (i : Kept) (first : Row) (rows : List Row) (b : Bool) → b ≡ false → TellsDiffering i first rows b → (r : Row) → Contains rows r
    → AreAlike (declaration_of i first) (declaration_of i r)
alike_of i first rows b e tells = subst (TellsDiffering i first rows) e tells

module _ (i : Kept) (rows : List Row) (runs : List Run) (of : AreRunsOf i rows runs) where
  -- in a run with rows that differ, what differs from one of them; they are of no block
  other_of : (run : Run) → Contains runs run → run.differing ≡ true → (r : Row) → Contains run.rows.now r
      → (x : Row) × Contains run.rows.now x × (declaration_of i r ≡ declaration_of i x → ⊥) × (name_space r.kind ≡ name_spaces.Blocks → ⊥)
  other_of run c d r in_run =
      let is_run = of.are.each run c in
      let (x, in_x, apart) = differing_of i run.first.now run.rows.now run.differing d is_run.tells in
      let one_space = one_name_space r run.first.now (is_run.same r in_run) in
      let no_block : name_space r.kind ≡ name_spaces.Blocks → ⊥ = λ e. apart (inl (sym one_space ∙ e)) in
      elim (same_declaration (declaration_of i run.first.now) (declaration_of i r)) [
        | inl same ↦ (x, in_x, (λ e. apart (inr (same ∙ e))), no_block)
        | inr differ ↦ (run.first.now, is_run.first, (λ e. differ (sym e)), no_block)
      ]

  clash_of : (run : Run) → Contains runs run → run.differing ≡ true → (r : Row) → Contains run.rows.now r → (k : ℕ) (at : IsRowAt i k r)
      → ClashFault (items_in i) (fault_of i k r at)
  clash_of run in_runs d r in_run k at =
      let (x, in_x, apart, no_block) = other_of run in_runs d r in_run in
      let same_as = (of.are.each run in_runs).same in
      let key = same_as r in_run ∙ sym (same_as x in_x) in
      clash (item_at i k) at.spot r.name at.named.0 (declaration_of i r) (declaration_of i x) (item_within i k at.within) at.named.1 (row_declares i k r at)
      (row_declared i everybody x (is_row i rows runs of run x in_runs in_x) (enabled i x))
      (record {
        one_name = ap (λ (z : Key). z.name) key;
        one_namespace = ap (λ (z : Key). space_at (namespaces_in i) z.space) key;
        one_name_space = one_name_space r x key;
        apart = no_block;
        differ = apart;
      })

  told_in : (run : Run) → Contains runs run → (b : Bool) → run.differing ≡ b → (f : Fault) → Contains (if b then flat_map (row_faults i) run.rows.now else []) f
      → ClashFault (items_in i) f
  told_in run c false e f d = absurd (contains_none f d)
  told_in run c true e f d =
      let (r, in_run, told) = from_flat (row_faults i) run.rows.now f d in
      elim (is_row i rows runs of run r c in_run) [
        | inl object ↦ absurd (no_fault i r object f told)
        | inr from ↦
            let (k, at) = from in
            elim (contains_cases f (fault_of i k r at) [] (subst (λ fs. Contains fs f) (faults_are i k r at) told)) [
              | inl same ↦ subst (ClashFault (items_in i)) same (clash_of run c e r in_run k at)
              | inr none ↦ absurd (contains_none f none)
            ]
      ]

  pub clash_there : (f : Fault) → Contains (flat_map (run_faults i) runs) f → ClashFault (items_in i) f
  unfolding run_faults
  clash_there f c = let (run, in_runs, told) = from_flat (run_faults i) runs f c in told_in run in_runs run.differing refl f told

  -- ---- the way back

  -- rows with one key are of one run
  one_run : (a b : Row) (m n : Run) → row_key a ≡ row_key b → Contains runs m → Contains m.rows.now a → Contains runs n → Contains n.rows.now b → m ≡ n
  one_run a b m n key in_m a_in in_n b_in =
      let (j, below_j, at_j) = get_at runs m in_m in
      let (k, below_k, at_k) = get_at runs n in_n in
      let same = sym ((of.are.each m in_m).same a a_in) ∙ key ∙ (of.are.each n in_n).same b b_in in
      let numbers = one_number run_key by_name_cmp key_total one_key runs j k m n of.are.rising at_j at_k same in
      ap (λ o. unwrap_or o m) (sym at_j ∙ ap (slice_get runs) numbers ∙ at_k)

  fault_told : (run : Run) → Contains runs run → (b : Bool) → run.differing ≡ b → (f : Fault) → b ≡ true → Contains (flat_map (row_faults i) run.rows.now) f
      → Contains (if b then flat_map (row_faults i) run.rows.now else []) f
  fault_told run c true e f is d = d
  fault_told run c false e f is d = absurd (true≢false (sym is))

  in_faults : (run : Run) → Contains runs run → run.differing ≡ true → (f : Fault) → Contains (flat_map (row_faults i) run.rows.now) f → Contains (flat_map (run_faults i) runs) f
  unfolding run_faults
  in_faults run c e f d = contains_flat (run_faults i) runs run f c (fault_told run c run.differing refl f e d)

  alike_as : (run : Run) → Contains runs run → run.differing ≡ false → (r : Row) → Contains run.rows.now r → (name_space r.kind ≡ name_spaces.Blocks → ⊥)
      → declaration_of i run.first.now ≡ declaration_of i r
  alike_as run c e r in_r no_block =
      let is_run = of.are.each run c in
      elim (alike_of i run.first.now run.rows.now run.differing e is_run.tells r in_r) [
        | inl block ↦ absurd (no_block (one_name_space r run.first.now (is_run.same r in_r) ∙ block))
        | inr same ↦ same
      ]

  -- two rows of one name that differ and are of no block are of a run with rows that differ
  differs_at : (run : Run) → Contains runs run → (b : Bool) → run.differing ≡ b → (r x : Row) → Contains run.rows.now r → Contains run.rows.now x
      → (name_space r.kind ≡ name_spaces.Blocks → ⊥) → name_space r.kind ≡ name_space x.kind → (declaration_of i r ≡ declaration_of i x → ⊥) → run.differing ≡ true
  differs_at run c true e r x in_r in_x no_block one_space apart = e
  differs_at run c false e r x in_r in_x no_block one_space apart =
      absurd (apart (sym (alike_as run c e r in_r no_block) ∙ alike_as run c e x in_x (λ block. no_block (one_space ∙ block))))

  -- the row of an instance in a run with rows that differ has the fault of the instance
  told_at : (run : Run) → Contains runs run → run.differing ≡ true → (r : Row) → Contains run.rows.now r → (k : ℕ) (at : IsRowAt i k r)
      → Contains (flat_map (run_faults i) runs) (fault_of i k r at)
  told_at run in_runs d r in_run k at =
      in_faults run in_runs d (fault_of i k r at)
      (contains_flat (row_faults i) run.rows.now r (fault_of i k r at) in_run
      (subst (λ fs. Contains fs (fault_of i k r at)) (sym (faults_are i k r at)) (contains_here (fault_of i k r at) [])))

  pub clash_back : (f : Fault) → ClashFault (items_in i) f → Contains (flat_map (run_faults i) runs) f
  clash_back f (clash x at name rest d e in_items says by_x declared apart) =
      let (k, below, same) = place_of i x in_items in
      let (r, r_all, of_r, is_d) = of.all.all k below d (subst (λ y. Contains (declared_by y) d) (sym same) by_x) in
      let (other, in_all, is_e, on) = declared_row i rows of.all everybody e declared in
      let (run, in_runs, in_run) = run_of i rows runs of r r_all in
      let (bun, in_buns, in_bun) = run_of i rows runs of other in_all in
      let number = one_to_one (namespaces_in i) of.namespaces r.space other.space
      (space_within i r (is_row i rows runs of run r in_runs in_run)) (space_within i other (is_row i rows runs of bun other in_buns in_bun))
      (ap (λ (z : Declaration). z.space) is_d ∙ apart.one_namespace ∙ sym (ap (λ (z : Declaration). z.space) is_e)) in
      let called = ap (λ (z : Declaration). z.name) is_d ∙ apart.one_name ∙ sym (ap (λ (z : Declaration). z.name) is_e) in
      let one_space : name_space r.kind ≡ name_space other.kind = ap (λ (z : Declaration). name_space z.kind) is_d ∙ apart.one_name_space ∙ sym (ap (λ (z : Declaration). name_space z.kind) is_e) in
      let ranks = same_rank r.kind other.kind one_space in
      let key : row_key r ≡ row_key other = λ j. record { space = number j; name = called j; rank = ranks j } in
      let one = one_run r other run bun key in_runs in_run in_buns in_bun in
      let no_block : name_space r.kind ≡ name_spaces.Blocks → ⊥ = λ h. apart.apart (sym (ap (λ (z : Declaration). name_space z.kind) is_d) ∙ h) in
      let differs = differs_at run in_runs run.differing refl r other in_run (subst (λ m. Contains m.rows.now other) (sym one) in_bun) no_block one_space (λ h. apart.differ (sym is_d ∙ h ∙ is_e)) in
      in_faults run in_runs differs (fault_at causes.Clash at x.space name)
      (contains_flat (row_faults i) run.rows.now r (fault_at causes.Clash at x.space name) in_run (fault_there i k r of_r x same at name rest says))

  -- where no fault is told, no run has rows that differ
  pub none_differ : ((f : Fault) → Contains (flat_map (run_faults i) runs) f → ⊥) → (run : Run) → Contains runs run → run.differing ≡ false
  none_differ none run c = by run.differing refl
    where
      is_object : (r : Row) → Contains run.rows.now r → run.differing ≡ true → r ≡ object_row
      is_object r in_run e = elim (is_row i rows runs of run r c in_run) [
        | inl object ↦ object
        | inr from ↦ let (k, at) = from in absurd (none (fault_of i k r at) (told_at run c e r in_run k at))
      ]

      by : (b : Bool) → run.differing ≡ b → run.differing ≡ false
      by false e = e
      by true e =
          let is_run = of.are.each run c in
          let (x, in_x, apart) = differing_of i run.first.now run.rows.now run.differing e is_run.tells in
          absurd (apart (inr (ap (declaration_of i) (is_object run.first.now is_run.first e ∙ sym (is_object x in_x e)))))
