-- Readable modules compile to tables or have a list of faults: step after step, as the compiler takes them.
use Rattle.std.specs.Prelude.{codes}
use Rattle.std.proofs.Common.{◌≡◌, ◌≤◌, ℕ, false, List, length, map, refl, sym, ◌∙◌, ap, inl, inr, arith}
use Rattle.std.proofs.lemmas.Bool.{cases_lt, true≢false}
use Rattle.std.proofs.lemmas.List.{length-map}
use Rattle.cil_faults.specs.Reported.{global_fault}
use Rattle.cil_faults.specs.declared.code.FaultCode.TheVariants as causes
use Rattle.cil_names.specs.Declarations.{nowhere}
use Rattle.cil_tables.specs.declared.tables.Boolean.{Boolean}
use Rattle.cil_base.specs.Lists.{Lists}
use Rattle.cil_faults.specs.declared.failure.Failure.TheVariants.{Faults}
use Rattle.cil_faults.specs.declared.fault.Fault.{Fault}
use Rattle.cil_syntax.specs.declared.kind.Keyword.{Keyword}
use Rattle.cil_syntax.specs.declared.kind.Keyword.TheVariants as keywords
use Rattle.cil_syntax.specs.Laws.{AlwaysHaveProgramOrFaults}
use Rattle.cil_faults.specs.Laws.{Outcome as StepOutcome, succeeds, fails as step_fails}
use Rattle.cil_syntax.specs.Written.{Written, IsWritten, ShapeFault, is_macro, written_cmp}
use Rattle.cil_blocks.specs.Contents.{Standing, Stands, is_named, standing_cmp}
use Rattle.cil_blocks.specs.InheritFaults.{InheritStep}
use Rattle.cil_blocks.specs.Laws.{HaveFlatContents}
use Rattle.cil_macros.specs.Calls.{IsPlaced, placed_cmp}
use Rattle.cil_macros.specs.ExpandFaults.{ExpandStep}
use Rattle.cil_macros.specs.Laws.{HaveFlatInstances}
use Rattle.cil_tables.specs.CompileRefusal.{CompileFails}
use Rattle.cil_tables.specs.Compiled.{IsTable}
use Rattle.cil_tables.specs.SetsStep.{SetsFault}
use Rattle.cil_names.specs.Faults.{ClashFault, ResolveFault}
use Rattle.cil_macros.specs.Items.{AreItems, item_of}
use Rattle.cil_macros.specs.Placed.{Placed}
use Rattle.cil_macros.specs.Item.{Item, nobody}
use Rattle.cil_neverallow.specs.NeverFaults.{NeverFault, violated}
use Rattle.cil_tables.specs.Laws.{AlwaysCompilesOrFails, AreFlatModules, Outcome, compiles, fails, is_flat}
use Rattle.cil_tables.specs.Table.{Table, IsOrderly, boolean_names, most_booleans}
use Rattle.cil_optionals.specs.Greatest.{IsGreatest}
use Rattle.cil_optionals.specs.Laws.{FlatIsGreatest}
use Rattle.cil_tables.proofs.AgreesLemmas.{table_agrees}
use Rattle.cil_tables.proofs.CompileLemmas.{IsFront, clash_fails, expand_fails, front_of, inherit_fails, nothing_wrong, widths_fail, words_fail}
use Rattle.cil_tables.proofs.FlatLemmas.{AreFlat, one_flat}
use Rattle.cil_tables.proofs.FlatPrograms.{flat_keyword, flat_statement, items_flat, with_flat_keywords, without_optionals}
use Rattle.cil_tables.proofs.FiniteFaults.{finite_clashes, finite_unresolved, step_outcome}
use Rattle.cil_tables.proofs.FiniteSets.{finite_sets}
use Rattle.cil_level_rows.specs.Steps.{LevelStep}
use Rattle.cil_level_rows.specs.NoLevels.{empty_ground}
use Rattle.cil_level_rows.proofs.NoLevels.{is_empty_ground, no_level_fault}
use Rattle.cil_level_rows.proofs.OneFaultLemmas.{by_ground}
use Rattle.cil_tables.proofs.NoGifts.{HaveFlatKeywords, without_levels}
use Rattle.cil_tables.proofs.TablesExist.{tables}
use Rattle.cil_tables.proofs.WideClasses.{few}

-- ---- tables are orderly where no class is too wide

module _ (xs : List Item) (none : (f : Fault) → SetsFault nobody xs f → ⊥) where
  few_booleans : (t : Table) → IsTable xs nobody t → length t.booleans ≤ most_booleans
  few_booleans t is = elim (cases_lt most_booleans (length t.booleans)) [
    | inl big ↦ let len = length-map t.booleans (λ (b : Boolean). b.name) in
        absurd (none (global_fault causes.TooMany nowhere (codes "booleans"))
        (inr (inr (inl (record { names = boolean_names t.booleans; are_names = is.booleans.names; many = omega (arith, big, len); told = refl })))))
    | inr some ↦ some
  ]

  orderly : (t : Table) → IsTable xs nobody t → IsOrderly t
  orderly t is = record {
    users = is.users.rising;
    roles = is.roles.rising;
    types = is.types.rising;
    type_aliases = is.type_aliases.rising;
    classes = is.classes.rising;
    booleans = is.booleans.names.rising;
    few_booleans = few_booleans t is;
    each_class = λ row c. let k = is.classes.only row c in record { permissions = k.2.permissions.rising; few = few xs nobody (λ f c. none f (inl c)) k.0 row k.1 k.2 };
    user_roles = is.user_roles.rising;
    role_types = is.role_types.rising;
    role_allows = is.role_allows.rising;
    constraints = is.constraints.rising;
  }

-- ---- the steps

module _ (modules : List (List ℕ)) (program : List Written) (is_program : Lists written_cmp (IsWritten modules) program) (standings : List Standing)
    (are_standings : Lists standing_cmp (Stands program) standings) (placed : List Placed) (are_placed : Lists placed_cmp (IsPlaced program standings) placed) (modules_flat : AreFlatModules modules)
    (front : IsFront modules) (without : FlatIsGreatest) where
  items : List Item
  items = map (item_of program standings placed) placed

  are_items : AreItems modules items
  unfolding items
  are_items = record {
    program = program;
    is_program = is_program;
    standings = standings;
    are_standings = are_standings;
    placed = placed;
    are_placed = are_placed;
    items = refl;
  }

  flat : AreFlat items
  unfolding items
  flat =
      items_flat program (λ w c. flat_statement modules modules_flat w ((is_program.members w).0 c)) standings (λ s c. (are_standings.members s).0 c) placed are_placed

  plain : HaveFlatKeywords items
  unfolding items
  plain = with_flat_keywords program standings (λ s c. (are_standings.members s).0 c) (flat_keyword modules modules_flat program is_program) placed are_placed

  greatest : IsGreatest items nobody
  unfolding items
  greatest =
      without items
      (without_optionals program standings (λ s c. (are_standings.members s).0 c) (flat_keyword modules modules_flat program is_program) placed are_placed)

  failed : (fs : List Fault) → CompileFails modules (Faults fs) → Outcome modules
  failed fs h = fails fs h.0 h.1

  -- no statement forbids anything
  nothing_forbidden : (f : Fault) → NeverFault items nobody f → ⊥
  nothing_forbidden f (violated n a q is) =
      let by = is.both.forbidden in true≢false (sym (plain n by.is_item) ∙ ap is_flat by.is_keyword)

  -- no statement is of levels
  nothing_levelled : (f : Fault) → LevelStep items nobody f → ⊥
  nothing_levelled f step =
      let none = without_levels items plain in
      no_level_fault items nobody none f (by_ground items nobody (empty_ground items) (is_empty_ground items nobody none) f step)

  without_faults : ((f : Fault) → ClashFault items f → ⊥) → ((f : Fault) → ResolveFault nobody items f → ⊥) → ((f : Fault) → SetsFault nobody items f → ⊥) → Outcome modules
  without_faults apart named narrow =
      let t = tables items plain flat in
      compiles t.0 (orderly items narrow t.0 t.1) (record {
        items = items;
        enabled = nobody;
        policy = record { are_items = are_items; greatest = greatest };
        no_faults = nothing_wrong modules items are_items front apart nobody greatest named narrow nothing_levelled nothing_forbidden;
        table = t.1;
        agrees = table_agrees items nobody (one_flat items flat) t.0 t.1;
      })

  outcome : Outcome modules
  outcome = elim (step_outcome (ClashFault items) (finite_clashes items)) [
    | inl clash ↦ failed clash.0 (clash_fails modules items are_items front (Faults clash.0) clash.1)
    | inr apart ↦ elim (step_outcome (ResolveFault nobody items) (finite_unresolved items nobody)) [
      | inl lost ↦ failed lost.0 (words_fail modules items are_items front apart nobody greatest (Faults lost.0) lost.1)
      | inr named ↦ elim (step_outcome (SetsFault nobody items) (finite_sets items plain nobody)) [
        | inl broad ↦ failed broad.0 (widths_fail modules items are_items front apart nobody greatest named (Faults broad.0) broad.1)
        | inr narrow ↦ without_faults apart named narrow
      ]
    ]
  ]

not_macro : (k : Keyword) → is_named k ≡ false → is_macro k ≡ false
not_macro keywords.Macro e = cc
not_macro k e = refl

by_calls : FlatIsGreatest → (modules : List (List ℕ)) (program : List Written) (standings : List Standing) → AreFlatModules modules → Lists written_cmp (IsWritten modules) program
    → ((f : Fault) → ShapeFault modules f → ⊥) → Lists standing_cmp (Stands program) standings → ((f : Fault) → InheritStep program f → ⊥)
    → StepOutcome (Lists placed_cmp (IsPlaced program standings)) (ExpandStep program standings) → Outcome modules
by_calls without modules program standings modules_flat is shape are blocks (succeeds placed all calls) =
    outcome modules program is standings are placed all modules_flat (front_of modules program standings is are shape blocks calls) without
by_calls without modules program standings modules_flat is shape are blocks (step_fails faults wrong) =
    let refused = expand_fails modules program standings is are shape blocks (Faults faults) wrong in fails faults refused.0 refused.1

by_blocks : HaveFlatInstances → FlatIsGreatest → (modules : List (List ℕ)) (program : List Written) → AreFlatModules modules → Lists written_cmp (IsWritten modules) program
    → ((f : Fault) → ShapeFault modules f → ⊥) → StepOutcome (Lists standing_cmp (Stands program)) (InheritStep program) → Outcome modules
by_blocks instances without modules program modules_flat is shape (succeeds contents are blocks) =
    by_calls without modules program contents modules_flat is shape are blocks
    (instances program contents is.rising are (λ w c. not_macro w.statement.keyword (flat_statement modules modules_flat w ((is.members w).0 c)).no_name))
by_blocks instances without modules program modules_flat is shape (step_fails faults are) =
    let refused = inherit_fails modules program is shape (Faults faults) are in fails faults refused.0 refused.1

by_shape : HaveFlatContents → HaveFlatInstances → FlatIsGreatest → (modules : List (List ℕ)) → AreFlatModules modules → StepOutcome (Lists written_cmp (IsWritten modules)) (ShapeFault modules) → Outcome modules
by_shape blocks instances without modules modules_flat (succeeds program is none) =
    by_blocks instances without modules program modules_flat is none (blocks program is.rising (λ w c. flat_statement modules modules_flat w ((is.members w).0 c)))
by_shape blocks instances without modules modules_flat (step_fails faults are) = fails faults (inl are) are.some

pub always_compiles_or_fails : AlwaysHaveProgramOrFaults → HaveFlatContents → HaveFlatInstances → FlatIsGreatest → AlwaysCompilesOrFails
always_compiles_or_fails law blocks instances without modules readable modules_flat = by_shape blocks instances without modules modules_flat (law modules readable)
