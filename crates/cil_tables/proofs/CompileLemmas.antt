-- From the steps of the compiler to what it answers.
use Rattle.std.specs.List.{AllByRecursion}
use Rattle.std.specs.List.Sorted.{IsStrictlySortedBy}
use Rattle.std.specs.Ordering.{on}
use Rattle.std.specs.declared.cmp.Ordering.TheVariants.{Less}
use Rattle.std.specs.Prelude.{Result, Ok, Err, IfErr}
use Rattle.std.specs.Result.{IsErrAnd}
use Rattle.std.proofs.Common.{◌≡◌, ℕ, List, [], ◌∷◌, map, refl, sym, subst, inl, inr}
use Rattle.cil_base.specs.Lists.{Lists, text_cmp, one_list}
use Rattle.cil_faults.specs.declared.failure.Failure.{Failure}
use Rattle.cil_faults.specs.declared.failure.Failure.TheVariants.{Faults, NoMemory}
use Rattle.cil_faults.specs.declared.fault.Fault.{Fault}
use Rattle.cil_syntax.specs.declared.program.Statement.{Statement}
use Rattle.cil_faults.specs.Fails.{AreFaults}
use Rattle.cil_faults.specs.FaultOrder.{fault_cmp}
use Rattle.cil_faults.specs.Refusal.{Fails}
use Rattle.cil_base.specs.Sorted.{lists_of}
use Rattle.cil_syntax.specs.Written.{Written, IsWritten, ShapeFault, written_cmp, written_total}
use Rattle.cil_blocks.specs.Contents.{Standing, Stands, standing_cmp}
use Rattle.cil_blocks.specs.InheritFaults.{InheritStep}
use Rattle.cil_blocks.specs.Places.{AreStandings, Standings, statements_in}
use Rattle.cil_blocks.proofs.InheritLemmas.{standing_total}
use Rattle.cil_macros.specs.ExpandFaults.{ExpandStep}
use Rattle.cil_macros.specs.Macros.{all_standing}
use Rattle.cil_macros.specs.Walks.{written_in}
use Rattle.cil_tables.proofs.AgreesLemmas.{table_agrees}
use Rattle.cil_tables.proofs.PlainLemmas.{AreBegun, AreNamed, are_named, one_symbol}
use Rattle.cil_neverallow.specs.NeverFaults.{NeverFault}
use Rattle.cil_level_rows.specs.Steps.{LevelStep}
use Rattle.cil_tables.specs.SetsStep.{SetsFault}
use Rattle.cil_tables.specs.declared.compiler.Compiled.{Compiled}
use Rattle.cil_tables.specs.CompileAnswer.{IsCompiled, IsCompiledOf, StandsIn}
use Rattle.cil_tables.specs.CompileRefusal.{AreItemsFaults, CompileFails, ItemsFail, LaterFail, set_steps}
use Rattle.cil_faults.specs.First.{AreFirst}
use Rattle.cil_tables.specs.Faults.{ArePolicyFaults, OfItems, OfPolicy, OfProgram, OfStandings, of_items, of_policy, of_program, of_standings}
use Rattle.cil_names.specs.Faults.{ClashFault, ResolveFault}
use Rattle.cil_macros.specs.Item.{Item, OptSet}
use Rattle.cil_optionals.specs.Greatest.{IsGreatest}
use Rattle.cil_optionals.specs.Policy.{ArePolicy}
use Rattle.cil_optionals.proofs.PolicyLemmas.{one_items, one_policy}
use Rattle.cil_macros.specs.Calls.{IsPlaced, placed_cmp}
use Rattle.cil_macros.specs.Items.{AreItems, Kept, all_placed, items_in}
use Rattle.cil_syntax.specs.Program.{IsNested, program_of}

-- ---- the items of modules

-- what holds of a policy of modules holds of each
pub policy_moved : (modules : List (List ℕ)) (xs ys : List Item) (s t : OptSet) → ArePolicy modules xs s → ArePolicy modules ys t → (P : List Item → OptSet → Type 0) → P xs s → P ys t
policy_moved modules xs ys s t a b P holds =
    let one = one_policy modules xs ys s t a b in
    let there : P ys s = subst (λ zs. P zs s) one.0 holds in
    subst (λ r. P ys r) one.1 there

module _ (modules : List (List ℕ)) (xs : List Item) (are : AreItems modules xs) (step : List Item → Fault → Type 0) where
  step_back : (f : Fault) → OfItems modules step f → step xs f
  step_back f (of_items ys g other s) = subst (λ zs. step zs g) (one_items modules ys xs other are) s

  pub no_step : ((f : Fault) → step xs f → ⊥) → (f : Fault) → OfItems modules step f → ⊥
  no_step none f o = none f (step_back f o)

  pub step_faults : (fs : List Fault) → AreFaults (step xs) fs → AreFaults (OfItems modules step) fs
  step_faults fs a = record { listed = lists_of fault_cmp (step xs) (OfItems modules step) fs (λ f s. of_items xs f are s) step_back a.listed; some = a.some }

module _ (modules : List (List ℕ)) (xs : List Item) (set : OptSet) (policy : ArePolicy modules xs set) (step : List Item → OptSet → Fault → Type 0) where
  policy_back : (f : Fault) → OfPolicy modules step f → step xs set f
  policy_back f (of_policy ys r g other s) = policy_moved modules ys xs r set other policy (λ zs t. step zs t g) s

  pub no_policy_step : ((f : Fault) → step xs set f → ⊥) → (f : Fault) → OfPolicy modules step f → ⊥
  no_policy_step none f o = none f (policy_back f o)

  pub policy_faults : (fs : List Fault) → AreFaults (step xs set) fs → AreFaults (OfPolicy modules step) fs
  policy_faults fs a = record {
    listed = lists_of fault_cmp (step xs set) (OfPolicy modules step) fs (λ f s. of_policy xs set f policy s) policy_back a.listed;
    some = a.some;
  }

module _ (modules : List (List ℕ)) (program : List Written) (is : Lists written_cmp (IsWritten modules) program) (step : List Written → Fault → Type 0) where
  program_back : (f : Fault) → OfProgram modules step f → step program f
  program_back f (of_program other g listed s) = subst (λ ws. step ws g) (one_list written_cmp written_total (IsWritten modules) other program listed is) s

  pub no_program_step : ((f : Fault) → step program f → ⊥) → (f : Fault) → OfProgram modules step f → ⊥
  no_program_step none f o = none f (program_back f o)

  program_faults : (fs : List Fault) → AreFaults (step program) fs → AreFaults (OfProgram modules step) fs
  program_faults fs a = record {
    listed = lists_of fault_cmp (step program) (OfProgram modules step) fs (λ f s. of_program program f is s) program_back a.listed;
    some = a.some;
  }

module _ (modules : List (List ℕ)) (program : List Written) (is : Lists written_cmp (IsWritten modules) program) (standings : List Standing)
    (are : Lists standing_cmp (Stands program) standings) (step : List Written → List Standing → Fault → Type 0) where
  same_standings : (ws : List Written) (ss : List Standing) → program ≡ ws → Lists standing_cmp (Stands ws) ss → ss ≡ standings
  same_standings ws ss e other =
      one_list standing_cmp standing_total (Stands program) ss standings (subst (λ zs. Lists standing_cmp (Stands zs) ss) (sym e) other) are

  standings_back : (f : Fault) → OfStandings modules step f → step program standings f
  standings_back f (of_standings ws ss g listed contents s) =
      let e = one_list written_cmp written_total (IsWritten modules) program ws is listed in
      subst (λ zs. step program zs g) (same_standings ws ss e contents) (subst (λ zs. step zs ss g) (sym e) s)

  pub no_standings_step : ((f : Fault) → step program standings f → ⊥) → (f : Fault) → OfStandings modules step f → ⊥
  no_standings_step none f o = none f (standings_back f o)

  standings_faults : (fs : List Fault) → AreFaults (step program standings) fs → AreFaults (OfStandings modules step) fs
  standings_faults fs a = record {
    listed = lists_of fault_cmp (step program standings) (OfStandings modules step) fs (λ f s. of_standings program standings f is are s) standings_back a.listed;
    some = a.some;
  }

-- ---- refusals

pub inherit_fails : (modules : List (List ℕ)) (program : List Written) → Lists written_cmp (IsWritten modules) program → ((f : Fault) → ShapeFault modules f → ⊥)
    → (failure : Failure) → Fails (InheritStep program) failure → CompileFails modules failure
inherit_fails modules program is shape (Faults fs) a = (inr (shape, inl (program_faults modules program is InheritStep fs a)), a.some)
inherit_fails modules program is shape NoMemory a = tt

pub expand_fails : (modules : List (List ℕ)) (program : List Written) (standings : List Standing) → Lists written_cmp (IsWritten modules) program
    → Lists standing_cmp (Stands program) standings → ((f : Fault) → ShapeFault modules f → ⊥) → ((f : Fault) → InheritStep program f → ⊥)
    → (failure : Failure) → Fails (ExpandStep program standings) failure → CompileFails modules failure
expand_fails modules program standings is are shape blocks (Faults fs) a =
    (inr (shape, inr (no_program_step modules program is InheritStep blocks, inl (standings_faults modules program is standings are ExpandStep fs a))), a.some)
expand_fails modules program standings is are shape blocks NoMemory a = tt

-- the steps over written statements and over what stands have no fault
pub record IsFront (modules : List (List ℕ)) : Type 0 where
  pub shape : (f : Fault) → ShapeFault modules f → ⊥
  pub blocks : (f : Fault) → OfProgram modules InheritStep f → ⊥
  pub calls : (f : Fault) → OfStandings modules ExpandStep f → ⊥

pub front_of : (modules : List (List ℕ)) (program : List Written) (standings : List Standing) → Lists written_cmp (IsWritten modules) program
    → Lists standing_cmp (Stands program) standings → ((f : Fault) → ShapeFault modules f → ⊥) → ((f : Fault) → InheritStep program f → ⊥)
    → ((f : Fault) → ExpandStep program standings f → ⊥) → IsFront modules
front_of modules program standings is are shape blocks calls = record {
  shape = shape;
  blocks = no_program_step modules program is InheritStep blocks;
  calls = no_standings_step modules program is standings are ExpandStep calls;
}

-- what stands in a program, as it is handed up
pub stands_in : (modules : List (List ℕ)) (program : List Statement) (s : Standings) → statements_in s ≡ program → AreStandings s
    → Lists written_cmp (IsWritten modules) (program_of program) → ((f : Fault) → ShapeFault modules f → ⊥) → ((f : Fault) → InheritStep (program_of program) f → ⊥)
    → StandsIn modules s
stands_in modules program s same are is shape blocks = record {
  program = subst (λ ss. Lists written_cmp (IsWritten modules) (program_of ss)) (sym same) is;
  standings = are;
  shape = shape;
  blocks = subst (λ ss. (f : Fault) → InheritStep (program_of ss) f → ⊥) (sym same) blocks;
}

module _ (modules : List (List ℕ)) (s : Standings) (stands : StandsIn modules s) where
  pub calls_fail : (failure : Failure) → Fails (ExpandStep (written_in s) (all_standing s)) failure → CompileFails modules failure
  calls_fail failure h = expand_fails modules (written_in s) (all_standing s) stands.program stands.standings.contents.standings stands.shape stands.blocks failure h

  its_standings : (i : Kept) → i.0 ≡ s → Lists standing_cmp (Stands (written_in i.0)) (all_standing i.0)
  its_standings i is = subst (λ z. Lists standing_cmp (Stands (written_in z)) (all_standing z)) (sym is) stands.standings.contents.standings

  -- the items of what stands and what calls bring
  pub its_items : (i : Kept) → i.0 ≡ s → Lists placed_cmp (IsPlaced (written_in i.0) (all_standing i.0)) (all_placed i) → AreItems modules (items_in i)
  its_items i is placed = record {
    program = written_in i.0;
    is_program = subst (λ z. Lists written_cmp (IsWritten modules) (written_in z)) (sym is) stands.program;
    standings = all_standing i.0;
    are_standings = its_standings i is;
    placed = all_placed i;
    are_placed = placed;
    items = refl;
  }

  pub whole_front : ((f : Fault) → ExpandStep (written_in s) (all_standing s) f → ⊥) → IsFront modules
  whole_front calls = front_of modules (written_in s) (all_standing s) stands.program stands.standings.contents.standings stands.shape stands.blocks calls

-- what they declare has names as the language has them
pub its_names : (s : Standings) → AreStandings s → IsNested (statements_in s) → (i : Kept) → i.0 ≡ s → Lists placed_cmp (IsPlaced (written_in i.0) (all_standing i.0)) (all_placed i)
    → AreNamed (items_in i)
its_names s are nested i is placed =
    let standings = subst (λ z. Lists standing_cmp (Stands (written_in z)) (all_standing z)) (sym is) are.contents.standings in
    are_named (written_in i.0) (subst (λ z. AreBegun (written_in z)) (sym is) nested.begun) (all_standing i.0) (λ t c. (standings.members t).0 c) (all_placed i) placed

module _ (modules : List (List ℕ)) (xs : List Item) (are : AreItems modules xs) (front : IsFront modules) where
  pub clash_fails : (failure : Failure) → Fails (ClashFault xs) failure → CompileFails modules failure
  clash_fails (Faults fs) a = (inr (front.shape, inr (front.blocks, inr (front.calls, inl (step_faults modules xs are ClashFault fs a)))), a.some)
  clash_fails NoMemory a = tt

  module _ (apart : (f : Fault) → ClashFault xs f → ⊥) (s : OptSet) (greatest : IsGreatest xs s) where
    its_policy : ArePolicy modules xs s
    its_policy = record { are_items = are; greatest = greatest }

    after_clash : (fs : List Fault) → AreFirst (OfPolicy modules (λ ys r. ResolveFault r ys) ∷ OfPolicy modules (λ ys r. SetsFault r ys) ∷ OfPolicy modules LevelStep ∷ OfPolicy modules NeverFault ∷ []) fs
        → ArePolicyFaults modules fs
    after_clash fs first = inr (front.shape, inr (front.blocks, inr (front.calls, inr (no_step modules xs are ClashFault apart, first))))

    pub words_fail : (failure : Failure) → Fails (ResolveFault s xs) failure → CompileFails modules failure
    words_fail (Faults fs) a = (after_clash fs (inl (policy_faults modules xs s its_policy (λ ys r. ResolveFault r ys) fs a)), a.some)
    words_fail NoMemory a = tt

    module _ (named : (f : Fault) → ResolveFault s xs f → ⊥) where
      no_word : (f : Fault) → OfPolicy modules (λ ys r. ResolveFault r ys) f → ⊥
      no_word = no_policy_step modules xs s its_policy (λ ys r. ResolveFault r ys) named

      pub widths_fail : (failure : Failure) → Fails (SetsFault s xs) failure → CompileFails modules failure
      widths_fail (Faults fs) a = (after_clash fs (inr (no_word, inl (policy_faults modules xs s its_policy (λ ys r. SetsFault r ys) fs a))), a.some)
      widths_fail NoMemory a = tt

      module _ (few : (f : Fault) → SetsFault s xs f → ⊥) where
        no_set : (f : Fault) → OfPolicy modules (λ ys r. SetsFault r ys) f → ⊥
        no_set = no_policy_step modules xs s its_policy (λ ys r. SetsFault r ys) few

        levels_fail : (failure : Failure) → Fails (LevelStep xs s) failure → CompileFails modules failure
        levels_fail (Faults fs) a = (after_clash fs (inr (no_word, inr (no_set, inl (policy_faults modules xs s its_policy LevelStep fs a)))), a.some)
        levels_fail NoMemory a = tt

        module _ (level : (f : Fault) → LevelStep xs s f → ⊥) where
          no_level : (f : Fault) → OfPolicy modules LevelStep f → ⊥
          no_level = no_policy_step modules xs s its_policy LevelStep level

          never_fail : (failure : Failure) → Fails (NeverFault xs s) failure → CompileFails modules failure
          never_fail (Faults fs) a = (after_clash fs (inr (no_word, inr (no_set, inr (no_level, inl (policy_faults modules xs s its_policy NeverFault fs a))))), a.some)
          never_fail NoMemory a = tt

          pub nothing_wrong : ((f : Fault) → NeverFault xs s f → ⊥) → ArePolicyFaults modules []
          nothing_wrong kept = after_clash [] (inr (no_word, inr (no_set, inr (no_level, inr (no_policy_step modules xs s its_policy NeverFault kept, refl)))))

-- ---- the steps over items alone

module _ (xs : List Item) where
  pub clash_first : (failure : Failure) → Fails (ClashFault xs) failure → ItemsFail xs failure
  clash_first (Faults fs) a = (inl a, a.some)
  clash_first NoMemory a = tt

  module _ (apart : (f : Fault) → ClashFault xs f → ⊥) (s : OptSet) (greatest : IsGreatest xs s) where
    pub words_first : (failure : Failure) → Fails (ResolveFault s xs) failure → ItemsFail xs failure
    words_first (Faults fs) a = (inr (apart, (s, greatest, inl a)), a.some)
    words_first NoMemory a = tt

    pub later_first : ((f : Fault) → ResolveFault s xs f → ⊥) → (failure : Failure) → LaterFail xs s failure → ItemsFail xs failure
    later_first named (Faults fs) a = (inr (apart, (s, greatest, inr (named, a.0))), a.1)
    later_first named NoMemory a = tt

  module _ (s : OptSet) where
    pub sets_fail : (failure : Failure) → Fails (SetsFault s xs) failure → LaterFail xs s failure
    sets_fail (Faults fs) a = (inl a, a.some)
    sets_fail NoMemory a = tt

    pub levels_first : ((f : Fault) → SetsFault s xs f → ⊥) → (failure : Failure) → Fails (LevelStep xs s) failure → LaterFail xs s failure
    levels_first few (Faults fs) a = (inr (few, inl a), a.some)
    levels_first few NoMemory a = tt

    pub forbidden_fail : ((f : Fault) → SetsFault s xs f → ⊥) → ((f : Fault) → LevelStep xs s f → ⊥) → (failure : Failure) → Fails (NeverFault xs s) failure → LaterFail xs s failure
    forbidden_fail few level (Faults fs) a = (inr (few, inr (level, inl a)), a.some)
    forbidden_fail few level NoMemory a = tt

module _ (modules : List (List ℕ)) (xs : List Item) (are : AreItems modules xs) (front : IsFront modules) where
  of_set : ((f : Fault) → ClashFault xs f → ⊥) → (s : OptSet) → IsGreatest xs s → (fs : List Fault) → AreFirst (set_steps xs s) fs → ArePolicyFaults modules fs
  of_set apart s greatest fs (inl lost) = (words_fail modules xs are front apart s greatest (Faults fs) lost).0
  of_set apart s greatest fs (inr (named, inl broad)) = (widths_fail modules xs are front apart s greatest named (Faults fs) broad).0
  of_set apart s greatest fs (inr (named, inr (few, inl high))) = (levels_fail modules xs are front apart s greatest named few (Faults fs) high).0
  of_set apart s greatest fs (inr (named, inr (few, inr (level, inl met)))) = (never_fail modules xs are front apart s greatest named few level (Faults fs) met).0
  of_set apart s greatest fs (inr (named, inr (few, inr (level, inr (kept, e))))) =
      subst (ArePolicyFaults modules) (sym e) (nothing_wrong modules xs are front apart s greatest named few level kept)

  first_of_all : (fs : List Fault) → AreItemsFaults xs fs → ArePolicyFaults modules fs
  first_of_all fs (inl clash) = (clash_fails modules xs are front (Faults fs) clash).0
  first_of_all fs (inr (apart, (s, greatest, first))) = of_set apart s greatest fs first

  -- what is wrong with the items is what is wrong with the modules
  pub items_fail : (failure : Failure) → ItemsFail xs failure → CompileFails modules failure
  items_fail (Faults fs) h = (first_of_all fs h.0, h.1)
  items_fail NoMemory h = tt

  -- what the items compile to is what the modules compile to
  pub compiled_modules : AreNamed xs → (c : Compiled) → IsCompiledOf xs c → IsCompiled modules c
  compiled_modules named c of = record {
    items = xs;
    enabled = of.enabled;
    policy = record { are_items = are; greatest = of.greatest };
    compiles = record {
      items = xs;
      enabled = of.enabled;
      policy = record { are_items = are; greatest = of.greatest };
      no_faults = of_set of.apart of.enabled of.greatest [] of.no_faults;
      table = of.table;
      agrees = table_agrees xs of.enabled (one_symbol xs named of.enabled) c.tables of.table;
    };
    optionals = of.optionals;
    right = of.right;
    first = of.first;
    reasons = of.reasons;
  }

-- ---- errors that are handed on, and results that are

pub handed_on : {X : Type 0} (P : Failure → Type 0) (r : Result X Failure) (failure : Failure) → IsErrAnd r (λ e. e ≡ failure) → P failure → IfErr r P
handed_on P (Ok x) failure is p = tt
handed_on P (Err e) failure is p = subst P (sym is) p

pub if_err : {X : Type 0} (P Q : Failure → Type 0) (r : Result X Failure) → ((failure : Failure) → P failure → Q failure) → IfErr r P → IfErr r Q
if_err P Q (Ok x) step h = tt
if_err P Q (Err e) step h = step e h

-- ---- lists that rise by a name

rising_below : {X : Type 0} (f : X → List ℕ) (x : X) (xs : List X) → AllByRecursion (λ t. text_cmp (f x) t ≡ Less) (map f xs) → AllByRecursion (λ y. text_cmp (f x) (f y) ≡ Less) xs
rising_below f x [] all = tt
rising_below f x (y ∷ ys) all = (all.0, rising_below f x ys all.1)

pub rising_by : {X : Type 0} (f : X → List ℕ) (xs : List X) → IsStrictlySortedBy text_cmp (map f xs) → IsStrictlySortedBy (on f text_cmp) xs
unfolding IsStrictlySortedBy
rising_by f [] up = tt
rising_by f (x ∷ xs) up = (rising_below f x xs up.0, rising_by f xs up.1)
