-- The entries of runs without faults are the declared names.
use Rattle.std.specs.Prelude.{◌≤◌, Contains, Option, Some, None, slice_get}
use Rattle.std.specs.List.{AllByRecursion, flat_map, list_all, list_any}
use Rattle.std.specs.List.Sorted.{IsStrictlySortedBy}
use Rattle.std.specs.declared.cmp.Ordering.{Ordering}
use Rattle.std.specs.declared.cmp.Ordering.TheVariants.{Less}
use Rattle.std.specs.Option.{option_map, unwrap_or}
use Rattle.std.specs.Ordering.{on}
use Rattle.std.specs.Global.{Vec}
use Rattle.std.proofs.Common.{◌≡◌, ℕ, Bool, true, false, ◌||◌, List, [], ◌∷◌, ◌++◌, map, length, refl, sym, ◌∙◌, ap, subst, inl, inr}
use Rattle.std.proofs.lemmas.Option.{same_Some, slice_get-map}
use Rattle.cil_base.specs.Lists.{contains_cases, contains_here, contains_none}
use Rattle.cil_base.specs.MadeLists.{contains_flat, contains_map, from_flat}
use Rattle.cil_base.specs.Searches.{any_from, any_map, any_true}
use Rattle.cil_base.specs.Places.{get_at, get_contains, never_cons}
use Rattle.cil_names.specs.declared.entry.Entry.{Entry}
use Rattle.cil_declare.specs.declared.row.Row.{Row}
use Rattle.cil_declare.specs.declared.run.Run.{Run}
use Rattle.cil_macros.specs.Items.{Kept, item_at, items_in, namespaces_in}
use Rattle.cil_names.specs.Declarations.{Declaration, IsDeclaration, declared_by}
use Rattle.cil_declare.specs.Rows.{IsRow, declaration_of, is_row_enabled, round_at}
use Rattle.cil_declare.specs.Runs.{AreRunsOf, Said, entry_of_run, has_none, is_always, listed_unless, rounds_by, run_key, said_by}
use Rattle.cil_names.specs.Entries.{AreEntries, AreOrdered, AreRounds, IsEntryFor, KeepRounds, IsRoundOf, Key, is_declared_in, by_name_cmp, key_of}
use Rattle.cil_syntax.specs.NameSpaces.{rank}
use Rattle.cil_macros.specs.Item.{Item, OptSet, everybody}
use Rattle.cil_blocks.specs.Namespaces.{space_at}
use Rattle.cil_declare.proofs.FaultLemmas.{alike_of, all_enabled, one_name_space}
use Rattle.cil_blocks.proofs.NamespaceLemmas.{same_number}
use Rattle.cil_names.proofs.OrderLemmas.{key_total, one_key}
use Rattle.cil_base.proofs.SearchLemmas.{one_number}
use Rattle.cil_declare.proofs.DoneLemmas.{declared_row, is_row, item_within, place_of, row_at, row_declared, run_of, space_within}
use Rattle.cil_declare.proofs.RowLemmas.{of_macro}

-- ---- where an entry is declared

or_moved : (a x b : Bool) → (a || (x || b)) ≡ (x || (a || b))
or_moved true true b = refl
or_moved true false b = refl
or_moved false x b = refl

module _ (kept : Kept) (s : OptSet) where
  abbrev lives : List Row → Bool
  lives rows = list_any (is_always kept) rows || list_any (list_all s) (flat_map (rounds_by kept) rows)

  one_more : (round : List ℕ) (a : Bool) (rest : List (List ℕ)) → ((has_none round || a) || list_any (list_all s) (listed_unless (has_none round) round ++ rest))
      ≡ (list_all s round || (a || list_any (list_all s) rest))
  one_more [] a rest = refl
  one_more (o ∷ os) a rest = or_moved a (list_all s (o ∷ os)) (list_any (list_all s) rest)

  lives_as : (rows : List Row) → lives rows ≡ list_any (is_row_enabled kept s) rows
  unfolding rounds_by is_always
  lives_as [] = refl
  lives_as (r ∷ rs) =
      one_more (round_at kept r.at) (list_any (is_always kept) rs) (flat_map (rounds_by kept) rs) ∙ ap (λ b. is_row_enabled kept s r || b) (lives_as rs)

  -- an entry is declared where a row of its run is enabled
  pub lives_in : (e : Entry) (run : Run) → said_by e ≡ entry_of_run kept run → is_declared_in s e ≡ list_any (is_row_enabled kept s) run.rows.now
  lives_in e run says =
      ap (λ b. e.always || b) (sym (any_map (λ (round : Vec ℕ). round.items) (list_all s) e.rounds.items))
      ∙ ap (λ (z : Said). z.always || list_any (list_all s) z.rounds) says
      ∙ lives_as run.rows.now

-- ---- the places of entries and runs

some_of : {X Y : Type 0} (f : X → Y) (o : Option X) (y : Y) → option_map f o ≡ Some y → (x : X) × (o ≡ Some x) × (f x ≡ y)
some_of f None y e = absurd cc
some_of f (Some x) y e = (x, refl, ap (λ z. unwrap_or z y) e)

module _ (kept : Kept) (es : List Entry) (runs : List Run) (says : map said_by es ≡ map (entry_of_run kept) runs) where
  same_at : (n : ℕ) → option_map said_by (slice_get es n) ≡ option_map (entry_of_run kept) (slice_get runs n)
  same_at n = sym (slice_get-map said_by es n) ∙ ap (λ z. slice_get z n) says ∙ slice_get-map (entry_of_run kept) runs n

  pub entry_for : (run : Run) → Contains runs run → (n : ℕ) × (e : Entry) × (slice_get es n ≡ Some e) × (said_by e ≡ entry_of_run kept run)
  entry_for run c =
      let (n, below_n, at) = get_at runs run c in
      let (e, is, same) = some_of said_by (slice_get es n) (entry_of_run kept run) (same_at n ∙ ap (option_map (entry_of_run kept)) at) in
      (n, e, is, same)

  pub run_for : (n : ℕ) (e : Entry) → slice_get es n ≡ Some e → (run : Run) × Contains runs run × (said_by e ≡ entry_of_run kept run)
  run_for n e at =
      let (run, is, same) = some_of (entry_of_run kept) (slice_get runs n) (said_by e) (sym (same_at n) ∙ ap (option_map said_by) at) in
      (run, get_contains runs n run is, sym same)

-- ---- the order of entries

below_map : {X Y : Type 0} (f : X → Y) (order : Y → Y → Ordering) (y : Y) (xs : List X) → AllByRecursion (λ x. order y (f x) ≡ Less) xs → AllByRecursion (λ z. order y z ≡ Less) (map f xs)
below_map f order y [] all = tt
below_map f order y (x ∷ xs) all = (all.0, below_map f order y xs all.1)

rises_map : {X Y : Type 0} (f : X → Y) (order : Y → Y → Ordering) (xs : List X) → IsStrictlySortedBy (on f order) xs → IsStrictlySortedBy order (map f xs)
unfolding IsStrictlySortedBy
rises_map f order [] up = tt
rises_map f order (x ∷ xs) up = (below_map f order (f x) xs up.0, rises_map f order xs up.1)

below_unmap : {X Y : Type 0} (f : X → Y) (order : Y → Y → Ordering) (y : Y) (xs : List X) → AllByRecursion (λ z. order y z ≡ Less) (map f xs) → AllByRecursion (λ x. order y (f x) ≡ Less) xs
below_unmap f order y [] all = tt
below_unmap f order y (x ∷ xs) all = (all.0, below_unmap f order y xs all.1)

unmap_rises : {X Y : Type 0} (f : X → Y) (order : Y → Y → Ordering) (xs : List X) → IsStrictlySortedBy order (map f xs) → IsStrictlySortedBy (on f order) xs
unfolding IsStrictlySortedBy
unmap_rises f order [] up = tt
unmap_rises f order (x ∷ xs) up = (below_unmap f order (f x) xs up.0, unmap_rises f order xs up.1)

abbrev key_said : Said → Key
key_said z = record { space = z.space; name = z.name; rank = rank z.kind }

keys_said : (es : List Entry) → map key_of es ≡ map key_said (map said_by es)
keys_said [] = refl
keys_said (e ∷ es) = ap (λ z. key_of e ∷ z) (keys_said es)

keys_run : (kept : Kept) (runs : List Run) → map run_key runs ≡ map key_said (map (entry_of_run kept) runs)
keys_run kept [] = refl
keys_run kept (run ∷ runs) = ap (λ z. run_key run ∷ z) (keys_run kept runs)

pub entries_rise : (kept : Kept) (es : List Entry) (runs : List Run) → map said_by es ≡ map (entry_of_run kept) runs → IsStrictlySortedBy (on run_key by_name_cmp) runs → IsStrictlySortedBy (on key_of by_name_cmp) es
entries_rise kept es runs says up =
    unmap_rises key_of by_name_cmp es
    (subst (IsStrictlySortedBy by_name_cmp) (keys_run kept runs ∙ ap (map key_said) (sym says) ∙ sym (keys_said es)) (rises_map run_key by_name_cmp runs up))

-- ---- the optionals round the declaration of a row

listed_round : (round other : List ℕ) → Contains (listed_unless (has_none round) round) other → (round ≡ other) × (other ≡ [] → ⊥)
listed_round [] other c = absurd (contains_none other c)
listed_round (o ∷ os) other c =
    elim (contains_cases other (o ∷ os) [] c) [
      | inl e ↦ (e, λ none. never_cons o os (sym (e ∙ none)))
      | inr d ↦ absurd (contains_none other d)
    ]

round_there : (i : Kept) (r : Row) → IsRow i r → (at : Option ℕ) → r.at ≡ at → (round : List ℕ) → round_at i at ≡ round → (round ≡ [] → ⊥) → IsRoundOf (items_in i) round
round_there i r is None e round same some = absurd (some (sym same))
round_there i r is (Some k) e round same some = (item_at i k, item_within i k (row_at i r is k e).within, same, some)

-- ---- the optionals that entries keep

listed_there : (round : List ℕ) → (round ≡ [] → ⊥) → Contains (listed_unless (has_none round) round) round
listed_there [] some = absurd (some refl)
listed_there (o ∷ os) some = contains_here (o ∷ os) []

module _ (i : Kept) (rows : List Row) (runs : List Run) (of : AreRunsOf i rows runs) (es : List Entry) (says : map said_by es ≡ map (entry_of_run i) runs)
    (ordered : AreOrdered (namespaces_in i) es) where
  -- runs of one key are one
  one_run : (a b : Run) → Contains runs a → Contains runs b → run_key a ≡ run_key b → a ≡ b
  one_run a b ca cb same =
      let (m, below_m, at_m) = get_at runs a ca in
      let (n, below_n, at_n) = get_at runs b cb in
      same_Some a b (sym at_m ∙ ap (slice_get runs) (one_number run_key by_name_cmp key_total one_key runs m n a b of.are.rising at_m at_n same) ∙ at_n)

  pub keep_rounds : KeepRounds (namespaces_in i) (items_in i) es
  unfolding rounds_by is_always
  keep_rounds = λ n e at x d cx cd is some.
      let ss = namespaces_in i in
      let (k, below, same) = place_of i x cx in
      let (r, in_rows, row, says_d) = of.all.all k below d (subst (λ (y : Item). Contains (declared_by y) d) (sym same) cd) in
      let (run, in_runs, said) = run_for i es runs says n e at in
      let (other, in_others, in_other) = run_of i rows runs of r in_rows in
      let space : r.space ≡ e.space =
      same_number ss of.namespaces (space_at ss e.space) r.space e.space
      (record { within = space_within i r (of.all.each r in_rows); is = ap (λ (z : Declaration). z.space) says_d ∙ is.space })
      (record { within = ordered.within e (get_contains es n e at); is = refl }) in
      let name : r.name ≡ e.name = ap (λ (z : Declaration). z.name) says_d ∙ is.name in
      let of_rank : rank r.kind ≡ rank e.kind = ap (λ (z : Declaration). rank z.kind) says_d ∙ is.rank in
      let keys : run_key other ≡ run_key run =
      sym ((of.are.each other in_others).same r in_other) ∙ (λ j. record { space = space j; name = name j; rank = of_rank j }) ∙ ap key_said said in
      let in_run : Contains run.rows.now r = subst (λ (z : Run). Contains z.rows.now r) (one_run other run in_others in_runs keys) in_other in
      let round : round_at i r.at ≡ x.round = ap (round_at i) row.at ∙ ap (λ (y : Item). y.round) same in
      subst (λ (z : Said). Contains z.rounds x.round) (sym said)
      (contains_flat (rounds_by i) run.rows.now r x.round in_run
      (subst (λ (l : List ℕ). Contains (listed_unless (has_none l) l) x.round) (sym round) (listed_there x.round some)))

-- ---- the entries are the declared names

module _ (i : Kept) (rows : List Row) (runs : List Run) (of : AreRunsOf i rows runs)
    (clean : (run : Run) → Contains runs run → run.differing ≡ false) (es : List Entry) (says : map said_by es ≡ map (entry_of_run i) runs) where
  -- what an entry says of a row of its run
  record IsSaid (first r : Row) : Type 0 where
    of_kind : first.kind ≡ r.kind
    in_space : first.space ≡ r.space
    of_name : first.name ≡ r.name

  one : (run : Run) → Contains runs run → (r : Row) → Contains run.rows.now r → IsSaid run.first.now r
  one run c r d =
      let is_run = of.are.each run c in
      let key = sym (is_run.same r d) in
      record {
        of_kind = elim (alike_of i run.first.now run.rows.now run.differing (clean run c) is_run.tells r d) [
          | inl block ↦
              of_macro i run.first.now (is_row i rows runs of run run.first.now c is_run.first) block
              ∙ sym (of_macro i r (is_row i rows runs of run r c d) (sym (one_name_space run.first.now r key) ∙ block))
          | inr same ↦ ap (λ (x : Declaration). x.kind) same
        ];
        in_space = ap (λ (k : Key). k.space) key;
        of_name = ap (λ (k : Key). k.name) key;
      }

  named_each : (s : OptSet) (d : Declaration) → IsDeclaration (items_in i) s d → (n : ℕ) × IsEntryFor (namespaces_in i) es s d.kind d.space d.name n
  named_each s d declared =
      let (r, in_all, same, enabled) = declared_row i rows of.all s d declared in
      let (run, in_runs, in_run) = run_of i rows runs of r in_all in
      let (n, e, at, said) = entry_for i es runs says run in_runs in
      let whole = one run in_runs r in_run in (
        n,
        record {
          entry = e;
          at = at;
          of_kind = ap (λ (z : Said). z.kind) said ∙ whole.of_kind ∙ ap (λ (x : Declaration). x.kind) same;
          in_space = ap (λ (z : Said). space_at (namespaces_in i) z.space) said ∙ ap (space_at (namespaces_in i)) whole.in_space ∙ ap (λ (x : Declaration). x.space) same;
          of_name = ap (λ (z : Said). z.name) said ∙ whole.of_name ∙ ap (λ (x : Declaration). x.name) same;
          live = lives_in i s e run said ∙ any_from (is_row_enabled i s) run.rows.now r in_run enabled;
        },
      )

  named_only : (s : OptSet) (n : ℕ) (e : Entry) → slice_get es n ≡ Some e → is_declared_in s e ≡ true
      → (d : Declaration) × IsDeclaration (items_in i) s d × (d.kind ≡ e.kind) × (d.space ≡ space_at (namespaces_in i) e.space) × (d.name ≡ e.name)
  named_only s n e at live =
      let (run, in_runs, said) = run_for i es runs says n e at in
      let (r, in_run, enabled) = any_true (is_row_enabled i s) run.rows.now (sym (lives_in i s e run said) ∙ live) in
      let whole = one run in_runs r in_run in (
        declaration_of i r,
        row_declared i s r (is_row i rows runs of run r in_runs in_run) enabled,
        sym whole.of_kind ∙ sym (ap (λ (z : Said). z.kind) said),
        ap (space_at (namespaces_in i)) (sym whole.in_space) ∙ sym (ap (λ (z : Said). space_at (namespaces_in i) z.space) said),
        sym whole.of_name ∙ sym (ap (λ (z : Said). z.name) said),
      )

  named_used : (n : ℕ) (e : Entry) → slice_get es n ≡ Some e → is_declared_in everybody e ≡ true
  named_used n e at =
      let (run, in_runs, said) = run_for i es runs says n e at in
      lives_in i everybody e run said
      ∙ any_from (is_row_enabled i everybody) run.rows.now run.first.now (of.are.each run in_runs).first (all_enabled (round_at i run.first.now.at))

  stands_within : (e : Entry) → Contains es e → e.space ≤ length (namespaces_in i)
  stands_within e c =
      let (n, below_n, at) = get_at es e c in
      let (run, in_runs, said) = run_for i es runs says n e at in
      let within = space_within i run.first.now (is_row i rows runs of run run.first.now in_runs (of.are.each run in_runs).first) in
      subst (λ k. k ≤ length (namespaces_in i)) (sym (ap (λ (z : Said). z.space) said)) within

  named_rounds : AreRounds (items_in i) es
  unfolding rounds_by is_always
  named_rounds e r ce cr =
      let (n, below_n, at) = get_at es e ce in
      let (run, in_runs, said) = run_for i es runs says n e at in
      let named : Contains (flat_map (rounds_by i) run.rows.now) r.items =
      subst (λ (z : Said). Contains z.rounds r.items) said (contains_map (λ (round : Vec ℕ). round.items) e.rounds.items r cr) in
      let (row, in_run, is) = from_flat (rounds_by i) run.rows.now r.items named in
      let (same, some) = listed_round (round_at i row.at) r.items is in
      round_there i row (is_row i rows runs of run row in_runs in_run) row.at refl r.items same some

  pub are_named : AreEntries (namespaces_in i) (items_in i) es
  are_named = record {
    ordered = record { rising = entries_rise i es runs says of.are.rising; within = stands_within };
    each = named_each;
    only = named_only;
    rounds = named_rounds;
    used = named_used;
    kept = keep_rounds i rows runs of es says (record { rising = entries_rise i es runs says of.are.rising; within = stands_within });
  }
