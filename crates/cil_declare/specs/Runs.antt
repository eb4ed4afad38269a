-- The rows of one key as runs, and the entries and faults that they give. No other crate needs these words.
use Rattle.std.specs.Prelude.{◌≡◌, ℕ, ◌+◌, ◌<◌, Bool, true, false, if◌then◌else◌, List, [], ◌∷◌, ◌++◌, map, drop, length, Contains, Option, Some, None}
use Rattle.std.specs.List.{flat_map, list_any}
use Rattle.std.specs.List.Sorted.{IsStrictlySortedBy}
use Rattle.std.specs.declared.cmp.Ordering.TheVariants.{Less}
use Rattle.std.specs.Ordering.{on}
use Rattle.cil_faults.specs.declared.code.FaultCode.TheVariants as causes
use Rattle.cil_faults.specs.declared.fault.Fault.{Fault}
use Rattle.cil_syntax.specs.declared.kind.Kind.{Kind}
use Rattle.cil_syntax.specs.Terms.{Leaf, Name, Form, Terms, nil, cons}
use Rattle.cil_faults.specs.Reported.{fault_at}
use Rattle.cil_faults.specs.Namespaces.{Namespace}
use Rattle.cil_blocks.specs.Namespaces.{AreNamespaces}
use Rattle.cil_syntax.specs.Scopes.{ScopedWord}
use Rattle.cil_macros.specs.Items.{Kept, item_at, namespaces_in}
use Rattle.cil_names.specs.declared.entry.Entry.{Entry}
use Rattle.cil_declare.specs.declared.row.Row.{Row}
use Rattle.cil_declare.specs.declared.run.Run.{Run}
use Rattle.cil_declare.specs.Rows.{AreAllRows, TellsDiffering, round_at, row_key}
use Rattle.cil_names.specs.Entries.{Key, by_name_cmp}

abbrev pub run_key : Run → Key
run_key run = row_key run.first.now

abbrev pub rows_in : Run → List Row
rows_in run = run.rows.now

-- the rows of a run share its key, and the flag tells whether some of them declares another symbol than the first
pub record IsRun (i : Kept) (run : Run) : Type 0 where
  pub first : Contains run.rows.now run.first.now
  pub same : (r : Row) → Contains run.rows.now r → row_key r ≡ row_key run.first.now
  pub tells : TellsDiffering i run.first.now run.rows.now run.differing

-- the run that begins at a place of rows
pub record IsNextRun (i : Kept) (rows : List Row) (start : ℕ) (run : Run) : Type 0 where
  pub some : 0 < length run.rows.now
  pub parted : drop start rows ≡ run.rows.now ++ drop (start + length run.rows.now) rows
  pub above : (r : Row) → Contains (drop (start + length run.rows.now) rows) r → by_name_cmp (row_key run.first.now) (row_key r) ≡ Less
  pub is_run : IsRun i run

-- the runs are these rows, parted by their keys
pub record AreRuns (i : Kept) (rows : List Row) (runs : List Run) : Type 0 where
  pub whole : flat_map rows_in runs ≡ rows
  pub rising : IsStrictlySortedBy (on run_key by_name_cmp) runs
  pub each : (run : Run) → Contains runs run → IsRun i run

-- the runs are those of the rows of all instances
pub record AreRunsOf (i : Kept) (rows : List Row) (runs : List Run) : Type 0 where
  pub namespaces : AreNamespaces (namespaces_in i)
  pub all : AreAllRows i rows
  pub are : AreRuns i rows runs

-- ---- faults

-- the fault of a statement that begins with a name: it stands at that name
abbrev pub faults_named : Namespace → Terms ScopedWord → List Fault
faults_named space nil = []
faults_named space (cons (Leaf w) rest) = []
faults_named space (cons (Name at name) rest) = fault_at causes.Clash at space name ∷ []
faults_named space (cons (Form at op parts) rest) = []

abbrev pub faults_at : Kept → Option ℕ → List Fault
faults_at i None = []
faults_at i (Some k) = faults_named (item_at i k).space (item_at i k).args

-- the fault of a row, where its declaration differs from another one
unfoldable pub row_faults : Kept → Row → List Fault
row_faults i r = faults_at i r.at

-- where some rows of a run differ, each of them is at fault
unfoldable pub run_faults : Kept → Run → List Fault
run_faults i run = if run.differing then flat_map (row_faults i) run.rows.now else []

-- ---- entries

abbrev pub has_none : List ℕ → Bool
has_none [] = true
has_none (o ∷ os) = false

abbrev pub listed_unless : {X : Type 0} → Bool → X → List X
listed_unless true x = []
listed_unless false x = x ∷ []

-- whether the declaration of a row stands outside all optionals
unfoldable pub is_always : Kept → Row → Bool
is_always i r = has_none (round_at i r.at)

-- the optionals round the statement of a row, where there are some
unfoldable pub rounds_by : Kept → Row → List (List ℕ)
rounds_by i r = listed_unless (is_always i r) (round_at i r.at)

-- what an entry says
pub record Said : Type 0 where
  pub space : ℕ
  pub name : List ℕ
  pub kind : Kind
  pub always : Bool
  pub rounds : List (List ℕ)

abbrev pub said_by : Entry → Said
said_by e = record { space = e.space; name = e.name; kind = e.kind; always = e.always; rounds = map (λ round. round.items) e.rounds.items }

-- the entry of a run
abbrev pub entry_of_run : Kept → Run → Said
entry_of_run i run = record {
  space = run.first.now.space;
  name = run.first.now.name;
  kind = run.first.now.kind;
  always = list_any (is_always i) run.rows.now;
  rounds = flat_map (rounds_by i) run.rows.now;
}
