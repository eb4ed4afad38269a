-- The nodes of a tree that stand where a statement must, in the order in which they are written: those of a body come
-- behind the statement in which they stand.
use Rattle.std.specs.Prelude.{ℕ, zero, suc, List, [], ◌∷◌, ◌++◌, map}
use Rattle.std.specs.List.{flat_map}
use Rattle.cil_sexpr.specs.Tree.{Node, Word as TextWord, Quoted, Branch, Nodes, none, next}
use Rattle.cil_faults.specs.declared.fault.Fault.{Fault}
use Rattle.cil_syntax.specs.Table.{Body, plain, behind, branched, entry_of}
use Rattle.cil_syntax.specs.Written.{Context, Written, Verdict, Refused, Shaped, fault_of, verdict_of, inside_of}

-- a node, and where it stands
pub record Standpoint : Type 0 where
  pub context : Context
  pub node : Node

-- what a statement has inside: nothing; statements in a context behind so many items; or in the lists there, each behind
-- its first item
pub data Opening : Type 0 where
  closed : Opening
  opened : (context : Context) (skipped : ℕ) → Opening
  forked : (context : Context) (skipped : ℕ) → Opening

abbrev pub opening_by : Context → Body → Opening
opening_by inner plain = closed
opening_by inner (behind k nesting) = opened inner k
opening_by inner (branched k) = forked inner k

-- what a node has inside, by what is said of it
abbrev pub opening_of : Context → Verdict → Opening
opening_of context (Refused i) = closed
opening_of context (Shaped s faults) = opening_by (inside_of context s) (entry_of s.keyword).body

unfoldable mutual
  -- a node, and those inside
  pub found_from : ℕ → Context → Node → List Standpoint
  found_from m c (TextWord place bytes) = record { context = c; node = TextWord place bytes } ∷ []
  found_from m c (Quoted place bytes) = record { context = c; node = Quoted place bytes } ∷ []
  found_from m c (Branch place inner) =
      record { context = c; node = Branch place inner } ∷ found_behind m (opening_of c (verdict_of m c (Branch place inner))) inner

  -- those of some nodes that an opening shows
  pub found_behind : ℕ → Opening → Nodes → List Standpoint
  found_behind m o none = []
  found_behind m closed (next n ns) = []
  found_behind m (opened c zero) (next n ns) = found_from m c n ++ found_behind m (opened c zero) ns
  found_behind m (opened c (suc k)) (next n ns) = found_behind m (opened c k) ns
  found_behind m (forked c zero) (next n ns) = found_inside m c n ++ found_behind m (forked c zero) ns
  found_behind m (forked c (suc k)) (next n ns) = found_behind m (forked c k) ns

  -- those behind the first item of a list
  pub found_inside : ℕ → Context → Node → List Standpoint
  found_inside m c (TextWord place bytes) = []
  found_inside m c (Quoted place bytes) = []
  found_inside m c (Branch place inner) = found_behind m (opened c 1) inner

-- the faults of a node, and the statement that it is, by what is said of it
abbrev pub faults_by : ℕ → Context → Verdict → List Fault
faults_by m c (Refused i) = fault_of m c i ∷ []
faults_by m c (Shaped s faults) = map (fault_of m c) faults

abbrev pub stated_by : Context → Verdict → List Written
stated_by c (Refused i) = []
stated_by c (Shaped s faults) = record { context = c; statement = s } ∷ []

-- the faults of some nodes, and the statements that they are
abbrev pub all_faults : ℕ → List Standpoint → List Fault
all_faults m fs = flat_map (λ f. faults_by m f.context (verdict_of m f.context f.node)) fs

abbrev pub all_stated : ℕ → List Standpoint → List Written
all_stated m fs = flat_map (λ f. stated_by f.context (verdict_of m f.context f.node)) fs
