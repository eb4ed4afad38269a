-- What is told of blocks, statement by statement, and what the whole step answers. This project's profile.
use Rattle.std.specs.Prelude.{◌≡◌, ◌⊎◌, ◌≤◌, ◌<◌, ◌↔◌, ℕ, true, List, [], ◌∷◌, length, Contains, Option, Some, None}
use Rattle.cil_base.specs.Lists.{Lists}
use Rattle.cil_faults.specs.declared.code.FaultCode.{FaultCode}
use Rattle.cil_faults.specs.declared.code.FaultCode.TheVariants as causes
use Rattle.cil_faults.specs.declared.fault.Fault.{Fault}
use Rattle.cil_syntax.specs.declared.program.Statement.{Statement}
use Rattle.cil_syntax.specs.declared.term.Word.{Word}
use Rattle.cil_faults.specs.Fails.{AreFaults}
use Rattle.cil_syntax.specs.Program.{IsNested, program_of}
use Rattle.cil_faults.specs.Reported.{fault_at}
use Rattle.cil_faults.specs.Namespaces.{Namespace}
use Rattle.cil_syntax.specs.Written.{Named, Written, named_in_front}
use Rattle.cil_blocks.specs.declared.entry.Entry.{Entry}
use Rattle.cil_blocks.specs.Contents.{Stands, Target, first_word, is_inheriting, standing_cmp}
use Rattle.cil_blocks.specs.Entries.{standings_of, statement_at}
use Rattle.cil_blocks.specs.InheritFaults.{most_instances}
use Rattle.cil_blocks.specs.Laws.{HasNoFault}
use Rattle.cil_blocks.specs.Leads.{IsOnCycle}

-- ---- the faults of one statement

abbrev pub fault_of_name : Namespace → Option Named → List Fault
fault_of_name space None = []
fault_of_name space (Some n) = fault_at causes.NameTwice n.at space n.name ∷ []

-- that its name is given twice
abbrev pub name_fault : Written → List Fault
name_fault w = fault_of_name w.context.space (named_in_front w.statement.args)

abbrev pub fault_of_word : FaultCode → Namespace → Option Word → List Fault
fault_of_word code space None = []
fault_of_word code space (Some word) = fault_at code word.at space word.bytes ∷ []

-- a fault at the word of its target
abbrev pub target_fault : FaultCode → Written → List Fault
target_fault code w = fault_of_word code w.context.space (first_word w.statement.args)

-- ---- the statements that have one

-- it inherits what is no block
abbrev pub IsUnresolved : List Written → Written → Type 0
IsUnresolved ws w = (is_inheriting w.statement.keyword ≡ true) × ((b : Written) → Target ws w b → ⊥)

-- its target leads back to where it stands
abbrev pub IsCyclic : List Written → Written → Type 0
IsCyclic ws w = (is_inheriting w.statement.keyword ≡ true) × IsOnCycle ws w

-- the numbers of the statements of a kind; a number may come again
abbrev pub AreNumbersOf : List Written → (Written → Type 0) → List ℕ → Type 0
AreNumbersOf ws P numbers = (i : ℕ) → Contains numbers i ↔ ((i < length ws) × P (statement_at ws i))

-- the fault is told of a statement of the kind
abbrev pub IsToldOf : List Written → (Written → Type 0) → (Written → List Fault) → Fault → Type 0
IsToldOf ws P told f = (w : Written) × Contains ws w × P w × Contains (told w) f

-- ---- what a check answers

-- the list of all faults of the set; or nothing, and then it has none
abbrev pub AreAllFaults : (Fault → Type 0) → Option (List Fault) → Type 0
AreAllFaults step None = (f : Fault) → step f → ⊥
AreAllFaults step (Some faults) = AreFaults step faults

-- the last list has the faults of the first two
abbrev pub AreJoined : Option (List Fault) → Option (List Fault) → Option (List Fault) → Type 0
AreJoined None other joined = joined ≡ other
AreJoined (Some faults) None joined = joined ≡ Some faults
AreJoined (Some faults) (Some others) None = ⊥
AreJoined (Some faults) (Some others) (Some joined) = AreFaults (λ f. Contains faults f ⊎ Contains others f) joined

-- ---- what stands, as it is kept

-- all that stands in a program in which nothing is wrong with the blocks: each statement by its number, opened by an earlier
-- one
pub record AreContents (ss : List Statement) (es : List Entry) : Type 0 where
  pub nested : IsNested ss
  pub lawful : HasNoFault (program_of ss)
  pub standings : Lists standing_cmp (Stands (program_of ss)) (standings_of (program_of ss) es)
  pub few : length es ≤ most_instances
