-- Laws of contents and of what is wrong with blocks.
use Rattle.std.specs.Prelude.{◌≡◌, ◌↔◌, Bool, true, false, List, Contains, Option, None}
use Rattle.std.specs.List.Sorted.{IsStrictlySortedBy}
use Rattle.cil_base.specs.Lists.{Lists}
use Rattle.cil_faults.specs.declared.fault.Fault.{Fault}
use Rattle.cil_syntax.specs.declared.kind.Keyword.{Keyword}
use Rattle.cil_syntax.specs.declared.kind.Keyword.TheVariants as keywords
use Rattle.cil_syntax.specs.declared.program.Statement.{Statement}
use Rattle.cil_syntax.specs.Program.{IsNested, program_of}
use Rattle.cil_faults.specs.Namespaces.{Namespace}
use Rattle.cil_faults.specs.Laws.{Outcome}
use Rattle.cil_syntax.specs.Written.{Written, written_cmp}
use Rattle.cil_blocks.specs.Contents.{Standing, Stands, Target, is_block, is_inheriting, is_named, is_optional, path_of, standing_cmp}
use Rattle.cil_blocks.specs.InheritFaults.{Gives, InheritFault, InheritStep, IsOf}
use Rattle.cil_blocks.specs.Leads.{IsCycle, IsShared}

-- nothing is wrong with the blocks
abbrev pub HasNoFault : List Written → Type 0
HasNoFault ws = (f : Fault) → InheritFault ws f → ⊥

-- a blockinherit has one target at most
abbrev pub HasOneTarget : List Written → Type 0
HasOneTarget ws = (w b c : Written) → Target ws w b → Target ws w c → b ≡ c

-- a statement stands once through each chain of blockinherits: its namespace and its scope follow from the two
abbrev pub HasOneStanding : List Written → Type 0
HasOneStanding ws = (s t : Standing) → Stands ws s → Stands ws t → path_of s ≡ path_of t → s ≡ t

-- a law: where nothing is wrong, a blockinherit has one target
abbrev pub HaveOneTarget : Type 0
HaveOneTarget = (ss : List Statement) → IsNested ss → HasNoFault (program_of ss) → HasOneTarget (program_of ss)

-- a law: and then a statement stands once through each chain
abbrev pub HaveOneStanding : Type 0
HaveOneStanding = (ss : List Statement) → IsNested ss → HasNoFault (program_of ss) → HasOneStanding (program_of ss)

-- a law: a target leads back to where it is inherited exactly where it, or a block that it needs, encloses that
abbrev pub AreCycles : Type 0
AreCycles = (ws : List Written) → IsCycle ws

-- a law: two bodies give to one namespace exactly where the relation on pairs of bodies has the two
abbrev pub AreShared : Type 0
AreShared = (ws : List Written) → IsShared ws

-- what stands only in texts and blocks
abbrev pub stands_in_blocks : Keyword → Bool
stands_in_blocks keywords.Block = true
stands_in_blocks keywords.Macro = true
stands_in_blocks keywords.BlockInherit = true
stands_in_blocks k = false

-- a body gives the statement to the namespace
abbrev pub IsGiven : List Written → Namespace → Written → Type 0
IsGiven ws n w = (body : Option Written) × Gives ws n body × IsOf body w

-- the statement stands in the namespace, through some chain
abbrev pub StandsSomehow : List Written → Namespace → Written → Type 0
StandsSomehow ws n w = (s : Standing) × Stands ws s × (s.statement ≡ w) × (s.space ≡ n)

-- a law: a block, a macro or a blockinherit stands in a namespace exactly where a body gives it to the namespace
abbrev pub AreGiven : Type 0
AreGiven =
    (ss : List Statement) (n : Namespace) (w : Written) → IsNested ss → Contains (program_of ss) w → stands_in_blocks w.statement.keyword ≡ true
    → StandsSomehow (program_of ss) n w ↔ IsGiven (program_of ss) n w

-- a statement of a policy without blocks, macros and optionals
pub record IsFlat (w : Written) : Type 0 where
  pub on_top : w.context.under ≡ None
  pub no_block : is_block w.statement.keyword ≡ false
  pub no_name : is_named w.statement.keyword ≡ false
  pub no_inheritance : is_inheriting w.statement.keyword ≡ false
  pub no_optional : is_optional w.statement.keyword ≡ false

-- a law: a policy without blocks, macros and optionals has contents, or the fault of too many statements
abbrev pub HaveFlatContents : Type 0
HaveFlatContents =
    (ws : List Written) → IsStrictlySortedBy written_cmp ws → ((w : Written) → Contains ws w → IsFlat w)
    → Outcome (Lists standing_cmp (Stands ws)) (InheritStep ws)
