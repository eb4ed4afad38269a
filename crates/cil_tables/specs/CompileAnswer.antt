-- What the compiler answers where modules have a policy. This project's profile.
use Rattle.std.specs.Prelude.{ℕ, List, []}
use Rattle.cil_base.specs.Lists.{Lists}
use Rattle.cil_faults.specs.declared.fault.Fault.{Fault}
use Rattle.cil_syntax.specs.Written.{IsWritten, ShapeFault, written_cmp}
use Rattle.cil_blocks.specs.InheritFaults.{InheritStep}
use Rattle.cil_blocks.specs.Places.{AreStandings, Standings}
use Rattle.cil_macros.specs.Item.{Item, OptSet}
use Rattle.cil_macros.specs.Walks.{written_in}
use Rattle.cil_names.specs.Faults.{ClashFault}
use Rattle.cil_optionals.specs.Certificate.{IsRight}
use Rattle.cil_optionals.specs.First as why
use Rattle.cil_optionals.specs.Greatest.{IsGreatest}
use Rattle.cil_optionals.specs.Policy.{ArePolicy}
use Rattle.cil_tables.specs.declared.compiler.Compiled.{Compiled}
use Rattle.cil_tables.specs.Agrees.{Compiles}
use Rattle.cil_tables.specs.CompileRefusal.{set_steps}
use Rattle.cil_tables.specs.Compiled.{IsTable}
use Rattle.cil_faults.specs.First.{AreFirst}
use Rattle.cil_optionals.specs.Lines.{AreOptionalsOf, AreReasonsOf}

-- the tables of the modules, the lines of their optionals, and the reasons why some are left out, with their lines
pub record IsCompiled (modules : List (List ℕ)) (c : Compiled) : Type 0 where
  pub items : List Item
  pub enabled : OptSet
  pub policy : ArePolicy modules items enabled
  pub compiles : Compiles modules c.tables
  pub optionals : AreOptionalsOf items enabled c.optionals.items
  pub right : IsRight items enabled c.why.items
  pub first : why.AreFirst items [] c.why.items
  pub reasons : AreReasonsOf items c.why.items c.reasons.items

-- the same of items alone
pub record IsCompiledOf (xs : List Item) (c : Compiled) : Type 0 where
  pub enabled : OptSet
  pub greatest : IsGreatest xs enabled
  pub apart : (f : Fault) → ClashFault xs f → ⊥
  pub no_faults : AreFirst (set_steps xs enabled) []
  pub table : IsTable xs enabled c.tables
  pub optionals : AreOptionalsOf xs enabled c.optionals.items
  pub right : IsRight xs enabled c.why.items
  pub first : why.AreFirst xs [] c.why.items
  pub reasons : AreReasonsOf xs c.why.items c.reasons.items

-- all that stands in modules that have no fault up to there
pub record StandsIn (modules : List (List ℕ)) (s : Standings) : Type 0 where
  pub program : Lists written_cmp (IsWritten modules) (written_in s)
  pub standings : AreStandings s
  pub shape : (f : Fault) → ShapeFault modules f → ⊥
  pub blocks : (f : Fault) → InheritStep (written_in s) f → ⊥
