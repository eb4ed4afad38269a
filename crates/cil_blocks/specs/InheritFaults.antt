-- What is wrong with blocks and inheritance. This project's profile.
use Rattle.std.specs.Prelude.{◌≡◌, ◌⊎◌, ℕ, true, false, List, [], ◌∷◌, Contains, Option, Some, None}
pub use Rattle.cil_base.specs.Rising.{IsOver}
use Rattle.cil_faults.specs.declared.code.FaultCode.TheVariants as causes
use Rattle.cil_faults.specs.Namespaces.{Namespace}
use Rattle.cil_syntax.specs.declared.term.Word.{Word}
use Rattle.cil_blocks.specs.Contents.{is_block, is_named, is_inheriting, is_abstract, IsIn, first_word, name_of, Target, standing_cmp, Stands}
use Rattle.cil_faults.specs.declared.fault.Fault.{Fault}
use Rattle.cil_faults.specs.Reported.{fault_at}
use Rattle.cil_syntax.specs.Written.{Written, Named, named_in_front}

-- the statement stands directly in a body: in a text, or in a block
abbrev pub IsOf : Option Written → Written → Type 0
IsOf None w = w.context.under ≡ None
IsOf (Some b) w = IsIn w b

-- a body gives its statements to a namespace: a text, or a block where it stands there. This is what Stands says of
-- blocks, macros and blockinherits, without chains: a namespace has the statements of a set of bodies, of which there are
-- finitely many
pub data Gives (ws : List Written) : Namespace → Option Written → Type 0 where
  texts : Gives ws [] None
  own : (n : Namespace) (body : Option Written) (b : Written) → Gives ws n body → Contains ws b → is_block b.statement.keyword ≡ true
      → IsOf body b → is_abstract ws b ≡ false → Gives ws (name_of b ∷ n) (Some b)
  handed : (n : Namespace) (body : Option Written) (w b : Written) → Gives ws n body → Contains ws w → is_inheriting w.statement.keyword ≡ true
      → IsOf body w → Target ws w b → Gives ws n (Some b)

-- the statement is written in the block, directly or in further statements
pub data Within (ws : List Written) (b : Written) : Written → Type 0 where
  directly : (w : Written) → Contains ws w → IsIn w b → Within ws b w
  further : (v w : Written) → Within ws b v → Contains ws w → IsIn w v → Within ws b w

-- a block needs the targets of all blockinherits that are written in it, and what these need
pub data Needs (ws : List Written) : Written → Written → Type 0 where
  one : (b w c : Written) → Within ws b w → is_inheriting w.statement.keyword ≡ true → Target ws w c → Needs ws b c
  more : (b w c d : Written) → Within ws b w → is_inheriting w.statement.keyword ≡ true → Target ws w c → Needs ws c d → Needs ws b d

-- two different statements, each a block or a macro, with one name
pub record IsNamedTwice (v w : Written) : Type 0 where
  pub first : is_named v.statement.keyword ≡ true
  pub second : is_named w.statement.keyword ≡ true
  pub one_name : name_of v ≡ name_of w
  pub differ : v.statement.at ≡ w.statement.at → ⊥

-- a block or a macro with another one of its name: written in one namespace, or standing in one
pub data IsDoubled (ws : List Written) (v : Written) : Type 0 where
  in_writing : (w : Written) → Contains ws w → IsNamedTwice v w → v.context.space ≡ w.context.space → IsDoubled ws v
  in_contents : (w : Written) (n : Namespace) (a b : Option Written) → Contains ws w → IsNamedTwice v w → Gives ws n a → IsOf a v → Gives ws n b → IsOf b w
      → IsDoubled ws v

-- what is wrong with blocks: two of one name written in one namespace, or standing in one; no block of the name that is
-- inherited; and a target that leads back to where it is inherited. The namespace that is told is that of writing
pub data InheritFault (ws : List Written) : Fault → Type 0 where
  written_twice : (v w : Written) (x : Named) → Contains ws v → Contains ws w → IsNamedTwice v w → v.context.space ≡ w.context.space
      → named_in_front v.statement.args ≡ Some x → InheritFault ws (fault_at causes.NameTwice x.at v.context.space x.name)
  standing_twice : (v w : Written) (n : Namespace) (a b : Option Written) (x : Named) → Contains ws v → Contains ws w → IsNamedTwice v w
      → Gives ws n a → IsOf a v → Gives ws n b → IsOf b w
      → named_in_front v.statement.args ≡ Some x → InheritFault ws (fault_at causes.NameTwice x.at v.context.space x.name)
  unresolved : (w : Written) (word : Word) → Contains ws w → is_inheriting w.statement.keyword ≡ true → first_word w.statement.args ≡ Some word
      → ((b : Written) → Target ws w b → ⊥) → InheritFault ws (fault_at causes.InheritUnresolved word.at w.context.space word.bytes)
  cycle : (w b c : Written) (word : Word) → Contains ws w → is_inheriting w.statement.keyword ≡ true → first_word w.statement.args ≡ Some word
      → Target ws w b → (b ≡ c) ⊎ Needs ws b c → Within ws c w → InheritFault ws (fault_at causes.InheritCycle word.at w.context.space word.bytes)

-- how many instances there may be
abbrev pub most_instances : ℕ
most_instances = 1000000

-- the whole policy, where no place is named
abbrev pub limit_fault : Fault
limit_fault = fault_at causes.ExpansionLimit (record { «module» = 0; at = 0 }) [] []

-- the faults of the step: 38 only where there is no other
pub data InheritStep (ws : List Written) : Fault → Type 0 where
  of_blocks : (f : Fault) → InheritFault ws f → InheritStep ws f
  too_many : ((f : Fault) → InheritFault ws f → ⊥) → IsOver standing_cmp (Stands ws) most_instances → InheritStep ws limit_fault
