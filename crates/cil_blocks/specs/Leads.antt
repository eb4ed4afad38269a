-- Cycles and common namespaces, one step at a time: what the passes over blocks compute.
use Rattle.std.specs.Prelude.{◌≡◌, ◌⊎◌, ◌↔◌, true, false, List, Contains, Option, Some, None}
use Rattle.cil_blocks.specs.Contents.{is_block, is_inheriting, is_abstract, IsIn, name_of, Target}
use Rattle.cil_blocks.specs.InheritFaults.{IsOf, Within, Needs, Gives}
use Rattle.cil_faults.specs.Namespaces.{Namespace}
use Rattle.cil_syntax.specs.Written.{Written}

-- one statement leads to those in it, and to the targets of the blockinherits in it
pub data Leads (ws : List Written) (a : Written) : Written → Type 0 where
  here : Leads ws a a
  nested : (q p : Written) → Leads ws a q → Contains ws p → IsIn p q → Leads ws a p
  handed : (q v p : Written) → Leads ws a q → Contains ws v → IsIn v q → is_inheriting v.statement.keyword ≡ true → Target ws v p → Leads ws a p

-- the blockinherit in p lies on a cycle: its target leads back to p
pub record IsOnCycle (ws : List Written) (w : Written) : Type 0 where
  pub target : Written
  pub is_target : Target ws w target
  pub round : Written
  pub is_round : IsIn w round
  pub leads : Leads ws target round

-- the same in the words of the rule: the target, or a block that it needs, encloses the statement
pub record IsEnclosed (ws : List Written) (w : Written) : Type 0 where
  pub target : Written
  pub is_target : Target ws w target
  pub block : Written
  pub needed : (target ≡ block) ⊎ Needs ws target block
  pub encloses : Within ws block w

-- a law: the two say one thing
abbrev pub IsCycle : List Written → Type 0
IsCycle ws = (w : Written) → Contains ws w → IsOnCycle ws w ↔ IsEnclosed ws w

-- two bodies give their statements to one namespace
pub data Shares (ws : List Written) : Option Written → Option Written → Type 0 where
  texts : Shares ws None None
  own : (a b : Option Written) (v w : Written) → Shares ws a b → Contains ws v → is_block v.statement.keyword ≡ true → IsOf a v → is_abstract ws v ≡ false
      → Contains ws w → is_block w.statement.keyword ≡ true → IsOf b w → is_abstract ws w ≡ false → name_of v ≡ name_of w → Shares ws (Some v) (Some w)
  first : (a b : Option Written) (v c : Written) → Shares ws a b → Contains ws v → is_inheriting v.statement.keyword ≡ true → IsOf a v → Target ws v c
      → Shares ws (Some c) b
  second : (a b : Option Written) (w c : Written) → Shares ws a b → Contains ws w → is_inheriting w.statement.keyword ≡ true → IsOf b w → Target ws w c
      → Shares ws a (Some c)

abbrev pub GiveTogether : List Written → Option Written → Option Written → Type 0
GiveTogether ws a b = (n : Namespace) × Gives ws n a × Gives ws n b

abbrev pub IsShared : List Written → Type 0
IsShared ws = (a b : Option Written) → Shares ws a b ↔ GiveTogether ws a b
