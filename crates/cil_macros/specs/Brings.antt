-- What is known of all that calls bring, by the places of the openers: at which places something is opened, in one step or in
-- more, that may not be in a branch.
use Rattle.std.specs.Prelude.{◌≡◌, ◌⊎◌, ◌↔◌, ℕ, ◌+◌, ◌≤◌, Bool, true, false, not, List, length, get_or, Some, slice_get}
use Rattle.cil_syntax.specs.declared.kind.Keyword.{Keyword}
use Rattle.cil_syntax.specs.declared.kind.Keyword.TheVariants as keywords
use Rattle.cil_syntax.specs.Written.{Written}
use Rattle.cil_blocks.specs.Contents.{Standing}
use Rattle.cil_blocks.specs.Entries.{statement_at}
use Rattle.cil_macros.specs.declared.entry.Called.{Called}
use Rattle.cil_macros.specs.Calls.{IsPlaced, is_call}
use Rattle.cil_macros.specs.CallPlaces.{CameThrough, is_for_branches}
use Rattle.cil_macros.specs.Placed.{Placed}

-- rules of types, and calls: the statements that may be in a branch, by name
abbrev pub is_rule_or_call : Keyword → Bool
is_rule_or_call keywords.Allow = true
is_rule_or_call keywords.AuditAllow = true
is_rule_or_call keywords.DontAudit = true
is_rule_or_call keywords.TypeTransition = true
is_rule_or_call keywords.TypeChange = true
is_rule_or_call keywords.TypeMember = true
is_rule_or_call keywords.Call = true
is_rule_or_call k = false

-- the statement of a number may not be in a branch
abbrev pub is_other : List Written → ℕ → Bool
is_other ws n = not (is_for_branches (statement_at ws n).statement.keyword)

-- what is at a place opened such a statement, or what opened one in turn
pub data LeadsToOther (ws : List Written) (cs : List Called) (standing : ℕ) : ℕ → Type 0 where
  at_once : (j : ℕ) (c : Called) (k : ℕ) → slice_get cs j ≡ Some c → c.opener ≡ k → is_other ws c.statement ≡ true → LeadsToOther ws cs standing k
  further : (j : ℕ) (c : Called) (k : ℕ) → slice_get cs j ≡ Some c → c.opener ≡ k → LeadsToOther ws cs standing (standing + j) → LeadsToOther ws cs standing k

-- the same, where the first step leads to one of the statements from a rank on
pub record LeadsFrom (ws : List Written) (cs : List Called) (standing rank k : ℕ) : Type 0 where
  pub step : ℕ
  pub called : Called
  pub is : slice_get cs step ≡ Some called
  pub opened : called.opener ≡ k
  pub from : rank ≤ step
  pub leads : (is_other ws called.statement ≡ true) ⊎ LeadsToOther ws cs standing (standing + step)

abbrev pub is_marked : List Bool → ℕ → Bool
is_marked marks k = get_or marks k false

-- the marks are at the places from which the statements from a rank on lead to such a statement
pub record AreMarkedFrom (ws : List Written) (cs : List Called) (standing rank : ℕ) (marks : List Bool) : Type 0 where
  pub many : length marks ≡ standing + length cs
  pub so : (k : ℕ) → (is_marked marks k ≡ true) ↔ LeadsFrom ws cs standing rank k

-- one more mark where a statement leads to another that is marked, or to one that may not be in a branch
pub record IsStepMarked (ws : List Written) (c : Called) (place : ℕ) (old new : List Bool) : Type 0 where
  pub many : length new ≡ length old
  pub so : (k : ℕ)
      → (is_marked new k ≡ true) ↔ ((is_marked old k ≡ true) ⊎ ((c.opener ≡ k) × ((is_other ws c.statement ≡ true) ⊎ (is_marked old place ≡ true))))

-- and of all statements
abbrev pub AreMarked : List Written → List Called → ℕ → List Bool → Type 0
AreMarked ws cs standing marks = (k : ℕ) → (is_marked marks k ≡ true) ↔ LeadsToOther ws cs standing k

-- ---- what marks say

-- something came through the statement that may not be in a branch
pub record BringsOther (ws : List Written) (ss : List Standing) (p : Placed) : Type 0 where
  pub other : Placed
  pub placed : IsPlaced ws ss other
  pub through : CameThrough p other
  pub misplaced : is_for_branches other.standing.statement.statement.keyword ≡ false

-- the calls that are marked are those through which such a statement came
abbrev pub AreCallMarks : List Written → List Standing → List Placed → List Bool → Type 0
AreCallMarks ws ss ps marks =
    (k : ℕ) (p : Placed) → slice_get ps k ≡ Some p → is_call p.standing.statement.statement.keyword ≡ true
    → (is_marked marks k ≡ true) ↔ BringsOther ws ss p
