-- The branches of a booleanif: what its condition is, and in which of its branches something is written. CIL Reference
-- Guide, "booleanif".
use Rattle.std.specs.Prelude.{Bool, true, false, not, nat_le, if◌then◌else◌}
use Rattle.cil_faults.specs.declared.spot.Spot.{Spot}
use Rattle.cil_syntax.specs.declared.term.Op.{Op}
use Rattle.cil_syntax.specs.declared.term.Op.TheVariants as ops
use Rattle.cil_syntax.specs.Terms.{Term, Leaf, Name, Form, Terms, nil, cons}

-- ---- the condition

-- the condition of a booleanif: the first of its terms. What has no terms, as no booleanif has, is given an empty one
abbrev pub condition_in : {L : Type 0} → Terms L → Term L
condition_in nil = Form (record { «module» = 0; at = 0 }) ops.Group nil
condition_in (cons t ts) = t

unfoldable mutual
  -- a term with its places and words replaced
  pub replaced : {L M : Type 0} → (Spot → Spot) → (L → M) → Term L → Term M
  replaced place word (Leaf w) = Leaf (word w)
  replaced place word (Name at bytes) = Name (place at) bytes
  replaced place word (Form at op parts) = Form (place at) op (all_replaced place word parts)

  pub all_replaced : {L M : Type 0} → (Spot → Spot) → (L → M) → Terms L → Terms M
  all_replaced place word nil = nil
  all_replaced place word (cons t ts) = cons (replaced place word t) (all_replaced place word ts)

-- ---- the value of a branch

-- the value for which the statements of a branch count; what is no branch leaves another value
abbrev pub value_by : Op → Bool → Bool
value_by ops.TrueBranch other = true
value_by ops.FalseBranch other = false
value_by op other = other

-- of two positions of one module the first is before the second
abbrev pub is_before : Spot → Spot → Bool
is_before a b = not (nat_le b.at a.at)

-- the value of the last branch that begins before a position; another value where none does
unfoldable pub last_value : {L : Type 0} → Bool → Terms L → Spot → Bool
last_value other nil at = other
last_value other (cons (Leaf w) ts) at = last_value other ts at
last_value other (cons (Name bt bytes) ts) at = last_value other ts at
last_value other (cons (Form bt op parts) ts) at = last_value (if is_before bt at then value_by op other else other) ts at

-- the value of the branch of a booleanif in which something is written. It is in the last branch that begins before it, since a
-- branch ends before the next one begins
abbrev pub branch_value : {L : Type 0} → Terms L → Spot → Bool
branch_value ts at = last_value true ts at
