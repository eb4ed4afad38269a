-- Calls that are written in branches, and what they bring that may not be there. CIL Reference Guide, "booleanif"; this project's
-- profile.
use Rattle.std.specs.Prelude.{◌≡◌, Bool, true, false, ◌&&◌, List, ◌∷◌, ◌++◌}
use Rattle.cil_faults.specs.declared.spot.Spot.{Spot}
use Rattle.cil_syntax.specs.declared.kind.Keyword.{Keyword}
use Rattle.cil_syntax.specs.declared.kind.Nesting.{Nesting}
use Rattle.cil_syntax.specs.declared.kind.Nesting.TheVariants as nestings
use Rattle.cil_syntax.specs.Table.{entry_of}
use Rattle.cil_syntax.specs.Written.{Written, allows}
use Rattle.cil_macros.specs.Calls.{is_call}
use Rattle.cil_macros.specs.Placed.{Placed}

abbrev pub is_branch : Nesting → Bool
is_branch nestings.InBranch = true
is_branch nesting = false

-- the statement is written in a branch of a booleanif
abbrev pub is_in_branch : Written → Bool
is_in_branch w = is_branch w.context.nesting

-- a statement that may be written in a branch
abbrev pub is_for_branches : Keyword → Bool
is_for_branches k = allows nestings.InBranch (entry_of k).nesting

-- a call that is written in a branch
abbrev pub is_call_in_branch : Written → Bool
is_call_in_branch w = is_call w.statement.keyword && is_in_branch w

-- what is placed came through another statement: the statements through which it came are those of the other one, and more
pub record CameThrough (by p : Placed) : Type 0 where
  pub at : Spot
  pub more : List Spot
  pub so : p.standing.trail ≡ by.standing.trail ++ at ∷ more
