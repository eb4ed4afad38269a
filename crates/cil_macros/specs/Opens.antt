-- What a placed statement opens: a call that is unfolded the statements directly in its macro, an optional or a booleanif of a
-- body those directly in it.
use Rattle.std.specs.Prelude.{suc, if◌then◌else◌, List, [], ◌∷◌, ◌++◌, map, Option, Some, None}
use Rattle.cil_syntax.specs.Written.{Written}
use Rattle.cil_blocks.specs.Contents.{Standing, keeps_place}
use Rattle.cil_blocks.specs.Opens.{parts}
use Rattle.cil_macros.specs.Calls.{Unfolded, placed_called, unfolded}
use Rattle.cil_macros.specs.Nesting.{branch_in, round_in}
use Rattle.cil_macros.specs.Placed.{Body, Placed, placed_standing}

abbrev pub starts : List Standing → List Placed
starts ss = map placed_standing ss

-- a statement in an optional or in a booleanif of a body
abbrev pub placed_inside : List Written → Placed → Written → Placed
placed_inside ws p w = record {
  standing = record {
    statement = w;
    space = p.standing.space;
    chain = p.standing.chain;
    scope = p.standing.scope;
    round = round_in p;
    branch = branch_in ws p w.statement.at;
    trail = p.standing.trail ++ w.statement.at ∷ [];
  };
  bounds = p.bounds;
  body = p.body;
  macros = p.macros;
  steps = suc p.steps;
}

abbrev pub opens_call : List Written → Placed → Option Unfolded → List Placed
opens_call ws p None = []
opens_call ws p (Some u) = map (placed_called p u) (parts ws u.macro.statement)

abbrev pub opens_inside : List Written → Placed → Option Body → List Placed
opens_inside ws p None = []
opens_inside ws p (Some b) = map (placed_inside ws p) (parts ws p.standing.statement)

-- a call is neither an optional nor a booleanif, so one of the two is empty
unfoldable pub opens_placed : List Written → List Standing → Placed → List Placed
opens_placed ws ss p = if keeps_place p.standing.statement.statement.keyword then opens_inside ws p p.body else opens_call ws p (unfolded ws ss p)
