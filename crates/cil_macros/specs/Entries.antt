-- What is placed, as it is kept: what stands, and then each statement that a call brings, by its number, with the place of the
-- one that opened it.
use Rattle.std.specs.Prelude.{◌≡◌, ◌⊎◌, ℕ, ◌+◌, ◌<◌, true, List, [], ◌∷◌, ◌++◌, length, Contains, Option, Some, None, slice_get}
use Rattle.cil_syntax.specs.Scopes.{tidy}
use Rattle.cil_syntax.specs.Written.{Written}
use Rattle.cil_blocks.specs.Contents.{Standing, keeps_place, standing_top}
use Rattle.cil_blocks.specs.declared.namespaces.Space.{Space}
use Rattle.cil_blocks.specs.Entries.{statement_at}
use Rattle.cil_blocks.specs.Namespaces.{IsNumber}
use Rattle.cil_macros.specs.declared.entry.Body.{Body}
use Rattle.cil_macros.specs.declared.entry.Called.{Called}
use Rattle.cil_macros.specs.Calls.{Unfolded, home_of, placed_called, unfolded}
use Rattle.cil_macros.specs.Opens.{placed_inside, starts}
use Rattle.cil_macros.specs.Placed.{Placed, placed_standing}

-- ---- what is placed

-- a statement that a placed one opens: a call what is in its macro, and an optional or a booleanif what is in it
abbrev pub placed_through : List Written → Placed → Option Unfolded → Written → Placed
placed_through ws p None w = placed_inside ws p w
placed_through ws p (Some u) w = placed_called p u w

abbrev pub placed_under : List Written → List Standing → Option Placed → Written → Placed
placed_under ws ss None w = placed_standing (standing_top w)
placed_under ws ss (Some p) w = placed_through ws p (unfolded ws ss p) w

-- the statement of a number, opened by the one at a place
abbrev pub placed_by : List Written → List Standing → List Placed → ℕ → ℕ → Placed
placed_by ws ss done opener i = placed_under ws ss (slice_get done opener) (statement_at ws i)

-- the statements that calls bring, each opened by one before it
unfoldable pub placed_from : List Written → List Standing → List Placed → List Called → List Placed
placed_from ws ss done [] = done
placed_from ws ss done (c ∷ cs) = placed_from ws ss (done ++ placed_by ws ss done c.opener c.statement ∷ []) cs

abbrev pub placed_of : List Written → List Standing → List Called → List Placed
placed_of ws ss cs = placed_from ws ss (starts ss) cs

-- ---- bodies

-- a body is that of the macro of a call that is unfolded
pub record IsBody (ws : List Written) (ss : List Standing) (ps : List Placed) (b : Body) : Type 0 where
  pub call : Placed
  pub is_call : slice_get ps b.call ≡ Some call
  pub opened : Unfolded
  pub is_opened : unfolded ws ss call ≡ Some opened
  pub is_macro : slice_get ss b.macro_rank ≡ Some opened.macro

-- what is placed there is an optional or a booleanif in the body of this number
pub record IsInnerOf (ws : List Written) (cs : List Called) (standing at number : ℕ) : Type 0 where
  pub rank : ℕ
  pub behind : at ≡ standing + rank
  pub called : Called
  pub is : slice_get cs rank ≡ Some called
  pub body : called.body ≡ number
  pub keeps : keeps_place (statement_at ws called.statement).statement.keyword ≡ true

-- a statement that a call brings is of one body: what opened it stands before it, and is the call of that body, or an optional or
-- a booleanif in it
pub record IsOf (ws : List Written) (standing : ℕ) (cs : List Called) (bs : List Body) (count : ℕ) (c : Called) : Type 0 where
  pub body : Body
  pub is_body : slice_get bs c.body ≡ Some body
  pub before : c.opener < count
  pub opened : (body.call ≡ c.opener) ⊎ IsInnerOf ws cs standing c.opener c.body

-- all that calls have brought so far
pub record AreBodies (ws : List Written) (ss : List Standing) (cs : List Called) (bs : List Body) : Type 0 where
  pub each : (i : ℕ) (b : Body) → slice_get bs i ≡ Some b → IsBody ws ss (placed_of ws ss cs) b
  pub brought : (j : ℕ) (c : Called) → slice_get cs j ≡ Some c → IsOf ws (length ss) cs bs (length ss + j) c

-- what all statements of a body have from its call
pub record IsInBody (call : Placed) (u : Unfolded) (p : Placed) : Type 0 where
  pub space : p.standing.space ≡ call.standing.space
  pub scope : p.standing.scope ≡ tidy (u.macro.scope ++ call.standing.scope)
  pub bounds : p.bounds ≡ u.bounds
  pub body : p.body ≡ Some record { macro = u.macro.statement; home = home_of call.standing.scope call.body }
  pub macros : p.macros ≡ u.macro.statement.statement.at ∷ call.macros

-- what is placed there was brought by a call: a statement of this body
pub record IsBodyAt (ws : List Written) (ss : List Standing) (cs : List Called) (at : ℕ) (b : Body) : Type 0 where
  pub so : IsBody ws ss (placed_of ws ss cs) b
  pub before : b.call < at
  pub there : Placed
  pub placed : slice_get (placed_of ws ss cs) at ≡ Some there
  pub is : IsInBody so.call so.opened there

-- the number of a body is that of the namespace of its statements, which is that of the call
abbrev pub AreBodySpaces : List Written → List Standing → List Space → List Called → List Body → Type 0
AreBodySpaces ws ss spaces cs bs =
    (b : Body) (p : Placed) → Contains bs b → slice_get (placed_of ws ss cs) b.call ≡ Some p → IsNumber spaces p.standing.space b.space
