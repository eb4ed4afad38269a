-- Which macro a call names, with which arguments it is unfolded, and what is placed so. CIL Reference Guide, "Call / Macro
-- Statements"; which of several macros is meant, and in which scopes a body's words are looked up, is this project's profile.
use Rattle.std.specs.Prelude.{◌≡◌, ℕ, suc, Bool, true, false, ◌&&◌, if◌then◌else◌, List, [], ◌∷◌, ◌++◌, filter, Contains, Option, Some, None, find}
use Rattle.std.specs.declared.cmp.Ordering.{Ordering}
use Rattle.std.specs.declared.cmp.Ordering.TheVariants.{Less, Equal, Greater}
use Rattle.std.specs.Ordering.{nat_cmp, on, then_cmp}
use Rattle.std.specs.Option.{option_or, option_map}
use Rattle.std.specs.List.{list_any}
use Rattle.cil_syntax.specs.declared.kind.Keyword.{Keyword}
use Rattle.cil_syntax.specs.declared.kind.Keyword.TheVariants as keywords
use Rattle.cil_syntax.specs.declared.term.Word.{Word}
use Rattle.cil_faults.specs.Namespaces.{Namespace}
use Rattle.cil_syntax.specs.Scopes.{Scope, ScopedWord, asked, same_space, spaces_asked, tidy}
use Rattle.cil_syntax.specs.Spelling.{same_bytes}
use Rattle.cil_syntax.specs.Terms.{Term, Terms, nil, cons}
use Rattle.cil_syntax.specs.Written.{Written, is_macro}
use Rattle.cil_blocks.specs.Contents.{IsIn, Standing, first_word, is_conditional, is_optional, name_of, path_cmp, path_of, same_spot, standing_in_optional, standing_under_condition}
use Rattle.cil_macros.specs.Parameters.{Parameter, argument_of, call_arguments, macro_parameters}
use Rattle.cil_macros.specs.Placed.{Body, Bound, Placed, condition_there, filled, meaning, placed_standing}

abbrev pub is_call : Keyword → Bool
is_call keywords.Call = true
is_call k = false

-- ---- the macro that a call names

-- a macro of this name that stands in this namespace
abbrev pub is_macro_named : List ℕ → Namespace → Standing → Bool
is_macro_named name n s = is_macro s.statement.statement.keyword && same_bytes (name_of s.statement) name && same_space s.space n

unfoldable pub has_macro : List Standing → List ℕ → Namespace → Bool
has_macro ss name n = list_any (is_macro_named name n) ss

-- of two the one with the shorter path, and of two of one length the lesser
abbrev pub nearer_of : Ordering → Standing → Standing → Standing
nearer_of Less a b = a
nearer_of Equal a b = a
nearer_of Greater a b = b

unfoldable pub nearest : List Standing → Option Standing
nearest [] = None
nearest (s ∷ ss) = option_or (option_map (λ t. nearer_of (path_cmp (path_of s) (path_of t)) s t) (nearest ss)) (Some s)

-- the macro of a name in a namespace: the one that stands there through the shortest chain, and of these through the least
abbrev pub macro_in : List Standing → List ℕ → Option Namespace → Option Standing
macro_in ss name None = None
macro_in ss name (Some n) = nearest (filter (is_macro_named name n) ss)

-- the macro that a word names in a scope. No macro is in a body, so the home scope serves no word of a macro
unfoldable pub macro_in_scope : List Standing → Word → Scope → Option Standing
macro_in_scope ss w scope = macro_in ss (asked w.bytes).name (find (has_macro ss (asked w.bytes).name) (spaces_asked (asked w.bytes) scope))

abbrev pub macro_of_word : List Standing → Placed → Option Word → Option Standing
macro_of_word ss p None = None
macro_of_word ss p (Some w) = macro_in_scope ss w p.standing.scope

-- the macro that a call names
unfoldable pub called_macro : List Standing → Placed → Option Standing
called_macro ss p = if is_call p.standing.statement.statement.keyword then macro_of_word ss p (first_word p.standing.statement.statement.args) else None

-- ---- the arguments of a call

abbrev pub bound_more : Parameter → Option (Term ScopedWord) → Option (List Bound) → Option (List Bound)
bound_more x None bs = None
bound_more x (Some t) None = None
bound_more x (Some t) (Some bs) = Some (record { parameter = x; value = t } ∷ bs)

abbrev pub filled_by : List Written → Placed → Option (Term Word) → Option (Term ScopedWord)
filled_by ws p None = None
filled_by ws p (Some t) = Some (filled (meaning ws p) t)

-- each parameter with its argument, as it is at the place of the call; nothing where their numbers differ, or where one is
-- not of its kind's form
unfoldable pub bound : List Written → Placed → List Parameter → Terms Word → Option (List Bound)
bound ws p [] nil = Some []
bound ws p [] (cons t ts) = None
bound ws p (x ∷ xs) nil = None
bound ws p (x ∷ xs) (cons t ts) = bound_more x (filled_by ws p (argument_of x t)) (bound ws p xs ts)

abbrev pub bounds_of_call : List Written → Placed → Standing → Option (List Bound)
bounds_of_call ws p m = bound ws p (macro_parameters m.statement.statement.args) (call_arguments p.standing.statement.statement.args)

-- ---- what a call brings

-- the macro stands in the call's chain already
abbrev pub is_repeated : Placed → Standing → Bool
is_repeated p m = list_any (same_spot m.statement.statement.at) p.macros

-- a call that is unfolded: its macro, with the arguments
pub record Unfolded : Type 0 where
  pub macro : Standing
  pub bounds : List Bound

abbrev pub unfolded_with : Standing → Option (List Bound) → Option Unfolded
unfolded_with m None = None
unfolded_with m (Some bs) = Some record { macro = m; bounds = bs }

abbrev pub unfolded_by : List Written → Placed → Option Standing → Option Unfolded
unfolded_by ws p None = None
unfolded_by ws p (Some m) = if is_repeated p m then None else unfolded_with m (bounds_of_call ws p m)

-- what a call brings: nothing where it names no macro, repeats one, or its arguments do not fit
unfoldable pub unfolded : List Written → List Standing → Placed → Option Unfolded
unfolded ws ss p = unfolded_by ws p (called_macro ss p)

-- the scope of the place of the outermost call
abbrev pub home_of : Scope → Option Body → Scope
home_of scope None = scope
home_of scope (Some b) = b.home

-- a statement of the body of a macro, at a call: it stands where the call stands, in the branch of the call too, and its words
-- see the place of the macro first
abbrev pub placed_called : Placed → Unfolded → Written → Placed
placed_called p u w = record {
  standing = record {
    statement = w;
    space = p.standing.space;
    chain = path_of p.standing;
    scope = tidy (u.macro.scope ++ p.standing.scope);
    round = p.standing.round;
    branch = p.standing.branch;
    trail = p.standing.trail ++ w.statement.at ∷ [];
  };
  bounds = u.bounds;
  body = Some record { macro = u.macro.statement; home = home_of p.standing.scope p.body };
  macros = u.macro.statement.statement.at ∷ p.macros;
  steps = suc p.steps;
}

-- a statement in an optional of a body
abbrev pub placed_in_optional : Placed → Written → Placed
placed_in_optional p w = record {
  standing = standing_in_optional p.standing w;
  bounds = p.bounds;
  body = p.body;
  macros = p.macros;
  steps = suc p.steps;
}

-- a statement in a branch of a booleanif of a body
abbrev pub placed_in_branch : List Written → Placed → Written → Placed
placed_in_branch ws p w = record {
  standing = standing_under_condition p.standing (condition_there ws p) w;
  bounds = p.bounds;
  body = p.body;
  macros = p.macros;
  steps = suc p.steps;
}

-- what is placed: what stands; what is directly in the macro of a call that is placed and unfolded; what is directly in an
-- optional, or in a branch of a booleanif, that is placed in a body
pub data IsPlaced (ws : List Written) (ss : List Standing) : Placed → Type 0 where
  stands : (s : Standing) → Contains ss s → IsPlaced ws ss (placed_standing s)
  called : (p : Placed) (u : Unfolded) (w : Written) → IsPlaced ws ss p → unfolded ws ss p ≡ Some u → Contains ws w → IsIn w u.macro.statement
      → IsPlaced ws ss (placed_called p u w)
  in_optional : (p : Placed) (b : Body) (w : Written) → IsPlaced ws ss p → p.body ≡ Some b → is_optional p.standing.statement.statement.keyword ≡ true
      → Contains ws w → IsIn w p.standing.statement → IsPlaced ws ss (placed_in_optional p w)
  in_branch : (p : Placed) (b : Body) (w : Written) → IsPlaced ws ss p → p.body ≡ Some b → is_conditional p.standing.statement.statement.keyword ≡ true
      → Contains ws w → IsIn w p.standing.statement → IsPlaced ws ss (placed_in_branch ws p w)

-- the order: what lies in fewer bodies, and optionals and booleanifs of bodies, first, and then by the statements through which it came
abbrev pub placed_cmp : Placed → Placed → Ordering
placed_cmp = then_cmp (on (λ p. p.steps) nat_cmp) (on (λ p. p.standing.trail) path_cmp)
