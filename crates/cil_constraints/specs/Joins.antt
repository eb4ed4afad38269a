-- The operators of constraints, and what they join. CIL Reference Guide, "Constraint Statements".
use Rattle.std.specs.Prelude.{Bool, true, false, List, [], ◌∷◌, Option, Some, None}
use Rattle.std.specs.Option.{option_map}
use Rattle.cil_syntax.specs.declared.term.Op.{Op}
use Rattle.cil_syntax.specs.declared.term.Op.TheVariants as ops
use Rattle.cil_constraints.specs.declared.joins.Joins.{Joins}
use Rattle.cil_constraints.specs.declared.joins.Joins.TheVariants as joins
use Rattle.cil_constraints.specs.declared.step.Step.{Step}
use Rattle.cil_constraints.specs.declared.step.Step.TheVariants as steps
use Rattle.cil_constraints.specs.Expressions.{Expression, Negated, Both, Either}

-- how an operator joins expressions, if it does. A list of one leaves no trace
abbrev pub joins_of : Op → Option Joins
joins_of ops.Not = Some joins.Negates
joins_of ops.Group = Some joins.Groups
joins_of ops.And = Some joins.Both
joins_of ops.Or = Some joins.Either
joins_of op = None

-- whether it takes one operand; else it takes two
abbrev pub takes_one : Joins → Bool
takes_one joins.Negates = true
takes_one joins.Groups = true
takes_one joins.Both = false
takes_one joins.Either = false

-- the step in front of its operands
abbrev pub heads : Joins → List Step
heads joins.Negates = steps.Not ∷ []
heads joins.Groups = []
heads joins.Both = steps.And ∷ []
heads joins.Either = steps.Or ∷ []

module _ {W : Type 0} where
  -- two operands that both say something
  abbrev pub both_say : (Expression W → Expression W → Expression W) → Option (Expression W) → Option (Expression W) → Option (Expression W)
  both_say f None e = None
  both_say f (Some d) None = None
  both_say f (Some d) (Some e) = Some (f d e)

  -- just one operand, or just two
  abbrev pub one_of : (Expression W → Expression W) → List (Option (Expression W)) → Option (Expression W)
  one_of f [] = None
  one_of f (e ∷ []) = option_map f e
  one_of f (d ∷ e ∷ es) = None

  abbrev pub two_of : (Expression W → Expression W → Expression W) → List (Option (Expression W)) → Option (Expression W)
  two_of f [] = None
  two_of f (d ∷ []) = None
  two_of f (d ∷ e ∷ []) = both_say f d e
  two_of f (c ∷ d ∷ e ∷ es) = None

  -- what operands say that are joined so
  abbrev pub joined_by : Joins → List (Option (Expression W)) → Option (Expression W)
  joined_by joins.Negates es = one_of Negated es
  joined_by joins.Groups es = one_of (λ e. e) es
  joined_by joins.Both es = two_of Both es
  joined_by joins.Either es = two_of Either es

  -- what is joined, or, where nothing is joined, something else
  abbrev pub joined_or : Option Joins → List (Option (Expression W)) → Option (Expression W) → Option (Expression W)
  joined_or None es other = other
  joined_or (Some j) es other = joined_by j es
