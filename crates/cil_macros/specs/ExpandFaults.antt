-- What is wrong with calls. This project's profile.
use Rattle.std.specs.Prelude.{◌≡◌, true, false, if◌then◌else◌, List, [], ◌∷◌, ◌++◌, Contains, Option, Some, None, find}
use Rattle.cil_base.specs.Rising.{IsOver}
use Rattle.cil_faults.specs.declared.code.FaultCode.TheVariants as causes
use Rattle.cil_faults.specs.declared.fault.Fault.{Fault}
use Rattle.cil_syntax.specs.declared.term.Word.{Word}
use Rattle.cil_faults.specs.Reported.{fault_at}
use Rattle.cil_syntax.specs.Terms.{Term, Terms, nil, cons}
use Rattle.cil_syntax.specs.Written.{Written}
use Rattle.cil_blocks.specs.Contents.{IsIn, Standing, first_word, is_conditional, is_optional}
use Rattle.cil_blocks.specs.InheritFaults.{limit_fault, most_instances}
use Rattle.cil_macros.specs.CallPlaces.{CameThrough, is_call_in_branch, is_for_branches}
use Rattle.cil_macros.specs.Calls.{IsPlaced, Unfolded, bounds_of_call, called_macro, is_call, is_repeated, placed_called, placed_cmp, placed_in_branch, placed_in_optional, unfolded}
use Rattle.cil_macros.specs.Item.{all_words_in, words_in}
use Rattle.cil_macros.specs.Parameters.{Parameter, argument_of, call_arguments as written_arguments, macro_parameters}
use Rattle.cil_macros.specs.Placed.{Bound, Placed, is_misplaced, is_served}

-- a statement of the body that a call opens, in its optionals and booleanifs too
pub data IsOfCall (ws : List Written) (p : Placed) (u : Unfolded) : Placed → Type 0 where
  directly : (w : Written) → Contains ws w → IsIn w u.macro.statement → IsOfCall ws p u (placed_called p u w)
  in_its_optional : (q : Placed) (w : Written) → IsOfCall ws p u q → is_optional q.standing.statement.statement.keyword ≡ true
      → Contains ws w → IsIn w q.standing.statement → IsOfCall ws p u (placed_in_optional q w)
  in_its_branch : (q : Placed) (w : Written) → IsOfCall ws p u q → is_conditional q.standing.statement.statement.keyword ≡ true
      → Contains ws w → IsIn w q.standing.statement → IsOfCall ws p u (placed_in_branch ws q w)

-- the words of the arguments of a call, as the parameters of its macro ask
abbrev pub words_as_asked : Option (Term Word) → List Word
words_as_asked None = []
words_as_asked (Some t) = words_in t

unfoldable pub asked_words : List Parameter → Terms Word → List Word
asked_words [] ts = []
asked_words (x ∷ xs) nil = []
asked_words (x ∷ xs) (cons t ts) = words_as_asked (argument_of x t) ++ asked_words xs ts

abbrev pub unfolded_places : Terms Word → Option Unfolded → List Word
unfolded_places args None = []
unfolded_places args (Some u) = asked_words (macro_parameters u.macro.statement.statement.args) (written_arguments args)

-- the words of a placed statement at whose places arguments are put in: of a call those of its own arguments
abbrev pub words_placed : List Written → List Standing → Placed → List Word
words_placed ws ss q =
    if is_call q.standing.statement.statement.keyword then unfolded_places q.standing.statement.statement.args (unfolded ws ss q)
    else all_words_in q.standing.statement.statement.args

-- an argument of a call is a list, or `all`, and fills a place of the body where only a name may stand
pub record HasMisplaced (ws : List Written) (ss : List Standing) (p : Placed) (u : Unfolded) : Type 0 where
  pub statement : Placed
  pub is_of : IsOfCall ws p u statement
  pub filled : Word
  pub stands : Contains (words_placed ws ss statement) filled
  pub argument : Bound
  pub fills : find (is_served filled) statement.bounds ≡ Some argument
  pub misplaced : is_misplaced filled.sign argument.value ≡ true

-- a call of a macro through which it came itself; a call whose arguments do not fit; a call with a list that is put where only
-- a name may stand: that call, and not one that handed the list on; and a call that is written in a branch, where what came
-- through it may not all be written in a branch. Each is told at the word of the macro, in the namespace in which the call is
-- placed; one call may have more than one
pub data ExpandFault (ws : List Written) (ss : List Standing) : Fault → Type 0 where
  call_cycle : (p : Placed) (m : Standing) (word : Word) → IsPlaced ws ss p → called_macro ss p ≡ Some m
      → first_word p.standing.statement.statement.args ≡ Some word → is_repeated p m ≡ true
      → ExpandFault ws ss (fault_at causes.CallCycle word.at p.standing.space word.bytes)
  call_arguments : (p : Placed) (m : Standing) (word : Word) → IsPlaced ws ss p → called_macro ss p ≡ Some m
      → first_word p.standing.statement.statement.args ≡ Some word → bounds_of_call ws p m ≡ None
      → ExpandFault ws ss (fault_at causes.CallArguments word.at p.standing.space word.bytes)
  call_misplaced : (p : Placed) (u : Unfolded) (word : Word) → IsPlaced ws ss p → unfolded ws ss p ≡ Some u
      → first_word p.standing.statement.statement.args ≡ Some word → HasMisplaced ws ss p u
      → ExpandFault ws ss (fault_at causes.CallArguments word.at p.standing.space word.bytes)
  call_place : (p q : Placed) (word : Word) → IsPlaced ws ss p → is_call_in_branch p.standing.statement ≡ true → IsPlaced ws ss q → CameThrough p q
      → is_for_branches q.standing.statement.statement.keyword ≡ false → first_word p.standing.statement.statement.args ≡ Some word
      → ExpandFault ws ss (fault_at causes.CallPlace word.at p.standing.space word.bytes)

-- the faults of the step: of too many statements that alone
pub data ExpandStep (ws : List Written) (ss : List Standing) : Fault → Type 0 where
  of_calls : (f : Fault) → (IsOver placed_cmp (IsPlaced ws ss) most_instances → ⊥) → ExpandFault ws ss f → ExpandStep ws ss f
  too_many : IsOver placed_cmp (IsPlaced ws ss) most_instances → ExpandStep ws ss limit_fault
