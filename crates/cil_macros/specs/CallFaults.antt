-- What is wrong with calls, placed statement by placed statement, as it is told.
use Rattle.std.specs.Prelude.{◌≡◌, ℕ, suc, Bool, false, ◌&&◌, ◌||◌, not, if◌then◌else◌, List, [], ◌∷◌, ◌++◌, Option, Some, None, is_some, slice_get}
use Rattle.cil_faults.specs.declared.code.FaultCode.{FaultCode}
use Rattle.cil_faults.specs.declared.code.FaultCode.TheVariants as causes
use Rattle.cil_faults.specs.declared.fault.Fault.{Fault}
use Rattle.cil_syntax.specs.declared.term.Word.{Word}
use Rattle.cil_faults.specs.Reported.{fault_at}
use Rattle.cil_faults.specs.Namespaces.{Namespace}
use Rattle.cil_syntax.specs.Written.{Written}
use Rattle.cil_blocks.specs.Contents.{Standing, first_word}
use Rattle.cil_blocks.specs.Places.{Standings}
use Rattle.cil_macros.specs.declared.entry.Called.{Called}
use Rattle.cil_macros.specs.declared.faults.Wrong.{Wrong}
use Rattle.cil_macros.specs.Brings.{is_marked}
use Rattle.cil_macros.specs.CallPlaces.{is_call_in_branch}
use Rattle.cil_macros.specs.Calls.{bounds_of_call, called_macro, is_repeated}
use Rattle.cil_macros.specs.Macros.{all_standing}
use Rattle.cil_macros.specs.Placed.{Placed}
use Rattle.cil_macros.specs.Walks.{placed_in, written_in}

-- the call came through its macro already
abbrev pub is_again : Placed → Option Standing → Bool
is_again p None = false
is_again p (Some m) = is_repeated p m

-- its arguments do not fit
abbrev pub is_unfit : List Written → Placed → Option Standing → Bool
is_unfit ws p None = false
is_unfit ws p (Some m) = not (is_some (bounds_of_call ws p m))

-- a fault at a word, if there is one
abbrev pub told_if : Bool → FaultCode → Namespace → Word → List Fault
told_if wrong code space w = if wrong then fault_at code w.at space w.bytes ∷ [] else []

abbrev pub told : Namespace → Wrong → Option Word → List Fault
told space x None = []
told space x (Some w) =
    told_if x.again causes.CallCycle space w
    ++ (told_if x.unfit causes.CallArguments space w ++ told_if x.misplaced causes.CallPlace space w)

-- what is wrong with a placed statement, where it is marked or not: as one that brings what may not be in a branch, or as a call with a
-- list where only a name may stand
abbrev pub wrong_of : List Written → List Standing → Bool → Bool → Placed → Wrong
wrong_of ws ss mark list p = record {
  again = is_again p (called_macro ss p);
  unfit = is_unfit ws p (called_macro ss p) || list;
  misplaced = mark && is_call_in_branch p.standing.statement;
}

-- and its faults
abbrev pub faults_of : List Written → List Standing → Bool → Bool → Placed → List Fault
faults_of ws ss mark list p = told p.standing.space (wrong_of ws ss mark list p) (first_word p.standing.statement.statement.args)

-- those of all that is placed from a place on
unfoldable pub faults_from : List Written → List Standing → List Bool → List Bool → ℕ → List Placed → List Fault
faults_from ws ss marks lists k [] = []
faults_from ws ss marks lists k (p ∷ ps) = faults_of ws ss (is_marked marks k) (is_marked lists k) p ++ faults_from ws ss marks lists (suc k) ps

-- what is wrong there
abbrev pub SaysWrong : Standings → List Called → List Bool → List Bool → ℕ → Wrong → Type 0
SaysWrong s cs marks lists at x =
    (p : Placed) → slice_get (placed_in s cs) at ≡ Some p → x ≡ wrong_of (written_in s) (all_standing s) (is_marked marks at) (is_marked lists at) p
