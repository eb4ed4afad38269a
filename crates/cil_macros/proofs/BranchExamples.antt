-- Calls in branches by the definitions, computed.
use Rattle.std.proofs.Common.{◌≡◌, ℕ, true, false, List, [], ◌∷◌, refl}
use Rattle.std.specs.Prelude.{codes, Some, None}
use Rattle.cil_base.specs.Places.{get_contains}
use Rattle.cil_faults.specs.declared.code.FaultCode.TheVariants as causes
use Rattle.cil_faults.specs.Reported.{fault_at}
use Rattle.cil_faults.specs.declared.spot.Spot.{Spot}
use Rattle.cil_syntax.specs.declared.kind.Keyword.TheVariants as keywords
use Rattle.cil_syntax.specs.declared.kind.Nesting.TheVariants as nestings
use Rattle.cil_syntax.specs.declared.kind.Sign.TheVariants as signs
use Rattle.cil_syntax.specs.declared.term.Op.TheVariants as ops
use Rattle.cil_syntax.specs.declared.term.Word.{Word}
use Rattle.cil_syntax.specs.Table.{entry_of}
use Rattle.cil_syntax.specs.Terms.{Leaf, Name, Form, nil, cons}
use Rattle.cil_syntax.specs.Written.{Written, at_top}
use Rattle.cil_blocks.specs.Branches.{last_value, replaced}
use Rattle.cil_blocks.specs.Contents.{Standing, standing_in_branch, standing_top}
use Rattle.cil_macros.specs.CallPlaces.{is_for_branches}
use Rattle.cil_macros.specs.Calls.{Unfolded, bound, called, called_macro, has_macro, macro_in_scope, nearest, placed_called, stands, unfolded}
use Rattle.cil_macros.specs.ExpandFaults.{ExpandFault, call_place}
use Rattle.cil_macros.specs.Placed.{Placed, placed_standing}

abbrev spot : ℕ → Spot
spot at = record { «module» = 0; at = at }

-- ---- `(boolean bo true)(macro m () (type t))(booleanif bo (true (call m)))`: 37 at the `m` of the call

abbrev macro_m : Written
macro_m = record {
  context = at_top;
  statement = record { keyword = keywords.Macro; at = spot 17; args = cons (Name (spot 24) (codes "m")) (cons (Form (spot 26) ops.Parameters nil) nil) };
}

abbrev type_t : Written
type_t = record {
  context = record { nesting = nestings.InOptional; space = []; under = Some (spot 17); macro = Some record { at = spot 17; parameters = [] } };
  statement = record { keyword = keywords.Type_; at = spot 29; args = cons (Name (spot 35) (codes "t")) nil };
}

abbrev conditional : Written
conditional = record {
  context = at_top;
  statement = record {
    keyword = keywords.BooleanIf;
    at = spot 38;
    args = cons (Leaf (record { at = spot 49; bytes = codes "bo"; sign = signs.Booleans })) (cons (Form (spot 52) ops.TrueBranch nil) nil);
  };
}

abbrev macro_word : Word
macro_word = record { at = spot 64; bytes = codes "m"; sign = signs.Macros }

abbrev call_m : Written
call_m = record {
  context = record { nesting = nestings.InBranch; space = []; under = Some (spot 38); macro = None };
  statement = record { keyword = keywords.Call; at = spot 58; args = cons (Leaf macro_word) nil };
}

abbrev program : List Written
program = macro_m ∷ type_t ∷ conditional ∷ call_m ∷ []

abbrev in_the_branch : Standing
in_the_branch = standing_in_branch (standing_top conditional) call_m

abbrev standing : List Standing
standing = standing_top macro_m ∷ standing_top conditional ∷ in_the_branch ∷ []

abbrev the_call : Placed
the_call = placed_standing in_the_branch

abbrev opened : Unfolded
opened = record { macro = standing_top macro_m; bounds = [] }

is_opened : unfolded program standing the_call ≡ Some opened
unfolding unfolded called_macro macro_in_scope has_macro nearest bound
is_opened = refl

row_37 : ExpandFault program standing (fault_at causes.CallPlace (spot 64) [] (codes "m"))
unfolding entry_of
row_37 =
    call_place the_call (placed_called the_call opened type_t) macro_word (stands in_the_branch (get_contains standing 2 in_the_branch refl)) refl
    (called the_call opened type_t (stands in_the_branch (get_contains standing 2 in_the_branch refl)) is_opened (get_contains program 1 type_t refl) refl)
    (record { at = spot 29; more = []; so = refl }) refl refl

-- what the call brings is in the branch of the call
handed_on : (placed_called the_call opened type_t).standing.branch
    ≡ Some (Leaf (record { at = spot 49; bytes = codes "bo"; sign = signs.Booleans; scope = [] ∷ [] }), true)
unfolding replaced last_value
handed_on = refl

-- ---- the statements that may be in a branch, and some that may not

for_branches : (is_for_branches keywords.Allow ≡ true) × (is_for_branches keywords.AuditAllow ≡ true) × (is_for_branches keywords.DontAudit ≡ true)
    × (is_for_branches keywords.TypeTransition ≡ true) × (is_for_branches keywords.TypeChange ≡ true) × (is_for_branches keywords.TypeMember ≡ true)
    × (is_for_branches keywords.Call ≡ true)
unfolding entry_of
for_branches = (refl, refl, refl, refl, refl, refl, refl)

for_others : (is_for_branches keywords.BooleanIf ≡ false) × (is_for_branches keywords.Optional ≡ false) × (is_for_branches keywords.NeverAllow ≡ false)
    × (is_for_branches keywords.Type_ ≡ false) × (is_for_branches keywords.RoleAllow ≡ false) × (is_for_branches keywords.RangeTransition ≡ false)
unfolding entry_of
for_others = (refl, refl, refl, refl, refl, refl)
