-- Branches by the definitions, computed.
use Rattle.std.proofs.Common.{◌≡◌, ℕ, true, false, [], ◌∷◌, refl}
use Rattle.std.specs.Prelude.{codes, Some, None}
use Rattle.cil_faults.specs.declared.spot.Spot.{Spot}
use Rattle.cil_syntax.specs.declared.kind.Keyword.TheVariants as keywords
use Rattle.cil_syntax.specs.declared.kind.Nesting.TheVariants as nestings
use Rattle.cil_syntax.specs.declared.kind.Sign.TheVariants as signs
use Rattle.cil_syntax.specs.declared.term.Op.TheVariants as ops
use Rattle.cil_syntax.specs.declared.term.Word.{Word}
use Rattle.cil_syntax.specs.Scopes.{ScopedWord}
use Rattle.cil_syntax.specs.Terms.{Term, Leaf, Form, Terms, nil, cons}
use Rattle.cil_syntax.specs.Written.{Written, at_top}
use Rattle.cil_blocks.specs.Branches.{branch_value, last_value, replaced}
use Rattle.cil_blocks.specs.Contents.{standing_in_branch, standing_top}

abbrev spot : ℕ → Spot
spot at = record { «module» = 0; at = at }

abbrev boolean_word : Word
boolean_word = record { at = spot 11; bytes = codes "b"; sign = signs.Booleans }

-- ---- `(booleanif b (true ..)(false ..))`, the lists at 13 and at 40, and with the branches in the other order

abbrev true_first : Terms Word
true_first = cons (Leaf boolean_word) (cons (Form (spot 13) ops.TrueBranch nil) (cons (Form (spot 40) ops.FalseBranch nil) nil))

abbrev false_first : Terms Word
false_first = cons (Leaf boolean_word) (cons (Form (spot 13) ops.FalseBranch nil) (cons (Form (spot 40) ops.TrueBranch nil) nil))

abbrev false_alone : Terms Word
false_alone = cons (Leaf boolean_word) (cons (Form (spot 13) ops.FalseBranch nil) nil)

-- a condition that is a list begins before each branch, and is none
abbrev with_list : Terms Word
with_list = cons (Form (spot 11) ops.Not (cons (Leaf boolean_word) nil)) (cons (Form (spot 19) ops.FalseBranch nil) nil)

values : (branch_value true_first (spot 19) ≡ true) × (branch_value true_first (spot 47) ≡ false) × (branch_value false_first (spot 20) ≡ false)
    × (branch_value false_first (spot 46) ≡ true) × (branch_value false_alone (spot 20) ≡ false) × (branch_value with_list (spot 26) ≡ false)
unfolding last_value
values = (refl, refl, refl, refl, refl, refl)

-- ---- what stands in a branch

abbrev conditional : Written
conditional = record { context = at_top; statement = record { keyword = keywords.BooleanIf; at = spot 0; args = true_first } }

abbrev rule_at : ℕ → Written
rule_at at = record {
  context = record { nesting = nestings.InBranch; space = []; under = Some (spot 0); macro = None };
  statement = record { keyword = keywords.Allow; at = spot at; args = nil };
}

abbrev condition : Term ScopedWord
condition = Leaf (record { at = spot 11; bytes = codes "b"; sign = signs.Booleans; scope = [] ∷ [] })

in_both : ((standing_in_branch (standing_top conditional) (rule_at 19)).branch ≡ Some (condition, true))
    × ((standing_in_branch (standing_top conditional) (rule_at 47)).branch ≡ Some (condition, false))
unfolding last_value replaced
in_both = (refl, refl)

-- it is in no optional for that, and what is at the top is in no branch
round_it : ((standing_in_branch (standing_top conditional) (rule_at 19)).round ≡ []) × ((standing_top conditional).branch ≡ None)
round_it = (refl, refl)
