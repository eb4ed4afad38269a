-- The languages of expressions: what their lists say is told by the words at their heads. CIL Reference Guide, the
-- sections on expressions of sets, of conditionals and of constraints; what is not taken is this project's profile.
use Rattle.std.specs.Prelude.{ℕ, Bool, true, false, ◌&&◌, if◌then◌else◌, List, [], ◌∷◌, ◌++◌, codes, find, Option}
use Rattle.cil_syntax.specs.declared.kind.Language.{Language}
use Rattle.cil_syntax.specs.declared.kind.Language.TheVariants as languages
use Rattle.cil_syntax.specs.declared.kind.Sign.{Sign}
use Rattle.cil_syntax.specs.declared.kind.Sign.TheVariants as signs
use Rattle.cil_syntax.specs.declared.term.Op.{Op}
use Rattle.cil_syntax.specs.declared.term.Op.TheVariants as ops
use Rattle.cil_syntax.specs.Spelling.{same_bytes}
use Rattle.cil_syntax.specs.Shapes.{Shape, looked_up, expression, fixed, either, list_of, Row, close, item, many, Face, a_word, a_string, a_list, Cell, is_of_sets, sets_are_taken}

-- what a list of a language says where it begins with these words: this, and behind the first of them this row. What is
-- not taken is refused by its first word
pub record Head : Type 0 where
  pub words : List (List ℕ)
  pub op : Op
  pub taken : Bool
  pub row : Row

abbrev pub head_of : List (List ℕ) → Op → Row → Head
head_of words op row = record { words = words; op = op; taken = true; row = row }

-- an operator with one operand, or two
abbrev pub one_operand : Language → Row
one_operand language = item (expression language) close

abbrev pub two_operands : Language → Row
two_operands language = item (expression language) (item (expression language) close)

abbrev pub operators : Language → Bool → List Head
operators language taken =
    record { words = codes "not" ∷ []; op = ops.Not; taken = taken; row = one_operand language }
    ∷ record { words = codes "and" ∷ []; op = ops.And; taken = taken; row = two_operands language }
    ∷ record { words = codes "or" ∷ []; op = ops.Or; taken = taken; row = two_operands language }
    ∷ []

abbrev pub exclusive : Language → Bool → Head
exclusive language taken = record { words = codes "xor" ∷ []; op = ops.Xor; taken = taken; row = two_operands language }

-- sets over words of the sign have ranges
abbrev pub has_ranges : Sign → Bool
has_ranges signs.CategorySets = true
has_ranges sign = false

-- a range of categories
abbrev pub ranges : Sign → List Head
ranges sign =
    if has_ranges sign
    then head_of (codes "range" ∷ []) ops.Range (item (looked_up signs.Categories) (item (looked_up signs.Categories) close)) ∷ []
    else []

-- names of users, roles or types: one, or a list of them
abbrev pub names : Sign → Shape
names sign = either (looked_up sign) (list_of ops.Union (item (looked_up sign) (many (looked_up sign))))

-- two operands, the first of which is this word
abbrev pub against : List ℕ → Op → Shape → Row
against word op shape = item (fixed word op) (item shape close)

-- users, roles and types of the source and of the target
abbrev pub comparisons : List ℕ → Op → List Head
comparisons word op =
    head_of (word ∷ codes "u1" ∷ []) op (against (codes "u1") ops.SourceUser (either (fixed (codes "u2") ops.TargetUser) (names signs.Users)))
    ∷ head_of (word ∷ codes "u2" ∷ []) op (against (codes "u2") ops.TargetUser (names signs.Users))
    ∷ head_of (word ∷ codes "r1" ∷ []) op (against (codes "r1") ops.SourceRole (either (fixed (codes "r2") ops.TargetRole) (names signs.Roles)))
    ∷ head_of (word ∷ codes "r2" ∷ []) op (against (codes "r2") ops.TargetRole (names signs.Roles))
    ∷ head_of (word ∷ codes "t1" ∷ []) op (against (codes "t1") ops.SourceType (either (fixed (codes "t2") ops.TargetType) (names signs.Types)))
    ∷ head_of (word ∷ codes "t2" ∷ []) op (against (codes "t2") ops.TargetType (names signs.Types))
    ∷ []

-- roles are not compared so
abbrev pub refused_on_roles : List ℕ → Head
refused_on_roles word = record {
  words = word ∷ codes "r1" ∷ codes "r2" ∷ [];
  op = ops.LeftOut;
  taken = false;
  row = against (codes "r1") ops.SourceRole (fixed (codes "r2") ops.TargetRole);
}

-- the six pairs of levels
abbrev pub level_comparisons : List ℕ → Op → List Head
level_comparisons word op =
    head_of (word ∷ codes "l1" ∷ []) op
    (against (codes "l1") ops.SourceLow
    (either (fixed (codes "l2") ops.TargetLow) (either (fixed (codes "h2") ops.TargetHigh) (fixed (codes "h1") ops.SourceHigh))))
    ∷ head_of (word ∷ codes "h1" ∷ []) op
    (against (codes "h1") ops.SourceHigh (either (fixed (codes "l2") ops.TargetLow) (fixed (codes "h2") ops.TargetHigh)))
    ∷ head_of (word ∷ codes "l2" ∷ []) op (against (codes "l2") ops.TargetLow (fixed (codes "h2") ops.TargetHigh))
    ∷ []

abbrev pub constraint_heads : List Head
constraint_heads =
    comparisons (codes "eq") ops.Equal ++ comparisons (codes "neq") ops.Unequal
    ++ refused_on_roles (codes "dom") ∷ refused_on_roles (codes "domby") ∷ refused_on_roles (codes "incomp") ∷ []

abbrev pub level_heads : List Head
level_heads =
    level_comparisons (codes "eq") ops.Equal ++ level_comparisons (codes "neq") ops.Unequal ++ level_comparisons (codes "dom") ops.Dominates
    ++ level_comparisons (codes "domby") ops.DominatedBy ++ level_comparisons (codes "incomp") ops.Incomparable

-- what the lists of a language say by their first words
unfoldable pub heads : Language → List Head
heads (languages.Sets sign) = operators (languages.Sets sign) sets_are_taken ++ exclusive (languages.Sets sign) sets_are_taken ∷ ranges sign
heads languages.Conditions =
    operators languages.Conditions true
    ++ exclusive languages.Conditions true
    ∷ head_of (codes "eq" ∷ []) ops.Equal (two_operands languages.Conditions)
    ∷ head_of (codes "neq" ∷ []) ops.Unequal (two_operands languages.Conditions)
    ∷ []
heads languages.Constraints = operators languages.Constraints true ++ constraint_heads
heads languages.LevelConstraints = operators languages.LevelConstraints true ++ constraint_heads ++ level_heads

-- any other list: the union of sets, or just one expression
abbrev pub other_op : Language → Op
other_op language = if is_of_sets language then ops.Union else ops.Group

abbrev pub other_row : Language → Row
other_row language = if is_of_sets language then many (expression language) else one_operand language

-- the words at the head of some cells
abbrev pub word_before : Face → List (List ℕ) → List (List ℕ)
word_before (a_word bytes) words = bytes ∷ words
word_before a_string words = []
word_before (a_list head) words = []

unfoldable pub first_words : List Cell → List (List ℕ)
first_words [] = []
first_words (c ∷ cs) = word_before c.face (first_words cs)

-- the first words are these
unfoldable pub begins_with : List (List ℕ) → List (List ℕ) → Bool
begins_with [] there = true
begins_with (w ∷ ws) [] = false
begins_with (w ∷ ws) (v ∷ vs) = same_bytes v w && begins_with ws vs

-- the head of a language with which some words begin
abbrev pub head_in : Language → List (List ℕ) → Option Head
head_in language there = find (λ h. begins_with h.words there) (heads language)
