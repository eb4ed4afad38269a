-- How the code tells what the list of a set says: by the word in front. No other crate needs these words.
use Rattle.std.specs.Prelude.{◌≡◌, ℕ, Bool, true, if◌then◌else◌, List, ◌∷◌, Option, Some, None}
use Rattle.cil_syntax.specs.declared.kind.Language.TheVariants as languages
use Rattle.cil_syntax.specs.declared.kind.Sign.{Sign}
use Rattle.cil_syntax.specs.declared.kind.Sign.TheVariants as signs
use Rattle.cil_syntax.specs.declared.term.Op.{Op}
use Rattle.cil_syntax.specs.declared.term.Op.TheVariants as ops
use Rattle.cil_syntax.specs.declared.term.Term as rust
use Rattle.cil_syntax.specs.Heads.{Head, one_operand, two_operands}
use Rattle.cil_syntax.specs.Said.{all_said}
use Rattle.cil_syntax.specs.Shapes.{Cell, Row, close, item, looked_up}
use Rattle.cil_macros.specs.declared.list_arguments.SetHead.{SetHead}
use Rattle.cil_macros.specs.declared.list_arguments.SetHead.TheVariants as set_heads
use Rattle.cil_macros.specs.Parameters.{cells_in}

-- items that were kept, as nodes that are read now
abbrev pub kept_cells : ℕ → List rust.Term → List Cell
kept_cells n items = cells_in (all_said n items)

-- a word, and more
abbrev pub StartsWith : List ℕ → List (List ℕ) → Type 0
StartsWith word words = (more : List (List ℕ)) × (words ≡ word ∷ more)

-- a range of two categories
abbrev pub two_categories : Row
two_categories = item (looked_up signs.Categories) (item (looked_up signs.Categories) close)

-- by a word that is an operator with one operand, with two, or that of a range
abbrev pub head_code : Bool → Bool → Bool → SetHead
head_code one two range = if one then set_heads.One else (if two then set_heads.Two else (if range then set_heads.Range else set_heads.Union))

-- the head has this row behind its first word
pub record HasRow (o : Option Head) (row : Row) : Type 0 where
  pub head : Head
  pub is : o ≡ Some head
  pub taken : head.taken ≡ true
  pub so : head.row ≡ row

-- the head says this, and has this row behind its first word
pub record HeadIs (o : Option Head) (op : Op) (row : Row) : Type 0 where
  pub head : Head
  pub is : o ≡ Some head
  pub taken : head.taken ≡ true
  pub op_so : head.op ≡ op
  pub row_so : head.row ≡ row

-- of the operators with two operands
abbrev pub two_code : Bool → Bool → Op
two_code and or = if and then ops.And else (if or then ops.Or else ops.Xor)

-- what the head of a list says, an operator with two operands this
abbrev pub SaysOp : Sign → Option Head → Op → SetHead → Type 0
SaysOp sign o two set_heads.One = HeadIs o ops.Not (one_operand (languages.Sets sign))
SaysOp sign o two set_heads.Two = HeadIs o two (two_operands (languages.Sets sign))
SaysOp sign o two set_heads.Range = HeadIs o ops.Range two_categories
SaysOp sign o two set_heads.Union = o ≡ None

-- what the head of a list says
abbrev pub SaysHead : Sign → Option Head → SetHead → Type 0
SaysHead sign o set_heads.One = HasRow o (one_operand (languages.Sets sign))
SaysHead sign o set_heads.Two = HasRow o (two_operands (languages.Sets sign))
SaysHead sign o set_heads.Range = HasRow o two_categories
SaysHead sign o set_heads.Union = o ≡ None
