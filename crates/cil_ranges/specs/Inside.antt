-- The terms inside of what a statement says. This project's profile.
use Rattle.std.specs.Prelude.{◌≡◌, Bool, true, false}
use Rattle.cil_faults.specs.declared.spot.Spot.{Spot}
use Rattle.cil_syntax.specs.declared.kind.Keyword.{Keyword}
use Rattle.cil_syntax.specs.declared.kind.Keyword.TheVariants as keywords
use Rattle.cil_syntax.specs.declared.term.Op.{Op}
use Rattle.cil_syntax.specs.Forms.{is_class_list}
use Rattle.cil_syntax.specs.Terms.{Term, Form, Terms, cons}

-- the term is one of these, or stands in a list among them. A class with its permissions is not looked into: it has no level
pub data IsInside {L : Type 0} (t : Term L) : Terms L → Type 0 where
  here : (ts : Terms L) → IsInside t (cons t ts)
  later : (u : Term L) (ts : Terms L) → IsInside t ts → IsInside t (cons u ts)
  within : (at : Spot) (op : Op) (us ts : Terms L) → is_class_list op ≡ false → IsInside t us → IsInside t (cons (Form at op us) ts)

-- the statements that have a place for a level, a range of levels or an expression over categories, and calls, whose arguments may be
-- such
abbrev pub says_levels : Keyword → Bool
says_levels keywords.SensitivityCategory = true
says_levels keywords.CategorySet = true
says_levels keywords.Level = true
says_levels keywords.LevelRange = true
says_levels keywords.UserLevel = true
says_levels keywords.UserRange = true
says_levels keywords.RangeTransition = true
says_levels keywords.Call = true
says_levels keyword = false
