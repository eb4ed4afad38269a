-- Where a byte is in a text: its line and its column, both counted from 1. This project's profile.
use Rattle.std.specs.Prelude.{ℕ, zero, suc, ◌+◌, ◌-◌, ◌==◌, ◌≤◌, if◌then◌else◌, List, slice_index}
use Rattle.cil_sexpr.specs.Bytes.{newline}
use Rattle.cil_sexpr.specs.Text.{longest_text}
use Rattle.cil_locate.specs.declared.position.Position.{Position}

-- how many newlines are before a place
unfoldable pub newlines : List ℕ → ℕ → ℕ
newlines text zero = 0
newlines text (suc k) = newlines text k + (if slice_index text k == newline then 1 else 0)

-- where the line of a place begins: behind the last newline before it, or at the start of the text
unfoldable pub line_start : List ℕ → ℕ → ℕ
line_start text zero = 0
line_start text (suc k) = if slice_index text k == newline then suc k else line_start text k

-- a place with its line
abbrev pub position_of : List ℕ → ℕ → Position
position_of text at = record { at = at; newlines = newlines text at; begin = line_start text at }

-- the number of a line, and of a byte in its line
abbrev pub line_number : Position → ℕ
line_number p = p.newlines + 1

abbrev pub column : Position → ℕ
column p = p.at - p.begin + 1

-- the numbers of a place are those of a text that is at most one byte too long
pub record IsSmall (p : Position) : Type 0 where
  pub newlines : p.newlines ≤ suc longest_text
  pub begin : p.begin ≤ p.at
  pub at : p.at ≤ suc longest_text
