-- What is shown of a line: at most 120 bytes of it round a place, and a mark below the word there. This project's profile.
use Rattle.std.specs.Prelude.{ℕ, zero, suc, ◌+◌, ◌-◌, ◌==◌, ◌&&◌, Bool, not, nat_le, min, max, if◌then◌else◌, List, length, slice_index}
use Rattle.cil_sexpr.specs.Bytes.{left_bracket, right_bracket, double_quote, semicolon, newline}
use Rattle.cil_locate.specs.Positions.{line_start}
use Rattle.cil_locate.specs.declared.window.Window.{Window}

-- how many bytes in a row are such, from a place on: this many at most
unfoldable pub run_of : (ℕ → Bool) → List ℕ → ℕ → ℕ → ℕ
run_of such text at zero = 0
run_of such text at (suc n) = if such (slice_index text at) then suc (run_of such text (suc at) n) else 0

-- not the end of a line
abbrev pub is_in_line : ℕ → Bool
is_in_line b = not (b == newline)

-- a byte of a word: printed ASCII that is none of the four marks
abbrev pub is_in_word : ℕ → Bool
is_in_word b =
    nat_le 0x21 b && nat_le b 0x7E && not (b == left_bracket) && not (b == right_bracket) && not (b == double_quote) && not (b == semicolon)

-- a line of up to 120 bytes is shown whole; of a longer one, 60 bytes behind the place, or more where it is near its line's start or end
module _ (text : List ℕ) (at : ℕ) where
  -- how many bytes of the line are before the place
  abbrev pub bytes_before : ℕ
  bytes_before = at - line_start text at

  -- how many are shown from the place on
  abbrev pub shown_behind : ℕ
  shown_behind = run_of is_in_line text at (min (max (120 - bytes_before) 60) (length text - at))

  -- and how many before it
  abbrev pub shown_before : ℕ
  shown_before = min bytes_before (120 - shown_behind)

  -- the mark is as long as what is shown of the word at the place; one byte where there is no word
  abbrev pub marked : ℕ
  marked = max (run_of is_in_word text at shown_behind) 1

  abbrev pub window_at : Window
  window_at = record { before = shown_before; behind = shown_behind; marked = marked }
