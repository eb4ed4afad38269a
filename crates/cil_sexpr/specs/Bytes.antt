-- The bytes of a text, by what they do in it.
use Rattle.std.specs.Prelude.{◌≡◌, ◌≢◌, ℕ, ◌<◌, ◌≤◌, ◌⊎◌, List, length, slice_index}

abbrev pub left_bracket : ℕ
left_bracket = 40

abbrev pub right_bracket : ℕ
right_bracket = 41

abbrev pub double_quote : ℕ
double_quote = 34

abbrev pub semicolon : ℕ
semicolon = 59

abbrev pub newline : ℕ
newline = 10

-- space, tab, newline, carriage return
abbrev pub IsBlank : ℕ → Type 0
IsBlank b = (b ≡ 32) ⊎ ((b ≡ 9) ⊎ ((b ≡ newline) ⊎ (b ≡ 13)))

-- printed ASCII that is none of the four marks
abbrev pub IsWordByte : ℕ → Type 0
IsWordByte b =
    (0x21 ≤ b) × (b ≤ 0x7E) × (b ≢ left_bracket) × (b ≢ right_bracket) × (b ≢ double_quote) × (b ≢ semicolon)

-- neither a blank nor printed ASCII
abbrev pub IsBadByte : ℕ → Type 0
IsBadByte b = (IsBlank b → ⊥) × ((b < 0x21) ⊎ (0x7E < b))

-- the text has this byte at this place
abbrev pub HasByte : List ℕ → ℕ → ℕ → Type 0
HasByte text k b = (k < length text) × (slice_index text k ≡ b)
