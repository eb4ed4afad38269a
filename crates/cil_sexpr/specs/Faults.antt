-- Which faults a text has, and which of them is the first. Nothing here knows of trees: a fault is told by its place and
-- what the bytes before it do, that of an open string by the bytes behind it too, and that of a long text by its length. The
-- faults and their numbers are this project's profile.
use Rattle.std.specs.Prelude.{◌≡◌, ℕ, zero, suc, ◌+◌, ◌-◌, ◌<◌, ◌≤◌, ◌⊎◌, ◌==◌, ◌&&◌, Bool, true, false, if◌then◌else◌, List, length, slice_index}
use Rattle.cil_sexpr.specs.declared.fault.ReadCode.{ReadCode}
use Rattle.cil_sexpr.specs.declared.fault.ReadCode.TheVariants.{TooLong, Unclosed, StrayClose, OpenQuote, BadByte, TooDeep, OutsideList}
use Rattle.cil_sexpr.specs.Bytes.{left_bracket, right_bracket, double_quote, semicolon, newline, IsWordByte, IsBadByte}
use Rattle.cil_sexpr.specs.Text.{IsString, deepest, longest_text}

-- what a byte lies in
pub data Where : Type 0 where
  Plain : Where
  InString : Where
  InComment : Where

-- what the byte behind this one lies in. An open string ends with its line, where it is a fault already.
abbrev pub where_next : Where → ℕ → Where
where_next Plain b = if b == double_quote then InString else (if b == semicolon then InComment else Plain)
where_next InString b = if b == double_quote then Plain else (if b == newline then Plain else InString)
where_next InComment b = if b == newline then Plain else InComment

-- what the byte at a place lies in, by the bytes before it. The quote and the semicolon that begin a string
-- or a comment are plain.
unfoldable pub where_at : List ℕ → ℕ → Where
where_at text zero = Plain
where_at text (suc k) = where_next (where_at text k) (slice_index text k)

abbrev pub is_plain : Where → Bool
is_plain Plain = true
is_plain InString = false
is_plain InComment = false

-- how many plain bytes before a place are this byte
unfoldable pub plain_count : ℕ → List ℕ → ℕ → ℕ
plain_count byte text zero = 0
plain_count byte text (suc k) =
    plain_count byte text k + (if is_plain (where_at text k) && (slice_index text k == byte) then 1 else 0)

-- how many lists are open at a place
abbrev pub depth_at : List ℕ → ℕ → ℕ
depth_at text k = plain_count left_bracket text k - plain_count right_bracket text k

-- a plain byte
pub record IsPlain (text : List ℕ) (k : ℕ) : Type 0 where
  pub within : k < length text
  pub plain : where_at text k ≡ Plain

-- the text has this fault at this place
abbrev pub HasFault : List ℕ → ReadCode → ℕ → Type 0
HasFault text TooLong k = (longest_text < length text) × (k ≡ longest_text)
HasFault text Unclosed k = (k ≡ length text) × (0 < depth_at text k)
HasFault text StrayClose k = IsPlain text k × (slice_index text k ≡ right_bracket) × (depth_at text k ≡ 0)
HasFault text OpenQuote k = IsPlain text k × (slice_index text k ≡ double_quote) × ((end : ℕ) → IsString text k end → ⊥)
HasFault text BadByte k = IsPlain text k × IsBadByte (slice_index text k)
HasFault text TooDeep k = IsPlain text k × (slice_index text k ≡ left_bracket) × (depth_at text k ≡ deepest)
HasFault text OutsideList k =
    IsPlain text k × (IsWordByte (slice_index text k) ⊎ (slice_index text k ≡ double_quote)) × (depth_at text k ≡ 0)

-- the number of a fault
abbrev pub number_of : ReadCode → ℕ
number_of TooLong = 1
number_of Unclosed = 2
number_of StrayClose = 3
number_of OpenQuote = 4
number_of BadByte = 5
number_of TooDeep = 6
number_of OutsideList = 7

-- the text has this fault, and none at an earlier place, and none of a lesser number there
pub record IsFirst (text : List ℕ) (code : ReadCode) (at : ℕ) : Type 0 where
  pub fault : HasFault text code at
  pub least : (other : ReadCode) (k : ℕ) → HasFault text other k → (at < k) ⊎ ((at ≡ k) × (number_of code ≤ number_of other))

-- the fault of a text: too long before all else, then the first
abbrev pub FaultOf : List ℕ → ReadCode → ℕ → Type 0
FaultOf text code at =
    (HasFault text TooLong at × (code ≡ TooLong)) ⊎ ((length text ≤ longest_text) × IsFirst text code at)
