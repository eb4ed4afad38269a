-- What a line of a session asks for. This project's profile.
use Rattle.std.specs.Prelude.{ℕ, ◌+◌, ◌-◌, ◌*◌, Bool, true, false, ◌&&◌, not, ◌==◌, nat_le, if◌then◌else◌, List, [], ◌∷◌, Option, Some, None, codes}
use Rattle.std.specs.List.{fold, list_all, slice_split}
use Rattle.cil_syntax.specs.Spelling.{is_between, same_bytes}

-- how many bytes a line may have, without its newline
abbrev pub longest_line : ℕ
longest_line = 4096

-- how many bytes may follow a line
abbrev pub longest_body : ℕ
longest_body = 67108864

-- what a line asks for: by itself, or with so many bytes that follow it
pub data Line : Type 0 where
  Export List_ Load Optionals Quit Why : Line
  Ask : List ℕ → List ℕ → List ℕ → Line
  Check : List ℕ → List ℕ → List ℕ → List ℕ → Line
  Set : List ℕ → Bool → Line
  Install Import : ℕ → Line
  TooBig : Line
  Unknown : Line

-- ---- numbers

abbrev pub is_digit : ℕ → Bool
is_digit = is_between 48 57

-- a decimal without needless zeros
abbrev pub is_decimal : List ℕ → Bool
is_decimal [] = false
is_decimal (d ∷ []) = is_digit d
is_decimal (d ∷ e ∷ ds) = not (d == 48) && list_all is_digit (d ∷ e ∷ ds)

-- the number that decimal digits write
unfoldable pub value_of : List ℕ → ℕ
value_of digits = fold (λ n d. n * 10 + (d - 48)) 0 digits

-- ---- lines

-- the words of a line, one space between
abbrev pub words_of : List ℕ → List (List ℕ)
words_of = slice_split (λ b. b == 32)

-- a word alone
unfoldable pub alone : List ℕ → Line
alone word =
    if same_bytes word (codes "EXPORT") then Export else (if same_bytes word (codes "LIST") then List_ else (if same_bytes word (codes "LOAD") then Load else
    (if same_bytes word (codes "OPTIONALS") then Optionals else (if same_bytes word (codes "QUIT") then Quit else
    (if same_bytes word (codes "WHY") then Why else Unknown)))))

-- a body of so many bytes
abbrev pub bodied : (ℕ → Line) → ℕ → Line
bodied form n = if nat_le n longest_body then form n else TooBig

-- a word and the length of a body
unfoldable pub announced : List ℕ → List ℕ → Line
announced word digits =
    if not (is_decimal digits) then Unknown else (if same_bytes word (codes "INSTALL") then bodied Install (value_of digits) else
    (if same_bytes word (codes "IMPORT") then bodied Import (value_of digits) else Unknown))

-- a word, and a source, a target and a class, none of which is empty
unfoldable pub queried : List ℕ → List ℕ → List ℕ → List ℕ → Line
queried word source target class_name =
    if same_bytes word (codes "AV") && not (same_bytes source []) && not (same_bytes target []) && not (same_bytes class_name [])
    then Ask source target class_name else Unknown

-- a word, and a source, a target, a class and a permission, none of which is empty
unfoldable pub checked : List ℕ → List ℕ → List ℕ → List ℕ → List ℕ → Line
checked word source target class_name permission =
    if same_bytes word (codes "CHECK") && not (same_bytes source []) && not (same_bytes target []) && not (same_bytes class_name []) && not (same_bytes permission [])
    then Check source target class_name permission else Unknown

-- the value of a boolean
unfoldable pub valued : List ℕ → List ℕ → Line
valued name value = if same_bytes value (codes "true") then Set name true else (if same_bytes value (codes "false") then Set name false else Unknown)

-- a word, a boolean, which is not empty, and its value
unfoldable pub switched : List ℕ → List ℕ → List ℕ → Line
switched word name value = if same_bytes word (codes "SET") && not (same_bytes name []) then valued name value else Unknown

-- by the number of the words
abbrev pub by_words : List (List ℕ) → Line
by_words (word ∷ []) = alone word
by_words (word ∷ digits ∷ []) = announced word digits
by_words (word ∷ source ∷ target ∷ class_name ∷ []) = queried word source target class_name
by_words [] = Unknown
by_words (word ∷ name ∷ value ∷ []) = switched word name value
by_words (word ∷ source ∷ target ∷ class_name ∷ permission ∷ []) = checked word source target class_name permission
by_words (a ∷ b ∷ c ∷ d ∷ e ∷ f ∷ words) = Unknown

unfoldable pub asked : List ℕ → Line
asked line = by_words (words_of line)

-- ---- requests

-- a whole request, its body included
pub data Request : Type 0 where
  Installs Imports : List ℕ → Request
  Exports Lists Loads AsksOptionals AsksWhy Unasked : Request
  Asks : List ℕ → List ℕ → List ℕ → Request
  Checks : List ℕ → List ℕ → List ℕ → List ℕ → Request
  Sets : List ℕ → Bool → Request

-- how many bytes of body follow
abbrev pub body_of : Line → ℕ
body_of (Install n) = n
body_of (Import n) = n
body_of Export = 0
body_of List_ = 0
body_of Load = 0
body_of Optionals = 0
body_of Quit = 0
body_of Why = 0
body_of (Ask s t c) = 0
body_of (Check s t c p) = 0
body_of (Set b v) = 0
body_of TooBig = 0
body_of Unknown = 0

-- the request of a line and its body; none where the line ends the session
abbrev pub request_of : Line → List ℕ → Option Request
request_of (Install n) body = Some (Installs body)
request_of (Import n) body = Some (Imports body)
request_of Export body = Some Exports
request_of List_ body = Some Lists
request_of Load body = Some Loads
request_of Optionals body = Some AsksOptionals
request_of Why body = Some AsksWhy
request_of (Ask s t c) body = Some (Asks s t c)
request_of (Check s t c p) body = Some (Checks s t c p)
request_of (Set b v) body = Some (Sets b v)
request_of Unknown body = Some Unasked
request_of Quit body = None
request_of TooBig body = None
