-- What is written of a fault: its line, and where it has a place the line of the source with a mark. This project's profile.
use Rattle.std.specs.Prelude.{ℕ, suc, ◌+◌, ◌-◌, ◌&&◌, nat_le, min, if◌then◌else◌, List, [], ◌∷◌, ◌++◌, length, map, replicate, slice_range, codes, decimal, Option, Some, None}
use Rattle.cil_faults.specs.Codes.{number_of}
use Rattle.cil_faults.specs.declared.code.FaultCode.{FaultCode}
use Rattle.cil_faults.specs.declared.fault.Fault.{Fault}
use Rattle.cil_sexpr.specs.Faults.{number_of as read_number}
use Rattle.cil_sexpr.specs.declared.fault.ReadFault.{ReadFault}
use Rattle.cil_locate.specs.Positions.{column, line_number, position_of}
use Rattle.cil_locate.specs.Sentences.{reading_sentence, sentence_of}
use Rattle.cil_locate.specs.Windows.{window_at}
use Rattle.cil_locate.specs.declared.position.Position.{Position}
use Rattle.cil_locate.specs.declared.window.Window.{Window}

abbrev pub newline : List ℕ
newline = 10 ∷ []

-- a byte as it is shown: one that is not printed ASCII is a space
abbrev pub visible : ℕ → ℕ
visible b = if nat_le 0x20 b && nat_le b 0x7E then b else 0x20

-- the place of a text that is meant: the end, where the text has no such place
abbrev pub place_in : List ℕ → ℕ → ℕ
place_in text at = min at (length text)

-- ---- the line of the source

-- a number at the right of five places
abbrev pub padded : ℕ → List ℕ
padded n = replicate (5 - length (decimal n)) 32 ++ decimal n

-- as many spaces
abbrev pub blank : ℕ → List ℕ
blank n = replicate (length (padded n)) 32

abbrev pub bar : List ℕ
bar = codes " | "

-- the line, behind its number
abbrev pub source_line : List ℕ → Position → Window → List ℕ
source_line text p w = padded (line_number p) ++ bar ++ map visible (slice_range text (p.at - w.before) (p.at + w.behind)) ++ newline

-- the mark below a word: ^ and then ~
abbrev pub mark : Window → List ℕ
mark w = replicate w.before 32 ++ codes "^" ++ replicate (w.marked - 1) 126 ++ newline

abbrev pub source_lines : List ℕ → Position → List ℕ
source_lines text p =
    source_line text p (window_at text p.at) ++ (blank (line_number p) ++ bar) ++ mark (window_at text p.at)

-- ---- the line of a fault

abbrev pub behind_colon : ℕ → List ℕ
behind_colon n = codes ":" ++ decimal n

-- `FILE:LINE:COLUMN: `
abbrev pub place_text : List ℕ → Position → List ℕ
place_text name p = name ++ behind_colon (line_number p) ++ behind_colon (column p) ++ codes ": "

-- `CODE: SENTENCE`
abbrev pub cause_text : ℕ → List ℕ → List ℕ
cause_text code sentence = decimal code ++ codes ": " ++ sentence

-- `: WORD`, where there is one
abbrev pub word_text : List ℕ → List ℕ
word_text [] = []
word_text (b ∷ bs) = codes ": " ++ map visible (b ∷ bs)

-- ` (in SPACE)`, but for the global namespace
abbrev pub space_text : List ℕ → List ℕ
space_text [] = []
space_text (b ∷ bs) = codes " (in " ++ (b ∷ bs) ++ codes ")"

-- a fault of a policy, without its place
abbrev pub fault_text : Fault → List ℕ
fault_text f = cause_text (number_of f.code) (sentence_of f.code) ++ word_text f.word ++ space_text f.space ++ newline

-- a fault of a file: where it is, what it is, and the line
abbrev pub fault_lines : List ℕ → List ℕ → Position → Fault → List ℕ
fault_lines name text p f = place_text name p ++ fault_text f ++ source_lines text p

-- a fault of the whole policy
abbrev pub policy_line : Fault → List ℕ
policy_line f = codes "policy: " ++ fault_text f

-- why a file cannot be read as a text
abbrev pub reading_lines : List ℕ → List ℕ → Position → ReadFault → List ℕ
reading_lines name text p f =
    place_text name p ++ (cause_text (read_number f.code) (reading_sentence f.code) ++ newline) ++ source_lines text p

-- ---- the line of an optional that is left out

abbrev pub missing_text : Option (List ℕ) → List ℕ
missing_text None = codes "the optional round it is left out"
missing_text (Some word) = codes "nothing in force declares " ++ map visible word

-- what it is called, why it is left out, and its namespace
abbrev pub note_text : List ℕ → Option (List ℕ) → List ℕ → List ℕ
note_text label missing space = codes "note: optional " ++ label ++ codes " is left out: " ++ missing_text missing ++ space_text space ++ newline
