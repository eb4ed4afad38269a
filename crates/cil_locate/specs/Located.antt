-- What is written of the faults of a policy, each at its file. This project's profile.
use Rattle.std.specs.Prelude.{ℕ, Bool, true, false, if◌then◌else◌, List, [], ◌++◌, Option, Some, None, map, slice_get, slice_index}
use Rattle.std.specs.List.{flat_map}
use Rattle.std.specs.Option.{option_map_or}
use Rattle.cil_faults.specs.declared.code.FaultCode.{FaultCode}
use Rattle.cil_faults.specs.declared.code.FaultCode.TheVariants.{CategoryOrder, ExpansionLimit, MlsTwice, SensitivityOrder, TooMany}
use Rattle.cil_faults.specs.declared.fault.Fault.{Fault}
use Rattle.cil_server.specs.optionals.WhyLine.{WhyLine}
use Rattle.cil_locate.specs.Files.{SourceFile, file_at}
use Rattle.cil_locate.specs.Lines.{fault_lines, note_text, place_in, place_text, policy_line}
use Rattle.cil_locate.specs.Order.{Key}
use Rattle.cil_locate.specs.Positions.{position_of}
use Rattle.cil_locate.specs.declared.told.Told.{Told}

-- a fault of this kind is of the whole policy: it has no place
abbrev pub is_of_policy : FaultCode → Bool
is_of_policy ExpansionLimit = true
is_of_policy SensitivityOrder = true
is_of_policy CategoryOrder = true
is_of_policy MlsTwice = true
is_of_policy TooMany = true
is_of_policy _ = false

-- where a fault is told, by the files of the modules
abbrev pub key_of : List ℕ → Fault → Key
key_of origins f = record { origin = if is_of_policy f.code then 0 else slice_index origins f.«module»; at = f.at }

-- what is written of a fault of a file, or of the policy
abbrev pub lines_at : Option SourceFile → ℕ → Fault → List ℕ
lines_at None at f = policy_line f
lines_at (Some file) at f = fault_lines file.name file.text (position_of file.text (place_in file.text at)) f

abbrev pub told_lines : List SourceFile → List Fault → Told → List ℕ
told_lines files faults t = option_map_or (lines_at (file_at files t.origin) t.at) (slice_get faults t.number) []

-- all faults, in an order
abbrev pub faults_told : List SourceFile → List Fault → List Told → List ℕ
faults_told files faults = flat_map (told_lines files faults)

-- ---- optionals that are left out

abbrev pub key_of_note : List ℕ → WhyLine → Key
key_of_note origins l = record { origin = slice_index origins l.«module»; at = l.at }

-- where an optional is, and why it is left out
abbrev pub note_lines : Option SourceFile → ℕ → WhyLine → List ℕ
note_lines None at l = []
note_lines (Some file) at l =
    place_text file.name (position_of file.text (place_in file.text at)) ++ note_text l.label l.missing l.space

abbrev pub note_at : List SourceFile → List WhyLine → Told → List ℕ
note_at files lines t = option_map_or (note_lines (file_at files t.origin) t.at) (slice_get lines t.number) []

-- all of them, in an order
abbrev pub notes_told : List SourceFile → List WhyLine → List Told → List ℕ
notes_told files lines = flat_map (note_at files lines)
