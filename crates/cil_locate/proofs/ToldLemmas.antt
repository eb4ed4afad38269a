-- What is written of one fault.
use Rattle.std.proofs.Common.{◌≡◌, ℕ, List, [], ◌++◌, Option, None, Some, ◌∙◌, ap}
use Rattle.std.specs.Prelude.{slice_get}
use Rattle.std.specs.Option.{option_map_or}
use Rattle.cil_faults.specs.declared.fault.Fault.{Fault}
use Rattle.cil_server.specs.optionals.WhyLine.{WhyLine}
use Rattle.cil_locate.specs.Files.{SourceFile, file_at}
use Rattle.cil_locate.specs.Lines.{fault_lines, note_text, place_in, place_text, policy_line}
use Rattle.cil_locate.specs.Located.{lines_at, note_at, note_lines, told_lines}
use Rattle.cil_locate.specs.Positions.{position_of}
use Rattle.cil_locate.specs.declared.told.Told.{Told}

module _ (files : List SourceFile) (faults : List Fault) (t : Told) where
  pub told_nothing : slice_get faults t.number ≡ None → told_lines files faults t ≡ []
  told_nothing e = ap (λ o. option_map_or (lines_at (file_at files t.origin) t.at) o []) e

  pub told_policy : (f : Fault) → slice_get faults t.number ≡ Some f → file_at files t.origin ≡ None → told_lines files faults t ≡ policy_line f
  told_policy f e none = ap (λ o. option_map_or (lines_at (file_at files t.origin) t.at) o []) e ∙ ap (λ o. lines_at o t.at f) none

  pub told_fault : (f : Fault) (file : SourceFile) → slice_get faults t.number ≡ Some f → file_at files t.origin ≡ Some file
      → told_lines files faults t ≡ fault_lines file.name file.text (position_of file.text (place_in file.text t.at)) f
  told_fault f file e is = ap (λ o. option_map_or (lines_at (file_at files t.origin) t.at) o []) e ∙ ap (λ o. lines_at o t.at f) is

module _ (files : List SourceFile) (lines : List WhyLine) (t : Told) where
  pub note_nothing : slice_get lines t.number ≡ None → note_at files lines t ≡ []
  note_nothing e = ap (λ o. option_map_or (note_lines (file_at files t.origin) t.at) o []) e

  pub note_nowhere : (l : WhyLine) → slice_get lines t.number ≡ Some l → file_at files t.origin ≡ None → note_at files lines t ≡ []
  note_nowhere l e none = ap (λ o. option_map_or (note_lines (file_at files t.origin) t.at) o []) e ∙ ap (λ o. note_lines o t.at l) none

  pub note_there : (l : WhyLine) (file : SourceFile) → slice_get lines t.number ≡ Some l → file_at files t.origin ≡ Some file
      → note_at files lines t ≡ place_text file.name (position_of file.text (place_in file.text t.at)) ++ note_text l.label l.missing l.space
  note_there l file e is = ap (λ o. option_map_or (note_lines (file_at files t.origin) t.at) o []) e ∙ ap (λ o. note_lines o t.at l) is
