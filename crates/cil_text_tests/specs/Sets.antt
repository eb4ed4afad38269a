-- Sets of modules that tests are given.
use Rattle.std.specs.Prelude.{◌↔◌, ℕ, List, Contains}

-- the modules are just these texts
abbrev pub IsSetOf : (texts modules : List (List ℕ)) → Type 0
IsSetOf texts modules = (text : List ℕ) → Contains modules text ↔ Contains texts text
