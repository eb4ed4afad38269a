-- The texts that names and permissions are. This project's profile.
use Rattle.std.specs.Prelude.{ℕ, Bool, not, ◌==◌, ◌&&◌, List}
use Rattle.std.specs.List.{list_all, slice_split}
use Rattle.cil_syntax.specs.Spelling.{is_name, is_reserved}
use Rattle.cil_format.specs.declared.fault.TableFault.TheVariants.{OutOfRange}
use Rattle.cil_format.specs.Fields.{text}
use Rattle.cil_format.specs.Format.{Format, checked}

-- a declared name, which no reserved word is; it has no dot
abbrev pub is_part : List ℕ → Bool
is_part word = is_name word && not (is_reserved word)

-- a qualified name: each part between dots is such a name, so none is empty, and no dot is in front
abbrev pub is_qualified : List ℕ → Bool
is_qualified word = list_all is_part (slice_split (λ b. b == 46) word)

-- a qualified name, which is judged at its end
abbrev pub name : Format (List ℕ)
name = checked is_qualified OutOfRange text

-- a permission, which has one part
abbrev pub permission : Format (List ℕ)
permission = checked is_part OutOfRange text
