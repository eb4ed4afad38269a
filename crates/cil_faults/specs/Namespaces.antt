-- Namespaces, and how they are told. CIL Reference Guide, "Namespaces".
use Rattle.std.specs.Prelude.{ℕ, List, reverse}
use Rattle.std.specs.List.{join_with_byte}

-- a namespace: the names of the blocks round it, the innermost first. The global one is empty
abbrev pub Namespace : Type 0
Namespace = List (List ℕ)

-- a namespace as it is told: its names joined by dots, the outermost first
abbrev pub qualified : List (List ℕ) → List ℕ
qualified space = join_with_byte 46 (reverse space)
