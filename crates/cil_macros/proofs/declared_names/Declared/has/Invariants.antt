use Rattle.std.proofs.Common.{◌≡◌, drop}
use Rattle.std.specs.List.{list_any}
use Rattle.cil_syntax.specs.Kinds.{kind_number}
use Rattle.cil_macros.specs.DeclaredInBodies.{has_kind}
use Rattle.cil_macros.proofs.declared_names.Declared.has.Given as goal

abbrev pub invariant-loop-kind : goal.invariant-loop-kind
invariant-loop-kind l =
    list_any (λ kind. has_kind l.self l.number l.name (kind_number kind)) (drop l.kind-index l.kind-items)
    ≡ list_any (λ kind. has_kind l.self l.number l.name (kind_number kind)) l.kind-items
