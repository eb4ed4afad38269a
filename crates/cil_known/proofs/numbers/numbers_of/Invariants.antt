use Rattle.std.proofs.Common.{◌≡◌, ◌++◌, drop, map}
use Rattle.cil_names.specs.declared.entry.Entry.{Entry}
use Rattle.cil_known.specs.Numbers.{names_of, place_in, spelled_of}
use Rattle.cil_known.proofs.numbers.numbers_of.Given as goal

abbrev pub invariant-loop-entry : goal.invariant-loop-entry
invariant-loop-entry l =
    l.numbers.items ++ map (λ (e : Entry). place_in (names_of l.sections e.kind) (spelled_of l.namespaces e)) (drop l.entry-index l.entries)
    ≡ map (λ (e : Entry). place_in (names_of l.sections e.kind) (spelled_of l.namespaces e)) l.entries
