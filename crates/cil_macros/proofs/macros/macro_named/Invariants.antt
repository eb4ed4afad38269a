use Rattle.std.proofs.Common.{◌≡◌, drop}
use Rattle.cil_syntax.specs.Scopes.{asked}
use Rattle.cil_macros.proofs.MacroLemmas.{first_in}
use Rattle.cil_macros.proofs.macros.macro_named.Given as goal

abbrev pub invariant-loop-from : goal.invariant-loop-from
invariant-loop-from l =
    first_in l.spaces (asked l.word.bytes).name (asked l.word.bytes).inner l.from-items
    ≡ first_in l.spaces (asked l.word.bytes).name (asked l.word.bytes).inner (drop l.from-index l.from-items)
