use Rattle.std.proofs.Common.{take}
use Rattle.cil_decide.proofs.ContextParts.{NoneOf}
use Rattle.cil_decide.proofs.context.by_alias.Given as goal

abbrev pub invariant-loop-alias : goal.invariant-loop-alias
invariant-loop-alias l = NoneOf l.tables l.names.role.now l.names.kind.now l.bearer (take l.alias-index l.alias-items)
