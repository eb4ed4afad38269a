use Rattle.std.proofs.Common.{◌≤◌, take}
use Rattle.cil_locate.proofs.CountLemmas.{IsCounted}
use Rattle.cil_locate.proofs.found.files_in.Given as goal

abbrev pub invariant-loop-told : goal.invariant-loop-told
invariant-loop-told l = (l.count ≤ l.told-index) × IsCounted (take l.told-index l.order) l.last l.count
