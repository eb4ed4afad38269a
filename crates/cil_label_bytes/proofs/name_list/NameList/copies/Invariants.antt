use Rattle.std.proofs.Common.{◌≡◌, take}
use Rattle.cil_label_bytes.specs.Keys.{texts_of}
use Rattle.cil_label_bytes.proofs.name_list.NameList.copies.Given as goal

abbrev pub invariant-loop-name : goal.invariant-loop-name
invariant-loop-name l = l.copies.items ≡ texts_of (take l.name-index l.name-items)
