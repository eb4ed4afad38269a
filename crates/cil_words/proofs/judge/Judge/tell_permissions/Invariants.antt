use Rattle.std.proofs.Common.{◌≡◌, ◌+◌, ◌++◌, List, take, true}
use Rattle.std.specs.List.{flat_map}
use Rattle.cil_macros.specs.Item.{OptSet}
use Rattle.cil_macros.specs.Items.{all_placed, scoped_by}
use Rattle.cil_macros.specs.declared.placed_word.PlacedWord.{PlacedWord}
use Rattle.cil_names.specs.Resolves.{Permission as APermission, Word as AWord, resolves}
use Rattle.cil_names.specs.Unresolved.{faults_of_wanted}
use Rattle.cil_names.specs.declared.entry.Entry.{Entry}
use Rattle.cil_syntax.specs.Scopes.{ScopedWord}
use Rattle.cil_words.specs.Judged.{IsJudge, StandAt, could_by, items_by, row_by, space_by, wanted_behind}
use Rattle.cil_words.proofs.judge.Judge.tell_permissions.Given as goal

abbrev pub invariant-loop-permission : goal.invariant-loop-permission
invariant-loop-permission l =
    (l.place ≡ l.number + l.permission-index)
    × ((es : List Entry) (s : OptSet) (c : ScopedWord) → IsJudge l.self es s → resolves (items_by l.self) s (AWord c) ≡ true
    → StandAt (could_by l.self es) (row_by l.self l.at) l.number (wanted_behind (all_placed l.self.instances.now) c l.permissions)
    → l.faults.items ≡ l.fn.faults.items
    ++ flat_map (λ (p : PlacedWord). faults_of_wanted (items_by l.self) s (space_by l.self l.at) (APermission c (scoped_by (all_placed l.self.instances.now) p))) (take l.permission-index l.permissions))
