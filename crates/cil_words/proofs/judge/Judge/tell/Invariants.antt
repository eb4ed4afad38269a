use Rattle.std.proofs.Common.{◌≡◌, ◌++◌, List, length, map, take}
use Rattle.std.specs.List.{flat_map}
use Rattle.cil_macros.specs.Item.{OptSet}
use Rattle.cil_macros.specs.Items.{all_placed}
use Rattle.cil_names.specs.Asked.{wanted_by}
use Rattle.cil_names.specs.Unresolved.{faults_of_all}
use Rattle.cil_names.specs.declared.entry.Entry.{Entry}
use Rattle.cil_words.specs.Judged.{IsJudge, could_by, items_by, row_by, space_by}
use Rattle.cil_words.proofs.judge.Judge.tell.Given as goal

abbrev pub invariant-loop-one : goal.invariant-loop-one
invariant-loop-one l =
    (l.number ≡ length (flat_map (wanted_by (all_placed l.self.instances.now)) (take l.one-index l.asked)))
    × ((es : List Entry) (s : OptSet) → IsJudge l.self es s → row_by l.self l.at ≡ map (could_by l.self es) (flat_map (wanted_by (all_placed l.self.instances.now)) l.asked)
    → l.faults.items ≡ l.fn.faults.items ++ flat_map (λ one. faults_of_all (items_by l.self) s (space_by l.self l.at) (wanted_by (all_placed l.self.instances.now) one)) (take l.one-index l.asked))
