use Rattle.std.proofs.Common.{◌≡◌, length, refl, subst, sym}
use Rattle.cil_blocks.specs.Places.{Standings, entries_in}
use Rattle.cil_macros.specs.Brings.{AreMarked}
use Rattle.cil_macros.specs.CallFaults.{faults_from}
use Rattle.cil_macros.specs.ListPlaces.{AreWrongMarks}
use Rattle.cil_macros.specs.Macros.{all_standing}
use Rattle.cil_macros.specs.Scene.{placed_of_scene}
use Rattle.cil_macros.specs.Walks.{placed_in, written_in}
use Rattle.cil_macros.proofs.ExpandLemmas.{no_fault, no_step, placed_few, refused_calls}
use Rattle.cil_macros.proofs.MisplacedLemmas.{list_marks_so}
use Rattle.cil_macros.proofs.ThroughLemmas.{call_marks}
use Rattle.cil_macros.proofs.expansion.judge.Goals as goal

pub returns-in-None : goal.returns-in-None
returns-in-None c =
    let scene = c.args.scene.now in
    let s = scene.spaces.now in
    let cs = scene.brought.now.entries.items in
    let placed = c.requires.placed in
    let marked = call_marks s scene.brought.now c.requires.opened.scene.standings c.requires.opened.scene.brought placed c.as_slice.result.now
    (subst (AreMarked (written_in s) cs (length (entries_in s))) (sym c.as_slice.ensures.value) c.in_ok-marks.ensures) in
    let listed = list_marks_so scene c.requires.opened.scene placed c.as_slice-2.result.now (subst (AreWrongMarks scene (length cs)) (sym c.as_slice-2.ensures.value) c.in_ok-lists.ensures) in
    let told = subst (λ (x : Standings). c.in_ok-faults.faults.items ≡ faults_from (written_in x) (all_standing x) c.as_slice.result.now c.as_slice-2.result.now 0 (placed_in x cs)) c.requires.same
    c.in_ok-faults.ensures in
    let lawful = no_fault (written_in s) (all_standing s) (placed_of_scene scene) placed c.as_slice.result.now marked c.as_slice-2.result.now listed c.in_ok-faults.faults.items told
    (c.in-None.ensures.none.0 refl) in
    let none = no_step (written_in s) (all_standing s) (placed_of_scene scene) placed (placed_few s cs c.requires.few) lawful in
    ((lawful, none), none)

pub returns : goal.returns
returns c =
    let scene = c.args.scene.now in
    let s = scene.spaces.now in
    let cs = scene.brought.now.entries.items in
    let placed = c.requires.placed in
    let marked = call_marks s scene.brought.now c.requires.opened.scene.standings c.requires.opened.scene.brought placed c.as_slice.result.now
    (subst (AreMarked (written_in s) cs (length (entries_in s))) (sym c.as_slice.ensures.value) c.in_ok-marks.ensures) in
    let listed = list_marks_so scene c.requires.opened.scene placed c.as_slice-2.result.now (subst (AreWrongMarks scene (length cs)) (sym c.as_slice-2.ensures.value) c.in_ok-lists.ensures) in
    let told = subst (λ (x : Standings). c.in_ok-faults.faults.items ≡ faults_from (written_in x) (all_standing x) c.as_slice.result.now c.as_slice-2.result.now 0 (placed_in x cs)) c.requires.same
    c.in_ok-faults.ensures in
    refused_calls (written_in s) (all_standing s) (placed_of_scene scene) placed c.as_slice.result.now marked c.as_slice-2.result.now listed (placed_few s cs c.requires.few)
    c.in_ok-faults.faults.items c.in-Some.list told c.in-Some.ensures.faults
