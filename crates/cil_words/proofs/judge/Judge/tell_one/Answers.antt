use Rattle.std.proofs.Common.{◌++◌, ◌∙◌, ap, append-nil, refl, subst, sym}
use Rattle.std.proofs.lemmas.Result.{on_ok_weaker}
use Rattle.cil_macros.specs.Items.{all_placed, scoped_by}
use Rattle.cil_names.specs.Asked.{wanted_by}
use Rattle.cil_names.specs.Resolves.{Word as AWord}
use Rattle.cil_names.specs.Unresolved.{faults_of_all, faults_of_wanted}
use Rattle.cil_words.specs.Judged.{StandAt, could_by, items_by, row_by, space_by, wanted_behind}
use Rattle.cil_words.proofs.JudgeLemmas.{class_cell, class_missing, class_there, judged_so, live_is, word_cell}
use Rattle.cil_words.proofs.judge.Judge.tell_one.Goals as goal

pub returns-in-Word : goal.returns-in-Word
returns-in-Word c =
    let j = c.args.self.now in
    let xs = items_by j in
    let ps = all_placed j.instances.now in
    let n = space_by j c.args.at in
    let old = c.args.faults.now.items in
    let w = AWord (scoped_by ps c.in-Word.word) in
    on_ok_weaker c.unless_live.result
    (λ so es s is stand.
    so ∙ ap (λ l. old ++ l)
    (judged_so xs s n w _ refl (live_is j es s is w _ (word_cell ps (could_by j es) (row_by j c.args.at) c.args.number c.args.one.now stand c.in-Word.word c.in-Word.is))
    ∙ sym (append-nil (faults_of_wanted xs s n w)))
    ∙ ap (λ o. old ++ faults_of_all xs s n (wanted_by ps o)) (sym c.in-Word.is))
    c.unless_live.ensures

pub returns-then-is_live : goal.returns-then-is_live
returns-then-is_live c =
    let j = c.args.self.now in
    let xs = items_by j in
    let ps = all_placed j.instances.now in
    let n = space_by j c.args.at in
    let old = c.args.faults.now.items in
    let row = row_by j c.args.at in
    let class_ = scoped_by ps c.in-ClassList.class in
    let slice = c.as_slice.ensures.value in
    on_ok_weaker c.tell_permissions.result
    (λ so es s is stand.
    let could = could_by j es in
    let resolved =
    sym (live_is j es s is (AWord class_) _ (class_cell ps could row c.args.number c.args.one.now stand c.in-ClassList.class _ c.in-ClassList.is))
    ∙ (sym c.is_live.ensures ∙ c.if-is_live.true) in
    let behind = subst (λ l. StandAt could row c.args.number (wanted_behind ps class_ l)) (sym slice) (subst (λ o. StandAt could row c.args.number (wanted_by ps o)) c.in-ClassList.is stand) in
    class_there xs s n ps class_ c.as_slice.result.now old _ resolved (so es s class_ is resolved behind)
    ∙ ap (λ l. old ++ faults_of_all xs s n (wanted_behind ps class_ l)) slice
    ∙ ap (λ o. old ++ faults_of_all xs s n (wanted_by ps o)) (sym c.in-ClassList.is))
    c.tell_permissions.ensures

pub returns-else-is_live : goal.returns-else-is_live
returns-else-is_live c =
    let j = c.args.self.now in
    let xs = items_by j in
    let ps = all_placed j.instances.now in
    let n = space_by j c.args.at in
    let old = c.args.faults.now.items in
    let class_ = scoped_by ps c.in-ClassList.class in
    on_ok_weaker c.report.result
    (λ so es s is stand.
    let missing =
    sym (live_is j es s is (AWord class_) _ (class_cell ps (could_by j es) (row_by j c.args.at) c.args.number c.args.one.now stand c.in-ClassList.class _ c.in-ClassList.is))
    ∙ (sym c.is_live.ensures ∙ c.if-is_live.false) in
    class_missing xs s n ps class_ _ old _ missing so ∙ ap (λ o. old ++ faults_of_all xs s n (wanted_by ps o)) (sym c.in-ClassList.is))
    c.report.ensures
