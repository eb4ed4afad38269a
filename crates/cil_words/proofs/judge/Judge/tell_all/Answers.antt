use Rattle.std.proofs.Common.{◌++◌, ◌∙◌, ap, map, sym}
use Rattle.std.specs.List.{flat_map}
use Rattle.std.proofs.lemmas.Result.{on_ok_weaker}
use Rattle.cil_macros.specs.Items.{all_placed}
use Rattle.cil_names.specs.Asked.{wanted_by}
use Rattle.cil_names.specs.Unresolved.{faults_of_all}
use Rattle.cil_words.specs.Judged.{could_by, items_by, space_by}
use Rattle.cil_words.proofs.JudgeLemmas.{all_faults, row_is}
use Rattle.cil_words.proofs.judge.Judge.tell_all.Goals as goal

pub returns : goal.returns
returns c =
    let j = c.args.self.now in
    let g = wanted_by (all_placed j.instances.now) in
    let them = ap (flat_map g) c.as_slice.ensures.value ∙ c.in_ok-asked.ensures in
    on_ok_weaker c.tell.result
    (λ so es s is.
    so es s is (row_is j es s is c.args.at c.requires ∙ ap (map (could_by j es)) (sym them))
    ∙ ap (λ l. c.args.faults.now.items ++ l) (all_faults (items_by j) s (space_by j c.args.at) g c.as_slice.result.now ∙ ap (faults_of_all (items_by j) s (space_by j c.args.at)) them))
    c.tell.ensures
