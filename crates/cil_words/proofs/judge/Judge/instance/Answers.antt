use Rattle.std.proofs.Common.{◌++◌, ◌∙◌, ap, append-nil, sym}
use Rattle.std.specs.List.{list_all}
use Rattle.std.proofs.lemmas.Bool.{true≢false}
use Rattle.cil_macros.specs.Items.{item_at}
use Rattle.std.proofs.lemmas.Result.{on_ok_weaker}
use Rattle.cil_names.specs.Resolves.{words_of}
use Rattle.cil_names.proofs.FillLemmas.{faults_outside, faults_within}
use Rattle.cil_words.specs.Judged.{has_one, items_by}
use Rattle.cil_words.proofs.JudgeLemmas.{none_in, not_outside, row_is}
use Rattle.cil_words.proofs.judge.Judge.instance.Goals as goal

pub returns-then-not-is_outside : goal.returns-then-not-is_outside
returns-then-not-is_outside c = λ es s is.
    let j = c.args.self.now in
    let x = item_at j.instances.now c.args.at in
    let old = c.args.faults.now.items in
    sym (ap (λ l. old ++ l) (faults_within (items_by j) s x (not_outside x.round (λ e. true≢false (sym (c.is_outside.ensures.1 e) ∙ c.if-not-is_outside.true)))) ∙ append-nil old)

pub returns-then-is_full : goal.returns-then-is_full
returns-then-is_full c = λ es s is.
    let j = c.args.self.now in
    let x = item_at j.instances.now c.args.at in
    let old = c.args.faults.now.items in
    let full = ap (list_all (has_one j.declared.now)) (sym (row_is j es s is c.args.at c.requires)) ∙ sym c.is_full.ensures ∙ c.if-is_full.true in
    sym (ap (λ l. old ++ l) (faults_outside (items_by j) s x (c.is_outside.ensures.0 c.if-not-is_outside.false) ∙ none_in j es s is x.space (words_of x) full) ∙ append-nil old)

pub returns : goal.returns
returns c =
    let j = c.args.self.now in
    let x = item_at j.instances.now c.args.at in
    on_ok_weaker c.tell_all.result
    (λ so es s is. so es s is ∙ ap (λ l. c.args.faults.now.items ++ l) (sym (faults_outside (items_by j) s x (c.is_outside.ensures.0 c.if-not-is_outside.false))))
    c.tell_all.ensures
