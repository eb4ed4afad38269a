use Rattle.std.proofs.Common.{refl, sym, ◌∙◌, ap}
use Rattle.cil_macros.specs.Calls.{is_call}
use Rattle.cil_macros.specs.Items.{item_at}
use Rattle.cil_macros.proofs.ItemsThere.{keyword_there}
use Rattle.cil_ranges.specs.Inside.{says_levels}
use Rattle.cil_ranges.proofs.CheckLemmas.{said_added, words_alone}
use Rattle.cil_ranges.proofs.WalkLemmas.{done}
use Rattle.cil_ranges.proofs.check.push_faults_at.Goals as goal

pub returns-then-not-may_have_list : goal.returns-then-not-may_have_list
returns-then-not-may_have_list c =
    let there = keyword_there c.args.instances.now c.args.at c.statement_there.result.now c.statement_there.ensures.is in
    words_alone c.args.known.now c.args.judge.now c.args.faults.now.items (item_at c.args.instances.now c.args.at) _ ((c.if-not-may_have_list.ensures.words refl).call (ap is_call (there ∙ c.if-same_keyword.ensures.0 refl)))

pub returns : goal.returns
returns c =
    let there = keyword_there c.args.instances.now c.args.at c.statement_there.result.now c.statement_there.ensures.is in
    done c.push_walked.result
    (said_added c.args.known.now c.args.judge.now c.args.faults.now.items (item_at c.args.instances.now c.args.at) c.push_walked.new.faults.items (ap says_levels there ∙ sym c.if-not-says_levels.ensures) (sym c.if-not-is_enabled.ensures))
    c.push_walked.ensures
