use Rattle.std.proofs.Common.{ap, subst, sym, ◌∙◌}
use Rattle.std.proofs.lemmas.Bool.{true≢false}
use Rattle.cil_macros.specs.Items.{item_at, word_at}
use Rattle.cil_macros.specs.ListTerms.{all_spotless}
use Rattle.cil_macros.proofs.ItemsThere.{keyword_there}
use Rattle.cil_classes.specs.known.Known.{enabled_in}
use Rattle.cil_classes.proofs.AlikeLemmas.{itself_there}
use Rattle.cil_constraints.specs.Constrained.{IsConstraining}
use Rattle.cil_constraints.proofs.GatherLemmas.{constraint_written, constrains, constrains_back}
use Rattle.cil_constraints.proofs.StatedLemmas.{left_out, none_behind, other_keyword}
use Rattle.cil_constraints.proofs.statement.push_constraints.Goals as goal

pub returns-then-not-is_constraining : goal.returns-then-not-is_constraining
returns-then-not-is_constraining c = λ xs switched names known apart standing classes given row.
    let i = c.args.instances.now in
    let s = enabled_in c.args.known.now in
    let statement = c.statement_there-statement.result.now in
    let there = keyword_there i c.args.at statement c.statement_there-statement.ensures.is in
    none_behind _ _ _ _ (other_keyword xs c.args.known.now (item_at i c.args.at)
    (λ is. true≢false (sym (c.is_constraining.ensures.1 (constrains_back xs s statement.keyword c.args.levels_on switched (subst (IsConstraining xs s) there is))) ∙ c.if-not-is_constraining.true)))

pub returns-then-not-is_enabled : goal.returns-then-not-is_enabled
returns-then-not-is_enabled c = λ xs switched names known apart standing classes given row.
    none_behind _ _ _ _ (left_out xs c.args.known.now (item_at c.args.instances.now c.args.at) (sym c.is_enabled.ensures ∙ c.if-not-is_enabled.true))

pub returns-then-may_have_list : goal.returns-then-may_have_list
returns-then-may_have_list c = λ xs switched names known apart standing classes given row.
    let i = c.args.instances.now in
    let s = enabled_in c.args.known.now in
    let statement = c.statement_there-statement.result.now in
    let there = keyword_there i c.args.at statement c.statement_there-statement.ensures.is in
    let constraining = subst (IsConstraining xs s) (sym there) (constrains xs s statement.keyword c.args.levels_on switched (c.is_constraining.ensures.0 c.if-not-is_constraining.false)) in
    c.in_ok-push_listed.ensures xs constraining (sym c.is_enabled.ensures ∙ c.if-not-is_enabled.false) names known apart standing classes given row

pub returns : goal.returns
returns c = λ xs switched names known apart standing classes given row.
    let i = c.args.instances.now in
    let s = enabled_in c.args.known.now in
    let statement = c.statement_there-statement.result.now in
    let there = keyword_there i c.args.at statement c.statement_there-statement.ensures.is in
    let is = c.is_constraining.ensures.0 c.if-not-is_constraining.false in
    let constraining = subst (IsConstraining xs s) (sym there) (constrains xs s statement.keyword c.args.levels_on switched is) in
    let says = itself_there i c.args.at statement c.statement_there-statement.ensures.is (c.may_have_list.ensures.words c.if-may_have_list.false) (constraint_written statement.keyword c.args.levels_on is) in
    c.in_ok-push_stated.ensures (item_at i c.args.at) (word_at i c.args.at) (ap all_spotless (sym says)) xs constraining (sym c.is_enabled.ensures ∙ c.if-not-is_enabled.false) names known apart standing classes given row
