use Rattle.std.proofs.Common.{ap, sym, ◌∙◌}
use Rattle.std.proofs.lemmas.Bool.{true≢false}
use Rattle.cil_macros.specs.Items.{item_at, says_as_written, word_at}
use Rattle.cil_macros.specs.ListTerms.{all_spotless}
use Rattle.cil_macros.proofs.ItemsThere.{keyword_there}
use Rattle.cil_classes.proofs.AlikeLemmas.{itself_there}
use Rattle.cil_rules.proofs.BehindLemmas.{none_behind}
use Rattle.cil_rules.proofs.RuleLemmas.{left_out, other_keyword}
use Rattle.cil_rules.proofs.statement.push_rules.Goals as goal

pub returns-then-not-same_keyword : goal.returns-then-not-same_keyword
returns-then-not-same_keyword c = λ xs branches how taken put names known apart standing classes given are.
    let there = keyword_there c.args.instances.now c.args.at c.statement_there-statement.result.now c.statement_there-statement.ensures.is in
    none_behind _ _ _ _ _ _ (other_keyword xs c.args.known.now c.args.keyword how (item_at c.args.instances.now c.args.at) (λ e. true≢false (sym (c.same_keyword.ensures.1 (sym there ∙ e)) ∙ c.if-not-same_keyword.true)))

pub returns-then-not-is_enabled : goal.returns-then-not-is_enabled
returns-then-not-is_enabled c = λ xs branches how taken put names known apart standing classes given are.
    none_behind _ _ _ _ _ _ (left_out xs c.args.known.now c.args.keyword how (item_at c.args.instances.now c.args.at) (sym c.is_enabled.ensures ∙ c.if-not-is_enabled.true))

pub returns-then-may_have_list : goal.returns-then-may_have_list
returns-then-may_have_list c = λ xs branches how taken put names known apart standing classes given row.
    let there = keyword_there c.args.instances.now c.args.at c.statement_there-statement.result.now c.statement_there-statement.ensures.is in
    c.in_ok-push_listed.ensures xs branches c.args.keyword how (there ∙ c.same_keyword.ensures.0 c.if-not-same_keyword.false) c.requires.plain (sym c.is_enabled.ensures ∙ c.if-not-is_enabled.false) taken put names known apart
    standing classes given row

pub returns : goal.returns
returns c = λ xs branches how taken put names known apart standing classes given row.
    let i = c.args.instances.now in
    let s = c.statement_there-statement.result.now in
    let there = keyword_there i c.args.at s c.statement_there-statement.ensures.is in
    let is = c.same_keyword.ensures.0 c.if-not-same_keyword.false in
    let says = itself_there i c.args.at s c.statement_there-statement.ensures.is (c.may_have_list.ensures.words c.if-may_have_list.false) (ap says_as_written is ∙ c.requires.written) in
    c.in_ok-push_said.ensures (item_at i c.args.at) (word_at i c.args.at) (ap all_spotless (sym says)) xs branches c.args.keyword how (there ∙ is) c.requires.plain (sym c.is_enabled.ensures ∙ c.if-not-is_enabled.false) taken put names
    known apart standing classes given row
