use Rattle.std.proofs.Common.{◌∙◌, sym}
use Rattle.std.proofs.lemmas.Bool.{true≢false}
use Rattle.cil_syntax.specs.declared.kind.Kind.TheVariants as kinds
use Rattle.cil_macros.specs.Items.{item_at, items_in}
use Rattle.cil_macros.proofs.ItemsThere.{keyword_there}
use Rattle.cil_conditions.specs.known.Known.{enabled_in}
use Rattle.cil_rules.proofs.BehindLemmas.{none_behind}
use Rattle.cil_rules.proofs.BranchLemmas.{put_is_said}
use Rattle.cil_rules.proofs.RuleLemmas.{not_taken, other_keyword}
use Rattle.cil_rules.specs.Records.{spelled}
use Rattle.cil_rules.proofs.gather.push_in_branch.Goals as goal

pub returns-then-not-same_keyword : goal.returns-then-not-same_keyword
returns-then-not-same_keyword c = λ names known apart standing classes given branches row.
    let i = c.args.instances.now in
    let there = keyword_there i c.args.at c.statement_there.result.now c.statement_there.ensures.is in
    none_behind _ _ _ _ _ _ (other_keyword (items_in i) c.args.known.now c.args.keyword (spelled (names kinds.Boolean)) (item_at i c.args.at)
    (λ e. true≢false (sym (c.same_keyword.ensures.1 (sym there ∙ e)) ∙ c.if-not-same_keyword.true)))

pub returns-in_default : goal.returns-in_default
returns-in_default c = λ names known apart standing classes given branches row.
    let i = c.args.instances.now in
    none_behind _ _ _ _ _ _ (not_taken (items_in i) c.args.known.now c.args.keyword (spelled (names kinds.Boolean)) (item_at i c.args.at)
    (rw c.in_default.is at c.in_ok-branch.ensures (enabled_in c.args.known.now) (names kinds.Boolean) branches))

pub returns : goal.returns
returns c = λ names known apart standing classes given branches row.
    let i = c.args.instances.now in
    let s = enabled_in c.args.known.now in
    let put = rw c.in-Some.is at c.in_ok-branch.ensures s (names kinds.Boolean) branches in
    c.in_ok-push_rules.ensures (items_in i) c.args.branches.now.rows (spelled (names kinds.Boolean))
    (put_is_said (items_in i) s (names kinds.Boolean) (item_at i c.args.at).branch _ put) put names known apart standing classes given row
