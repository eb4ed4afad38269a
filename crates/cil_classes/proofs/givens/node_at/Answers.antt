use Rattle.std.proofs.Common.{ap, ◌∙◌}
use Rattle.std.proofs.lemmas.Result.{IfOk-from_err}
use Rattle.cil_syntax.specs.Said.{all_said}
use Rattle.cil_macros.specs.Items.{item_at, says_lists, word_at}
use Rattle.cil_macros.specs.Listed.{all_parts_of}
use Rattle.cil_macros.specs.ListTerms.{all_spotless, numbered}
use Rattle.cil_macros.proofs.FormLemmas.{all_across}
use Rattle.cil_classes.proofs.givens.node_at.Goals as goal

pub terms-requires-clause-lists : goal.terms-requires-clause-lists
terms-requires-clause-lists c = ap says_lists c.in_default.ensures.keyword

pub returns-in-Some : goal.returns-in-Some
returns-in-Some c = λ xs names known are.
    c.node_of.ensures c.args.known.now xs (word_at c.args.instances.now c.args.at) (item_at c.args.instances.now c.args.at) (c.in-Some.ensures.is xs names known are)

pub returns : goal.returns
returns c = λ xs names known are.
    let x = item_at c.args.instances.now c.args.at in
    let f = numbered (all_parts_of x.args) in
    c.node_of-2.ensures c.args.known.now xs f x
    (c.mapping_giving.ensures xs names x f known c.in_default.ensures.enabled c.in_default.ensures.keyword
    (ap (λ ts. all_spotless (all_across f (all_said 0 ts))) c.as_slice.ensures.value ∙ c.in_ok-terms.ensures 0) are)

pub returns-in_err-terms : goal.returns-in_err-terms
returns-in_err-terms c = IfOk-from_err c.from_residual.result _ c.from_residual.ensures.0
