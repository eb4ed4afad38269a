use Rattle.std.proofs.Common.{ap, sym, ◌∙◌}
use Rattle.std.proofs.lemmas.Bool.{true≢false}
use Rattle.cil_syntax.specs.Said.{all_said}
use Rattle.cil_macros.specs.Items.{item_at, may_say_lists, says_as_written, word_at}
use Rattle.cil_macros.specs.ListTerms.{all_spotless}
use Rattle.cil_macros.proofs.FormLemmas.{all_across}
use Rattle.cil_macros.proofs.ItemsThere.{keyword_there, named_there}
use Rattle.cil_known.specs.Known.{enabled_in}
use Rattle.cil_classes.proofs.AlikeLemmas.{itself_there}
use Rattle.cil_classes.proofs.GivingLemmas.{not_enabled, other_statement}
use Rattle.cil_classes.proofs.givens.giving_at.Goals as goal

pub returns-then-not-is_enabled : goal.returns-then-not-is_enabled
returns-then-not-is_enabled c = record {
  is = λ xs names known are.
      not_enabled xs (enabled_in c.args.known.now) (item_at c.args.instances.now c.args.at) (sym c.is_enabled.ensures ∙ c.if-not-is_enabled.true);
}

pub returns-then-same_keyword : goal.returns-then-same_keyword
returns-then-same_keyword c = record {
  is = λ xs names known are.
      let i = c.args.instances.now in
      let s = c.statement_there-statement.result.now in
      let keyword = keyword_there i c.args.at s c.statement_there-statement.ensures.is in
      let is = c.same_keyword.ensures.0 c.if-same_keyword.true in
      let says = named_there i c.args.at s c.statement_there-statement.ensures.is (ap may_say_lists is) (ap says_as_written is) in
      c.set_giving.ensures xs names (item_at i c.args.at) (word_at i c.args.at) known (sym c.is_enabled.ensures ∙ c.if-not-is_enabled.false) (keyword ∙ is) says are;
}

pub returns-then-not-same_keyword : goal.returns-then-not-same_keyword
returns-then-not-same_keyword c = record {
  is = λ xs names known are.
      let i = c.args.instances.now in
      let there = keyword_there i c.args.at c.statement_there-statement.result.now c.statement_there-statement.ensures.is in
      other_statement xs (enabled_in c.args.known.now) (item_at i c.args.at) (λ e. true≢false (sym (c.same_keyword.ensures.1 (sym there ∙ e)) ∙ c.if-same_keyword.false))
      (λ e. true≢false (sym (c.same_keyword-2.ensures.1 (sym there ∙ e)) ∙ c.if-not-same_keyword.true));
}

pub returns-then-may_have_list : goal.returns-then-may_have_list
returns-then-may_have_list c = record {
  enabled = sym c.is_enabled.ensures ∙ c.if-not-is_enabled.false;
  keyword = keyword_there c.args.instances.now c.args.at c.statement_there-statement.result.now c.statement_there-statement.ensures.is ∙ c.same_keyword-2.ensures.0 c.if-not-same_keyword.false;
}

pub returns : goal.returns
returns c = record {
  is = λ xs names known are.
      let i = c.args.instances.now in
      let s = c.statement_there-statement.result.now in
      let keyword = keyword_there i c.args.at s c.statement_there-statement.ensures.is in
      let is = c.same_keyword-2.ensures.0 c.if-not-same_keyword.false in
      let says = itself_there i c.args.at s c.statement_there-statement.ensures.is (c.may_have_list.ensures.words c.if-may_have_list.false) (ap says_as_written is) in
      c.mapping_giving.ensures xs names (item_at i c.args.at) (word_at i c.args.at) known (sym c.is_enabled.ensures ∙ c.if-not-is_enabled.false) (keyword ∙ is)
      (ap (λ ts. all_spotless (all_across (word_at i c.args.at) (all_said s.at.«module» ts))) c.as_slice.ensures.value ∙ ap all_spotless (sym says)) are;
}
