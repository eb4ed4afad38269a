use Rattle.std.proofs.Common.{◌≡◌, true, map, subst, sym, ◌∙◌, ap}
use Rattle.cil_syntax.specs.declared.kind.Keyword.{Keyword}
use Rattle.cil_syntax.specs.declared.kind.Kind.TheVariants as kinds
use Rattle.cil_syntax.specs.Said.{all_said, args_of}
use Rattle.cil_syntax.specs.Scopes.{ScopedWord}
use Rattle.cil_syntax.specs.Table.{entry_of}
use Rattle.cil_syntax.specs.Terms.{Terms}
use Rattle.cil_attrs.specs.macros.Item.{all_words_in}
use Rattle.cil_attrs.specs.macros.Items.{word_at}
use Rattle.cil_attrs.proofs.macros_lemmas.ItemsThere.{keyword_there, said_there}
use Rattle.cil_attrs.specs.names.Resolves.{Word as AWord, all_wanted_in}
use Rattle.cil_attrs.specs.Plain.{are_plain}
use Rattle.cil_attrs.proofs.DeclaredLemmas.{declares_written}
use Rattle.cil_attrs.proofs.PlainLemmas.{all_plain_wanted}
use Rattle.std.specs.Prelude.{Contains}
use Rattle.cil_mls.proofs.category_sets.asks_words.Goals as goal

pub returns : goal.returns
returns c t =
    let i = c.args.instances.now in
    let at = c.args.at in
    let s = c.statement_there-statement.result.now in
    let there = keyword_there i at s c.statement_there-statement.ensures.is in
    let written = declares_written s.keyword kinds.CategorySet (subst (λ (k : Keyword). Contains (entry_of k).declares kinds.CategorySet) there c.requires.set) in
    let says = said_there i at s c.statement_there-statement.ensures.is (c.says_words.ensures c.if-not-says_words.false) written in
    let plain : are_plain (args_of s) ≡ true = sym (c.are_plain.ensures s.at.«module» ∙ ap (λ ts. are_plain (all_said s.at.«module» ts)) c.as_slice.ensures.value) ∙ t in
    subst (λ (ts : Terms ScopedWord). all_wanted_in ts ≡ map AWord (all_words_in ts)) (sym says) (all_plain_wanted (word_at i at) (args_of s) plain)
