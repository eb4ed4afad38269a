use Rattle.std.proofs.Common.{◌∙◌, ap, refl, sym}
use Rattle.cil_syntax.specs.Forms.{two_words}
use Rattle.cil_syntax.specs.Said.{args_of}
use Rattle.cil_syntax.specs.Scopes.{ScopedWord}
use Rattle.cil_macros.specs.Items.{item_at, items_in, word_at}
use Rattle.cil_macros.proofs.FormLemmas.{no_pair}
use Rattle.cil_macros.proofs.ItemsThere.{keyword_there, named_there}
use Rattle.cil_names.specs.Resolves.{is_class_common}
use Rattle.cil_names.proofs.SharedLemmas.{joins_as_written}
use Rattle.cil_classes.proofs.CommonLemmas.{joins_no_lists, says_words}
use Rattle.cil_classes.proofs.commons.class_word.Goals as goal

pub returns-in_default : goal.returns-in_default
returns-in_default c = λ joins.
    let i = c.args.instances.now in
    let s = c.statement_there-statement.result.now in
    let is = c.statement_there-statement.ensures.is in
    let joins_there = ap is_class_common (sym (keyword_there i c.args.at s is)) ∙ joins in
    let says = named_there i c.args.at s is (joins_no_lists s.keyword joins_there) (joins_as_written s.keyword joins_there) in
    ap two_words says ∙ no_pair (word_at i c.args.at) (args_of s) c.in_default.ensures

pub returns : goal.returns
returns c = λ joins.
    let i = c.args.instances.now in
    let s = c.statement_there-statement.result.now in
    let is = c.statement_there-statement.ensures.is in
    let joins_there = ap is_class_common (sym (keyword_there i c.args.at s is)) ∙ joins in
    let says = named_there i c.args.at s is (joins_no_lists s.keyword joins_there) (joins_as_written s.keyword joins_there) in
    let words = c.in-Some.words in
    record {
      cause = refl;
      first = word_at i c.args.at words.first;
      second = word_at i c.args.at words.second;
      are = says_words (items_in i) (item_at i c.args.at) (word_at i c.args.at) (args_of s) says words.first words.second c.in-Some.ensures;
      written = ap (λ (w : ScopedWord). w.at) c.word-said.ensures;
      spelled = c.as_slice.ensures ∙ ap (λ (w : ScopedWord). w.bytes) c.word-said.ensures;
    }
