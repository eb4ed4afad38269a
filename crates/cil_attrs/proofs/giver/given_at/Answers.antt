use Rattle.std.proofs.Common.{map, sym, ◌≡◌, ◌∙◌, ap, subst}
use Rattle.std.specs.Prelude.{None}
use Rattle.cil_syntax.specs.Forms.{word_and_term}
use Rattle.cil_syntax.specs.Said.{all_said, args_of, said_of}
use Rattle.cil_syntax.specs.Terms.{Leaf, cons, nil}
use Rattle.cil_known.specs.macros.Items.{item_at, word_at}
use Rattle.cil_known.proofs.macros_lemmas.ItemsThere.{keyword_there, named_there}
use Rattle.cil_known.specs.Known.{value_in}
use Rattle.cil_known.specs.names.Resolves.{is_mapping}
use Rattle.cil_known.specs.Spaces.{any_sets}
use Rattle.cil_known.proofs.names_lemmas.ReadingLemmas.{plain_said}
use Rattle.cil_attrs.specs.Givers.{IsNamedSet, NamesNoSet}
use Rattle.cil_attrs.proofs.GiverLemmas.{first_means, it_says, left_out, names_none, other_keyword, other_terms, rest_means, written_of}
use Rattle.cil_attrs.proofs.giver.given_at.Goals as goal

pub returns-then-not-is_giving-clause-gift : goal.returns-then-not-is_giving-clause-gift
returns-then-not-is_giving-clause-gift c = λ xs names which known is are.
    let there = keyword_there c.args.instances.now c.args.at c.statement_there-statement.result.now c.statement_there-statement.ensures.is in
    other_keyword c.args.known.now xs which (item_at c.args.instances.now c.args.at)
    (ap (λ keyword. any_sets which (λ j. j.giving keyword)) there ∙ sym (c.is_giving.ensures which is) ∙ c.if-not-is_giving.true)

pub returns-then-not-is_enabled-clause-gift : goal.returns-then-not-is_enabled-clause-gift
returns-then-not-is_enabled-clause-gift c = λ xs names which known is are.
    left_out c.args.known.now xs which (item_at c.args.instances.now c.args.at) (sym c.is_enabled.ensures ∙ c.if-not-is_enabled.true)

pub returns-in_default-clause-gift : goal.returns-in_default-clause-gift
returns-in_default-clause-gift c = λ xs names which known is are.
    let i = c.args.instances.now in
    let s = c.statement_there-statement.result.now in
    let giving = written_of c.args.space.now which is c.requires.written s.keyword (sym (c.is_giving.ensures which is) ∙ c.if-not-is_giving.false) in
    let says = named_there i c.args.at s c.statement_there-statement.ensures.is giving.named giving.written in
    other_terms c.args.known.now xs which (item_at i c.args.at) (word_at i c.args.at) (args_of s) says
    (subst (λ ts. word_and_term (all_said s.at.«module» ts) ≡ None) c.as_slice.ensures.value c.in_default.ensures)

pub returns-in_default-set_named-clause-gift : goal.returns-in_default-set_named-clause-gift
returns-in_default-set_named-clause-gift c = λ xs names which known is row.
    let k = c.args.known.now in
    let i = c.args.instances.now in
    let s = c.statement_there-statement.result.now in
    let x = item_at i c.args.at in
    let f = word_at i c.args.at in
    let there = keyword_there i c.args.at s c.statement_there-statement.ensures.is in
    let giving = written_of c.args.space.now which is c.requires.written s.keyword (sym (c.is_giving.ensures which is) ∙ c.if-not-is_giving.false) in
    let says = named_there i c.args.at s c.statement_there-statement.ensures.is giving.named giving.written in
    let are = row ∙ ap (map (value_in k)) (plain_said x.keyword x.args (ap is_mapping there ∙ giving.plain)) in
    let e = said_of s.at.«module» c.in-Some.term.now in
    let w = c.in-Some.ensures.0 in
    let said = subst (λ ts. all_said s.at.«module» ts ≡ cons (Leaf w) (cons e nil)) c.as_slice.ensures.value c.in-Some.ensures.1 in
    let means = first_means k xs which x f (args_of s) says w e said c.args.words.now are c.meaning_at.result c.meaning_at.ensures in
    names_none k xs which x f (args_of s) says w e said
    (subst (λ keyword. NamesNoSet k xs which keyword (f w)) (sym there) (c.in_default-set_named.ensures xs names which (f w) known is means))

pub returns-clause-gift : goal.returns-clause-gift
returns-clause-gift c = λ xs names which known is row.
    let k = c.args.known.now in
    let i = c.args.instances.now in
    let s = c.statement_there-statement.result.now in
    let x = item_at i c.args.at in
    let f = word_at i c.args.at in
    let there = keyword_there i c.args.at s c.statement_there-statement.ensures.is in
    let giving = written_of c.args.space.now which is c.requires.written s.keyword (sym (c.is_giving.ensures which is) ∙ c.if-not-is_giving.false) in
    let says = named_there i c.args.at s c.statement_there-statement.ensures.is giving.named giving.written in
    let are = row ∙ ap (map (value_in k)) (plain_said x.keyword x.args (ap is_mapping there ∙ giving.plain)) in
    let e = said_of s.at.«module» c.in-Some.term.now in
    let w = c.in-Some.ensures.0 in
    let said = subst (λ ts. all_said s.at.«module» ts ≡ cons (Leaf w) (cons e nil)) c.as_slice.ensures.value c.in-Some.ensures.1 in
    let means = first_means k xs which x f (args_of s) says w e said c.args.words.now are c.meaning_at.result c.meaning_at.ensures in
    record {
      word = f w;
      says = it_says k xs which x f (args_of s) says w e said;
      enabled = sym c.is_enabled.ensures ∙ c.if-not-is_enabled.false;
      set = subst (λ keyword. IsNamedSet k xs which keyword (f w) c.in-Some-set_named.set) (sym there) (c.in-Some-set_named.ensures xs names which (f w) known is means);
      words = rest_means k xs which x f (args_of s) says w e said c.args.words.now are c.behind_first.result.now c.behind_first.ensures;
    }
