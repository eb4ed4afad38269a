use Rattle.std.specs.Prelude.{length, Some}
use Rattle.std.proofs.Common.{◌≡◌, ◌≤◌, ℕ, List, ◌∷◌, ◌++◌, ◌∙◌, [], ap, subst, sym}
use Rattle.std.proofs.lemmas.Option.{none-some}
use Rattle.cil_known.specs.macros.blocks.Space.{Space}
use Rattle.cil_known.specs.macros.blocks.Namespaces.{space_at}
use Rattle.cil_faults.specs.declared.code.FaultCode.TheVariants as causes
use Rattle.cil_faults.specs.Reported.{fault_at, spelled_fault}
use Rattle.cil_faults.specs.Namespaces.{qualified}
use Rattle.cil_syntax.specs.Forms.{two_words, word_and_term}
use Rattle.cil_syntax.specs.Said.{args_of}
use Rattle.cil_syntax.specs.Scopes.{ScopedWord}
use Rattle.cil_syntax.specs.Terms.{Leaf}
use Rattle.cil_known.specs.macros.Item.{all_replaced}
use Rattle.cil_known.specs.macros.Items.{item_at, may_say_lists, says_as_written, word_at}
use Rattle.cil_known.proofs.macros_lemmas.FormLemmas.{no_pair, pair_across}
use Rattle.cil_known.proofs.macros_lemmas.ItemsThere.{keyword_there, named_there}
use Rattle.cil_attrs.specs.Targets.{IsFlagged, IsToldOf}
use Rattle.cil_attrs.proofs.FaultLemmas.{told_step, two_said}
use Rattle.cil_attrs.proofs.ToldLemmas.{one_more}
use Rattle.cil_attrs.proofs.faults.push_step.Goals as goal

pub spelled-requires : goal.spelled-requires
spelled-requires c = subst (λ ss. c.space.result ≤ length ss) (sym c.namespaces.ensures.value) c.space.ensures.within

pub returns-in_default : goal.returns-in_default
returns-in_default c =
    let i = c.args.instances.now in
    let at = c.args.step.now.at in
    let s = c.statement_there-statement.result.now in
    let (w, v, says, written, named, within) = c.requires in
    let keyword = sym (keyword_there i at s c.statement_there-statement.ensures.is) in
    let args = named_there i at s c.statement_there-statement.ensures.is (ap may_say_lists keyword ∙ named) (ap says_as_written keyword ∙ written) in
    absurd (none-some (w, v) (sym (ap two_words args ∙ no_pair (word_at i at) (args_of s) c.in_default.ensures) ∙ ap two_words (two_said (item_at i at).args w (Leaf v) says)))

pub returns : goal.returns
returns c =
    let i = c.args.instances.now in
    let at = c.args.step.now.at in
    let x = item_at i at in
    let s = c.statement_there-statement.result.now in
    let (w, v, says, written, named, within) = c.requires in
    let keyword = sym (keyword_there i at s c.statement_there-statement.ensures.is) in
    let args = named_there i at s c.statement_there-statement.ensures.is (ap may_say_lists keyword ∙ named) (ap says_as_written keyword ∙ written) in
    let first = word_at i at c.in-Some.words.first in
    let second = word_at i at c.in-Some.words.second in
    let here : word_and_term x.args ≡ Some (first, Leaf second) = ap word_and_term (args ∙ ap (all_replaced (λ bt. bt) (word_at i at)) c.in-Some.ensures ∙ pair_across (word_at i at) c.in-Some.words.first c.in-Some.words.second) in
    let space : c.in_ok-space.space ≡ qualified x.space =
    c.in_ok-space.ensures ∙ ap qualified (ap (λ (ss : List Space). space_at ss c.space.result) c.namespaces.ensures.value ∙ c.space.ensures.is) in
    let told : c.push_fault_in.new.faults.items ≡ c.args.faults.now.items ++ fault_at causes.AliasTwice first.at x.space first.bytes ∷ [] =
    c.in_ok-push_fault_in.ensures
    ∙ ap (λ (b : List ℕ). c.args.faults.now.items ++ spelled_fault causes.AliasTwice c.word-said.result.word.at c.in_ok-space.space b ∷ []) c.as_slice.ensures
    ∙ ap (λ (u : ScopedWord). c.args.faults.now.items ++ spelled_fault causes.AliasTwice u.at c.in_ok-space.space u.bytes ∷ []) c.word-said.ensures
    ∙ ap (λ n. c.args.faults.now.items ++ spelled_fault causes.AliasTwice first.at n first.bytes ∷ []) space in
    one_more c.args.faults.now.items c.push_fault_in.new.faults.items _ (IsToldOf i (IsFlagged c.args.flags.now) c.args.step.now) told
    (told_step i (IsFlagged c.args.flags.now) c.args.step.now first (Leaf second) here (sym c.is_flagged.ensures ∙ c.if-not-is_flagged.false))
