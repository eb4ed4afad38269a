use Rattle.std.proofs.Common.{sym, ◌∙◌, ap, subst}
use Rattle.cil_base.specs.Lists.{contains_none}
use Rattle.cil_base.specs.Places.{not_there, there_as}
use Rattle.cil_syntax.specs.Program.{program_of}
use Rattle.cil_syntax.specs.Said.{all_said}
use Rattle.cil_syntax.specs.Scopes.{IsTaken, names_backwards, scope_at}
use Rattle.cil_syntax.specs.Written.{Written}
use Rattle.cil_blocks.specs.Contents.{first_word}
use Rattle.cil_blocks.specs.Namespaces.{space_at}
use Rattle.cil_blocks.proofs.NameLemmas.{args_some, at_none}
use Rattle.cil_blocks.proofs.TargetsSo.{first_below, no_targets, no_word, some_word, the_targets}
use Rattle.cil_blocks.proofs.targets.targets_at.Goals as goal

pub returns-in_default-clause-named : goal.returns-in_default-clause-named
returns-in_default-clause-named c =
    no_targets (program_of c.args.statements.now) c.args.number
    (ap (λ (w : Written). first_word w.statement.args)
    (at_none c.args.statements.now c.requires.nested c.args.number (not_there c.args.statements.now c.args.number c.in_default.ensures.lookup.3)))

pub returns-in_default-word_and_terms-clause-named : goal.returns-in_default-word_and_terms-clause-named
returns-in_default-word_and_terms-clause-named c =
    let there = there_as c.args.statements.now c.args.number c.in-Some.statement.now c.in-Some.ensures.lookup.3.0 c.in-Some.ensures.lookup.1 in
    no_targets (program_of c.args.statements.now) c.args.number
    (ap first_word (args_some c.args.statements.now c.requires.nested c.args.number c.in-Some.statement.now there)
    ∙ ap (λ ts. first_word (all_said c.in-Some.statement.now.at.«module» ts)) (sym c.as_slice.ensures.value)
    ∙ no_word (all_said c.in-Some.statement.now.at.«module» c.as_slice.result.now) c.in_default-word_and_terms.ensures)

pub returns-clause-named : goal.returns-clause-named
returns-clause-named c =
    let there = there_as c.args.statements.now c.args.number c.in-Some.statement.now c.in-Some.ensures.lookup.3.0 c.in-Some.ensures.lookup.1 in
    let ss = c.args.spaces.now.namespaces in
    the_targets (program_of c.args.statements.now) c.args.spaces.now.numbers c.args.blocks.now c.requires.listed c.args.number c.in-Some-word_and_terms.front.word c.path_of-path.result.global
    c.path_of-path.result.names.now c.first_named.result.now (space_at ss c.asked_from-from.result)
    (ap first_word (args_some c.args.statements.now c.requires.nested c.args.number c.in-Some.statement.now there)
    ∙ ap (λ ts. first_word (all_said c.in-Some.statement.now.at.«module» ts)) (sym c.as_slice.ensures.value)
    ∙ some_word (all_said c.in-Some.statement.now.at.«module» c.as_slice.result.now) _ c.in-Some-word_and_terms.front.word c.in-Some-word_and_terms.ensures)
    (subst (λ bytes. IsTaken bytes c.path_of-path.result.global c.path_of-path.result.names.now) c.as_slice-2.ensures c.path_of-path.ensures.taken)
    c.asked_from-from.ensures.is (c.first_named.ensures (program_of c.args.statements.now) c.requires.written.numbered)

pub returns-in_default-clause-numbers : goal.returns-in_default-clause-numbers
returns-in_default-clause-numbers c = λ k m. absurd (contains_none k m)

pub returns-in_default-word_and_terms-clause-numbers : goal.returns-in_default-word_and_terms-clause-numbers
returns-in_default-word_and_terms-clause-numbers c = λ k m. absurd (contains_none k m)

pub returns-clause-numbers : goal.returns-clause-numbers
returns-clause-numbers c =
    first_below (program_of c.args.statements.now) c.args.spaces.now.numbers c.args.blocks.now c.requires.listed (names_backwards c.path_of-path.result.names.now)
    (scope_at (space_at c.args.spaces.now.namespaces c.asked_from-from.result)) c.first_named.result.now
    (c.first_named.ensures (program_of c.args.statements.now) c.requires.written.numbered)
