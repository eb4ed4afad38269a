use Rattle.std.proofs.Common.{List, ◌∙◌, ap, map, subst}
use Rattle.cil_base.specs.Lists.{Lists, text_cmp}
use Rattle.cil_names.specs.declared.entry.Entry.{Entry}
use Rattle.cil_names.specs.Entries.{is_in}
use Rattle.cil_known.specs.Numbers.{IsNameAmong, names_of, place_in, spelled_of}
use Rattle.cil_known.proofs.NumberLemmas.{all_rise, numbers_are}
use Rattle.cil_known.proofs.Qualified.{all_apart}
use Rattle.cil_known.proofs.numbers.numbered.Goals as goal

pub numbers_of-requires-clause-rising : goal.numbers_of-requires-clause-rising
numbers_of-requires-clause-rising c = all_rise c.in_ok-sections.sections (λ kind has. (c.in_ok-sections.ensures kind has).rising)

pub returns-clause-numbers : goal.returns-clause-numbers
returns-clause-numbers c =
    let ss = c.args.lookup.now.namespaces.now in
    let s = is_in c.args.lookup.now.enabled.now in
    let names = names_of c.in_ok-sections.sections in
    numbers_are ss c.args.lookup.now.names.now s names c.in_ok-numbers.numbers.items
    (λ kind has. subst (λ (es : List Entry). Lists text_cmp (IsNameAmong ss es s kind) (names kind)) c.entries-entries.ensures.value (c.in_ok-sections.ensures kind has))
    (c.in_ok-numbers.ensures ∙ ap (map (λ (e : Entry). place_in (names e.kind) (spelled_of ss e))) c.entries-entries.ensures.value)

pub returns-clause-all : goal.returns-clause-all
returns-clause-all c =
    c.in_ok-numbers.ensures
    ∙ ap (map (λ (e : Entry). place_in (names_of c.in_ok-sections.sections e.kind) (spelled_of c.args.lookup.now.namespaces.now e))) c.entries-entries.ensures.value

pub returns-clause-apart : goal.returns-clause-apart
returns-clause-apart c = λ plain.
    let ss = c.args.lookup.now.namespaces.now in
    let s = is_in c.args.lookup.now.enabled.now in
    let names = names_of c.in_ok-sections.sections in
    all_apart ss c.are_namespaces.ensures c.args.lookup.now.names.now c.requires plain s names c.in_ok-numbers.numbers.items
    (numbers_are ss c.args.lookup.now.names.now s names c.in_ok-numbers.numbers.items
    (λ kind has. subst (λ (es : List Entry). Lists text_cmp (IsNameAmong ss es s kind) (names kind)) c.entries-entries.ensures.value (c.in_ok-sections.ensures kind has))
    (c.in_ok-numbers.ensures ∙ ap (map (λ (e : Entry). place_in (names e.kind) (spelled_of ss e))) c.entries-entries.ensures.value))
