use Rattle.std.proofs.Common.{refl}
use Rattle.std.proofs.lemmas.Result.{IfOk-weaker}
use Rattle.cil_syntax.specs.Said.{said_of}
use Rattle.cil_names.specs.Unresolved.{listed_at}
use Rattle.cil_classes.proofs.FormedLemmas.{are_among, form_there, no_form, numbered_there, parts_there, rising_there}
use Rattle.cil_classes.proofs.GivenLemmas.{class_means}
use Rattle.cil_classes.proofs.LeadLemmas.{led_by_map, led_nowhere, no_run, unmapped}
use Rattle.cil_macros.proofs.FormLemmas.{across, no_class}
use Rattle.cil_classes.proofs.parts.mapped_nodes.Goals as goal

pub returns-in_default : goal.returns-in_default
returns-in_default c = λ xs names f known nodes begin form.
    let said = said_of c.args.«module» c.args.term.now in
    led_nowhere c.args.known.now xs names known c.args.nodes.now nodes (across f said) _ c.new.ensures.items (no_form f c.args.«module» c.args.term.now form) (no_class f said c.in_default.ensures)

pub returns-in_default-entry_of : goal.returns-in_default-entry_of
returns-in_default-entry_of c = λ xs names f known nodes begin form.
    let k = c.args.known.now in
    let said = said_of c.args.«module» c.args.term.now in
    let word = c.in-Some.parts.class in
    let expression = said_of c.args.«module» c.in-Some.parts.permissions.now in
    unmapped k xs names known c.args.nodes.now nodes (across f said) (f word) (across f expression) (parts_there f said word expression c.in-Some.ensures) _ c.new-in_default-entry_of.ensures.items
    (c.in_default-entry_of.ensures xs names (f word) known (class_means k f said word expression c.in-Some.ensures c.args.words.now begin c.meaning_at.result c.meaning_at.ensures))

pub returns-then-run : goal.returns-then-run
returns-then-run c = λ xs names f known nodes begin form.
    let k = c.args.known.now in
    let said = said_of c.args.«module» c.args.term.now in
    let word = c.in-Some.parts.class in
    let expression = said_of c.args.«module» c.in-Some.parts.permissions.now in
    no_run k xs names known c.args.nodes.now nodes (across f said) (f word) (across f expression) (parts_there f said word expression c.in-Some.ensures) c.in-Some-entry_of.entry
    (c.in-Some-entry_of.ensures xs names (f word) known (class_means k f said word expression c.in-Some.ensures c.args.words.now begin c.meaning_at.result c.meaning_at.ensures))
    c.run_of-run.result c.run_of-run.ensures.run _ c.new-then-run.ensures.items c.if-run.true

pub returns : goal.returns
returns c =
    let k = c.args.known.now in
    let m = c.args.«module» in
    let said = said_of m c.args.term.now in
    let word = c.in-Some.parts.class in
    let expression = said_of m c.in-Some.parts.permissions.now in
    let d = c.in-Some-entry_of.entry in
    let run = c.run_of-run.result in
    IfOk-weaker c.held_nodes.result _ _
    (λ from held xs names f known nodes begin form.
    let for = c.in-Some-entry_of.ensures xs names (f word) known (class_means k f said word expression c.in-Some.ensures c.args.words.now begin c.meaning_at.result c.meaning_at.ensures) in
    led_by_map k xs names known c.args.nodes.now nodes (across f said) (f word) (across f expression) (parts_there f said word expression c.in-Some.ensures) d for run c.run_of-run.ensures.run
    (form_there f said word expression c.in-Some.ensures) c.run_of-run.ensures.within from.items
    (held f m (listed_at k.permissions.now d) (rising_there k xs names known c.args.nodes.now nodes (f word) d for run c.run_of-run.ensures.run)
    (numbered_there k xs names known c.args.nodes.now nodes (f word) d for run c.run_of-run.ensures.run f said word expression c.in-Some.ensures c.args.words.now _ refl begin c.behind_first-rest.ensures c.if-run.false
    c.run_of-run.ensures.within)
    (are_among k xs names known c.args.nodes.now nodes (f word) d for run c.run_of-run.ensures.run)))
    c.held_nodes.ensures
