use Rattle.std.proofs.Common.{ap, length, refl}
use Rattle.cil_base.proofs.AtPlace.{at_place, past_end}
use Rattle.cil_syntax.specs.Said.{said_of}
use Rattle.cil_syntax.specs.declared.kind.Kind.TheVariants as kinds
use Rattle.cil_known.specs.Known.{enabled_in}
use Rattle.cil_classes.proofs.GivenLemmas.{always_a_row, class_means, empty_mask, gives_nothing, is_given, its_mask, nothing_listed, without_class}
use Rattle.cil_classes.proofs.given.given_by.Goals as goal

pub returns-in_default : goal.returns-in_default
returns-in_default c =
    λ xs names f known classes begin.
    gives_nothing xs (enabled_in c.args.known.now) f (said_of c.args.«module» c.args.term.now) c.in_default.ensures

pub returns-in_default-number : goal.returns-in_default-number
returns-in_default-number c =
    λ xs names f known classes begin.
    let k = c.args.known.now in
    let said = said_of c.args.«module» c.args.term.now in
    let word = c.in-Some.parts.class in
    let expression = said_of c.args.«module» c.in-Some.parts.permissions.now in
    without_class xs (enabled_in k) f said word expression c.in-Some.ensures
    (c.in_default-number.ensures xs names (f word) known (class_means k f said word expression c.in-Some.ensures c.args.words.now begin c.meaning_at.result c.meaning_at.ensures))

pub returns-in_default-get : goal.returns-in_default-get
returns-in_default-get c =
    λ xs names f known classes begin.
    let k = c.args.known.now in
    let said = said_of c.args.«module» c.args.term.now in
    let word = c.in-Some.parts.class in
    let expression = said_of c.args.«module» c.in-Some.parts.permissions.now in
    always_a_row xs (enabled_in k) f said word expression c.in-Some.ensures (names kinds.Class) c.args.classes.now classes c.in-Some-number.class
    (c.in-Some-number.ensures xs names (f word) known (class_means k f said word expression c.in-Some.ensures c.args.words.now begin c.meaning_at.result c.meaning_at.ensures))
    (past_end c.args.classes.now c.args.classes.now c.in-Some-number.class refl c.in_default-get.ensures.lookup.3)

pub returns-then-count-eq0 : goal.returns-then-count-eq0
returns-then-count-eq0 c =
    λ xs names f known classes begin.
    let k = c.args.known.now in
    let m = c.args.«module» in
    let said = said_of m c.args.term.now in
    let word = c.in-Some.parts.class in
    let row = c.in-Some-get.row.now in
    let at = at_place c.args.classes.now c.args.classes.now c.in-Some-number.class refl row c.in-Some-get.ensures.lookup.3.0 c.in-Some-get.ensures.lookup.1 in
    let number = c.in-Some-number.ensures xs names (f word) known (class_means k f said word (said_of m c.in-Some.parts.permissions.now) c.in-Some.ensures c.args.words.now begin c.meaning_at.result c.meaning_at.ensures) in
    nothing_listed k xs names known c.means_what_it_names.ensures f said word m c.in-Some.parts.permissions.now c.in-Some.ensures c.args.words.now begin c.args.classes.now classes c.in-Some-number.class number row at _
    (ap length c.as_slice-count.ensures) c.if-count-eq0.true

pub returns-then-mask-eq0 : goal.returns-then-mask-eq0
returns-then-mask-eq0 c =
    λ xs names f known classes begin.
    let k = c.args.known.now in
    let m = c.args.«module» in
    let said = said_of m c.args.term.now in
    let word = c.in-Some.parts.class in
    let row = c.in-Some-get.row.now in
    let at = at_place c.args.classes.now c.args.classes.now c.in-Some-number.class refl row c.in-Some-get.ensures.lookup.3.0 c.in-Some-get.ensures.lookup.1 in
    let number = c.in-Some-number.ensures xs names (f word) known (class_means k f said word (said_of m c.in-Some.parts.permissions.now) c.in-Some.ensures c.args.words.now begin c.meaning_at.result c.meaning_at.ensures) in
    empty_mask xs (enabled_in k) f said word (said_of m c.in-Some.parts.permissions.now) c.in-Some.ensures (names kinds.Class) c.args.classes.now classes c.in-Some-number.class number row at c.mask_of-mask.result
    (its_mask k xs names known c.means_what_it_names.ensures f said word m c.in-Some.parts.permissions.now c.in-Some.ensures c.args.words.now begin c.args.classes.now classes c.in-Some-number.class number row at
    c.behind_first.result.now _ c.mask_of-mask.result c.behind_first.ensures (ap length c.as_slice-count.ensures) c.if-count-eq0.false c.mask_of-mask.ensures)
    c.if-mask-eq0.true

pub returns : goal.returns
returns c =
    λ xs names f known classes begin.
    let k = c.args.known.now in
    let m = c.args.«module» in
    let said = said_of m c.args.term.now in
    let word = c.in-Some.parts.class in
    let row = c.in-Some-get.row.now in
    let at = at_place c.args.classes.now c.args.classes.now c.in-Some-number.class refl row c.in-Some-get.ensures.lookup.3.0 c.in-Some-get.ensures.lookup.1 in
    let number = c.in-Some-number.ensures xs names (f word) known (class_means k f said word (said_of m c.in-Some.parts.permissions.now) c.in-Some.ensures c.args.words.now begin c.meaning_at.result c.meaning_at.ensures) in
    is_given xs (enabled_in k) f said word (said_of m c.in-Some.parts.permissions.now) c.in-Some.ensures (names kinds.Class) c.args.classes.now classes c.in-Some-number.class number row at c.mask_of-mask.result
    (its_mask k xs names known c.means_what_it_names.ensures f said word m c.in-Some.parts.permissions.now c.in-Some.ensures c.args.words.now begin c.args.classes.now classes c.in-Some-number.class number row at
    c.behind_first.result.now _ c.mask_of-mask.result c.behind_first.ensures (ap length c.as_slice-count.ensures) c.if-count-eq0.false c.mask_of-mask.ensures)
    c.if-mask-eq0.false
