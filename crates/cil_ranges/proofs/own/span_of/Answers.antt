use Rattle.std.proofs.Common.{◌<◌, arith, length, sym, ◌∙◌, ap}
use Rattle.std.proofs.lemmas.Bool.Decides.{nat_tests}
use Rattle.cil_syntax.specs.Terms.{Leaf, cons}
use Rattle.cil_mls.specs.Values.{meant_held}
use Rattle.cil_ranges.proofs.OwnLemmas.{is_span, more_than_two, no_first, no_front, no_last, no_second}
use Rattle.cil_ranges.proofs.ReadLemmas.{none_read}
use Rattle.cil_ranges.proofs.own.span_of.Goals as goal

pub returns-in_err-behind : goal.returns-in_err-behind
returns-in_err-behind c = λ k g m f us more measures read. rw c.from_residual.ensures (no_front k c.args.by.now g measures us (c.in_err-behind.ensures f m us read.alike))

pub returns-in_err-rest : goal.returns-in_err-rest
returns-in_err-rest c = λ k g m f us more measures read.
    let b = c.in_ok-behind.ensures f m us read.alike in
    rw c.from_residual-in_err-rest.ensures (no_second k c.args.by.now g measures us b.word b.rest b.says (c.in_err-rest.ensures f m b.rest b.alike))

pub returns-then-not-is_empty : goal.returns-then-not-is_empty
returns-then-not-is_empty c = λ k g m f us more measures read.
    let b = c.in_ok-behind.ensures f m us read.alike in
    let r = c.in_ok-rest.ensures f m b.rest b.alike in
    let e = c.if-not-is_empty.ensures in
    let some : 0 < length c.in_ok-rest.rest.now = grind (arith, nat_tests) in
    more_than_two k c.args.by.now g measures us b.word r.word r.rest (b.says ∙ ap (cons (Leaf b.word)) r.says) f m c.in_ok-rest.rest.now r.alike some

pub returns-in_err-first : goal.returns-in_err-first
returns-in_err-first c = λ k g m f us more measures read.
    let b = c.in_ok-behind.ensures f m us read.alike in
    let r = c.in_ok-rest.ensures f m b.rest b.alike in
    rw c.from_residual-in_err-first.ensures (no_first k c.args.by.now g measures us b.word r.word r.rest (b.says ∙ ap (cons (Leaf b.word)) r.says) c.args.words.now more read.row
    (λ p h. c.in_err-first.ensures p (ap (meant_held c.args.by.now.categories.held.now) c.meaning_at.ensures ∙ h)))

pub returns-in_err-last : goal.returns-in_err-last
returns-in_err-last c = λ k g m f us more measures read.
    let b = c.in_ok-behind.ensures f m us read.alike in
    let r = c.in_ok-rest.ensures f m b.rest b.alike in
    rw c.from_residual-in_err-last.ensures (no_last k c.args.by.now g measures us b.word r.word r.rest (b.says ∙ ap (cons (Leaf b.word)) r.says) c.args.words.now more read.row
    (λ p h. c.in_err-last.ensures p (ap (meant_held c.args.by.now.categories.held.now) c.meaning_at-2.ensures ∙ h)))

pub returns : goal.returns
returns c = λ k g m f us more measures read.
    let b = c.in_ok-behind.ensures f m us read.alike in
    let r = c.in_ok-rest.ensures f m b.rest b.alike in
    let e = c.if-not-is_empty.ensures in
    let none : length c.in_ok-rest.rest.now < 1 = grind (arith, nat_tests) in
    is_span k c.args.by.now g measures us b.word r.word r.rest (b.says ∙ ap (cons (Leaf b.word)) r.says) c.args.words.now more read.row (record { first = c.in_ok-first.first; last = c.in_ok-last.last })
    (none_read f m c.in_ok-rest.rest.now none r.rest r.alike)
    (ap (meant_held c.args.by.now.categories.held.now) (sym c.meaning_at.ensures) ∙ c.in_ok-first.ensures)
    (ap (meant_held c.args.by.now.categories.held.now) (sym c.meaning_at-2.ensures) ∙ c.in_ok-last.ensures)
