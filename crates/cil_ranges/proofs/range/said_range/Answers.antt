use Rattle.std.specs.Prelude.{map}
use Rattle.std.proofs.Common.{◌++◌, arith}
use Rattle.cil_macros.specs.Item.{words_in}
use Rattle.cil_known.specs.Known.{meant_in}
use Rattle.cil_ranges.proofs.RangeLemmas.{both_said, no_high, no_low, not_two_said, two_read}
use Rattle.cil_ranges.proofs.ReadLemmas.{words_behind}
use Rattle.cil_ranges.proofs.range.said_range.Goals as goal

pub returns-then-terms-ne2 : goal.returns-then-terms-ne2
returns-then-terms-ne2 c = λ k g m f us more measures levels read. not_two_said k g f m c.args.terms.now us c.args.words.now more read (λ e. omega (arith, e, c.if-terms-ne2.true))

pub returns-in_err-low : goal.returns-in_err-low
returns-in_err-low c = λ k g m f us more measures levels read.
    let len = c.if-terms-ne2.false in
    rw c.from_residual.ensures (no_low k g f m c.args.terms.now us c.args.words.now more read c.index-terms-0.result (omega (arith, len)) c.index-terms-0.is
    (λ u rest first. c.in_err-low.ensures k g m f u rest measures levels first))

pub returns-in_err-high : goal.returns-in_err-high
returns-in_err-high c = λ k g m f us more measures levels read.
    let a = c.index-terms-0.result in
    let b = c.index-terms-1.result in
    let len = c.if-terms-ne2.false in
    let two = two_read k g f m c.args.terms.now us c.args.words.now more read a b len c.index-terms-0.is c.index-terms-1.is in
    let behind = words_behind k c.args.by.now.scale g measures f m a c.args.words.now c.value.result c.value.ensures two.low (map (meant_in k) (words_in two.high) ++ more) two.first in
    rw c.from_residual-in_err-high.ensures (no_high k g f m c.args.terms.now us c.args.words.now more read a b len c.index-terms-0.is c.index-terms-1.is two
    (c.in_err-high.ensures k g m f two.high more measures levels (two.second c.value.result.rest.now behind)))

pub returns : goal.returns
returns c = λ k g m f us more measures levels read.
    let a = c.index-terms-0.result in
    let b = c.index-terms-1.result in
    let len = c.if-terms-ne2.false in
    let two = two_read k g f m c.args.terms.now us c.args.words.now more read a b len c.index-terms-0.is c.index-terms-1.is in
    let rest = map (meant_in k) (words_in two.high) ++ more in
    let behind = words_behind k c.args.by.now.scale g measures f m a c.args.words.now c.value.result c.value.ensures two.low rest two.first in
    both_said k g f m c.args.terms.now us c.args.words.now more read a b len c.index-terms-0.is c.index-terms-1.is two (record { low = c.in_ok-low.low; high = c.in_ok-high.high })
    (c.in_ok-low.ensures k g m f two.low rest measures levels two.first)
    (c.in_ok-high.ensures k g m f two.high more measures levels (two.second c.value.result.rest.now behind))
