use Rattle.std.proofs.Common.{arith, sym}
use Rattle.cil_ranges.specs.Given.{IsUserEntry}
use Rattle.cil_ranges.proofs.UserLemmas.{high, high_read, is_given, no_range_given, no_two_given, no_user_given, no_word_given}
use Rattle.std.proofs.Common.{subst}
use Rattle.cil_ranges.proofs.giving.giving_said.Goals as goal

pub returns-then-terms-ne2-clause-says : goal.returns-then-terms-ne2-clause-says
returns-then-terms-ne2-clause-says c = λ g m f us more reads read. no_two_given c.args.known.now g f m c.args.terms.now us c.args.words.now more read c.if-terms-ne2.true

pub returns-then-not-is_word-clause-says : goal.returns-then-not-is_word-clause-says
returns-then-not-is_word-clause-says c = λ g m f us more reads read.
    let len = c.if-terms-ne2.false in
    no_word_given c.args.known.now g f m c.args.terms.now us c.args.words.now more read c.index-terms-0.result (omega (arith, len)) c.index-terms-0.is (sym (c.if-not-is_word.ensures m))

pub returns-in_err-user-clause-says : goal.returns-in_err-user-clause-says
returns-in_err-user-clause-says c = λ g m f us more reads read.
    rw c.from_residual.ensures (no_user_given c.args.known.now g f m c.args.terms.now us c.args.words.now more read
    (λ d h. c.in_err-user.ensures.user d (subst (λ o. IsUserEntry c.args.known.now o d) (sym c.meaning_at.ensures) h)))

pub returns-in_err-range-clause-says : goal.returns-in_err-range-clause-says
returns-in_err-range-clause-says c = λ g m f us more reads read.
    let k = c.args.known.now in
    let a = c.index-terms-0.result in
    let b = c.index-terms-1.result in
    let word = sym (c.if-not-is_word.ensures m) in
    let rest = high_read k g f m c.args.terms.now us c.args.words.now more read a b c.if-terms-ne2.false c.index-terms-0.is c.index-terms-1.is word c.behind_first.result.now c.behind_first.ensures in
    rw c.from_residual-in_err-range.ensures (no_range_given k g f m c.args.terms.now us c.args.words.now more read a b c.if-terms-ne2.false c.index-terms-0.is c.index-terms-1.is word
    (c.in_err-range.ensures k g m f (high k g f m c.args.terms.now us c.args.words.now more read a b c.if-terms-ne2.false c.index-terms-0.is c.index-terms-1.is word) more reads.measures reads.levels reads.ranges rest))

pub returns-clause-says : goal.returns-clause-says
returns-clause-says c = λ g m f us more reads read.
    let k = c.args.known.now in
    let a = c.index-terms-0.result in
    let b = c.index-terms-1.result in
    let word = sym (c.if-not-is_word.ensures m) in
    let rest = high_read k g f m c.args.terms.now us c.args.words.now more read a b c.if-terms-ne2.false c.index-terms-0.is c.index-terms-1.is word c.behind_first.result.now c.behind_first.ensures in
    is_given k g f m c.args.terms.now us c.args.words.now more read a b c.if-terms-ne2.false c.index-terms-0.is c.index-terms-1.is word c.in_ok-user.user c.in_ok-range.range
    (subst (λ o. IsUserEntry k o c.in_ok-user.user) c.meaning_at.ensures c.in_ok-user.ensures.user)
    (c.in_ok-range.ensures k g m f (high k g f m c.args.terms.now us c.args.words.now more read a b c.if-terms-ne2.false c.index-terms-0.is c.index-terms-1.is word) more reads.measures reads.levels reads.ranges rest)
