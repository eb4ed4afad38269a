use Rattle.std.proofs.Common.{rules, Some, None, sym, ◌∙◌, arith}
use Rattle.cil_base.specs.Places.{none_some, some_same, there_as}
use Rattle.cil_macros.proofs.NearestLemmas.{none_stands, opened_by}
use Rattle.cil_macros.proofs.nearest.opener_of.Goals as goal

pub returns-in_default-clause-opened : goal.returns-in_default-clause-opened
returns-in_default-clause-opened c = λ ws s is. absurd (none_stands ws c.args.entries.now c.args.at s c.in_default.ensures.lookup.3 is)

pub returns-in_default-opener-clause-opened : goal.returns-in_default-opener-clause-opened
returns-in_default-opener-clause-opened c = λ ws s is.
    let none = opened_by ws c.args.entries.now c.args.at c.in-Some.entry.now None s
    (there_as c.args.entries.now c.args.at c.in-Some.entry.now c.in-Some.ensures.lookup.3.0 c.in-Some.ensures.lookup.1)
    (λ k e. absurd (none_some k (sym c.in_default-opener.is ∙ e))) is in
    search (rules, none)

pub returns-then-opener-at-clause-opened : goal.returns-then-opener-at-clause-opened
returns-then-opener-at-clause-opened c = λ ws s is.
    opened_by ws c.args.entries.now c.args.at c.in-Some.entry.now None s
    (there_as c.args.entries.now c.args.at c.in-Some.entry.now c.in-Some.ensures.lookup.3.0 c.in-Some.ensures.lookup.1)
    (λ k e. let same = some_same c.in-Some-opener.opener k (sym c.in-Some-opener.is ∙ e) in let over = c.if-opener-at.true in omega (arith, same, over)) is

pub returns-clause-opened : goal.returns-clause-opened
returns-clause-opened c = λ ws s is.
    opened_by ws c.args.entries.now c.args.at c.in-Some.entry.now (Some c.in-Some-opener.opener) s
    (there_as c.args.entries.now c.args.at c.in-Some.entry.now c.in-Some.ensures.lookup.3.0 c.in-Some.ensures.lookup.1)
    (c.in-Some-opener.is, c.if-opener-at.false) is
