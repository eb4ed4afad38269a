use Rattle.std.proofs.Common.{ap, sym, ◌∙◌}
use Rattle.cil_syntax.specs.Spelling.{same_bytes}
use Rattle.cil_names.proofs.SoleLemmas.{at_got, decides_named, none_named, other_rank}
use Rattle.cil_names.proofs.namesakes.is_named.Goals as goal

pub returns-in_default : goal.returns-in_default
returns-in_default c = none_named c.args.entries.now c.args.place (record { name = c.args.name.now; rank = c.args.rank }) c.in_default.ensures.lookup.3

pub returns-then-rank : goal.returns-then-rank
returns-then-rank c =
    other_rank c.args.entries.now c.args.place c.in-Some.entry.now
    (at_got c.args.entries.now c.args.place c.in-Some.entry.now c.in-Some.ensures.lookup.3.0 c.in-Some.ensures.lookup.1) c.args.name.now c.args.rank
    (λ e. c.if-rank.true (c.rank.ensures ∙ e))

pub returns : goal.returns
returns c =
    decides_named c.args.entries.now c.args.place c.in-Some.entry.now
    (at_got c.args.entries.now c.args.place c.in-Some.entry.now c.in-Some.ensures.lookup.3.0 c.in-Some.ensures.lookup.1) c.args.name.now c.args.rank
    (sym c.rank.ensures ∙ c.if-rank.false) c.eq.result (c.eq.ensures ∙ ap (λ bytes. same_bytes bytes c.args.name.now) c.as_slice.ensures)
