use Rattle.std.proofs.Common.{sym, ◌∙◌}
use Rattle.std.proofs.lemmas.Bool.{true≢false}
use Rattle.cil_names.proofs.EntryLemmas.{entry_missing, entry_unwanted, entry_wanted}
use Rattle.cil_names.proofs.by_name.by_halving.Goals as goal

pub returns-then-not-is_wanted_in : goal.returns-then-not-is_wanted_in
returns-then-not-is_wanted_in c =
    entry_unwanted c.args.entries.now c.args.name.now c.args.sign c.args.space c.args.rank c.requires.ranked c.in-Some.place c.in-Some.ensures
    (λ there. true≢false (sym (c.is_wanted_in.ensures.1 there) ∙ c.if-not-is_wanted_in.true))

pub returns : goal.returns
returns c =
    entry_wanted c.args.entries.now c.args.name.now c.args.sign c.args.space c.args.rank c.requires.ranked c.in-Some.place c.in-Some.ensures
    (c.is_wanted_in.ensures.0 c.if-not-is_wanted_in.false)

pub returns-in_default : goal.returns-in_default
returns-in_default c = entry_missing c.args.entries.now c.args.name.now c.args.sign c.args.space c.args.rank c.requires.ranked c.in_default.ensures
