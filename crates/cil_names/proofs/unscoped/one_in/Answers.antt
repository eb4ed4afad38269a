use Rattle.std.proofs.Common.{refl, sym, ◌∙◌}
use Rattle.std.proofs.lemmas.Option.{none-some}
use Rattle.cil_base.proofs.AtPlace.{past_end}
use Rattle.cil_names.proofs.SoleLemmas.{at_got}
use Rattle.cil_names.proofs.UnscopedLemmas.{found_in_scope, of_no_kind, out_of_scope}
use Rattle.cil_names.proofs.unscoped.one_in.Goals as goal

pub returns-in_default : goal.returns-in_default
returns-in_default c =
    absurd (none-some c.requires.sole.sole.entry (sym (past_end c.args.entries.now c.args.entries.now c.args.place refl c.in_default.ensures.lookup.3) ∙ c.requires.sole.sole.at))

pub returns-then-not-wants : goal.returns-then-not-wants
returns-then-not-wants c =
    of_no_kind c.args.entries.now c.args.word.now c.args.place c.requires.sole c.in-Some.entry.now
    (at_got c.args.entries.now c.args.place c.in-Some.entry.now c.in-Some.ensures.lookup.3.0 c.in-Some.ensures.lookup.1) c.args.namespaces.now c.args.scope.now
    (sym c.wants.ensures ∙ c.if-not-wants.true)

pub returns-then-not-contains : goal.returns-then-not-contains
returns-then-not-contains c =
    out_of_scope c.args.entries.now c.args.word.now c.args.place c.requires.sole c.in-Some.entry.now
    (at_got c.args.entries.now c.args.place c.in-Some.entry.now c.in-Some.ensures.lookup.3.0 c.in-Some.ensures.lookup.1) c.args.namespaces.now c.args.scope.now
    c.are_namespaces.ensures c.requires.entries c.requires.within (sym c.contains.ensures ∙ c.if-not-contains.true)

pub returns : goal.returns
returns c =
    found_in_scope c.args.entries.now c.args.word.now c.args.place c.requires.sole c.in-Some.entry.now
    (at_got c.args.entries.now c.args.place c.in-Some.entry.now c.in-Some.ensures.lookup.3.0 c.in-Some.ensures.lookup.1) c.args.namespaces.now c.args.scope.now
    c.are_namespaces.ensures c.requires.entries c.requires.within c.are_apart.ensures (sym c.wants.ensures ∙ c.if-not-wants.false) (sym c.contains.ensures ∙ c.if-not-contains.false)
