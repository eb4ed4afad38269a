use Rattle.std.proofs.Common.{sym, ◌∙◌}
use Rattle.cil_base.proofs.AtPlace.{at_place, past_end}
use Rattle.cil_known.proofs.StandLemmas.{of_no_entry, of_nothing, of_other_kind}
use Rattle.cil_classes.proofs.EntryForLemmas.{entry_is}
use Rattle.cil_classes.proofs.parts.entry_of.Goals as goal

pub returns-in_default : goal.returns-in_default
returns-in_default c =
    λ is names w known means. of_nothing c.args.known.now is names known c.args.kind c.requires.plain w c.means_what_it_names.ensures (sym c.in_default.is ∙ means)

pub returns-in_default-get : goal.returns-in_default-get
returns-in_default-get c =
    λ is names w known means. of_no_entry c.args.known.now is names known c.args.kind c.requires.plain w c.means_what_it_names.ensures c.in-Some.d (sym c.in-Some.is ∙ means)
    (past_end _ _ c.in-Some.d c.entries.ensures.value c.in_default-get.ensures.lookup.3)

pub returns-then-not-same_kind : goal.returns-then-not-same_kind
returns-then-not-same_kind c =
    λ is names w known means. of_other_kind c.args.known.now is names known c.args.kind c.requires.plain w c.means_what_it_names.ensures c.in-Some.d c.in-Some-get.entry.now (sym c.in-Some.is ∙ means)
    (at_place _ _ c.in-Some.d c.entries.ensures.value c.in-Some-get.entry.now c.in-Some-get.ensures.lookup.3.0 c.in-Some-get.ensures.lookup.1)
    (λ e. absurd (let t = c.same_kind.ensures.1 e in let n = c.if-not-same_kind.true in cc (t, n)))

pub returns : goal.returns
returns c =
    λ is names w known means. entry_is c.args.known.now is names known c.args.kind c.requires.plain w c.means_what_it_names.ensures c.in-Some.d c.in-Some-get.entry.now (sym c.in-Some.is ∙ means)
    (at_place _ _ c.in-Some.d c.entries.ensures.value c.in-Some-get.entry.now c.in-Some-get.ensures.lookup.3.0 c.in-Some-get.ensures.lookup.1)
    (c.same_kind.ensures.0 c.if-not-same_kind.false)
