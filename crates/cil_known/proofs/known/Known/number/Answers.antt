use Rattle.std.proofs.Common.{rules, sym, ◌∙◌}
use Rattle.cil_base.proofs.AtPlace.{at_place, past_end}
use Rattle.cil_known.proofs.StandLemmas.{of_entry, of_no_entry, of_nothing, of_other_kind}
use Rattle.cil_known.proofs.known.Known.number.Goals as goal

pub returns-in_err-d : goal.returns-in_err-d
returns-in_err-d c =
    rw c.from_residual.ensures
    (λ is names w known means. of_nothing c.args.self.now is names known c.args.kind c.requires.plain w c.means_what_it_names.ensures (sym c.in_err-d.was ∙ means))

pub returns-in_err-entry : goal.returns-in_err-entry
returns-in_err-entry c =
    rw c.from_residual-in_err-entry.ensures
    (λ is names w known means. of_no_entry c.args.self.now is names known c.args.kind c.requires.plain w c.means_what_it_names.ensures c.in_ok-d.d (sym c.in_ok-d.was ∙ means)
    (past_end _ _ c.in_ok-d.d c.entries.ensures.value c.in_err-entry.ensures.lookup.3))

pub returns-then-not-same_kind : goal.returns-then-not-same_kind
returns-then-not-same_kind c =
    λ is names w known means. of_other_kind c.args.self.now is names known c.args.kind c.requires.plain w c.means_what_it_names.ensures c.in_ok-d.d c.in_ok-entry.entry.now (sym c.in_ok-d.was ∙ means)
    (at_place _ _ c.in_ok-d.d c.entries.ensures.value c.in_ok-entry.entry.now c.in_ok-entry.ensures.lookup.3.0 c.in_ok-entry.ensures.lookup.1)
    (search rules)

pub returns : goal.returns
returns c =
    λ is names w known means. of_entry c.args.self.now is names known c.args.kind c.requires.plain w c.means_what_it_names.ensures c.in_ok-d.d c.in_ok-entry.entry.now (sym c.in_ok-d.was ∙ means)
    (at_place _ _ c.in_ok-d.d c.entries.ensures.value c.in_ok-entry.entry.now c.in_ok-entry.ensures.lookup.3.0 c.in_ok-entry.ensures.lookup.1)
    c.requires.section (c.same_kind.ensures.0 c.if-not-same_kind.false) c.number_at.result c.number_at.ensures
