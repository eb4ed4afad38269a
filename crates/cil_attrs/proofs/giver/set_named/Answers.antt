use Rattle.std.proofs.Common.{sym, ◌∙◌}
use Rattle.cil_base.proofs.AtPlace.{at_place, past_end}
use Rattle.cil_attrs.proofs.GiverLemmas.{no_entry, no_meaning, other_set, this_set}
use Rattle.cil_attrs.proofs.giver.set_named.Goals as goal

pub returns-in_err-d : goal.returns-in_err-d
returns-in_err-d c =
    rw c.from_residual.ensures
    (λ xs names which w known is means. no_meaning c.args.known.now xs names known c.means_what_it_names.ensures which c.args.keyword w (sym c.in_err-d.was ∙ means))

pub returns-in_err-entry : goal.returns-in_err-entry
returns-in_err-entry c =
    rw c.from_residual-in_err-entry.ensures
    (λ xs names which w known is means. no_entry c.args.known.now xs names known c.means_what_it_names.ensures which c.args.keyword w c.in_ok-d.d (sym c.in_ok-d.was ∙ means)
    (past_end _ _ c.in_ok-d.d c.entries.ensures.value c.in_err-entry.ensures.lookup.3))

pub returns-then-not-gives : goal.returns-then-not-gives
returns-then-not-gives c =
    λ xs names which w known is means. other_set c.args.known.now xs names known c.means_what_it_names.ensures which c.args.keyword w c.in_ok-d.d c.in_ok-entry.entry.now (sym c.in_ok-d.was ∙ means)
    (at_place _ _ c.in_ok-d.d c.entries.ensures.value c.in_ok-entry.entry.now c.in_ok-entry.ensures.lookup.3.0 c.in_ok-entry.ensures.lookup.1)
    (sym (c.gives.ensures which is) ∙ c.if-not-gives.true)

pub returns : goal.returns
returns c =
    λ xs names which w known is means. this_set c.args.known.now xs names known c.means_what_it_names.ensures which c.args.keyword w c.in_ok-d.d c.in_ok-entry.entry.now (sym c.in_ok-d.was ∙ means)
    (at_place _ _ c.in_ok-d.d c.entries.ensures.value c.in_ok-entry.entry.now c.in_ok-entry.ensures.lookup.3.0 c.in_ok-entry.ensures.lookup.1)
    (sym (c.gives.ensures which is) ∙ c.if-not-gives.false)
