use Rattle.std.specs.Prelude.{Some}
use Rattle.std.proofs.Common.{◌<◌, ◌∙◌, arith, ap, length, sym}
use Rattle.std.proofs.lemmas.Bool.Decides.{nat_tests}
use Rattle.cil_base.specs.Places.{is_there}
use Rattle.cil_ranges.proofs.UserLemmas.{is_user_entry}
use Rattle.cil_ranges.proofs.giving.user_meant.Goals as goal

pub returns-clause-user : goal.returns-clause-user
returns-clause-user c =
    let e = c.in_ok-entry.entry.now in
    let test = c.in_ok-entry.ensures.lookup.0 in
    let within : c.in_ok-number.number < length c.entries.result.now = grind (arith, nat_tests) in
    is_user_entry c.args.known.now c.entries.result.now c.in_ok-number.number e c.args.meaning c.entries.ensures.value (is_there c.entries.result.now c.in_ok-number.number e within ∙ ap Some (sym c.in_ok-entry.ensures.lookup.1))
    (c.same_kind.ensures.0 c.if-not-same_kind.false) c.in_ok-number.was
