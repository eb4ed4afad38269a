use Rattle.cil_neverallow.proofs.PermissionLemmas.{apart_by}
use Rattle.cil_neverallow.proofs.permissions.names_one.Goals as goal

pub returns-in-Some : goal.returns-in-Some
returns-in-Some c = λ no.
    let found = c.in-Some.ensures.lookup in
    apart_by c.args.masks.now c.args.rule.now c.in-Some.mask.now found.3.0 found.1 no
