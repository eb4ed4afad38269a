use Rattle.std.proofs.Common.{◌≡◌, length, arith}
use Rattle.std.proofs.lemmas.Result.{err_from_is_err_and}
use Rattle.cil_label_bytes.proofs.ReadLemmas.{all_read, no_categories, no_sensitivities, no_users}
use Rattle.cil_label_bytes.proofs.labels.parts_at.Goals as goal

pub returns-in_err-categories : goal.returns-in_err-categories
returns-in_err-categories c =
    let p = err_from_is_err_and c.from_residual.result c.from_residual.ensures.1 in
    rw (p.1, p.2) (no_categories c.args.are_on c.args.bytes.now c.in_err-categories.field-0.0 c.in_err-categories.ensures)

pub returns-in_err-sensitivities : goal.returns-in_err-sensitivities
returns-in_err-sensitivities c =
    let count : c.len.result ≡ length c.in_ok-categories.categories.names.items = omega (arith, c.len.ensures, c.in_ok-categories.categories.names.ok.0) in
    let p = err_from_is_err_and c.from_residual-in_err-sensitivities.result c.from_residual-in_err-sensitivities.ensures.1 in
    rw (p.1, p.2)
    (no_sensitivities c.args.are_on c.args.bytes.now c.in_ok-categories.categories.names.items c.in_ok-categories.categories.aliases.items c.in_ok-categories.rest.now c.in_ok-categories.ensures
    c.in_err-sensitivities.field-0.0 c.len.result count c.in_err-sensitivities.ensures)

pub returns-in_err-users : goal.returns-in_err-users
returns-in_err-users c =
    let count : c.len.result ≡ length c.in_ok-categories.categories.names.items = omega (arith, c.len.ensures, c.in_ok-categories.categories.names.ok.0) in
    let count-2 : c.len-2.result ≡ length c.in_ok-categories.categories.names.items = omega (arith, c.len-2.ensures, c.in_ok-categories.categories.names.ok.0) in
    let p = err_from_is_err_and c.from_residual-in_err-users.result c.from_residual-in_err-users.ensures.1 in
    rw (p.1, p.2)
    (no_users c.args.are_on c.args.bytes.now c.in_ok-categories.categories.names.items c.in_ok-categories.categories.aliases.items c.in_ok-categories.rest.now c.in_ok-categories.ensures
    c.len.result count c.in_ok-sensitivities.sensitivities.names.items c.in_ok-sensitivities.sensitivities.permitted.items c.in_ok-sensitivities.sensitivities.aliases.items
    c.in_ok-sensitivities.rest.now c.in_ok-sensitivities.ensures c.in_err-users.field-0.0 c.len-2.result c.as_slice.result.now count-2 c.as_slice.ensures.value c.in_err-users.ensures)

pub returns : goal.returns
returns c =
    let count : c.len.result ≡ length c.in_ok-categories.categories.names.items = omega (arith, c.len.ensures, c.in_ok-categories.categories.names.ok.0) in
    let count-2 : c.len-2.result ≡ length c.in_ok-categories.categories.names.items = omega (arith, c.len-2.ensures, c.in_ok-categories.categories.names.ok.0) in
    all_read c.args.are_on c.args.bytes.now c.in_ok-categories.categories.names.items c.in_ok-categories.categories.aliases.items c.in_ok-categories.rest.now c.in_ok-categories.ensures
    c.len.result count c.in_ok-sensitivities.sensitivities.names.items c.in_ok-sensitivities.sensitivities.permitted.items c.in_ok-sensitivities.sensitivities.aliases.items
    c.in_ok-sensitivities.rest.now c.in_ok-sensitivities.ensures c.len-2.result c.as_slice.result.now count-2 c.as_slice.ensures.value c.in_ok-users.users.names.items
    c.in_ok-users.users.ranges.items c.in_ok-users.rest.now c.in_ok-users.ensures
