use Rattle.std.proofs.lemmas.Result.{err_from_is_err_and}
use Rattle.cil_rule_bytes.proofs.PushLemmas.{spells_one, is_read, is_refused}
use Rattle.cil_rule_bytes.proofs.conditions.condition_at.Goals as goal

pub returns-in_err-rest : goal.returns-in_err-rest
returns-in_err-rest c =
    let p = err_from_is_err_and c.from_residual.result c.from_residual.ensures.1 in
    rw (p.1, p.2) (is_refused c.args.booleans c.args.bytes.now c.in_err-rest.field-0.0 c.in_err-rest.ensures)

pub of-requires : goal.of-requires
of-requires c =
    spells_one c.args.booleans c.args.bytes.now c.in_ok-rest.rest.now c.new-tokens.result.items c.push_tree.new.tokens.items c.new-tokens.ensures.items c.in_ok-rest.ensures

pub returns : goal.returns
returns c =
    rw c.of.ensures
    (is_read c.args.booleans c.args.bytes.now c.in_ok-rest.rest.now c.new-tokens.result.items c.push_tree.new.tokens.items c.new-tokens.ensures.items c.in_ok-rest.ensures)
