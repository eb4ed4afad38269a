use Rattle.std.proofs.Common.{◌<◌, ◌≤◌, arith, length}
use Rattle.cil_neverallow.proofs.PermissionLemmas.{joined_there, not_joined}
use Rattle.cil_neverallow.proofs.permissions.join.Goals as goal

pub returns-then-class-len : goal.returns-then-class-len
returns-then-class-len c =
    let less = c.if-class-len.true in
    let size = c.len.ensures in
    let within : c.args.rule.now.class < length c.args.masks.now.items = omega (arith, less, size) in
    joined_there c.args.masks.now.items c.args.rule.now c.index_mut.result.now within c.index_mut.ensures.value

pub returns-else-class-len : goal.returns-else-class-len
returns-else-class-len c =
    let ge = c.if-class-len.false in
    let size = c.len.ensures in
    let past : length c.args.masks.now.items ≤ c.args.rule.now.class = omega (arith, ge, size) in
    not_joined c.args.masks.now.items c.args.rule.now past
