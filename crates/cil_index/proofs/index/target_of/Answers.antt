use Rattle.std.proofs.Common.{arith, subst, sym, ◌≤◌}
use Rattle.cil_index.specs.Entries.{itself}
use Rattle.cil_index.specs.Sets.{set_of}
use Rattle.cil_index.proofs.KeyLemmas.{key_of_itself, key_of_number, key_room, set_room}
use Rattle.cil_index.proofs.index.target_of.Goals as goal

pub returns-then-is_number-clause-key : goal.returns-then-is_number-clause-key
returns-then-is_number-clause-key c = key_of_number c.args.sets.now c.args.kept.now.target c.args.kept.now.source c.set_key.result c.key.result (c.is_number.ensures.0 c.if-is_number.true) c.set_key.ensures c.key.ensures

pub returns-then-is_number-clause-room : goal.returns-then-is_number-clause-room
returns-then-is_number-clause-room c =
    let room : c.set_key.result ≤ itself = subst (λ k. k ≤ itself) (sym c.set_key.ensures) (set_room c.args.kept.now.target) in
    subst (λ k. k ≤ itself) (sym c.key.ensures) (key_room c.set_key.result (set_of c.args.sets.now c.args.kept.now.target) room)

pub returns-clause-key : goal.returns-clause-key
returns-clause-key c = key_of_itself c.args.sets.now c.args.kept.now.target c.args.kept.now.source c.key-2.result c.is_number.result c.is_number.ensures.1 c.if-is_number.false c.key-2.ensures

pub returns-clause-room : goal.returns-clause-room
returns-clause-room c = subst (λ k. k ≤ itself) (sym c.key-2.ensures) (key_room itself (set_of c.args.sets.now c.args.kept.now.source) (omega arith))
