use Rattle.std.proofs.Common.{subst, sym, ◌∙◌, ap, ◌≤◌}
use Rattle.cil_index.specs.Entries.{itself, key_of_set}
use Rattle.cil_index.specs.Sets.{set_of}
use Rattle.cil_index.proofs.KeyLemmas.{key_room, set_room, side_of_set, side_of_type}
use Rattle.cil_index.proofs.index.other_side.Goals as goal

pub returns-then-target-lt-SEVERAL-clause-key : goal.returns-then-target-lt-SEVERAL-clause-key
returns-then-target-lt-SEVERAL-clause-key c =
    c.key.ensures ∙ ap (λ k. key_of_set k (set_of c.args.sets.now c.args.source)) c.set_key.ensures ∙ side_of_type c.args.sets.now c.args.source c.args.target c.if-target-lt-SEVERAL.true

pub returns-then-target-lt-SEVERAL-clause-room : goal.returns-then-target-lt-SEVERAL-clause-room
returns-then-target-lt-SEVERAL-clause-room c =
    subst (λ k. k ≤ itself) (sym c.key.ensures) (key_room c.set_key.result (set_of c.args.sets.now c.args.source) (subst (λ k. k ≤ itself) (sym c.set_key.ensures) (set_room c.args.source)))

pub returns-clause-key : goal.returns-clause-key
returns-clause-key c = side_of_set c.args.sets.now c.args.source c.args.target c.if-target-lt-SEVERAL.false

pub returns-clause-room : goal.returns-clause-room
returns-clause-room c = c.requires
