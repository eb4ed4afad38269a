use Rattle.std.proofs.Common.{[], ◌∷◌}
use Rattle.cil_format.specs.Fields.{set}
use Rattle.cil_index.specs.Listed.{members_of}
use Rattle.cil_rule_bytes.proofs.WriteLemmas.{behind}
use Rattle.cil_rule_bytes.proofs.writing.put_target.Goals as goal

pub returns-in_ok-push-in-Types : goal.returns-in_ok-push-in-Types
returns-in_ok-push-in-Types c =
    rw c.in-Types.is
    (behind c.put_types.result c.args.out.now.items (0 ∷ []) c.push.new.self.items ((set 0).spell (members_of c.in-Types.types)) c.put_types.new.out.items c.in_ok-push-in-Types.ensures.items c.put_types.ensures)
