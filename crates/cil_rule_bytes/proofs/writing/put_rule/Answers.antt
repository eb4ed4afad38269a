use Rattle.std.specs.Int.{w16, w32, to_be_bytes}
use Rattle.std.proofs.Common.{ap, ◌∙◌, ◌++◌}
use Rattle.cil_format.specs.Fields.{set}
use Rattle.cil_index.specs.Listed.{branch_listed, members_of, target_listed}
use Rattle.cil_rule_bytes.specs.Layout.{target}
use Rattle.cil_rule_bytes.specs.Spelled.{branch_bytes}
use Rattle.cil_rule_bytes.proofs.WriteLemmas.{five_parts}
use Rattle.cil_rule_bytes.proofs.writing.put_rule.Goals as goal

pub returns : goal.returns
returns c =
    let r = c.args.rule in
    five_parts c.args.out.now.items (branch_bytes (branch_listed r.branch)) ((set 0).spell (members_of r.source)) ((target 0).spell (target_listed r.target)) (to_be_bytes w16 r.class)
    (to_be_bytes w32 r.mask) c.put_branch.new.out.items c.put_types.new.out.items c.put_target.new.out.items c.put_small.new.out.items c.extend_from_slice.new.self.items
    c.in_ok-put_branch.ensures c.in_ok-put_types.ensures c.in_ok-put_target.ensures c.in_ok-put_small.ensures
    (c.in_ok-extend_from_slice.ensures.items ∙ ap (λ w. c.put_small.new.out.items ++ w) c.to_be_bytes.ensures)
