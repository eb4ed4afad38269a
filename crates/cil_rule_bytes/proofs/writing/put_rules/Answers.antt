use Rattle.std.proofs.Common.{length, ◌++◌, arith}
use Rattle.std.specs.Int.{w32, to_be_bytes}
use Rattle.cil_index.specs.Listed.{rule_listed}
use Rattle.cil_format.proofs.OutLemmas.{all_put, one_more}
use Rattle.cil_rule_bytes.specs.Spelled.{rule_bytes}
use Rattle.cil_rule_bytes.proofs.WriteLemmas.{section_put}
use Rattle.cil_rule_bytes.proofs.writing.put_rules.Goals as goal

pub loop-place-preserved : goal.loop-place-preserved
loop-place-preserved g c = λ before h.
    one_more g.O.Out.holds rule_bytes c.args.rules.now c.loop-place.place c.loop-place.out (before ++ to_be_bytes w32 (length c.args.rules.now)) (c.loop-place.invariant before h)
    c.give_rule.new.out (rule_listed c.rule.result) c.rule.ensures c.in_ok-give_rule.ensures

pub returns : goal.returns
returns g c = λ limits before h.
    section_put g.O.Out.holds limits c.args.rules.now c.loop-place.out before
    (all_put g.O.Out.holds rule_bytes c.args.rules.now c.loop-place.place c.loop-place.out (before ++ to_be_bytes w32 (length c.args.rules.now)) (c.loop-place.invariant before h)
    (omega (arith, c.loop-place-test.false, c.len-place-end.ensures)))
