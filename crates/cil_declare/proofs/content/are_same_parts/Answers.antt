use Rattle.std.proofs.Common.{arith}
use Rattle.cil_macros.specs.Items.{all_placed}
use Rattle.cil_declare.specs.Rows.{bare_part}
use Rattle.cil_declare.proofs.ContentLemmas.{all_left, here_apart, lengths_tell, more_same, none_left}
use Rattle.cil_declare.proofs.content.are_same_parts.Goals as goal

pub returns-then-a-b : goal.returns-then-a-b
returns-then-a-b c = lengths_tell (bare_part (all_placed c.args.instances.now)) c.args.a.now c.args.b.now c.if-a-b.true

pub loop-i-init : goal.loop-i-init
loop-i-init c = all_left (bare_part (all_placed c.args.instances.now)) c.args.a.now c.args.b.now

pub returns-then-not-branch : goal.returns-then-not-branch
returns-then-not-branch c =
    let test = c.loop-i-test.true in
    let one = c.if-a-b.false in
    here_apart (bare_part (all_placed c.args.instances.now)) c.args.a.now c.args.b.now c.loop-i.i c.index-a-i.result c.index-b-i.result (omega (arith, test)) (omega (arith, test, one)) c.index-a-i.is
    c.index-b-i.is c.in_ok-is_same_part.field-0 c.loop-i.invariant c.in_ok-is_same_part.ensures c.if-not-branch.true

pub loop-i-preserved : goal.loop-i-preserved
loop-i-preserved c =
    let test = c.loop-i-test.true in
    let one = c.if-a-b.false in
    more_same (bare_part (all_placed c.args.instances.now)) c.args.a.now c.args.b.now c.loop-i.i c.index-a-i.result c.index-b-i.result (omega (arith, test)) (omega (arith, test, one)) c.index-a-i.is
    c.index-b-i.is c.in_ok-is_same_part.field-0 c.loop-i.invariant c.in_ok-is_same_part.ensures c.if-not-branch.false _ (omega arith)

pub returns : goal.returns
returns c =
    let test = c.loop-i-test.false in
    let one = c.if-a-b.false in
    none_left (bare_part (all_placed c.args.instances.now)) c.args.a.now c.args.b.now _ (omega (arith, test)) (omega (arith, test, one)) c.loop-i.invariant
