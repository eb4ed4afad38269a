use Rattle.std.proofs.Common.{◌≡◌, ◌<◌, ℕ, true, arith, sym, ◌∙◌, ap, subst}
use Rattle.cil_syntax.specs.Program.{program_of}
use Rattle.cil_blocks.specs.Contents.{is_named}
use Rattle.cil_blocks.specs.Doubled.{AreThose, is_named_at, only_if}
use Rattle.cil_blocks.proofs.Kept.{counted_more, only_those}
use Rattle.cil_base.specs.Places.{there_as}
use Rattle.cil_blocks.proofs.NameLemmas.{keyword_some}
use Rattle.cil_blocks.proofs.doubled.named_numbers.Goals as goal

pub loop-i-preserved : goal.loop-i-preserved
loop-i-preserved c =
    let same =
    ap is_named (keyword_some c.args.statements.now c.requires c.loop-i.i c.index-statements-i.result
    (there_as c.args.statements.now c.loop-i.i c.index-statements-i.result c.loop-i-test.true c.index-statements-i.is)) in
    counted_more (λ i. is_named_at (program_of c.args.statements.now) i ≡ true) c.loop-i.i c.loop-i.named.items (only_if c.is_named.result c.loop-i.i) _
    (only_those (λ i. is_named_at (program_of c.args.statements.now) i ≡ true) c.is_named.result c.loop-i.i (λ e. same ∙ sym c.is_named.ensures ∙ e) (λ e. c.is_named.ensures ∙ sym same ∙ e))
    c.loop-i.invariant c.in_ok-push_if.ensures

pub returns : goal.returns
returns c =
    let h = c.loop-i-test.false in
    let e = c.loop-i.auto.i-end in
    subst (λ n. AreThose (λ (i : ℕ). (i < n) × (is_named_at (program_of c.args.statements.now) i ≡ true)) c.loop-i.named.items) (omega (arith, h, e)) c.loop-i.invariant
