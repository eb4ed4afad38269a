use Rattle.std.proofs.Common.{◌≡◌, ◌∙◌, ℕ, get_or, refl, sym, true}
use Rattle.cil_syntax.specs.Program.{program_of}
use Rattle.cil_blocks.specs.Doubled.{is_named_at, only_if}
use Rattle.cil_blocks.proofs.Kept.{all_kept, kept_more, only_those}
use Rattle.cil_blocks.proofs.reach.named_among.Goals as goal

pub loop-number-preserved : goal.loop-number-preserved
loop-number-preserved c =
    let T = λ (i : ℕ). is_named_at (program_of c.args.statements.now) i ≡ true in
    let number = get_or c.args.numbers.now c.loop-number.number-index 0 in
    kept_more T c.args.numbers.now c.loop-number.number-index number 0 c.loop-number.found.items (only_if c.is_named_at.result number) _ c.loop-number-test.true refl
    (only_those T c.is_named_at.result number (λ e. sym c.is_named_at.ensures ∙ e) (λ e. c.is_named_at.ensures ∙ e)) c.loop-number.invariant c.in_ok-push_if.ensures

pub returns : goal.returns
returns c =
    all_kept (λ (i : ℕ). is_named_at (program_of c.args.statements.now) i ≡ true) c.args.numbers.now c.loop-number.number-index c.loop-number.found.items c.loop-number-test.false
    c.loop-number.invariant
