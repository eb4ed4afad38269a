use Rattle.std.proofs.Common.{arith, length, subst, suc, sym, ap, ◌-◌, ◌≡◌, ◌∙◌}
use Rattle.std.proofs.lemmas.List.{length-replicate}
use Rattle.cil_optionals.specs.FirstParts.{AreFirstWords}
use Rattle.cil_optionals.specs.Parts.{parts_in}
use Rattle.cil_optionals.proofs.FirstPartLemmas.{from_end, nothing}
use Rattle.cil_optionals.proofs.first.first_words.Goals as goal

pub loop-at-init : goal.loop-at-init
loop-at-init c =
    let check = c.args.check.now in (
      from_end (parts_in check.parts.now) check.times.now check.entries.now c.args.steps c.len-at.result (length check.times.now) c.in_ok-words.words.items c.len-at.ensures c.in_ok-words.ensures,
      ap length c.in_ok-words.ensures ∙ length-replicate (length check.times.now) nothing,
    )

pub loop-at-preserved : goal.loop-at-preserved
loop-at-preserved c =
    let check = c.args.check.now in
    let here = c.loop-at-test.true in
    let step : suc (c.loop-at.at - 1) ≡ c.loop-at.at = omega (arith, here) in (
      c.in_ok-note.ensures.noted
          (subst (λ n. AreFirstWords (parts_in check.parts.now) check.times.now check.entries.now c.args.steps n c.loop-at.words.items) (sym step) c.loop-at.invariant.0),
      c.in_ok-note.ensures.len ∙ c.loop-at.invariant.1,
    )
