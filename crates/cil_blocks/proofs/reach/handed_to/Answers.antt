use Rattle.std.proofs.Common.{ℕ, ◌++◌, ◌∙◌, ap, get_or, refl}
use Rattle.std.specs.List.{flat_map}
use Rattle.cil_blocks.specs.Named.{targets_in}
use Rattle.cil_blocks.specs.Seeds.{bodies, handed_to}
use Rattle.cil_base.specs.MadeLists.{all_flat, one_flat}
use Rattle.cil_blocks.proofs.reach.handed_to.Goals as goal

pub loop-number-preserved : goal.loop-number-preserved
loop-number-preserved c =
    one_flat (λ (v : ℕ). bodies (targets_in c.args.targets.now v)) c.body_parts-number-items.result.now c.loop-number.number-index
    (get_or c.body_parts-number-items.result.now c.loop-number.number-index 0) 0 c.loop-number.handed.items c.push_blocks.new.handed.items c.loop-number-test.true refl c.loop-number.invariant
    (c.in_ok-push_blocks.ensures ∙ ap (λ ks. c.loop-number.handed.items ++ bodies ks) c.at.ensures)

pub returns : goal.returns
unfolding handed_to
returns c =
    all_flat (λ (v : ℕ). bodies (targets_in c.args.targets.now v)) c.body_parts-number-items.result.now c.loop-number.number-index c.loop-number.handed.items c.loop-number-test.false
    c.loop-number.invariant
    ∙ ap (flat_map (λ (v : ℕ). bodies (targets_in c.args.targets.now v))) c.body_parts-number-items.ensures
