use Rattle.std.proofs.Common.{◌≡◌, ℕ, get_or, subst, true}
use Rattle.std.proofs.lemmas.List.{take_more}
use Rattle.cil_mls.specs.Bits.{in_words}
use Rattle.cil_levels.specs.Permits.{HaveMore}
use Rattle.cil_levels.proofs.PermitLemmas.{all_at, more_at, none_at}
use Rattle.cil_levels.proofs.permits.add_all.Goals as goal

pub loop-number-init : goal.loop-number-init
loop-number-init c = none_at c.args.places.now c.args.more.now c.args.numbers.now c.args.sets.now.items

pub loop-number-preserved : goal.loop-number-preserved
loop-number-preserved c =
    let numbers = c.args.numbers.now in
    let n = c.loop-number.number-index in
    more_at c.args.places.now c.args.more.now numbers n (get_or numbers n 0) (take_more numbers n 0 c.loop-number-test.true) _ _ _ c.loop-number.invariant
    (subst (λ (z : ℕ). HaveMore c.loop-number.sets.items c.add.new.sets.items (λ m b. (z ≡ m) × (in_words c.args.more.now.words b ≡ true))) c.place_at.ensures c.add.ensures)

pub returns : goal.returns
returns c = all_at c.args.places.now c.args.more.now c.args.numbers.now c.loop-number.number-index c.loop-number-test.false _ _ c.loop-number.invariant
