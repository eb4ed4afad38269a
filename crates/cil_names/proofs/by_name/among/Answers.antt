use Rattle.std.proofs.Common.{arith, sym, ◌∙◌}
use Rattle.std.proofs.lemmas.Bool.{true≢false}
use Rattle.cil_names.proofs.EntryLemmas.{parts_fit}
use Rattle.cil_names.proofs.SoleLemmas.{later_one, none_among, one_among}
use Rattle.cil_names.proofs.by_name.among.Goals as goal

pub loop-place-init : goal.loop-place-init
loop-place-init c = (
  omega arith,
  λ m e at fits. let (space, named, wanted) = parts_fit c.args.name.now c.args.sign c.args.space e fits in (c.requires.same.all m e at named wanted).0,
)

pub loop-place-preserved : goal.loop-place-preserved
loop-place-preserved c = (
  let h = c.loop-place.invariant.0 in omega (arith, h),
  later_one c.args.entries.now c.args.name.now c.args.sign c.args.space c.loop-place.place (λ there. true≢false (sym (c.is_wanted_in.ensures.1 there) ∙ c.if-is_wanted_in.false)) c.loop-place.invariant.1,
)

pub returns : goal.returns
returns c =
    none_among c.args.entries.now c.args.name.now c.args.sign c.args.space c.args.same c.requires.same c.loop-place.place (let h = c.loop-place-test.false in omega (arith, h))
    c.loop-place.invariant.1

pub returns-then-is_wanted_in : goal.returns-then-is_wanted_in
returns-then-is_wanted_in c =
    one_among c.args.entries.now c.args.name.now c.args.sign c.args.space c.args.same c.requires.same c.loop-place.place c.requires.sorted c.loop-place.invariant.0
    (let h = c.loop-place-test.true in omega (arith, h)) (c.is_wanted_in.ensures.0 c.if-is_wanted_in.true)
