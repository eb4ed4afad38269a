use Rattle.std.proofs.Common.{refl, ◌∙◌, ◌-◌, [], ap, arith, sym}
use Rattle.std.specs.Prelude.{Some}
use Rattle.cil_macros.specs.Items.{scoped_by}
use Rattle.cil_macros.specs.declared.placed_word.PlacedWord.{PlacedWord}
use Rattle.cil_names.specs.Asked.{wanted_by}
use Rattle.cil_names.specs.Resolves.{told_word}
use Rattle.cil_names.proofs.AskedLemmas.{in_none, in_others, in_this, past}
use Rattle.cil_names.proofs.asked.told_of.Goals as goal

pub loop-one-init : goal.loop-one-init
loop-one-init c = λ ps. refl

pub returns-in-Some : goal.returns-in-Some
returns-in-Some c = λ ps.
    in_this (wanted_by ps) c.args.asked.now c.args.number c.loop-one.one-index c.loop-one.left (c.loop-one.invariant ps) c.one-item.result c.one-item.result c.loop-one-test.true c.one-item.is
    told_word _ (c.in-Some.ensures ps) ∙ ap (λ (w : PlacedWord). Some (scoped_by ps w)) (sym c.copied.ensures)

pub overflow_sub-left : goal.overflow_sub-left
overflow_sub-left c =
    let counted = c.len-left.ensures [] in
    let beyond = past (wanted_by [] c.one-item.result) c.loop-one.left (c.in-None.ensures []) in
    omega (arith, counted, beyond)

pub loop-one-preserved : goal.loop-one-preserved
loop-one-preserved c = λ ps.
    let counted = c.len-left.ensures ps in
    let beyond = past (wanted_by ps c.one-item.result) c.loop-one.left (c.in-None.ensures ps) in
    in_others (wanted_by ps) c.args.asked.now c.args.number c.loop-one.one-index c.loop-one.left (c.loop-one.invariant ps) c.one-item.result c.one-item.result c.loop-one-test.true c.one-item.is
    (c.loop-one.left - c.len-left.result) (c.in-None.ensures ps) (omega (arith, counted, beyond))

pub returns : goal.returns
returns c = λ ps. in_none (wanted_by ps) c.args.asked.now c.args.number c.loop-one.one-index c.loop-one.left (c.loop-one.invariant ps) c.loop-one-test.false
