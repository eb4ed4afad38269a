use Rattle.std.proofs.Common.{◌≡◌, ◌+◌, ◌∙◌, ℕ, Bool, arith, sym, ap, subst}
use Rattle.std.specs.Global.{Vec}
use Rattle.cil_world.specs.Masks.{Spells}
use Rattle.cil_world.proofs.MaskLemmas.{AreShown, placed_by, shown_name, shown_skipped, spelled_all, spelled_hyphen, unnamed_by}
use Rattle.cil_world.proofs.masks.spelled.Goals.{in-Some+in_ok-push_name, in_default, then-is_first+in_ok-push, else-is_first}
use Rattle.cil_world.proofs.masks.spelled.Goals as goal

pub loop-bit-preserved : goal.loop-bit-preserved
loop-bit-preserved c = λ h class_ are. elim c.match-named.branch [
  | in-Some+in_ok-push_name w ↦
      subst (λ (z : Bool). AreShown h class_ c.args.mask (c.loop-bit.bit + 1) c.match-named.text.items z) (sym w.is_first-is)
      (shown_name h class_ c.args.mask c.loop-bit.bit c.loop-bit.text.items w.in-Some.name.now c.match-named.text.items c.loop-bit.is_first (c.loop-bit.invariant h class_ are)
      (placed_by h class_ c.args.mask c.loop-bit.bit c.args.names.now w.in-Some.name.now are w.in-Some.ensures)
      (ap (λ (t : Vec ℕ). t.items) w.text-is ∙ w.in_ok-push_name.ensures))
  | in_default w ↦
      subst (λ (t : Vec ℕ). AreShown h class_ c.args.mask (c.loop-bit.bit + 1) t.items c.match-named.is_first) (sym w.text-is)
      (subst (λ (z : Bool). AreShown h class_ c.args.mask (c.loop-bit.bit + 1) c.loop-bit.text.items z) (sym w.is_first-is)
      (shown_skipped h class_ c.args.mask c.loop-bit.bit c.loop-bit.text.items c.loop-bit.is_first (c.loop-bit.invariant h class_ are)
      (unnamed_by h class_ c.args.mask c.loop-bit.bit c.args.names.now are w.in_default.ensures)))
]

pub returns : goal.returns
returns c = λ h class_ are.
    let at : c.loop-bit.bit ≡ 32 = omega (arith, c.loop-bit-test.false, c.loop-bit.auto.bit-end) in
    elim c.if-is_first.branch [
      | then-is_first+in_ok-push w ↦
          spelled_hyphen h class_ c.args.mask c.loop-bit.bit c.loop-bit.text.items c.from_vec.result at
          (subst (λ (z : Bool). AreShown h class_ c.args.mask c.loop-bit.bit c.loop-bit.text.items z) w.if-is_first.true (c.loop-bit.invariant h class_ are))
          (c.from_vec.ensures ∙ ap (λ (t : Vec ℕ). t.items) w.text-is ∙ w.in_ok-push.ensures.items)
      | else-is_first w ↦
          subst (Spells h class_ c.args.mask) (sym (c.from_vec.ensures ∙ ap (λ (t : Vec ℕ). t.items) w.text-is))
          (spelled_all h class_ c.args.mask c.loop-bit.bit c.loop-bit.text.items at
          (subst (λ (z : Bool). AreShown h class_ c.args.mask c.loop-bit.bit c.loop-bit.text.items z) w.if-is_first.false (c.loop-bit.invariant h class_ are)))
    ]
