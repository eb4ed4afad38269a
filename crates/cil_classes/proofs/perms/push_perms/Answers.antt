use Rattle.std.specs.Prelude.{◌∷◌, []}
use Rattle.std.proofs.Common.{inl, inr, subst, sym}
use Rattle.std.proofs.lemmas.Result.{IfOk-from_err, on_ok_weaker}
use Rattle.cil_names.specs.Unresolved.{term_with}
use Rattle.cil_classes.specs.Parts.{AreNodes, IsPartIn}
use Rattle.cil_classes.specs.Pushed.{ArePushed}
use Rattle.cil_classes.proofs.PushLemmas.{direct_masks, led_masks}
use Rattle.cil_classes.proofs.perms.push_perms.Goals as goal

pub returns : goal.returns
returns c =
    let k = c.args.known.now in
    let rows = c.args.classes.now in
    on_ok_weaker c.push_part.result
    (λ one xs names f known apart classes assigned begin.
    let cp = term_with f c.args.«module» c.args.term.now in
    let nodes = subst (AreNodes k) (sym c.as_slice.ensures.value) assigned.are_nodes in
    let part = subst (λ ns. IsPartIn k xs rows ns c.in_ok-part.part cp) c.as_slice.ensures.value (c.in_ok-part.ensures xs names f known apart classes nodes begin) in
    elim one [
      | inl held ↦
          let pushed = subst (λ hs. ArePushed hs c.in_ok-part.part.from.items c.args.out.now.items c.push_part.new.out.items) c.as_slice-2.ensures.value held.1 in
          record { masks = pushed.masks; are = led_masks k xs names known apart rows classes c.args.given.now assigned cp c.in_ok-part.part part held.0 pushed.masks pushed.are; behind = pushed.behind }
      | inr some ↦ record {
        masks = (record { number = c.in_ok-part.part.class }, c.in_ok-part.part.mask) ∷ [];
        are = direct_masks k xs names known apart rows classes c.args.given.now assigned cp c.in_ok-part.part part some.0;
        behind = some.1;
      }
    ])
    c.push_part.ensures

pub returns-in_err-part : goal.returns-in_err-part
returns-in_err-part c = IfOk-from_err c.from_residual.result _ c.from_residual.ensures.0
