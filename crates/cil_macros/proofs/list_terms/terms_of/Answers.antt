use Rattle.std.proofs.Common.{◌≡◌, ◌<◌, ◌+◌, ◌-◌, ◌∙◌, ap, subst, sym, refl, drop, length, arith}
use Rattle.std.specs.Prelude.{Some, option_map, slice_get}
use Rattle.std.proofs.lemmas.List.{length-map}
use Rattle.std.proofs.lemmas.Option.{slice_get-map, slice_get_read}
use Rattle.cil_macros.specs.Listed.{part_there, parts_there, read_parts}
use Rattle.cil_macros.specs.ListTerms.{AreRead}
use Rattle.cil_macros.proofs.ListTermLemmas.{all_read, more_read, none_read}
use Rattle.cil_macros.proofs.list_terms.terms_of.Goals as goal

pub loop-place-init : goal.loop-place-init
loop-place-init c = (
  omega (arith),
  λ ps m. none_read (parts_there ps c.args.parts.now) m _ _ (sym (length-map c.args.parts.now (part_there ps))) c.new.ensures.items c.new-2.ensures.items,
)

pub loop-place-preserved : goal.loop-place-preserved
loop-place-preserved c =
    let up_to = c.loop-place.invariant.0 in
    let some = c.loop-place-test.true in
    let place = c.loop-place.place in
    let within : place - 1 < length c.args.parts.now = omega (arith, up_to, some) in
    let next : place - 1 + 1 ≡ place = omega (arith, some) in (
      omega (arith, up_to),
      λ ps m.
          let xs = parts_there ps c.args.parts.now in
          let there : slice_get xs (place - 1) ≡ Some (part_there ps c.index-parts-place.result) =
          slice_get-map (part_there ps) c.args.parts.now (place - 1) ∙ ap (option_map (part_there ps)) (slice_get_read c.args.parts.now (length c.args.parts.now) (place - 1) c.index-parts-place.result refl within c.index-parts-place.is) in
          more_read xs m (place - 1) (part_there ps c.index-parts-place.result) c.read.new.self there
          (c.in_ok-read.ensures ps xs m (read_parts (drop (place - 1 + 1) xs)) there
          (subst (λ n. AreRead xs m c.loop-place.reading (read_parts (drop n xs))) (sym next) (c.loop-place.invariant.1 ps m))),
    )

pub returns : goal.returns
returns c = λ ps m.
    let xs = parts_there ps c.args.parts.now in
    let none = c.loop-place-test.false in
    let first : c.loop-place.place ≡ 0 = omega (arith, none) in
    all_read xs m c.loop-place.reading c.reverse.new.self.items c.reverse.ensures.items
    (subst (λ n. AreRead xs m c.loop-place.reading (read_parts (drop n xs))) first (c.loop-place.invariant.1 ps m))
