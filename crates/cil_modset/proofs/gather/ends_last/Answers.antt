use Rattle.std.proofs.Common.{◌≡◌, ◌∙◌}
use Rattle.cil_modset.proofs.RisingLemmas.{last_text, never_both_below}
use Rattle.cil_modset.proofs.gather.ends_last.Goals as goal

pub returns-in-Some-Some-clause-first : goal.returns-in-Some-Some-clause-first
returns-in-Some-Some-clause-first c = λ yes x y front back p q below.
    let a-is : c.as_slice-in-Some-Some.result.now ≡ x =
    c.as_slice-in-Some-Some.ensures.value ∙ last_text c.args.first.now c.in-Some-Some.a.now front x c.in-Some-Some.ensures.item.3.0 c.in-Some-Some.ensures.item.1 p in
    let b-is : c.as_slice.result.now ≡ y =
    c.as_slice.ensures.value ∙ last_text c.args.second.now c.in-Some-Some.b.now back y c.in-Some-Some.ensures'.item.3.0 c.in-Some-Some.ensures'.item.1 q in
    never_both_below x y below (rw (b-is, a-is) at (c.is_below.ensures.0 yes))

pub returns-in-Some-Some-clause-second : goal.returns-in-Some-Some-clause-second
returns-in-Some-Some-clause-second c = λ no x y front back p q below.
    let b-is : c.as_slice.result.now ≡ x =
    c.as_slice.ensures.value ∙ last_text c.args.second.now c.in-Some-Some.b.now front x c.in-Some-Some.ensures'.item.3.0 c.in-Some-Some.ensures'.item.1 p in
    let a-is : c.as_slice-in-Some-Some.result.now ≡ y =
    c.as_slice-in-Some-Some.ensures.value ∙ last_text c.args.first.now c.in-Some-Some.a.now back y c.in-Some-Some.ensures.item.3.0 c.in-Some-Some.ensures.item.1 q in
    let yes = c.is_below.ensures.1 (rw (b-is, a-is) below) in cc (no, yes)
