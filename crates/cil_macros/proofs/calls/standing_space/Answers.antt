use Rattle.std.proofs.Common.{◌∙◌, ap, subst, sym}
use Rattle.cil_base.specs.Places.{none_some, some_same}
use Rattle.cil_blocks.specs.Namespaces.{IsNumber}
use Rattle.cil_blocks.specs.Places.{Numbered, spaces_in}
use Rattle.cil_macros.proofs.CallLemmas.{rank_there}
use Rattle.cil_macros.proofs.calls.standing_space.Goals as goal

pub unreachable-requires : goal.unreachable-requires
unreachable-requires c =
    let s = c.args.spaces.now in
    let m = rank_there s c.args.rank c.requires.standing in
    let x = c.requires.standings.places c.args.rank m.0 m.1 in
    none_some x.place (sym c.in_default.ensures ∙ x.is)

pub returns : goal.returns
returns c = λ m e.
    let s = c.args.spaces.now in
    let x = c.requires.standings.places c.args.rank m e in
    let (p, at, is) = c.in-Some.ensures in
    subst (IsNumber (spaces_in s) m.space) (ap (λ (n : Numbered). n.0) (some_same x.place p (sym x.is ∙ at)) ∙ sym is) x.so.is_space
