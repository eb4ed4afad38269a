use Rattle.std.proofs.Common.{drop, ap, ◌∙◌}
use Rattle.std.proofs.lemmas.Result.{IfOk-weaker}
use Rattle.cil_declare.proofs.ContentLemmas.{contents_tell}
use Rattle.cil_declare.proofs.run.is_same_there.Goals as goal

pub parts_at-requires : goal.parts_at-requires
parts_at-requires c = c.requires.a.within

pub parts_at-requires-2 : goal.parts_at-requires-2
parts_at-requires-2 c = c.requires.b.within

pub returns : goal.returns
returns c =
    IfOk-weaker c.are_same_parts.result _ _
    (contents_tell c.args.instances.now c.args.a c.args.b c.requires.a c.requires.b _ _ _ _ c.in_ok-one.ensures c.in_ok-other.ensures (c.behind_first.ensures ∙ ap (drop 1) c.as_slice.ensures.value)
    (c.behind_first-2.ensures ∙ ap (drop 1) c.as_slice-2.ensures.value))
    c.are_same_parts.ensures
