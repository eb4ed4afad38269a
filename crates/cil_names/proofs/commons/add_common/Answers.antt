use Rattle.std.specs.Prelude.{Contains, ◌++◌}
use Rattle.std.proofs.Common.{arith, subst}
use Rattle.std.proofs.lemmas.List.{length-set}
use Rattle.cil_base.specs.Lists.{Lists, text_cmp}
use Rattle.cil_base.specs.Places.{there_as}
use Rattle.cil_names.proofs.SharedLemmas.{added_to, taken_at}
use Rattle.cil_names.proofs.commons.add_common.Goals as goal

pub returns : goal.returns
returns c =
    added_to c.args.one.now c.args.lists.now.items c.replace-listed.result c.replace-listed.new.dest c.in_ok-joined.joined c.index.result.now c.requires.apart
    (taken_at c.args.lists.now.items c.args.one.now.class c.replace-listed.result c.index_mut.result.now c.requires.class c.replace-listed.ensures.value c.index_mut.ensures.value)
    (there_as _ c.args.one.now.common c.index.result.now (let e = length-set c.args.lists.now.items c.args.one.now.class c.replace-listed.new.dest in let h = c.requires.common in omega (arith, e, h)) c.index.ensures)
    (subst (λ ns. Lists text_cmp (Contains (c.replace-listed.result.items ++ ns)) c.in_ok-joined.joined.items) c.as_slice.ensures.value c.in_ok-joined.ensures)
