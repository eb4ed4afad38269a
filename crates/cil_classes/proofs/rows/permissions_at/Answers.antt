use Rattle.std.proofs.Common.{refl, sym, ◌∙◌}
use Rattle.std.proofs.lemmas.Result.{IfOk-weaker}
use Rattle.cil_base.proofs.AtPlace.{at_place, past_end}
use Rattle.cil_classes.proofs.ClassRowLemmas.{none_listed, some_listed}
use Rattle.cil_classes.proofs.rows.permissions_at.Goals as goal

pub returns-in-None : goal.returns-in-None
returns-in-None c =
    let lists = c.args.permissions.now in
    c.from_vec.ensures ∙ c.new.ensures.items ∙ sym (none_listed lists c.args.d (past_end lists lists c.args.d refl c.in-None.ensures.lookup.3))

pub returns-in-Some : goal.returns-in-Some
returns-in-Some c =
    let lists = c.args.permissions.now in
    let list = c.in-Some.list.now in
    IfOk-weaker c.copied_all.result _ _
    (λ names copied. copied ∙ c.as_slice.ensures.value ∙ sym (some_listed lists c.args.d list (at_place lists lists c.args.d refl list c.in-Some.ensures.lookup.3.0 c.in-Some.ensures.lookup.1))) c.copied_all.ensures
