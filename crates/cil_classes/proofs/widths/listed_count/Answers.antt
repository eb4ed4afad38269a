use Rattle.std.proofs.Common.{ap, length, refl, sym, ◌∙◌}
use Rattle.cil_base.proofs.AtPlace.{at_place, past_end}
use Rattle.cil_classes.proofs.ClassRowLemmas.{none_listed, some_listed}
use Rattle.cil_classes.proofs.widths.listed_count.Goals as goal

pub returns-in-None : goal.returns-in-None
returns-in-None c =
    let lists = c.args.permissions.now in
    ap length (sym (none_listed lists c.args.d (past_end lists lists c.args.d refl c.in-None.ensures.lookup.3)))

pub returns-in-Some : goal.returns-in-Some
returns-in-Some c =
    let lists = c.args.permissions.now in
    let list = c.in-Some.list.now in
    ap length (c.as_slice.ensures.value ∙ sym (some_listed lists c.args.d list (at_place lists lists c.args.d refl list c.in-Some.ensures.lookup.3.0 c.in-Some.ensures.lookup.1)))
