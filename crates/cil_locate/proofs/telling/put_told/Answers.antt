use Rattle.std.proofs.Common.{sym, subst}
use Rattle.cil_base.specs.Places.{not_there, there_as}
use Rattle.cil_server.specs.Streams.{Tells}
use Rattle.cil_server.proofs.StreamLemmas.{tells_none}
use Rattle.cil_locate.proofs.ToldLemmas.{told_fault, told_nothing, told_policy}
use Rattle.cil_locate.proofs.telling.put_told.Goals as goal

pub returns-in_default-clause-told : goal.returns-in_default-clause-told
returns-in_default-clause-told g c =
    subst (Tells _ _) (sym (told_nothing c.args.files.now c.args.faults.now c.args.told (not_there _ _ c.in_default.ensures.lookup.3))) (tells_none _)

pub returns-in_default-file_of-clause-told : goal.returns-in_default-file_of-clause-told
returns-in_default-file_of-clause-told g c =
    subst (Tells _ _) (sym (told_policy c.args.files.now c.args.faults.now c.args.told _ (there_as _ _ _ c.in-Some.ensures.lookup.3.0 c.in-Some.ensures.lookup.1)
    (sym c.in_default-file_of.ensures))) c.put_policy.ensures

pub returns-clause-told : goal.returns-clause-told
returns-clause-told g c =
    subst (Tells _ _) (sym (told_fault c.args.files.now c.args.faults.now c.args.told _ _ (there_as _ _ _ c.in-Some.ensures.lookup.3.0 c.in-Some.ensures.lookup.1)
    (sym c.in-Some-file_of.ensures))) (rw (c.name.ensures, c.text-2.ensures.text, c.text.ensures.text) at (rw c.moved_to-moved.ensures.position at c.put_fault.ensures))
