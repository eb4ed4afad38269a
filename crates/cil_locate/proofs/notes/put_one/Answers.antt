use Rattle.std.proofs.Common.{sym, subst}
use Rattle.cil_base.specs.Places.{not_there, there_as}
use Rattle.cil_server.specs.Streams.{Tells}
use Rattle.cil_server.proofs.StreamLemmas.{tells_both, tells_none}
use Rattle.cil_locate.proofs.PositionLemmas.{small_place}
use Rattle.cil_locate.proofs.ToldLemmas.{note_nothing, note_nowhere, note_there}
use Rattle.cil_locate.proofs.notes.put_one.Goals as goal

pub returns-in_default-clause-told : goal.returns-in_default-clause-told
returns-in_default-clause-told g c =
    subst (Tells _ _) (sym (note_nothing c.args.files.now c.args.lines.now c.args.told (not_there _ _ c.in_default.ensures.lookup.3))) (tells_none _)

pub returns-in_default-file_of-clause-told : goal.returns-in_default-file_of-clause-told
returns-in_default-file_of-clause-told g c =
    subst (Tells _ _) (sym (note_nowhere c.args.files.now c.args.lines.now c.args.told _ (there_as _ _ _ c.in-Some.ensures.lookup.3.0 c.in-Some.ensures.lookup.1)
    (sym c.in_default-file_of.ensures))) (tells_none _)

pub put_place-requires : goal.put_place-requires
put_place-requires g c = small_place _ _ _ c.moved_to-moved.ensures.position (rw c.text.ensures.text c.text.ensures.most)

pub returns-clause-told : goal.returns-clause-told
returns-clause-told g c =
    subst (Tells _ _) (sym (note_there c.args.files.now c.args.lines.now c.args.told _ _ (there_as _ _ _ c.in-Some.ensures.lookup.3.0 c.in-Some.ensures.lookup.1)
    (sym c.in-Some-file_of.ensures)))
    (tells_both _ _ _ _ _ (rw (c.name.ensures, c.text.ensures.text) at (rw c.moved_to-moved.ensures.position at c.put_place.ensures))
    (rw (c.as_slice.ensures, c.as_slice-2.ensures, c.as_ref.ensures.value) at c.put_note.ensures))
