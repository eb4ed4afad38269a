use Rattle.cil_names.proofs.NamePlaceLemmas.{its_place}
use Rattle.cil_names.proofs.name_places.place_guessed.Goals as goal

pub returns-then-is_name_at : goal.returns-then-is_name_at
returns-then-is_name_at c = its_place c.args.names.now c.args.name.now c.in-Some.place c.requires (c.is_name_at.ensures c.if-is_name_at.true)
