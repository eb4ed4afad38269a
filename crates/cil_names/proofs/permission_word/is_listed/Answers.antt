use Rattle.std.proofs.Common.{◌∙◌}
use Rattle.cil_names.proofs.NamePlaceLemmas.{is_listed_by}
use Rattle.cil_names.proofs.permission_word.is_listed.Goals as goal

pub returns : goal.returns
returns c = c.is_some.ensures ∙ is_listed_by c.args.names.now c.args.name.now c.place_among.result c.place_among.ensures
