use Rattle.std.proofs.Common.{◌∙◌, ap}
use Rattle.std.specs.Prelude.{not}
use Rattle.cil_label_bytes.proofs.NameLemmas.{lacks_is}
use Rattle.cil_label_bytes.proofs.name_list.NameList.lacks.Goals as goal

pub returns : goal.returns
returns c = rw (← c.self.view_is) (ap not c.contains.ensures ∙ lacks_is c.self.inside.names.keys c.args.name)
