use Rattle.std.proofs.Common.{◌∙◌, ap}
use Rattle.cil_syntax.specs.Spelling.{is_one_of}
use Rattle.cil_syntax.proofs.NameSetLemmas.{held}
use Rattle.cil_syntax.proofs.name_set.NameSet.has.Goals as goal

pub returns : goal.returns
returns c = c.contains.ensures ∙ held c.self.inside.names.keys c.args.name ∙ ap (λ ns. is_one_of ns c.args.name.now) c.self.view_is
