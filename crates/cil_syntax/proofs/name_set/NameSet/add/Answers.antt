use Rattle.std.proofs.Common.{◌∙◌, ◌||◌, ap, not}
use Rattle.cil_syntax.specs.Around.{names_of}
use Rattle.cil_syntax.specs.Spelling.{is_one_of, same_bytes}
use Rattle.cil_syntax.proofs.NameSetLemmas.{held, put}
use Rattle.cil_syntax.proofs.name_set.NameSet.add.Goals as goal

pub returns-clause-new : goal.returns-clause-new
returns-clause-new c =
    c.in_ok-insert.ensures.added ∙ ap not (held c.self.inside.names.keys c.args.name ∙ ap (λ ns. is_one_of ns c.args.name.now) c.self.view_is)

pub returns-clause-names : goal.returns-clause-names
returns-clause-names c word =
    ap (λ ks. is_one_of (names_of ks) word) c.in_ok-insert.ensures.keys
    ∙ put c.args.name word c.self.inside.names.keys
    ∙ ap (λ ns. same_bytes word c.args.name.now || is_one_of ns word) c.self.view_is
