use Rattle.std.proofs.Common.{◌∙◌, sym}
use Rattle.cil_macros.specs.Firsts.{is_body_of}
use Rattle.cil_macros.proofs.FirstLemmas.{none_first}
use Rattle.cil_macros.proofs.chain.Brought.first_body.Goals as goal

pub returns-in-None : goal.returns-in-None
returns-in-None c = λ ss are.
    c.len.ensures ∙ c.args.self.now.bodies.ok.0 ∙ none_first (is_body_of ss c.args.called) c.args.self.now.bodies.items (sym (are.first c.args.called) ∙ sym c.in-None.ensures.value)
