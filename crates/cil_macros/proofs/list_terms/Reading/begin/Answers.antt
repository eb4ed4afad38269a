use Rattle.std.specs.declared.alloc.Global.{Global}
use Rattle.std.specs.declared.vec.Vec.{Vec}
use Rattle.std.proofs.Common.{◌∙◌, ap}
use Rattle.cil_syntax.specs.declared.term.Term as rust
use Rattle.cil_macros.proofs.ListTermLemmas.{begun}
use Rattle.cil_macros.proofs.list_terms.Reading.begin.Goals as goal

pub returns : goal.returns
returns c = λ xs m read are.
    begun xs m c.args.self.now _ c.replace-level.result read (ap (λ (v : Vec rust.Term Global). v.items) c.replace-level.ensures.after ∙ c.new.ensures.items) c.in_ok-push.ensures.items
    (ap (λ (v : Vec rust.Term Global). v.items) c.replace-level.ensures.value) are
