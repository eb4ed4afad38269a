use Rattle.std.proofs.Common.{◌∙◌, [], ap, sym}
use Rattle.cil_blocks.specs.Numbers.{with_numbers}
use Rattle.cil_macros.proofs.ScopeLemmas.{same_scope}
use Rattle.cil_macros.proofs.body_scope.adds_nothing.Goals as goal

pub returns : goal.returns
returns c = λ t m l e is.
    same_scope c.args.spaces.now [] c.requires.standings c.requires.namespaces c.args.called c.add_scope.new.scope c.add_all.new.scope c.close.new.self c.args.scope.now
    (λ p at. c.in_ok-add_scope.ensures p at ∙ ap (λ ks. with_numbers ks p.1) c.clear.ensures) c.in_ok-add_all.ensures c.in_ok-close.ensures
    (sym c.as_slice.ensures ∙ c.are_same.ensures t) m l e is
