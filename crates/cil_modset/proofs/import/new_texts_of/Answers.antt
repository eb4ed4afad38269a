use Rattle.std.proofs.Common.{◌≡◌, ◌∙◌, arith}
use Rattle.cil_modset.proofs.ImportLemmas.{import_none, import_whole}
use Rattle.cil_modset.proofs.import.new_texts_of.Goals as goal

pub loop-index-init : goal.loop-index-init
loop-index-init c = rw (c.new.ensures.fresh, c.new.ensures.passed) (import_none _ _ c.in_ok-count.ensures.header)

pub returns-clause-found : goal.returns-clause-found
returns-clause-found c = import_whole _ _ _ _ _ _ _ (λ i. omega (arith, c.type_inv.bytes i)) c.loop-index.invariant
    (let last : c.loop-index.index ≡ c.in_ok-count.count = omega arith in last ∙ c.in_ok-count.ensures.count) (omega arith)
