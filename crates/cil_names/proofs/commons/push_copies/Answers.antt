use Rattle.std.specs.Prelude.{List, ℕ, ◌++◌, ◌∷◌, []}
use Rattle.std.proofs.Common.{◌∙◌, ap}
use Rattle.std.proofs.lemmas.List.{map-id}
use Rattle.cil_base.specs.MadeLists.{one_mapped, all_mapped}
use Rattle.cil_names.proofs.commons.push_copies.Goals as goal

pub loop-name-preserved : goal.loop-name-preserved
loop-name-preserved c = one_mapped (λ (n : List ℕ). n) _ _ _ _ _ _ _ c.loop-name-test.true c.name-item.is c.loop-name.invariant (c.in_ok-push.ensures.items ∙ ap (λ name. c.loop-name.names.items ++ name ∷ []) (c.in_ok-copy_of.ensures ∙ c.as_slice.ensures))

pub returns : goal.returns
returns c = all_mapped (λ (n : List ℕ). n) _ _ c.args.names.now.items _ c.loop-name-test.false c.loop-name.invariant ∙ ap (λ z. c.args.names.now.items ++ z) (map-id c.args.more.now)
