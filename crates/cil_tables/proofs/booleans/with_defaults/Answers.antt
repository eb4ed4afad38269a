use Rattle.std.proofs.Common.{◌∙◌, ap, sym, ◌++◌, ◌∷◌, [], take, List, ℕ}
use Rattle.std.specs.Prelude.{◌≡◌, ◌↔◌, Contains, true}
use Rattle.std.proofs.Common.{subst}
use Rattle.std.proofs.lemmas.List.{take_more}
use Rattle.cil_tables.proofs.BooleanLemmas.{defaults_more, one_boolean_more}
use Rattle.cil_tables.proofs.booleans.with_defaults.Goals as goal

pub loop-name-preserved : goal.loop-name-preserved
loop-name-preserved c =
    let names = c.args.names.now in
    let i = c.loop-name.name-index in
    let name = c.name-item.result in
    let same = c.in_ok-name.ensures ∙ c.as_slice-in-loop-name.ensures in (
      one_boolean_more names i name c.in_ok-name.name _ _ _ (take_more names i name c.loop-name-test.true ∙ ap (λ (x : List ℕ). take i names ++ x ∷ []) (sym c.name-item.is)) same c.in_ok-push.ensures.items
          c.loop-name.invariant.0,
      defaults_more c.args.on.now _ _ _ c.in_ok-push.ensures.items
          (subst (λ (n : List ℕ). (c.is_among-default.result ≡ true) ↔ Contains c.args.on.now n) (c.as_slice.ensures ∙ sym same) c.is_among-default.ensures) c.loop-name.invariant.1,
    )
