-- What flows along edges flows along paths.
use Rattle.std.specs.Prelude.{◌⊎◌, ℕ, List, Contains, IsBitSet}
use Rattle.std.proofs.Common.{refl, sym, subst, inl, inr}
use Rattle.cil_settle.specs.declared.edge.Edge.{Edge}
use Rattle.cil_settle.specs.Cycles.{Leads, Reaches, at_once, further}
use Rattle.cil_settle.specs.Laws.{FlowsAlongPaths}
use Rattle.cil_settle.specs.Spread.{Flows, begins, goes_on, mask_at}
use Rattle.cil_settle.proofs.ReachLemmas.{path_more}

module _ (edges : List Edge) (start : List ℕ) where
  -- the edge itself
  itself : (e : Edge) → Contains edges e → Leads edges e.from e.to
  itself e c = record { edge = e; is_edge = c; from_a = refl; to_b = refl }

  -- a bit that flows to a node began there, or where a path to it begins
  began : (v bit : ℕ) → Flows edges start v bit → IsBitSet (mask_at start v) bit ⊎ ((u : ℕ) × IsBitSet (mask_at start u) bit × Reaches edges u v)
  began v bit (begins u k b) = inl b
  began v bit (goes_on e k c f) = elim (began e.from k f) [
    | inl b ↦ inr (e.from, b, at_once e.from e.to (itself e c))
    | inr p ↦ inr (p.0, p.1, path_more edges p.0 e.from e.to p.2 (itself e c))
  ]

  flows_on : (a b bit : ℕ) → Flows edges start a bit → Leads edges a b → Flows edges start b bit
  flows_on a b bit f l =
      subst (λ k. Flows edges start k bit) l.to_b (goes_on l.edge bit l.is_edge (subst (λ k. Flows edges start k bit) (sym l.from_a) f))

  flows_along : (a b bit : ℕ) → Flows edges start a bit → Reaches edges a b → Flows edges start b bit
  flows_along a b bit f (at_once p q l) = flows_on a b bit f l
  flows_along a b bit f (further p x q l r) = flows_along x b bit (flows_on a x bit f l) r

pub along_paths : FlowsAlongPaths
along_paths edges start v bit = (
  began edges start v bit,
  λ s. elim s [ inl b ↦ begins v bit b | inr p ↦ flows_along edges start p.0 v bit (begins p.0 bit p.1) p.2 ],
)
