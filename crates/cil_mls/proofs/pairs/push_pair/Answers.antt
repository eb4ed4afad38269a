use Rattle.std.specs.Prelude.{Contains}
use Rattle.std.proofs.Common.{List, ℕ, ◌∙◌, subst}
use Rattle.cil_attrs.specs.known.Known.{set_meant}
use Rattle.cil_mls.specs.Pairs.{LeadMore}
use Rattle.cil_mls.proofs.pairs.push_pair.Goals as goal

pub returns : goal.returns
returns c =
    let low = c.as_slice.ensures.value ∙ c.in_ok-low.ensures in
    let high = c.as_slice-2.ensures.value ∙ c.in_ok-high.ensures in
    subst (λ (hs : List ℕ). LeadMore c.args.edges.now.items c.push_between.new.edges.items (λ a b. Contains (set_meant c.args.standing.now c.args.low) a × Contains hs b)) high
    (subst (λ (ls : List ℕ). LeadMore c.args.edges.now.items c.push_between.new.edges.items (λ a b. Contains ls a × Contains c.as_slice-2.result.now b)) low c.in_ok-push_between.ensures)
