use Rattle.std.proofs.Common.{◌≡◌, subst, List, ℕ}
use Rattle.cil_modset.specs.Modules.{IsUnion}
use Rattle.cil_modset.proofs.LawLemmas.{set_of_bundle}
use Rattle.cil_modset.proofs.WalkLemmas.{new_modules, new_apart, new_union, union_modules}
use Rattle.cil_modset.proofs.set.ModuleSet.import.Goals as goal

pub add_all-requires-clause-rising : goal.add_all-requires-clause-rising
add_all-requires-clause-rising c = c.in_ok-fresh.ensures.found.new.rising

pub add_all-requires-clause-apart : goal.add_all-requires-clause-apart
add_all-requires-clause-apart c =
    let i = c.in_ok-fresh.ensures.found in new_apart _ i.modules _ i.new

pub invariant_of-self-2 : goal.invariant_of-self-2
invariant_of-self-2 c =
    let i = c.in_ok-fresh.ensures.found in
    union_modules _ _ _ c.self.invariant (new_modules _ i.modules _ i.new i.bundle.readable) c.in_ok-add_all.ensures.union

pub returns : goal.returns
returns c = record {
  a_bundle = let i = c.in_ok-fresh.ensures.found in (i.modules, i.bundle);
  union = λ modules bundle.
      let i = c.in_ok-fresh.ensures.found in
      let same : i.modules ≡ modules = set_of_bundle _ i.modules modules i.bundle bundle in
      subst (λ (w : List (List ℕ)). IsUnion c.args.self.now w c.add_all.new.self) same
      (rw (← c.self.view_is) (new_union _ i.modules _ _ i.new i.bundle.readable.rising c.in_ok-add_all.ensures.union));
  added = rw (← c.self.view_is) c.in_ok-add_all.ensures.added;
  refusal = tt;
  err = tt;
}
