use Rattle.std.specs.Prelude.{◌≡◌, ◌≤◌, drop, fold}
use Rattle.cil_mls.specs.Hashed.{hashed}
use Rattle.cil_mls.proofs.categories.CategoriesHash.hash.Given as goal

abbrev pub invariant-loop-at : goal.invariant-loop-at
invariant-loop-at g l = (l.at ≤ 16) × (fold g.H.Hasher.write l.state (hashed l.at (drop l.at l.self.words)) ≡ fold g.H.Hasher.write l.initial.state (hashed 0 l.self.words))
