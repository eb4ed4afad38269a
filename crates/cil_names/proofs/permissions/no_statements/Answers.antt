use Rattle.std.specs.Prelude.{None, Option, replicate}
use Rattle.std.proofs.Common.{◌≡◌, ℕ, length, map, refl, rules}
use Rattle.std.proofs.lemmas.Simd.{splat_is_map}
use Rattle.cil_names.proofs.permissions.no_statements.Goals as goal

pub returns : goal.returns
returns c =
    let none : Option ℕ = None in
    let same : replicate (length c.args.entries.now) none ≡ map (λ _. none) c.args.entries.now = splat_is_map c.args.entries.now (length c.args.entries.now) none refl in
    search (rules, same)
