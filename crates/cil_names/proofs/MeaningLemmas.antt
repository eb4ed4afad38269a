-- A meaning is kept as the next number.
use Rattle.std.proofs.Common.{◌≡◌, ℕ, zero, suc, refl, sym, ap, arith}
use Rattle.std.specs.Prelude.{Some, None, ◌-◌}
use Rattle.cil_names.specs.Meanings.{before}

pub nothing_kept : (next : ℕ) → next ≡ 0 → None ≡ before next
nothing_kept next e = sym (ap before e)

pub some_kept : (next : ℕ) → (next ≡ 0 → ⊥) → Some (next - 1) ≡ before next
some_kept zero e = absurd (e refl)
some_kept (suc d) e = ap Some (let f : (suc d) - 1 ≡ d = omega arith in f)
