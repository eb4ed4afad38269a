-- Masks of classes with many permissions.
use Rattle.std.proofs.Common.{◌≡◌, ℕ, ◌^◌, ◌<◌, ◌≤◌, true, ltb, sym, arith}
use Rattle.std.proofs.lemmas.Bool.{lt-ltb}
use Rattle.std.proofs.Math.Nat.{pow-le-pow_right}

-- no mask of four bytes has a bit past 32 permissions
pub wide_mask : (mask width : ℕ) → mask < 2 ^ 32 → 32 ≤ width → true ≡ ltb mask (2 ^ width)
wide_mask mask width small wide =
    let two : 0 < 2 = omega arith in
    let more : 2 ^ 32 ≤ 2 ^ width = pow-le-pow_right two wide in
    sym (lt-ltb mask (2 ^ width) (omega (arith, small, more)))
