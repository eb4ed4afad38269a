-- What stands at places of a bundle.
use Rattle.std.proofs.Common.{◌≡◌, ℕ, ◌+◌, ◌^◌, ◌<◌, ◌≤◌, List, [], ◌∷◌, ◌++◌, length, get_or, take, drop, refl, sym, ◌∙◌, ap, subst, arith}
use Rattle.std.specs.List.{flat_map}
use Rattle.std.specs.Int.{w64, from_be_bytes}
use Rattle.std.proofs.lemmas.List.{append_assoc, append-nil, take_at, drop_at, drop-drop, length-append, length-drop, get_or_append_left}
use Rattle.std.proofs.lemmas.Nat.{from_be_bytes-to_be_bytes_8}
use Rattle.cil_base.specs.Lists.{contains_here, contains_later}
use Rattle.cil_modset.specs.Bundle.{magic, number, entry, IsBundle}
use Rattle.cil_modset.specs.Faults.{number_at, promised, HasModule, HasModules, IsRightUpTo}
use Rattle.cil_modset.proofs.BundleLemmas.{first_eight}
use Rattle.cil_modset.proofs.LawLemmas.{AreShort, modules_short}

-- a number that is spelled at a place stands there
number_here : (bytes more : List ℕ) (at n : ℕ) → n < 2 ^ 64 → drop at bytes ≡ number n ++ more → number_at bytes at ≡ n
number_here bytes more at n fits e =
    sym (first_eight (drop at bytes))
    ∙ ap (λ (w : List ℕ). from_be_bytes w64 (take 8 w)) e
    ∙ ap (from_be_bytes w64) (take_at (number n) more 8 refl)
    ∙ from_be_bytes-to_be_bytes_8 n fits

-- a module that is spelled at a place stands there, and behind it what follows
module_here : (bytes text more : List ℕ) (at : ℕ) → at ≤ length bytes → length text < 2 ^ 64 → drop at bytes ≡ entry text ++ more
    → HasModule bytes at text × (drop (at + 8 + length text) bytes ≡ more)
module_here bytes text more at le fits e =
    let moved : drop at bytes ≡ number (length text) ++ (text ++ more) = e ∙ append_assoc (number (length text)) text more in
    let behind : drop (at + 8) bytes ≡ text ++ more =
    sym (drop-drop 8 at bytes) ∙ ap (drop 8) moved ∙ drop_at (number (length text)) (text ++ more) 8 refl in
    let size : length (drop at bytes) ≡ 8 + (length text + length more) =
    ap length moved ∙ length-append (number (length text)) (text ++ more) ∙ ap (λ (n : ℕ). 8 + n) (length-append text more) in (
      record {
        within = omega (arith, size, length-drop at bytes);
        size = number_here bytes (text ++ more) at (length text) fits moved;
        text_is = sym (ap (take (length text)) behind ∙ take_at text more (length text) refl);
      },
      sym (drop-drop (length text) (at + 8) bytes) ∙ ap (drop (length text)) behind ∙ drop_at text more (length text) refl,
    )

-- modules stand from one place up to another, and behind them what follows
pub record Stand (bytes : List ℕ) (texts : List (List ℕ)) (from : ℕ) (more : List ℕ) : Type 0 where
  pub to : ℕ
  pub stand : HasModules bytes from texts to
  pub behind : drop to bytes ≡ more
  pub within : to ≤ length bytes

modules_here : (bytes : List ℕ) (texts : List (List ℕ)) (more : List ℕ) (from : ℕ) → from ≤ length bytes → AreShort texts
    → drop from bytes ≡ flat_map entry texts ++ more → Stand bytes texts from more
modules_here bytes [] more from le short e = record { to = from; stand = refl; behind = e; within = le }
modules_here bytes (text ∷ texts) more from le short e =
    let here = module_here bytes text (flat_map entry texts ++ more) from le (short text (contains_here text texts))
    (e ∙ append_assoc (entry text) (flat_map entry texts) more) in
    let rest = modules_here bytes texts more (from + 8 + length text) here.0.within (λ t c. short t (contains_later t text texts c)) here.1 in
    record { to = rest.to; stand = (here.0, rest.stand); behind = rest.behind; within = rest.within }

-- all is right up to the end of a bundle, and no module is missing
pub record IsRightThrough (bytes : List ℕ) (modules : List (List ℕ)) : Type 0 where
  pub right : IsRightUpTo bytes modules (length bytes)
  pub all : length modules ≡ promised bytes

pub bundle_right : (bytes : List ℕ) (modules : List (List ℕ)) → IsBundle bytes modules → IsRightThrough bytes modules
bundle_right bytes modules b =
    let n = length modules in
    let e = flat_map entry modules in
    let size : length bytes ≡ 5 + (8 + length e) =
    ap length b.spelled ∙ length-append magic (number n ++ e) ∙ ap (λ (k : ℕ). 5 + k) (length-append (number n) e) in
    let after_magic : drop 5 bytes ≡ number n ++ e = ap (drop 5) b.spelled ∙ drop_at magic (number n ++ e) 5 refl in
    let after_header : drop 13 bytes ≡ e = sym (drop-drop 8 5 bytes) ∙ ap (drop 8) after_magic ∙ drop_at (number n) e 8 refl in
    let count : promised bytes ≡ n = number_here bytes e 5 n b.counted after_magic in
    let stand = modules_here bytes modules [] 13 (omega (arith, size)) (modules_short modules b.readable) (after_header ∙ sym (append-nil e)) in
    let left : length (drop stand.to bytes) ≡ 0 = ap length stand.behind in
    let end : stand.to ≡ length bytes = omega (arith, left, length-drop stand.to bytes, stand.within) in
    record {
      right = record {
        header = record {
          within = omega (arith, size);
          magic_is = λ k lt less. ap (λ (w : List ℕ). get_or w k 0) b.spelled ∙ get_or_append_left magic (number n ++ e) 0 k lt;
        };
        stand = subst (λ (k : ℕ). HasModules bytes 13 modules k) end stand.stand;
        readable = b.readable;
        within = omega arith;
        promise = omega (arith, count);
      };
      all = sym count;
    }
