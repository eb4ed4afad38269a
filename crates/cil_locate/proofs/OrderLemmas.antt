-- Keys with their numbers, one after another.
use Rattle.std.proofs.Common.{◌≡◌, ◌+◌, ◌<◌, ◌≤◌, ℕ, zero, suc, List, [], ◌∷◌, ◌++◌, length, map, take, get_or, refl, sym, ◌∙◌, ap, subst, arith}
use Rattle.std.proofs.lemmas.List.{length-map, map-append, take_all, take_more}
use Rattle.cil_locate.specs.Order.{Key, numbered_from}
use Rattle.cil_locate.specs.declared.told.Told.{Told}

-- a key with its number
abbrev pub numbered : ℕ → Key → Told
numbered n key = record { origin = key.origin; at = key.at; number = n }

numbered_behind : (n : ℕ) (keys : List Key) (key : Key) → numbered_from n (keys ++ key ∷ []) ≡ numbered_from n keys ++ numbered (n + length keys) key ∷ []
unfolding numbered_from
numbered_behind n [] key = ap (λ m. numbered m key ∷ []) {x = n} {y = n + 0} (omega arith)
numbered_behind n (k ∷ keys) key =
    ap (λ rest. numbered n k ∷ rest) (numbered_behind (suc n) keys key
    ∙ ap (λ m. numbered_from (suc n) keys ++ numbered m key ∷ []) {x = suc n + length keys} {y = n + length (k ∷ keys)} (omega arith))

length-numbered : (n : ℕ) (keys : List Key) → length (numbered_from n keys) ≡ length keys
unfolding numbered_from
length-numbered n [] = refl
length-numbered n (k ∷ keys) = let rest = length-numbered (suc n) keys in omega (arith, rest)

module _ {X : Type 0} (key : X → Key) (xs : List X) where
  pub none_numbered : [] ≡ numbered_from 0 (map key (take 0 xs))
  unfolding numbered_from
  none_numbered = refl

  -- one more, with the next number
  pub numbered_more : (old new : List Told) (i : ℕ) (x : X) → i < length xs → x ≡ get_or xs i x → old ≡ numbered_from 0 (map key (take i xs))
      → new ≡ old ++ numbered (length old) (key x) ∷ [] → new ≡ numbered_from 0 (map key (take (i + 1) xs))
  numbered_more old new i x within at is more =
      more ∙ ap (λ ts. ts ++ numbered (length ts) (key x) ∷ []) is
      ∙ ap (λ m. numbered_from 0 keys ++ numbered m (key x) ∷ []) sized
      ∙ sym (numbered_behind 0 keys (key x))
      ∙ ap (numbered_from 0) (sym (map-append key (take i xs) (x ∷ [])) ∙ ap (map key) (ap (λ y. take i xs ++ y ∷ []) at ∙ sym (take_more xs i x within)))
    where
      keys : List Key
      keys = map key (take i xs)

      sized : length (numbered_from 0 keys) ≡ 0 + length keys
      sized = let l = length-numbered 0 keys in omega (arith, l)

  pub all_numbered : (told : List Told) (i : ℕ) → length xs ≤ i → told ≡ numbered_from 0 (map key (take i xs)) → told ≡ numbered_from 0 (map key xs)
  all_numbered told i over is = is ∙ ap (λ ys. numbered_from 0 (map key ys)) (take_all i xs over)
