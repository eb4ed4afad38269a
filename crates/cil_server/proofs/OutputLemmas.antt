-- What a writer takes, part by part.
use Rattle.std.specs.Prelude.{Option, None, Some}
use Rattle.std.specs.Io.KnownBytes.{Appends, Keeps}
use Rattle.std.proofs.Common.{◌≡◌, ℕ, ◌+◌, ◌-◌, ◌≤◌, length, arith, List, [], ◌++◌, take, drop, refl, sym, ◌∙◌, ap, subst}
use Rattle.std.proofs.Math.Seq.{take-add}
use Rattle.std.proofs.lemmas.List.{append_assoc, append-nil, length-drop, take-append-drop, take_rest}
use Rattle.cil_server.specs.Devices.{AppendsFront}

pub appends_both : (a b c : Option (List ℕ)) (xs ys : List ℕ) → Appends a b xs → Appends b c ys → Appends a c (xs ++ ys)
appends_both None b c xs ys f g = f
appends_both (Some p) (Some q) (Some r) xs ys f g = g ∙ ap (λ z. z ++ ys) f ∙ append_assoc p xs ys
appends_both (Some p) None c xs ys f g = absurd f
appends_both (Some p) (Some q) None xs ys f g = absurd g

pub appends_kept : (a b c : Option (List ℕ)) (xs : List ℕ) → Appends a b xs → Keeps b c → Appends a c xs
appends_kept None b c xs f k = f
appends_kept (Some p) (Some q) (Some r) xs f k = k ∙ f
appends_kept (Some p) None c xs f k = absurd f
appends_kept (Some p) (Some q) None xs f k = absurd k

pub appends_none : (a : Option (List ℕ)) (xs : List ℕ) → Appends a a (take 0 xs)
appends_none None xs = tt
appends_none (Some p) xs = sym (append-nil p)

pub front_none : (a b : Option (List ℕ)) (xs : List ℕ) → Keeps a b → AppendsFront a b xs
front_none a b xs k = record { front = []; is_front = record { rest = xs; whole = refl }; appends = none a b k }
  where
    none : (a b : Option (List ℕ)) → Keeps a b → Appends a b []
    none None b k = tt
    none (Some p) None k = absurd k
    none (Some p) (Some q) k = k ∙ sym (append-nil p)

-- some of the bytes are taken, and then the writer fails to hand them on
pub front_taken : (a b c : Option (List ℕ)) (xs : List ℕ) (n : ℕ) → Appends a b (take n xs) → Keeps b c → AppendsFront a c xs
front_taken a b c xs n f k = record {
  front = take n xs;
  is_front = record { rest = drop n xs; whole = sym (take-append-drop n xs) };
  appends = appends_kept a b c (take n xs) f k;
}

-- the writer fails after the first bytes, and may have taken some of the next
pub wrote_front : (a b c : Option (List ℕ)) (xs : List ℕ) (w : ℕ) → Appends a b (take w xs) → AppendsFront b c (drop w xs) → AppendsFront a c xs
wrote_front a b c xs w f g = record {
  front = take w xs ++ g.front;
  is_front = record {
    rest = g.is_front.rest;
    whole = sym (take-append-drop w xs) ∙ ap (λ z. take w xs ++ z) g.is_front.whole ∙ sym (append_assoc (take w xs) g.front g.is_front.rest);
  };
  appends = appends_both a b c (take w xs) g.front f g.appends;
}

-- or takes none of them
pub wrote_no_more : (a b c : Option (List ℕ)) (xs ys : List ℕ) (w n : ℕ) → Appends a b (take w xs) → n ≡ 0 → Appends b c (take n ys) → AppendsFront a c xs
wrote_no_more a b c xs ys w n f e g =
    let none : Appends b c [] = subst (λ k. Appends b c (take k ys)) e g in
    record {
      front = take w xs;
      is_front = record { rest = drop w xs; whole = sym (take-append-drop w xs) };
      appends = subst (Appends a c) (append-nil (take w xs)) (appends_both a b c (take w xs) [] f none);
    }

pub wrote_more : (a b c : Option (List ℕ)) (xs : List ℕ) (w n : ℕ) → Appends a b (take w xs) → Appends b c (take n (drop w xs)) → Appends a c (take (w + n) xs)
wrote_more a b c xs w n f g = subst (Appends a c) (sym (take-add w n xs)) (appends_both a b c (take w xs) (take n (drop w xs)) f g)

-- the writer takes some of what is left
pub wrote_part : (a b c : Option (List ℕ)) (xs : List ℕ) (w n : ℕ) → w ≤ length xs → Appends a b (take w xs) → n ≤ length (take (length xs - w) (drop w xs))
    → Appends b c (take n (take (length xs - w) (drop w xs))) → record { within : w + n ≤ length xs; appends : Appends a c (take (w + n) xs) }
wrote_part a b c xs w n within f bound g =
    let rest = take_rest xs w in
    let left = length-drop w xs in
    record {
      within = part_within (subst (λ z. n ≤ length z) rest bound) left;
      appends = wrote_more a b c xs w n f (subst (λ z. Appends b c (take n z)) rest g);
    }
  where
    part_within : n ≤ length (drop w xs) → length (drop w xs) ≡ length xs - w → w + n ≤ length xs
    part_within h e = omega (arith, h, e, within)
