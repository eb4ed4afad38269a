-- What is in a set of names, by the keys of std's set.
use Rattle.std.proofs.Common.{◌≡◌, ℕ, Bool, true, false, ◌||◌, List, [], ◌∷◌, refl, sym, ◌∙◌, ap}
use Rattle.std.specs.List.{list_any}
use Rattle.std.specs.declared.cmp.Ordering.{Ordering}
use Rattle.std.specs.declared.cmp.Ordering.TheVariants.{Less, Equal, Greater}
use Rattle.std.specs.Ordering.{match_ordering, nat_cmp}
use Rattle.std.specs.Cmp.Lexicographic.{slice_cmp}
use Rattle.std.specs.BTreeMap.{is_at}
use Rattle.std.specs.BTreeSet.{insert_key}
use Rattle.std.proofs.lemmas.Map.Lookups.{exact_bytes}
use Rattle.std.proofs.lemmas.Map.Text.{is_eq-slice_cmp}
use denote.Ref.{Bor}
use Rattle.cil_syntax.specs.Around.{names_of}
use Rattle.cil_syntax.specs.Spelling.{is_one_of, same_bytes}

-- the order of the names in a set
abbrev pub key_cmp : Bor (List ℕ) → Bor (List ℕ) → Ordering
key_cmp a b = slice_cmp nat_cmp a.now b.now

-- a search finds what is there
pub held : (ks : List (Bor (List ℕ))) (name : Bor (List ℕ)) → list_any (is_at (key_cmp name)) ks ≡ is_one_of (names_of ks) name.now
held [] name = refl
held (k ∷ ks) name = λ i. is_eq-slice_cmp name.now k.now i || held ks name i

or_again : (a b : Bool) → (a || b) ≡ (a || (a || b))
or_again true b = refl
or_again false b = refl

pub or_swap : (a b c : Bool) → (a || (b || c)) ≡ (b || (a || c))
or_swap true true c = refl
or_swap true false c = refl
or_swap false b c = refl

module _ (name : Bor (List ℕ)) (word : List ℕ) where
  -- what is there once a name was put in
  abbrev is_put : List (Bor (List ℕ)) → Bool
  is_put ks = same_bytes word name.now || is_one_of (names_of ks) word

  put_step : (x : Bor (List ℕ)) (xs rest : List (Bor (List ℕ))) (o : Ordering) → key_cmp name x ≡ o → is_one_of (names_of rest) word ≡ is_put xs
      → is_one_of (names_of (match_ordering o (name ∷ x ∷ xs) (x ∷ xs) (x ∷ rest))) word ≡ is_put (x ∷ xs)
  put_step x xs rest Less is so = refl
  put_step x xs rest Equal is so =
      or_again (same_bytes word x.now) (is_one_of (names_of xs) word)
      ∙ ap (λ n. same_bytes word n || is_one_of (names_of (x ∷ xs)) word) (sym (exact_bytes name.now x.now is))
  put_step x xs rest Greater is so =
      ap (λ b. same_bytes word x.now || b) so ∙ or_swap (same_bytes word x.now) (same_bytes word name.now) (is_one_of (names_of xs) word)

  pub put : (ks : List (Bor (List ℕ))) → is_one_of (names_of (insert_key key_cmp ks name)) word ≡ is_put ks
  put [] = refl
  put (x ∷ xs) = put_step x xs (insert_key key_cmp xs name) (key_cmp name x) refl (put xs)
