-- The qualified name of a symbol is that of its namespace, a dot, and its own name.
use Rattle.std.proofs.Common.{◌≡◌, ℕ, zero, suc, ◌≤◌, List, [], ◌∷◌, ◌++◌, length, refl, sym, ◌∙◌, ap, append_assoc}
use Rattle.std.specs.Prelude.{reverse}
use Rattle.std.specs.List.{join_with_byte}
use Rattle.std.proofs.lemmas.List.{reverse-append}
use Rattle.cil_faults.specs.Namespaces.{qualified, Namespace}
use Rattle.cil_names.specs.blocks.Space.{Space}
use Rattle.cil_names.specs.blocks.Namespaces.{AreNamespaces, space_at}
use Rattle.cil_names.proofs.blocks_lemmas.NamespaceLemmas.{global_at, inner_of}

joined_last : (y : List ℕ) (ys : List (List ℕ)) (x : List ℕ) → join_with_byte 46 (y ∷ ys ++ x ∷ []) ≡ join_with_byte 46 (y ∷ ys) ++ 46 ∷ x
joined_last y [] x = refl
joined_last y (z ∷ zs) x = ap (λ l. y ++ 46 ∷ l) (joined_last z zs x) ∙ sym (append_assoc y (46 ∷ join_with_byte 46 (z ∷ zs)) (46 ∷ x))

-- a list with a last item has a first one
joined_behind : (ys : List (List ℕ)) (z x : List ℕ) → join_with_byte 46 ((ys ++ z ∷ []) ++ x ∷ []) ≡ join_with_byte 46 (ys ++ z ∷ []) ++ 46 ∷ x
joined_behind [] z x = joined_last z [] x
joined_behind (y ∷ ys) z x = joined_last y (ys ++ z ∷ []) x

qualified_inner : (name outer : List ℕ) (n : Namespace) → qualified (name ∷ outer ∷ n) ≡ qualified (outer ∷ n) ++ 46 ∷ name
qualified_inner name outer n =
    ap (join_with_byte 46) (reverse-append (name ∷ []) (outer ∷ n) ∙ ap (λ l. l ++ name ∷ []) (reverse-append (outer ∷ []) n))
    ∙ joined_behind (reverse n) outer name
    ∙ ap (λ l. join_with_byte 46 l ++ 46 ∷ name) (sym (reverse-append (outer ∷ []) n))

module _ (ss : List Space) (name : List ℕ) where
  -- in the global namespace it is its own name
  pub global_spelled : (k : ℕ) → k ≡ 0 → name ≡ qualified (name ∷ space_at ss k)
  global_spelled k e = sym (ap (λ j. qualified (name ∷ space_at ss j)) e ∙ ap (λ n. qualified (name ∷ n)) (global_at ss))

  pub inner_spelled : AreNamespaces ss → (k : ℕ) → (k ≡ 0 → ⊥) → k ≤ length ss → qualified (space_at ss k) ++ 46 ∷ name ≡ qualified (name ∷ space_at ss k)
  inner_spelled are zero some within = absurd (some refl)
  inner_spelled are (suc i) some within =
      let a = inner_of ss are (space_at ss (suc i)) i (record { within = within; is = refl }) in
      ap (λ n. qualified n ++ 46 ∷ name) (sym a.is) ∙ sym (qualified_inner name a.space.name (space_at ss a.space.outer)) ∙ ap (λ n. qualified (name ∷ n)) a.is
