-- The names of a namespace, from the innermost outwards.
use Rattle.std.proofs.Common.{◌≡◌, ℕ, zero, suc, ◌≤◌, List, [], ◌∷◌, ◌++◌, length, sym, ◌∙◌, ap, arith, append_assoc, Bor}
use Rattle.std.specs.Prelude.{None, Some}
use Rattle.std.proofs.lemmas.List.{append-nil, map-append}
use Rattle.cil_base.specs.Places.{none_some, some_at}
use Rattle.cil_syntax.specs.Around.{names_of}
use Rattle.cil_blocks.specs.declared.namespaces.Space.{Space}
use Rattle.cil_blocks.specs.Namespaces.{AreNamespaces, inner_at, space_at}
use Rattle.cil_blocks.proofs.NamespaceLemmas.{global_at, next_at}

module _ (ss : List Space) (are : AreNamespaces ss) where
  -- its own name is in front of the one round it
  pub inner_named : (k : ℕ) (s : Space) → inner_at ss k ≡ Some s → space_at ss k ≡ s.name ∷ space_at ss s.outer
  inner_named zero s e = absurd (none_some s e)
  inner_named (suc i) s e = next_at ss are i s e

  pub outer_within : (k : ℕ) (s : Space) → k ≤ length ss → inner_at ss k ≡ Some s → s.outer ≤ length ss
  outer_within zero s h e = absurd (none_some s e)
  outer_within (suc i) s h e = let b = are.behind i s e in omega (arith, h, b)

  -- one name more
  pub name_more : (k : ℕ) (s : Space) (old new : List (Bor (List ℕ))) (name : Bor (List ℕ)) (whole : List (List ℕ)) → inner_at ss k ≡ Some s → name.now ≡ s.name
      → new ≡ old ++ name ∷ [] → names_of old ++ space_at ss k ≡ whole → names_of new ++ space_at ss s.outer ≡ whole
  name_more k s old new name whole e n f so =
      ap (λ ns. names_of ns ++ space_at ss s.outer) f
      ∙ ap (λ ns. ns ++ space_at ss s.outer) (map-append (λ (b : Bor (List ℕ)). b.now) old (name ∷ []))
      ∙ append_assoc (names_of old) (name.now ∷ []) (space_at ss s.outer)
      ∙ ap (λ x. names_of old ++ x ∷ space_at ss s.outer) n
      ∙ ap (λ x. names_of old ++ x) (sym (inner_named k s e)) ∙ so

  -- the global namespace is left
  pub names_ended : (k : ℕ) (names : List (Bor (List ℕ))) (whole : List (List ℕ)) → k ≤ length ss → inner_at ss k ≡ None → names_of names ++ space_at ss k ≡ whole
      → names_of names ≡ whole
  names_ended zero names whole h e so = sym (append-nil (names_of names)) ∙ ap (λ x. names_of names ++ x) (sym (global_at ss)) ∙ so
  names_ended (suc i) names whole h e so = absurd (let s = some_at ss i (omega (arith, h)) in none_some s.0 (sym e ∙ s.1))
