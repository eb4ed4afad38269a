-- Words say the same where their bytes, their signs and the numbers of their scopes are the same.
use Rattle.std.proofs.Common.{◌≡◌, ℕ, Bool, false, List, [], ◌∷◌, map, refl, sym, ◌∙◌, ap}
use Rattle.std.proofs.lemmas.Bool.{true≢false}
use Rattle.cil_base.specs.Lists.{contains_here, contains_later}
use Rattle.cil_base.specs.Places.{cons_head, cons_tail}
use Rattle.cil_syntax.specs.Scopes.{Scope, ScopedWord}
use Rattle.cil_blocks.specs.declared.namespaces.Space.{Space}
use Rattle.cil_blocks.specs.Namespaces.{AreNamespaces, space_at}
use Rattle.cil_blocks.specs.Numbers.{AreWithin}
use Rattle.cil_blocks.proofs.NamespaceLemmas.{one_to_one}
use Rattle.cil_macros.specs.Walks.{IsScope}
use Rattle.cil_names.specs.Declarations.{Bare, bare}
use Rattle.cil_declare.proofs.ContentLemmas.{Tells}

module _ (ss : List Space) (namespaces : AreNamespaces ss) where
  -- namespaces are the same where their numbers are
  same_numbers : (m n : List ℕ) → AreWithin ss m → AreWithin ss n → map (space_at ss) m ≡ map (space_at ss) n → m ≡ n
  same_numbers [] [] p q e = refl
  same_numbers [] (y ∷ ys) p q e = absurd cc
  same_numbers (x ∷ xs) [] p q e = absurd cc
  same_numbers (x ∷ xs) (y ∷ ys) p q e =
      let one = one_to_one ss namespaces x y (p x (contains_here x xs)) (q y (contains_here y ys)) (cons_head _ _ _ _ e) in
      let others = same_numbers xs ys (λ k c. p k (contains_later k x xs c)) (λ k c. q k (contains_later k y ys c)) (cons_tail _ _ _ _ e) in
      λ i. one i ∷ others i

  pub scopes_tell : (s t : Scope) (m n : List ℕ) (same : Bool) → IsScope ss s m → IsScope ss t n → Tells same m n → Tells same s t
  scopes_tell s t m n same p q tells =
      ((λ h. sym p.is ∙ ap (map (space_at ss)) (tells.0 h) ∙ q.is), (λ e. tells.1 (same_numbers m n p.within q.within (p.is ∙ e ∙ sym q.is))))

-- ---- words

module _ (v w : ScopedWord) where
  pub bytes_apart : (same : Bool) → same ≡ false → Tells same v.bytes w.bytes → Tells false (bare v) (bare w)
  bytes_apart same is tells = ((λ h. absurd (true≢false (sym h))), (λ e. absurd (true≢false (sym (tells.1 (ap (λ (b : Bare). b.bytes) e)) ∙ is))))

  pub signs_apart : (same : Bool) → same ≡ false → Tells same v.sign w.sign → Tells false (bare v) (bare w)
  signs_apart same is tells = ((λ h. absurd (true≢false (sym h))), (λ e. absurd (true≢false (sym (tells.1 (ap (λ (b : Bare). b.sign) e)) ∙ is))))

  pub words_alike : (same : Bool) → v.bytes ≡ w.bytes → v.sign ≡ w.sign → Tells same v.scope w.scope → Tells same (bare v) (bare w)
  words_alike same bytes sign tells =
      ((λ h i. record { bytes = bytes i; sign = sign i; scope = tells.0 h i }), (λ e. tells.1 (ap (λ (b : Bare). b.scope) e)))
