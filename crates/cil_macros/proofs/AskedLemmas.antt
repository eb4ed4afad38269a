-- What the names of a word ask, name by name.
use Rattle.std.proofs.Common.{◌≡◌, ℕ, zero, suc, ◌≤◌, List, [], ◌∷◌, ◌++◌, length, refl, sym, ◌∙◌, ap, subst, arith, append_assoc, append-nil}
use Rattle.cil_syntax.specs.Scopes.{IsDotless, IsParted, names_backwards}
use Rattle.cil_faults.specs.Namespaces.{Namespace}
use Rattle.cil_blocks.specs.declared.namespaces.Space.{Space}
use Rattle.cil_blocks.specs.Namespaces.{AreNamespaces, HasNoNumber, IsNumber, space_at}
use Rattle.cil_blocks.proofs.NamespaceLemmas.{global_at, inner_of}
use Rattle.cil_macros.specs.Asked.{IsAskedAt, IsAskedNowhere}
use Rattle.cil_base.specs.Places.{cons_tail, never_cons}
use Rattle.cil_syntax.proofs.AskedLemmas.{last_name, one_name, parted_backwards}

-- the names in front lead to the namespace of this number, and these are left
pub record IsAskedUpTo (ss : List Space) (from : ℕ) (names : List ℕ) (space : ℕ) (rest : List ℕ) : Type 0 where
  pub inner : Namespace
  pub backwards : names_backwards names ≡ names_backwards rest ++ inner
  pub numbered : IsNumber ss (inner ++ space_at ss from) space

pub at_start : (ss : List Space) (from : ℕ) (names : List ℕ) → from ≤ length ss → IsAskedUpTo ss from names from names
at_start ss from names within = record {
  inner = [];
  backwards = sym (append-nil (names_backwards names));
  numbered = record { within = within; is = refl };
}

-- ---- the steps

module _ (ss : List Space) (are : AreNamespaces ss) where
  -- a namespace with a number lies in one with a number
  outer_of : (x : List ℕ) (n : Namespace) (k : ℕ) → IsNumber ss (x ∷ n) k → (j : ℕ) × IsNumber ss n j
  outer_of x n zero p = absurd (never_cons x n (sym (global_at ss) ∙ p.is))
  outer_of x n (suc i) p =
      let a = inner_of ss are (x ∷ n) i p in
      let low = a.behind in
      let most = p.within in
      (a.space.outer, record { within = omega (arith, low, most); is = cons_tail a.space.name x (space_at ss a.space.outer) n a.is })

  outers_of : (m n : Namespace) (k : ℕ) → IsNumber ss (m ++ n) k → (j : ℕ) × IsNumber ss n j
  outers_of [] n k p = (k, p)
  outers_of (x ∷ m) n k p = let o = outer_of x (m ++ n) k p in outers_of m n o.0 o.1

  module _ (from : ℕ) (names : List ℕ) (space : ℕ) (rest : List ℕ) (so : IsAskedUpTo ss from names space rest) where
    module _ (first behind : List ℕ) (p : IsParted rest first behind) where
      deeper : names_backwards names ≡ names_backwards behind ++ first ∷ so.inner
      deeper = so.backwards ∙ ap (λ l. l ++ so.inner) (parted_backwards rest first behind p) ∙ append_assoc (names_backwards behind) (first ∷ []) so.inner

      pub one_more : (k : ℕ) → IsNumber ss (first ∷ space_at ss space) k → IsAskedUpTo ss from names k behind
      one_more k is = record {
        inner = first ∷ so.inner;
        backwards = deeper;
        numbered = subst (λ n. IsNumber ss (first ∷ n) k) so.numbered.is is;
      }

      -- a namespace that is not there has none in it
      pub none_there : HasNoNumber ss (first ∷ space_at ss space) → IsAskedNowhere ss from names
      none_there none name inner backwards k is =
          let (y, ys, e) = last_name behind in
          let whole : name ∷ inner ≡ y ∷ (ys ++ first ∷ so.inner) = sym backwards ∙ deeper ∙ ap (λ l. l ++ first ∷ so.inner) e in
          let there : IsNumber ss (ys ++ first ∷ (so.inner ++ space_at ss from)) k =
          subst (λ n. IsNumber ss n k) (ap (λ n. n ++ space_at ss from) (cons_tail name y inner (ys ++ first ∷ so.inner) whole) ∙ append_assoc ys (first ∷ so.inner) (space_at ss from)) is in
          let lower = outers_of ys (first ∷ (so.inner ++ space_at ss from)) k there in
          none lower.0 (subst (λ n. IsNumber ss (first ∷ n) lower.0) (sym so.numbered.is) lower.1)

    -- without a dot, what is left is the name
    pub no_more : IsDotless rest → IsAskedAt ss from names space rest
    no_more plain = record { inner = so.inner; taken = so.backwards ∙ ap (λ l. l ++ so.inner) (one_name rest plain); numbered = so.numbered }

-- a single name is asked where it stands
pub at_once : (ss : List Space) (from : ℕ) (names : List ℕ) → from ≤ length ss → IsDotless names → IsAskedAt ss from names from names
at_once ss from names within plain = record { inner = []; taken = one_name names plain; numbered = record { within = within; is = refl } }
