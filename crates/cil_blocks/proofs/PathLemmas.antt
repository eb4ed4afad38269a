-- Where a path leads from a namespace, name by name.
use Rattle.std.proofs.Common.{◌≡◌, ℕ, zero, suc, ◌≤◌, List, [], ◌∷◌, ◌++◌, length, refl, sym, ◌∙◌, ap, subst, arith, append_assoc, append-nil}
use Rattle.std.specs.Prelude.{MatchOption, Option}
use Rattle.cil_base.specs.Places.{cons_tail, never_cons}
use Rattle.cil_faults.specs.Namespaces.{Namespace}
use Rattle.cil_syntax.specs.Scopes.{IsDotless, IsParted, names_backwards}
use Rattle.cil_syntax.proofs.AskedLemmas.{one_name, parted_backwards}
use Rattle.cil_blocks.specs.declared.namespaces.Space.{Space}
use Rattle.cil_blocks.specs.Namespaces.{AreNamespaces, HasNoNumber, IsNumber, space_at}
use Rattle.cil_blocks.proofs.NamespaceLemmas.{global_at, inner_of}

-- the names in front lead to the namespace of this number, and these are left
pub record IsLed (ss : List Space) (from : ℕ) (path : List ℕ) (space : ℕ) (rest : List ℕ) : Type 0 where
  pub inner : Namespace
  pub backwards : names_backwards path ≡ names_backwards rest ++ inner
  pub numbered : IsNumber ss (inner ++ space_at ss from) space

pub at_start : (ss : List Space) (from : ℕ) (path : List ℕ) → from ≤ length ss → IsLed ss from path from path
at_start ss from path within = record {
  inner = [];
  backwards = sym (append-nil (names_backwards path));
  numbered = record { within = within; is = refl };
}

-- the namespace that the whole path names
abbrev pub named_from : List Space → ℕ → List ℕ → Namespace
named_from ss from path = names_backwards path ++ space_at ss from

module _ (ss : List Space) (are : AreNamespaces ss) where
  -- a namespace with a number lies in one with a number
  outer_of : (x : List ℕ) (n : Namespace) (k : ℕ) → IsNumber ss (x ∷ n) k → (j : ℕ) × IsNumber ss n j
  outer_of x n zero p = absurd (never_cons x n (sym (global_at ss) ∙ p.is))
  outer_of x n (suc i) p =
      let a = inner_of ss are (x ∷ n) i p in
      let low = a.behind in
      let most = p.within in
      (a.space.outer, record { within = omega (arith, low, most); is = cons_tail a.space.name x (space_at ss a.space.outer) n a.is })

  outers_of : (m n : Namespace) (k : ℕ) → IsNumber ss (m ++ n) k → (j : ℕ) × IsNumber ss n j
  outers_of [] n k p = (k, p)
  outers_of (x ∷ m) n k p = let o = outer_of x (m ++ n) k p in outers_of m n o.0 o.1

  module _ (from : ℕ) (path : List ℕ) (space : ℕ) (rest : List ℕ) (so : IsLed ss from path space rest) where
    module _ (first behind : List ℕ) (p : IsParted rest first behind) where
      deeper : names_backwards path ≡ names_backwards behind ++ first ∷ so.inner
      deeper = so.backwards ∙ ap (λ l. l ++ so.inner) (parted_backwards rest first behind p) ∙ append_assoc (names_backwards behind) (first ∷ []) so.inner

      pub one_further : (k : ℕ) → IsNumber ss (first ∷ space_at ss space) k → IsLed ss from path k behind
      one_further k is = record {
        inner = first ∷ so.inner;
        backwards = deeper;
        numbered = subst (λ n. IsNumber ss (first ∷ n) k) so.numbered.is is;
      }

      -- what is not there has nothing in it
      pub leads_nowhere : HasNoNumber ss (first ∷ space_at ss space) → HasNoNumber ss (named_from ss from path)
      leads_nowhere none k is =
          let there : IsNumber ss (names_backwards behind ++ first ∷ (so.inner ++ space_at ss from)) k =
          subst (λ n. IsNumber ss n k) (ap (λ n. n ++ space_at ss from) deeper ∙ append_assoc (names_backwards behind) (first ∷ so.inner) (space_at ss from)) is in
          let lower = outers_of (names_backwards behind) (first ∷ (so.inner ++ space_at ss from)) k there in
          none lower.0 (subst (λ n. IsNumber ss (first ∷ n) lower.0) (sym so.numbered.is) lower.1)

    -- without a dot what is left is the last name
    last_name : IsDotless rest → rest ∷ space_at ss space ≡ named_from ss from path
    last_name plain =
        ap (λ n. rest ∷ n) so.numbered.is ∙ sym (ap (λ n. n ++ space_at ss from) (so.backwards ∙ ap (λ l. l ++ so.inner) (one_name rest plain)))

    pub at_end : (r : Option ℕ) → IsDotless rest → MatchOption r (HasNoNumber ss (rest ∷ space_at ss space)) (IsNumber ss (rest ∷ space_at ss space))
        → MatchOption r (HasNoNumber ss (named_from ss from path)) (IsNumber ss (named_from ss from path))
    at_end r plain last = subst (λ n. MatchOption r (HasNoNumber ss n) (IsNumber ss n)) (last_name plain) last
