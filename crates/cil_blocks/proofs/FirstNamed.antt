-- The search for blocks from namespace to namespace, outwards.
use Rattle.std.proofs.Common.{◌≡◌, ℕ, zero, suc, ◌≤◌, Bool, List, [], ◌∷◌, ◌++◌, true, false, ◌==◌, length, refl, sym, ◌∙◌, ap, subst, arith}
use Rattle.std.specs.Prelude.{None, Some}
use Rattle.cil_base.specs.Lists.{contains_none}
use Rattle.cil_base.specs.Places.{none_some, some_at}
use Rattle.cil_faults.specs.Namespaces.{Namespace}
use Rattle.cil_syntax.specs.Scopes.{scope_at}
use Rattle.cil_syntax.specs.Written.{Written}
use Rattle.cil_blocks.specs.declared.namespaces.Space.{Space}
use Rattle.cil_blocks.specs.Named.{AreFirstNamed, AreOfName, AreOfNumber, asked_space}
use Rattle.cil_blocks.specs.Namespaces.{AreNamespaces, HasNoNumber, IsNumber, inner_at, space_at}
use Rattle.cil_blocks.specs.Numbers.{number_in}
use Rattle.cil_blocks.specs.WrittenSpaces.{AreNumbered}
use Rattle.cil_blocks.proofs.NamespaceLemmas.{global_at, same_number}
use Rattle.cil_blocks.proofs.ScopeLemmas.{found_first, found_further, found_last, scope_global, scope_outwards}
use Rattle.cil_blocks.proofs.SpelledLemmas.{inner_named}

pub some_there : (xs : List ℕ) → false ≡ (length xs == 0) → xs ≡ [] → ⊥
some_there [] e h = let f : false ≡ true = e in cc
some_there (x ∷ xs) e h = let f : suc (length xs) ≡ 0 = ap length h in omega (arith, f)

number_is : (a b : ℕ) → (a == b) ≡ true → a ≡ b
number_is a b e = search (arith, e)

pub nothing_there : (xs : List ℕ) → true ≡ (length xs == 0) → xs ≡ []
nothing_there [] e = refl
nothing_there (x ∷ xs) e = let f : length (x ∷ xs) ≡ 0 = number_is (length (x ∷ xs)) 0 (sym e) in absurd (omega (arith, f))

-- with a leading dot the search begins in the global namespace
pub asked_globally : (ss : List Space) (here : Namespace) (global : Bool) → global ≡ true → IsNumber ss (asked_space global here) 0
asked_globally ss here global e = subst (λ b. IsNumber ss (asked_space b here) 0) (sym e) (record { within = omega arith; is = global_at ss })

pub asked_here : (ss : List Space) (here : Namespace) (global : Bool) (k : ℕ) → global ≡ false → IsNumber ss here k → IsNumber ss (asked_space global here) k
asked_here ss here global k e is = subst (λ b. IsNumber ss (asked_space b here) k) (sym e) is

module _ (ss : List Space) (are : AreNamespaces ss) where
  -- ---- the blocks of a namespace have its number

  module _ (ws : List Written) (numbers blocks : List ℕ) (numbered : AreNumbered ws ss numbers) (m : Namespace) where
    pub of_name : (k : ℕ) (found : List ℕ) → IsNumber ss m k → AreOfNumber numbers blocks k found → AreOfName ws blocks m found
    of_name k found is so b = (
      (λ c. let f = (so b).0 c in (f.0, sym (numbered (Some b)).is ∙ ap (space_at ss) f.1 ∙ is.is)),
      (λ h. (so b).1
          (h.0, same_number ss are m (number_in numbers (Some b)) k (subst (λ n. IsNumber ss n (number_in numbers (Some b))) h.1 (numbered (Some b))) is)),
    )

    -- where it has none, it has no blocks
    pub none_of_name : HasNoNumber ss m → AreOfName ws blocks m []
    none_of_name none b = (
      (λ c. absurd (contains_none b c)),
      (λ h. absurd (none (number_in numbers (Some b)) (subst (λ n. IsNumber ss n (number_in numbers (Some b))) h.1 (numbered (Some b))))),
    )

  -- ---- from a namespace to the one round it

  scope_in : (at : ℕ) (s : Space) → inner_at ss at ≡ Some s → scope_at (space_at ss at) ≡ space_at ss at ∷ scope_at (space_at ss s.outer)
  scope_in at s e =
      let is = inner_named ss are at s e in
      ap scope_at is ∙ scope_outwards s.name (space_at ss s.outer) ∙ ap (λ n. n ∷ scope_at (space_at ss s.outer)) (sym is)

  module _ (ws : List Written) (blocks : List ℕ) (names : List (List ℕ)) where
    pub here_found : (at : ℕ) (s : Space) (found : List ℕ) → inner_at ss at ≡ Some s → AreOfName ws blocks (names ++ space_at ss at) found → (found ≡ [] → ⊥)
        → AreFirstNamed ws blocks names (scope_at (space_at ss at)) found
    here_found at s found e so some =
        subst (λ scope. AreFirstNamed ws blocks names scope found) (sym (scope_in at s e))
        (found_first ws blocks names (space_at ss at) (scope_at (space_at ss s.outer)) (space_at ss at) found refl so some)

    pub nothing_here : (at : ℕ) (s : Space) (here found : List ℕ) → inner_at ss at ≡ Some s → AreOfName ws blocks (names ++ space_at ss at) here → here ≡ []
        → AreFirstNamed ws blocks names (scope_at (space_at ss s.outer)) found → AreFirstNamed ws blocks names (scope_at (space_at ss at)) found
    nothing_here at s here found e so none rest =
        subst (λ scope. AreFirstNamed ws blocks names scope found) (sym (scope_in at s e))
        (found_further ws blocks names (space_at ss at) (scope_at (space_at ss s.outer)) (space_at ss at) here found refl so none rest)

    pub last_found : (at : ℕ) (found : List ℕ) → at ≤ length ss → inner_at ss at ≡ None → AreOfName ws blocks (names ++ space_at ss 0) found
        → AreFirstNamed ws blocks names (scope_at (space_at ss at)) found
    last_found zero found h e so =
        subst (λ scope. AreFirstNamed ws blocks names scope found) (sym (ap scope_at (global_at ss) ∙ scope_global))
        (found_last ws blocks names found (subst (λ n. AreOfName ws blocks (names ++ n) found) (global_at ss) so))
    last_found (suc i) found h e so = absurd (let s = some_at ss i (omega (arith, h)) in none_some s.0 (sym e ∙ s.1))
