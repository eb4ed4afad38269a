-- The reader of steps, arm by arm.
use Rattle.std.proofs.Common.{◌≡◌, ℕ, suc, List, [], ◌∷◌, ◌++◌, Result, Ok, Err, refl, ap, ◌∙◌, append_assoc}
use Rattle.std.specs.Borrow.{Bor}
use Rattle.std.specs.Int.{w8}
use Rattle.cil_format.specs.declared.fault.TableError.{TableError}
use Rattle.cil_format.specs.declared.fault.TableError.TheVariants as errors
use Rattle.cil_format.specs.Format.{Format, both, number_at}
use Rattle.cil_constraints.specs.declared.step.Step.{Step}
use Rattle.cil_constraints.specs.declared.step.Step.TheVariants as steps
use Rattle.cil_constraints.specs.Expressions.{Expression, Negated, Both, Either, steps_of}
use Rattle.cil_constraint_bytes.specs.Layout.{Limits, member, pair, tree}
use Rattle.cil_constraint_bytes.specs.Pushes.{Pushes, PushesTwo}

abbrev Tree : Type 0
Tree = Expression (List ℕ)

module _ (limits : Limits) (levels d : ℕ) (is : levels ≡ suc d) (bytes rest : List ℕ) (old new : List Step) where
  abbrev Goal : Result (Bor (List ℕ)) TableError → Type 0
  Goal r = Pushes (tree limits levels) bytes old new r

  pub negated : (r : Result (Bor (List ℕ)) TableError) → number_at w8 bytes ≡ Ok (2, rest) → Pushes (tree limits d) rest (old ++ steps.Not ∷ []) new r → Goal r
  unfolding tree
  negated (Ok left) t p = (Negated p.0, rw (is, t, p.1) refl, p.2 ∙ append_assoc old (steps.Not ∷ []) (steps_of p.0))
  negated (Err errors.NoMemory) t p = tt
  negated (Err (errors.Fault f)) t p = rw (is, t, p) refl

  pub joined : (r : Result (Bor (List ℕ)) TableError) → number_at w8 bytes ≡ Ok (3, rest) → PushesTwo (tree limits d) rest (old ++ steps.And ∷ []) new r
      → Goal r
  unfolding tree
  joined (Ok left) t p = (Both p.0.0 p.0.1, rw (is, t, p.1) refl, p.2 ∙ append_assoc old (steps.And ∷ []) (steps_of p.0.0 ++ steps_of p.0.1))
  joined (Err errors.NoMemory) t p = tt
  joined (Err (errors.Fault f)) t p = rw (is, t, p) refl

  pub chosen : (r : Result (Bor (List ℕ)) TableError) → number_at w8 bytes ≡ Ok (4, rest) → PushesTwo (tree limits d) rest (old ++ steps.Or ∷ []) new r → Goal r
  unfolding tree
  chosen (Ok left) t p = (Either p.0.0 p.0.1, rw (is, t, p.1) refl, p.2 ∙ append_assoc old (steps.Or ∷ []) (steps_of p.0.0 ++ steps_of p.0.1))
  chosen (Err errors.NoMemory) t p = tt
  chosen (Err (errors.Fault f)) t p = rw (is, t, p) refl

  pub compares : (r : Result (Bor (List ℕ)) TableError) → number_at w8 bytes ≡ Ok (16, rest) → Pushes (pair limits) rest old new r → Goal r
  unfolding tree
  compares (Ok left) t p = (p.0, rw (is, t) p.1, p.2)
  compares (Err errors.NoMemory) t p = tt
  compares (Err (errors.Fault f)) t p = rw (is, t) p

  pub belongs : (r : Result (Bor (List ℕ)) TableError) → number_at w8 bytes ≡ Ok (17, rest) → Pushes (member limits) rest old new r → Goal r
  unfolding tree
  belongs (Ok left) t p = (p.0, rw (is, t) p.1, p.2)
  belongs (Err errors.NoMemory) t p = tt
  belongs (Err (errors.Fault f)) t p = rw (is, t) p

-- two, of which the first was read
pub second : (f : Format Tree) (bytes rest left : List ℕ) (old mid new : List Step) → (e : Tree) × (f.read bytes ≡ Ok (e, rest)) × (mid ≡ old ++ steps_of e)
    → (d : Tree) × (f.read rest ≡ Ok (d, left)) × (new ≡ mid ++ steps_of d)
    → (p : Tree × Tree) × ((both f (λ a. f)).read bytes ≡ Ok (p, left)) × (new ≡ old ++ (steps_of p.0 ++ steps_of p.1))
second f bytes rest left old mid new a b =
    ((a.0, b.0), rw (a.1, b.1) refl, b.2 ∙ ap (λ (w : List Step). w ++ steps_of b.0) a.2 ∙ append_assoc old (steps_of a.0) (steps_of b.0))
