-- One step of an expression is read, with its operands.
use Rattle.std.specs.Prelude.{ℕ, ◌≤◌, ◌<◌, ◌-◌, not, ◌&&◌, ◌||◌, Bool, List, [], ◌∷◌, length, take, drop, get_or}
use Rattle.std.proofs.Common.{◌≡◌, sym, ◌∙◌, ap, subst, arith}
use Rattle.cil_base.specs.Places.{cons_head, cons_tail}
use Rattle.std.proofs.lemmas.List.{take_all}
use Rattle.cil_constraints.specs.declared.step.Part.{Part}
use Rattle.cil_constraints.specs.declared.step.Side.{Side}
use Rattle.cil_constraints.specs.declared.step.Equality.{Equality}
use Rattle.cil_constraints.specs.declared.step.LevelPair.{LevelPair}
use Rattle.cil_constraints.specs.declared.step.Relation.{Relation}
use Rattle.cil_constraints.specs.declared.step.Step.{Step}
use Rattle.cil_constraints.specs.declared.step.Step.TheVariants as steps
use Rattle.cil_constraints.specs.declared.expr.Context.{Context}
use Rattle.cil_constraints.specs.Expressions.{Expression, Negated, Both, Either, Compared, Ranked, Inside, trees, negated, joined}
use Rattle.cil_constraints.specs.Truth.{truth}

pub negated_is : (ts es : List (Expression (List ℕ))) (e : Expression (List ℕ)) → negated ts ≡ e ∷ es → (d : Expression (List ℕ)) × (ts ≡ d ∷ es) × (Negated d ≡ e)
negated_is [] es e h = absurd (let f : [] ≡ e ∷ es = h in cc)
negated_is (d ∷ ts) es e h = (d, ap (λ w. d ∷ w) (cons_tail _ _ _ _ h), cons_head _ _ _ _ h)

pub joined_is : (f : Expression (List ℕ) → Expression (List ℕ) → Expression (List ℕ)) (ts es : List (Expression (List ℕ))) (e : Expression (List ℕ)) → joined f ts ≡ e ∷ es
    → (c d : Expression (List ℕ)) × (ts ≡ c ∷ d ∷ es) × (f c d ≡ e)
joined_is f [] es e h = absurd (let g : [] ≡ e ∷ es = h in cc)
joined_is f (c ∷ []) es e h = absurd (let g : [] ≡ e ∷ es = h in cc)
joined_is f (c ∷ d ∷ ts) es e h = (c, d, ap (λ w. c ∷ d ∷ w) (cons_tail _ _ _ _ h), cons_head _ _ _ _ h)

module _ (a b : Context) where
  -- these steps begin with an expression of this truth, and those stand behind it
  abbrev pub Reads : List Step → Bool → List Step → Type 0
  Reads ss value rest = (e : Expression (List ℕ)) (es : List (Expression (List ℕ))) → trees ss ≡ e ∷ es → (value ≡ truth a b e) × (trees rest ≡ es)

  pub read_nothing : (value : Bool) (rest : List Step) → Reads [] value rest
  unfolding trees
  read_nothing value rest e es h = absurd (let f : [] ≡ e ∷ es = h in cc)

  pub read_not : (ss rest : List Step) (value : Bool) → Reads ss value rest → Reads (steps.Not ∷ ss) (not value) rest
  unfolding trees
  read_not ss rest value inner e es h =
      let d = negated_is (trees ss) es e h in
      let r = inner d.0 es d.1 in
      (ap not r.0 ∙ ap (truth a b) d.2, r.1)

  pub read_and : (ss rest behind : List Step) (v w : Bool) → Reads ss v rest → Reads rest w behind → Reads (steps.And ∷ ss) (v && w) behind
  unfolding trees
  read_and ss rest behind v w first second e es h =
      let d = joined_is Both (trees ss) es e h in
      let r = first d.0 (d.1 ∷ es) d.2 in
      let q = second d.1 es r.1 in
      ((λ i. r.0 i && q.0 i) ∙ ap (truth a b) d.3, q.1)

  pub read_or : (ss rest behind : List Step) (v w : Bool) → Reads ss v rest → Reads rest w behind → Reads (steps.Or ∷ ss) (v || w) behind
  unfolding trees
  read_or ss rest behind v w first second e es h =
      let d = joined_is Either (trees ss) es e h in
      let r = first d.0 (d.1 ∷ es) d.2 in
      let q = second d.1 es r.1 in
      ((λ i. r.0 i || q.0 i) ∙ ap (truth a b) d.3, q.1)

  -- a step that is an expression by itself
  leaf_read : (leaf e : Expression (List ℕ)) (rest es : List (Expression (List ℕ))) (value : Bool) → value ≡ truth a b leaf → leaf ∷ rest ≡ e ∷ es → (value ≡ truth a b e) × (rest ≡ es)
  leaf_read leaf e rest es value is both = (is ∙ ap (truth a b) (cons_head _ _ _ _ both), cons_tail _ _ _ _ both)

  pub read_parts : (part : Part) (equality : Equality) (ss : List Step) (value : Bool) → value ≡ truth a b (Compared part equality) → Reads (steps.Compared part equality ∷ ss) value ss
  unfolding trees
  read_parts part equality ss value is e es h = leaf_read (Compared part equality) e (trees ss) es value is h

  pub read_levels : (pair : LevelPair) (relation : Relation) (ss : List Step) (value : Bool) → value ≡ truth a b (Ranked pair relation) → Reads (steps.Ranked pair relation ∷ ss) value ss
  unfolding trees
  read_levels pair relation ss value is e es h = leaf_read (Ranked pair relation) e (trees ss) es value is h

  pub read_among : (part : Part) (side : Side) (equality : Equality) (set : List ℕ) (ss : List Step) (value : Bool) → value ≡ truth a b (Inside part side equality set)
      → Reads (steps.Inside part side equality set ∷ ss) value ss
  unfolding trees
  read_among part side equality set ss value is e es h = leaf_read (Inside part side equality set) e (trees ss) es value is h

  -- the same of steps that begin so
  pub at_first : (ss rest : List Step) (d s : Step) (value : Bool) → 1 ≤ length ss → get_or ss 0 d ≡ s → Reads (s ∷ take (length ss - 1) (drop 1 ss)) value rest → Reads ss value rest
  at_first [] rest d s value l e r = absurd (omega (arith, l))
  at_first (x ∷ ss) rest d s value l e r =
      subst (λ w. Reads w value rest) (ap (λ w. s ∷ w) (take_all (length (x ∷ ss) - 1) ss (omega arith)) ∙ ap (λ w. w ∷ ss) (sym e)) r

  pub no_steps : (value : Bool) (rest ss : List Step) → length ss < 1 → Reads ss value rest
  no_steps value rest [] l = read_nothing value rest
  no_steps value rest (s ∷ ss) l = absurd (omega (arith, l))
