-- Rules by the numbers of their branches and sets.
use Rattle.std.specs.Prelude.{Contains, IfOk, Option, Some, Result, Ok, Err, map, slice_get}
use Rattle.std.specs.List.{flat_map}
use Rattle.std.proofs.Common.{◌≡◌, ℕ, zero, suc, ◌+◌, ◌*◌, ◌<◌, List, [], ◌∷◌, ◌++◌, get_or, length, take, sym, ◌∙◌, ap, subst, arith}
use Rattle.std.proofs.Math.Seq.{take-suc}
use Rattle.std.proofs.lemmas.List.{map_push}
use Rattle.cil_base.specs.Lists.{contains_here}
use Rattle.cil_base.specs.MadeLists.{contains_flat}
use Rattle.cil_base.specs.declared.memory.NoMemory.{NoMemory}
use Rattle.cil_conditions.specs.declared.branch.Branch.{Branch}
use Rattle.cil_index.specs.rules.Kept.{branch_named, rule_named}
use Rattle.cil_index.specs.rules.NamedRule.{NamedRule}
use Rattle.cil_index.specs.rules.Rule.{Rule}
use Rattle.cil_rule_bytes.specs.Handed.{AreNamed, IsNamed, branches_in, listed_branch, sets_in}
use Rattle.cil_rule_bytes.specs.Layout.{types_of}

-- a place, and the number from 1 on
pub then_named : (rows : List Branch) (branch : Option Branch) (place : ℕ) (r : Result ℕ NoMemory) → IfOk r (λ n. n ≡ place + 1) → slice_get rows place ≡ branch
    → IfOk r (λ n. branch_named rows n ≡ branch)
then_named rows branch place (Ok n) e at = let next : n ≡ suc place = omega (arith, e) in subst (λ (k : ℕ). branch_named rows k ≡ branch) (sym next) at
then_named rows branch place (Err x) e at = tt

-- the branch of one of the rules is among their branches
pub branch_among : (rules : List Rule) (i : ℕ) (r : Rule) (b : Branch) → i < length rules → r ≡ get_or rules i r → r.branch ≡ Some b → Contains (flat_map branches_in rules) b
branch_among rules i r b lt is e =
    contains_flat branches_in rules r b (i, lt, sym is) (subst (λ (o : Option Branch). Contains (listed_branch o) b) (sym e) (contains_here b []))

get_behind : (front more : List (List ℕ)) (k n : ℕ) → n ≡ length front + k → get_or (front ++ more) n [] ≡ get_or more k []
get_behind [] more k n e = let same : n ≡ k = omega (arith, e) in ap (λ (m : ℕ). get_or more m []) same
get_behind (x ∷ front) more k zero e = absurd (omega (arith, e))
get_behind (x ∷ front) more k (suc n) e = get_behind front more k n (omega (arith, e))

-- where the sets of a rule are among those of all
sets_at : (rules : List Rule) (back : List (List ℕ)) (i : ℕ) (r : Rule) → i < length rules → r ≡ get_or rules i r
    → (get_or (flat_map sets_in rules ++ back) (2 * i) [] ≡ r.source) × (get_or (flat_map sets_in rules ++ back) (suc (2 * i)) [] ≡ types_of r.target)
sets_at [] back i r lt is = absurd (omega (arith, lt))
sets_at (s ∷ rules) back zero r lt is = (ap (λ (x : Rule). x.source) (sym is), ap (λ (x : Rule). types_of x.target) (sym is))
sets_at (s ∷ rules) back (suc i) r lt is =
    let two : 2 * suc i ≡ suc (suc (2 * i)) = omega arith in
    let on = sets_at rules back i r (omega (arith, lt)) is in (
      ap (λ (k : ℕ). get_or (flat_map sets_in (s ∷ rules) ++ back) k []) two ∙ on.0,
      ap (λ (k : ℕ). get_or (flat_map sets_in (s ∷ rules) ++ back) (suc k) []) two ∙ on.1,
    )

module _ (rows : List Branch) (rules : List Rule) (first i : ℕ) (r : Rule) (lt : i < length rules) (is : r ≡ get_or rules i r) where
  -- one rule more
  pub named_more : (number : ℕ) (n : NamedRule) (old new : List NamedRule) → number ≡ first + 2 * i → IsNamed rows r number n → new ≡ old ++ n ∷ []
      → AreNamed rows rules first (take i rules) old → AreNamed rows rules first (take (i + 1) rules) new
  named_more number n old new at one push so_far front back len =
      let sets = front ++ (flat_map sets_in rules ++ back) in
      let here = sets_at rules back i r lt is in
      let place : number ≡ length front + 2 * i = omega (arith, at, len) in
      let behind : suc number ≡ length front + suc (2 * i) = omega (arith, at, len) in
      let source : get_or sets number [] ≡ r.source =
      get_behind front (flat_map sets_in rules ++ back) (2 * i) number place ∙ here.0 in
      let reached : get_or sets (suc number) [] ≡ types_of r.target =
      get_behind front (flat_map sets_in rules ++ back) (suc (2 * i)) (suc number) behind ∙ here.1 in
      let next : i + 1 ≡ suc i = omega arith in
      ap (map (rule_named rows sets)) push ∙ map_push (rule_named rows sets) old n
      ∙ ap (λ (w : List Rule). w ++ rule_named rows sets n ∷ []) (so_far front back len)
      ∙ ap (λ (x : Rule). take i rules ++ x ∷ []) (one sets source reached ∙ is)
      ∙ sym (ap (λ (k : ℕ). take k rules) next ∙ take-suc rules i r lt)
