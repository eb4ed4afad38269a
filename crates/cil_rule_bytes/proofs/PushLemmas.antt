-- The reader of conditions, arm by arm.
use Rattle.std.proofs.Common.{◌≡◌, ℕ, suc, List, [], ◌∷◌, ◌++◌, Result, Ok, Err, refl, sym, ap, subst, ◌∙◌}
use Rattle.std.proofs.lemmas.List.{append_assoc}
use Rattle.std.specs.Borrow.{Bor}
use Rattle.std.specs.Int.{w8}
use Rattle.cil_conditions.specs.declared.token.Token.{Token}
use Rattle.cil_conditions.specs.declared.token.Token.TheVariants as tokens
use Rattle.cil_conditions.specs.Order.{tag_of}
use Rattle.cil_conditions.specs.Truth.{IsExpression}
use Rattle.cil_format.specs.declared.fault.TableError.{TableError}
use Rattle.cil_format.specs.declared.fault.TableError.TheVariants as errors
use Rattle.cil_format.specs.Fields.{small}
use Rattle.cil_format.specs.Format.{Format, as_type, both, number_at}
use Rattle.cil_format.specs.Takes.{Fails}
use Rattle.cil_rule_bytes.specs.Conditions.{Condition, boolean, opposite, joined, Junction, conjoined, disjoined, parted, matched, unmatched, junction_token, tokens_of}
use Rattle.cil_rule_bytes.specs.Layout.{boolean_of, condition, joined_parts, tree}
use Rattle.cil_rule_bytes.specs.Pushed.{Pushes, PushesJoined}
use Rattle.cil_rule_bytes.proofs.Trees.{is_expression}

module _ (booleans depth d : ℕ) (is : depth ≡ suc d) (bytes rest : List ℕ) (old new : List Token) where
  abbrev Goal : Result (Bor (List ℕ)) TableError → Type 0
  Goal r = Pushes (tree booleans depth) bytes old new r

  pub names : (r : Result (Bor (List ℕ)) TableError) → number_at w8 bytes ≡ Ok (1, rest) → Pushes (as_type boolean boolean_of (small booleans)) rest old new r → Goal r
  unfolding tree
  names (Ok left) t p = (p.0, rw (is, t) p.1, p.2)
  names (Err errors.NoMemory) t p = tt
  names (Err (errors.Fault f)) t p = rw (is, t) p

  pub negated : (r : Result (Bor (List ℕ)) TableError) → number_at w8 bytes ≡ Ok (2, rest) → Pushes (tree booleans d) rest (old ++ tokens.Not ∷ []) new r → Goal r
  unfolding tree
  negated (Ok left) t p = (opposite p.0, rw (is, t, p.1) refl, p.2 ∙ append_assoc old (tokens.Not ∷ []) (tokens_of p.0))
  negated (Err errors.NoMemory) t p = tt
  negated (Err (errors.Fault f)) t p = rw (is, t, p) refl

  -- a tag that joins is read on as its two parts
  joined_read : (j : Junction) → number_at w8 bytes ≡ Ok (tag_of (junction_token j), rest) → (tree booleans depth).read bytes ≡ (joined_parts j (tree booleans d)).read rest
  unfolding tree
  joined_read conjoined t = rw (is, t) refl
  joined_read disjoined t = rw (is, t) refl
  joined_read parted t = rw (is, t) refl
  joined_read matched t = rw (is, t) refl
  joined_read unmatched t = rw (is, t) refl

  pub joins : (j : Junction) (r : Result (Bor (List ℕ)) TableError) → number_at w8 bytes ≡ Ok (tag_of (junction_token j), rest)
      → PushesJoined (junction_token j) (tree booleans d) rest old new r → Goal r
  joins j (Ok left) t p = (joined j p.0.0 p.0.1, joined_read j t ∙ rw p.1 refl, p.2)
  joins j (Err errors.NoMemory) t p = tt
  joins j (Err (errors.Fault f)) t p = joined_read j t ∙ rw p refl

-- two, of which the first was read
pub second : (f : Format Condition) (operator : Token) (bytes rest left : List ℕ) (old mid new : List Token)
    → (c : Condition) × (f.read bytes ≡ Ok (c, rest)) × (mid ≡ (old ++ operator ∷ []) ++ tokens_of c)
    → (d : Condition) × (f.read rest ≡ Ok (d, left)) × (new ≡ mid ++ tokens_of d)
    → (p : Condition × Condition) × ((both f (λ a. f)).read bytes ≡ Ok (p, left)) × (new ≡ old ++ operator ∷ (tokens_of p.0 ++ tokens_of p.1))
second f operator bytes rest left old mid new a b = (
  (a.0, b.0),
  rw (a.1, b.1) refl,
  b.2 ∙ ap (λ (w : List Token). w ++ tokens_of b.0) a.2 ∙ append_assoc (old ++ operator ∷ []) (tokens_of a.0) (tokens_of b.0)
      ∙ append_assoc old (operator ∷ []) (tokens_of a.0 ++ tokens_of b.0),
)

-- the tokens of the condition at the front of the bytes, and of nothing else
module _ (booleans : ℕ) (bytes : List ℕ) (rest : List ℕ) (old new : List Token) (none : old ≡ []) where
  pub spells_one : (c : Condition) × ((tree booleans 128).read bytes ≡ Ok (c, rest)) × (new ≡ old ++ tokens_of c) → IsExpression new
  spells_one p = subst IsExpression (sym (p.2 ∙ ap (λ w. w ++ tokens_of p.0) none)) (is_expression p.0)

  pub is_read : (c : Condition) × ((tree booleans 128).read bytes ≡ Ok (c, rest)) × (new ≡ old ++ tokens_of c) → (condition booleans).read bytes ≡ Ok (new, rest)
  unfolding condition
  is_read p = rw p.1 (ap (λ (w : List Token). Ok (w, rest)) (sym (p.2 ∙ ap (λ w. w ++ tokens_of p.0) none)))

pub is_refused : (booleans : ℕ) (bytes : List ℕ) (e : TableError) → Fails e ((tree booleans 128).read bytes) → Fails e ((condition booleans).read bytes)
unfolding condition
is_refused booleans bytes errors.NoMemory h = tt
is_refused booleans bytes (errors.Fault f) h = rw h refl
