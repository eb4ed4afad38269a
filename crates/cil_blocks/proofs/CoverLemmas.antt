-- A seed that another one reaches: all that it tells by itself, this one tells.
use Rattle.std.proofs.Common.{◌≡◌, ℕ, ◌+◌, ◌<◌, List, [], ◌++◌, sym, ◌∙◌, ap, subst, inl, inr, arith}
use Rattle.std.specs.Prelude.{Contains, Option, Some, slice_get}
use Rattle.std.proofs.lemmas.List.Elements.{Contains-append_cases}
use Rattle.cil_base.specs.Lists.{contains_none}
use Rattle.cil_base.specs.Places.{get_in_front, in_range}
use Rattle.cil_syntax.specs.Written.{Written}
use Rattle.cil_blocks.specs.declared.parts.Parts.{Parts}
use Rattle.cil_blocks.specs.declared.targets.Targets.{Targets}
use Rattle.cil_blocks.specs.Doubled.{AreThose}
use Rattle.cil_blocks.specs.Seeds.{Covers, CoversFrom, IsDoubledBy, IsGivenBy, IsJoined, IsMember, IsNext, IsOpenMember, Pair, Reaches, at_start, further}

module _ (ps : Parts) (ts : Targets) where
  through : (a b c : Option ℕ) → Reaches ps ts a b → Reaches ps ts b c → Reaches ps ts a c
  through a b c r at_start = r
  through a b c r (further x c' s o) = further x c (through a b x r s) o

  given_by : (seed s : Option ℕ) (i : ℕ) → Reaches ps ts seed s → IsGivenBy ps ts s i → IsGivenBy ps ts seed i
  given_by seed s i r g = record { body = g.body; reached = through seed s g.body r g.reached; is_in = g.is_in }

  -- what was put into a set is what a seed reaches
  pub covers_from : (seed : Option ℕ) (reached more old new : List (Option ℕ)) → AreThose (Reaches ps ts seed) reached → more ≡ reached → IsJoined more old new
      → CoversFrom ps ts seed old new
  covers_from seed reached more old new are same j b c =
      elim (Contains-append_cases old j.behind b (subst (λ xs. Contains xs b) j.is c)) [
        | inl before ↦ inl before
        | inr added ↦ inr ((are b).0 (subst (λ xs. Contains xs b) same (j.kept b added)))
      ]

  pub covers_pair : (p : Pair) (old new : List (Option ℕ)) → p.0 ≡ p.1 → CoversFrom ps ts p.0 old new → Covers ps ts p old new
  covers_pair p old new e so b c = elim (so b c) [ inl before ↦ inl before | inr r ↦ inr (e, r) ]

  -- a seed that is paired with itself at an earlier place reaches the body
  pub record IsReachedBefore (at : ℕ) (pairs : List Pair) (b : Option ℕ) : Type 0 where
    pub place : ℕ
    pub seed : Option ℕ
    pub before : place < at
    pub is_pair : slice_get pairs place ≡ Some (seed, seed)
    pub reached : Reaches ps ts seed b

  abbrev pub AreReachedBefore : ℕ → List Pair → List (Option ℕ) → Type 0
  AreReachedBefore at pairs covered = (b : Option ℕ) → Contains covered b → IsReachedBefore at pairs b

  pub none_covered : (pairs : List Pair) (covered : List (Option ℕ)) → covered ≡ [] → AreReachedBefore 0 pairs covered
  none_covered pairs covered e b c = absurd (contains_none b (subst (λ xs. Contains xs b) e c))

  pub still_covered : (at : ℕ) (pairs : List Pair) (covered : List (Option ℕ)) → AreReachedBefore at pairs covered → AreReachedBefore (at + 1) pairs covered
  still_covered at pairs covered so b c =
      let r = so b c in
      let h = r.before in
      record { place = r.place; seed = r.seed; before = omega (arith, h); is_pair = r.is_pair; reached = r.reached }

  pub more_covered : (at : ℕ) (pairs behind new : List Pair) (p : Pair) (old more : List (Option ℕ)) → slice_get pairs at ≡ Some p → new ≡ pairs ++ behind
      → Covers ps ts p old more → AreReachedBefore at pairs old → AreReachedBefore (at + 1) new more
  more_covered at pairs behind new p old more here longer covers so b c =
      let inside = in_range pairs at p here in
      elim (covers b c) [
        | inl before ↦ let r = so b before in let h = r.before in record {
          place = r.place;
          seed = r.seed;
          before = omega (arith, h);
          is_pair = ap (λ xs. slice_get xs r.place) longer ∙ get_in_front pairs behind r.place (omega (arith, h, inside)) ∙ r.is_pair;
          reached = r.reached;
        }
        | inr r ↦ record {
          place = at;
          seed = p.0;
          before = omega arith;
          is_pair = ap (λ xs. slice_get xs at) longer ∙ get_in_front pairs behind at inside ∙ here ∙ ap (λ x. Some (p.0, x)) (sym r.0);
          reached = r.1;
        }
      ]

module _ (ws : List Written) (ps : Parts) (ts : Targets) where
  member_of : (seed s : Option ℕ) (i : ℕ) → Reaches ps ts seed s → IsMember ws ps ts s i → IsMember ws ps ts seed i
  member_of seed s i r m = (given_by ps ts seed s i r m.0, m.1)

  open_of : (seed s : Option ℕ) (i : ℕ) → Reaches ps ts seed s → IsOpenMember ws ps ts s i → IsOpenMember ws ps ts seed i
  open_of seed s i r m = (member_of seed s i r m.0, m.1)

  pub next_of : (seed : Option ℕ) (p y : Pair) → p.0 ≡ p.1 → Reaches ps ts seed p.0 → IsNext ws ps ts p y → IsNext ws ps ts (seed, seed) y
  next_of seed p y e r n = record {
    one = n.one;
    other = n.other;
    is_one = open_of seed p.0 n.one r n.is_one;
    is_other = open_of seed p.0 n.other r (subst (λ s. IsOpenMember ws ps ts s n.other) (sym e) n.is_other);
    one_name = n.one_name;
    is = n.is;
  }

  pub doubled_of : (seed : Option ℕ) (p : Pair) (i : ℕ) → p.0 ≡ p.1 → Reaches ps ts seed p.0 → IsDoubledBy ws ps ts p i → IsDoubledBy ws ps ts (seed, seed) i
  doubled_of seed p i e r d = record {
    is_one = member_of seed p.0 i r d.is_one;
    other = d.other;
    is_other = member_of seed p.0 d.other r (subst (λ s. IsMember ws ps ts s d.other) (sym e) d.is_other);
    one_name = d.one_name;
    differ = d.differ;
  }
