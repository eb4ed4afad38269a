-- The blocks and macros of a seed, and what a pair of seeds tells.
use Rattle.std.proofs.Common.{◌≡◌, ℕ, ◌<◌, true, false, List, length, refl, sym, ◌∙◌, ap, subst}
use Rattle.std.specs.Prelude.{Contains, Option, Some, None, slice_get}
use Rattle.std.specs.List.{flat_map}
use Rattle.std.specs.List.Sorted.{IsPermutation, IsSortedByKey}
use Rattle.std.proofs.lemmas.List.Sorted.{Contains-permutation, IsPermutation-sym}
use Rattle.cil_base.specs.Lists.{text_cmp}
use Rattle.cil_syntax.specs.declared.kind.Keyword.{Keyword}
use Rattle.cil_syntax.specs.declared.kind.Keyword.TheVariants as keywords
use Rattle.cil_syntax.specs.Written.{Written}
use Rattle.cil_blocks.specs.declared.parts.Parts.{Parts}
use Rattle.cil_blocks.specs.declared.reach.Members.{Members}
use Rattle.cil_blocks.specs.declared.seeds.Matched.{Matched}
use Rattle.cil_blocks.specs.declared.targets.Targets.{Targets}
use Rattle.cil_blocks.specs.Contents.{is_block, is_named}
use Rattle.cil_blocks.specs.Doubled.{AreKept, AreThose, is_named_at}
use Rattle.cil_blocks.specs.Entries.{nothing, statement_at}
use Rattle.cil_blocks.specs.Seeds.{AreMatched, AreMatchedOf, AreMembers, IsGivenBy, IsMember, IsOpen, IsOpenMember, Pair, Reaches, body_parts, own_name}
use Rattle.cil_base.specs.Places.{in_range}
use Rattle.cil_blocks.proofs.NameLemmas.{get_none}
use Rattle.cil_base.specs.MadeLists.{from_flat, contains_flat}

pub block_named : (k : Keyword) → is_block k ≡ true → is_named k ≡ true
block_named keywords.Block e = refl
block_named k e = absurd (let f : false ≡ true = e in cc)

module _ (ps : Parts) (ts : Targets) where
  -- what is directly in the bodies that a seed reaches
  pub all_given : (seed : Option ℕ) (reached : List (Option ℕ)) (all : List ℕ) → AreThose (Reaches ps ts seed) reached → all ≡ flat_map (body_parts ps) reached
      → AreThose (IsGivenBy ps ts seed) all
  all_given seed reached all so e i = (
    (λ c. let f = from_flat (body_parts ps) reached i (subst (λ xs. Contains xs i) e c) in record { body = f.0; reached = (so f.0).0 f.1; is_in = f.2 }),
    (λ g. subst (λ xs. Contains xs i) (sym e) (contains_flat (body_parts ps) reached g.body i ((so g.body).1 g.reached) g.is_in)),
  )

module _ (ws : List Written) where
  below_by : (k : ℕ) (o : Option Written) → slice_get ws k ≡ o → is_named_at ws k ≡ true → k < length ws
  below_by k (Some w) e b = in_range ws k w e
  below_by k None e b = absurd (let f : false ≡ true = sym (ap (λ (w : Written). is_named w.statement.keyword) (get_none ws k nothing e)) ∙ b in cc)

  -- only a number of a statement is one of a block or a macro
  pub named_below : (k : ℕ) → is_named_at ws k ≡ true → k < length ws
  named_below k b = below_by k (slice_get ws k) refl b

  pub block_below : (k : ℕ) → is_block (statement_at ws k).statement.keyword ≡ true → k < length ws
  block_below k b = named_below k (block_named (statement_at ws k).statement.keyword b)

  moved : (P : ℕ → Type 0) (xs ys : List ℕ) → AreThose P xs → IsPermutation xs ys → AreThose P ys
  moved P xs ys so same i = (
    (λ c. (so i).0 (Contains-permutation ys xs i (IsPermutation-sym xs ys same) c)),
    (λ p. Contains-permutation xs ys i same ((so i).1 p)),
  )

  kept_over : (T : ℕ → Type 0) (xs ys found : List ℕ) → xs ≡ ys → AreKept T xs found → AreKept T ys found
  kept_over T xs ys found e kept = subst (λ zs. AreKept T zs found) e kept

  module _ (ps : Parts) (ts : Targets) where
    kept_those : (P T : ℕ → Type 0) (xs found : List ℕ) → AreThose P xs → AreKept T xs found → AreThose (λ i. P i × T i) found
    kept_those P T xs found so kept i = (
      (λ c. let k = (kept i).0 c in ((so i).0 k.0, k.1)),
      (λ p. (kept i).1 ((so i).1 p.0, p.1)),
    )

    pub named_given : (seed : Option ℕ) (slice all named : List ℕ) → slice ≡ all → AreThose (IsGivenBy ps ts seed) all → AreKept (λ i. is_named_at ws i ≡ true) slice named
        → AreThose (IsMember ws ps ts seed) named
    named_given seed slice all named e so kept =
        kept_those (IsGivenBy ps ts seed) (λ i. is_named_at ws i ≡ true) all named so (kept_over (λ i. is_named_at ws i ≡ true) slice all named e kept)

    pub are_members : (seed : Option ℕ) (slice named opens : List ℕ) (m : Members) → slice ≡ named → AreThose (IsMember ws ps ts seed) named
        → AreKept (IsOpen ws) slice opens → IsPermutation named m.named.items → IsSortedByKey (own_name ws) text_cmp m.named.items
        → IsPermutation opens m.open_blocks.items → IsSortedByKey (own_name ws) text_cmp m.open_blocks.items → AreMembers ws ps ts seed m
    are_members seed slice named opens m e are open_so p r q s = record {
      named = moved (IsMember ws ps ts seed) named m.named.items are p;
      named_sorted = r;
      open_blocks = moved (IsOpenMember ws ps ts seed) opens m.open_blocks.items
          (kept_those (IsMember ws ps ts seed) (IsOpen ws) named opens are (kept_over (IsOpen ws) slice named opens e open_so)) q;
      open_sorted = s;
    }

    pub are_matched_in : (p : Pair) (ones others : Members) (m : Matched) → AreMembers ws ps ts p.0 ones → AreMembers ws ps ts p.1 others → AreMatchedOf ws ones others m
        → AreMatched ws ps ts p m
    are_matched_in p ones others m a b is = record {
      doubled = λ i. (
        (λ c. let r = (is.doubled i).0 c in
            record { is_one = (a.named i).0 r.is_one; other = r.other; is_other = (b.named r.other).0 r.is_other; one_name = r.one_key; differ = r.differ }),
        (λ d. (is.doubled i).1
            (record { is_one = (a.named i).1 d.is_one; other = d.other; is_other = (b.named d.other).1 d.is_other; one_key = d.one_name; differ = d.differ })),
      );
      next = λ q. (
        (λ c. let r = (is.next q).0 c in
            record { one = r.one; other = r.other; is_one = (a.open_blocks r.one).0 r.is_one; is_other = (b.open_blocks r.other).0 r.is_other; one_name = r.one_key; is = r.is }),
        (λ n. (is.next q).1
            (record { one = n.one; other = n.other; is_one = (a.open_blocks n.one).1 n.is_one; is_other = (b.open_blocks n.other).1 n.is_other; one_key = n.one_name; is = n.is })),
      );
    }
