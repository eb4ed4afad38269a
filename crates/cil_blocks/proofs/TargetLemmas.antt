-- The blocks of a program, in the order of the numbers of their namespaces.
use Rattle.std.proofs.Common.{◌≡◌, ◌⊎◌, ℕ, ◌+◌, ◌<◌, Bool, true, false, List, [], ◌∷◌, ◌++◌, length, sym, ◌∙◌, ap, subst, inl, inr, arith}
use Rattle.std.specs.Prelude.{◌↔◌, Contains, Some}
use Rattle.std.specs.List.Sorted.{IsPermutation, IsSortedByKey}
use Rattle.std.specs.Ordering.{nat_cmp}
use Rattle.std.proofs.lemmas.List.Elements.{Contains-append_left, Contains-append_right, Contains-append_cases}
use Rattle.std.proofs.lemmas.List.Sorted.{Contains-permutation, IsPermutation-sym}
use Rattle.cil_base.specs.Lists.{contains_here, contains_cases, contains_none}
use Rattle.cil_syntax.specs.Written.{Written}
use Rattle.cil_blocks.specs.Contents.{is_block}
use Rattle.cil_blocks.specs.Entries.{statement_at}
use Rattle.cil_blocks.specs.Named.{AreBlocks, block_in}
use Rattle.cil_blocks.specs.Numbers.{number_in}

module _ (ws : List Written) where
  abbrev IsBlockNumber : ℕ → Type 0
  IsBlockNumber b = is_block (statement_at ws b).statement.keyword ≡ true

  -- the blocks among the first so many statements
  abbrev pub AreBlocksUpTo : ℕ → List ℕ → Type 0
  AreBlocksUpTo i blocks = (b : ℕ) → Contains blocks b ↔ ((b < i) × (is_block (statement_at ws b).statement.keyword ≡ true))

  pub no_blocks : (blocks : List ℕ) → blocks ≡ [] → AreBlocksUpTo 0 blocks
  no_blocks blocks e b = (
    (λ c. absurd (contains_none b (subst (λ xs. Contains xs b) e c))),
    (λ h. let below = h.0 in absurd (omega (arith, below))),
  )

  or_last : (b i : ℕ) → b < i + 1 → (b < i) ⊎ (b ≡ i)
  or_last b i h = grind arith

  pub block_more : (i : ℕ) (k : Bool) (old new : List ℕ) → (is_block (statement_at ws i).statement.keyword) ≡ k → AreBlocksUpTo i old → new ≡ old ++ block_in i k
      → AreBlocksUpTo (i + 1) new
  block_more i true old new is so e b = (
    (λ c. elim (Contains-append_cases old (i ∷ []) b (subst (λ xs. Contains xs b) e c)) [
      | inl d ↦ let h = (so b).0 d in let below = h.0 in (omega (arith, below), h.1)
      | inr d ↦ elim (contains_cases b i [] d) [
        | inl same ↦ ((let s = same in omega (arith, s)), subst IsBlockNumber same is)
        | inr none ↦ absurd (contains_none b none)
      ]
    ]),
    (λ h. subst (λ xs. Contains xs b) (sym e) (elim (or_last b i h.0) [
      | inl below ↦ Contains-append_left old (i ∷ []) b ((so b).1 (below, h.1))
      | inr same ↦ Contains-append_right old (i ∷ []) b (subst (Contains (i ∷ [])) (sym same) (contains_here i []))
    ])),
  )
  block_more i false old new is so e b = (
    (λ c. elim (Contains-append_cases old [] b (subst (λ xs. Contains xs b) e c)) [
      | inl d ↦ let h = (so b).0 d in let below = h.0 in (omega (arith, below), h.1)
      | inr d ↦ absurd (contains_none b d)
    ]),
    (λ h. subst (λ xs. Contains xs b) (sym e) (elim (or_last b i h.0) [
      | inl below ↦ Contains-append_left old [] b ((so b).1 (below, h.1))
      | inr same ↦ absurd (let f : false ≡ true = sym is ∙ sym (ap (λ n. is_block (statement_at ws n).statement.keyword) same) ∙ h.1 in cc)
    ])),
  )

  pub are_blocks : (n : ℕ) (numbers blocks sorted : List ℕ) → n ≡ length ws → AreBlocksUpTo n blocks → IsPermutation blocks sorted
      → IsSortedByKey (λ b. number_in numbers (Some b)) nat_cmp sorted → AreBlocks ws numbers sorted
  are_blocks n numbers blocks sorted l all moved order = record {
    sorted = order;
    members = λ b. (
      (λ c. let h = (all b).0 (Contains-permutation sorted blocks b (IsPermutation-sym blocks sorted moved) c) in let below = h.0 in (omega (arith, below, l), h.1)),
      (λ h. let below = h.0 in Contains-permutation blocks sorted b moved ((all b).1 (omega (arith, below, l), h.1))),
    );
  }
