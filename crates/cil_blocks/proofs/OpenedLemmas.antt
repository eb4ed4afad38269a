-- What each statement opens, by its keyword.
use Rattle.std.proofs.Common.{◌≡◌, ◌⊎◌, ℕ, zero, suc, ◌+◌, ◌<◌, ◌≤◌, Bool, true, false, ◌&&◌, ◌||◌, if◌then◌else◌, List, [], ◌∷◌, ◌++◌, length, map, refl, sym, ◌∙◌, ap, subst, inl, inr, arith}
use Rattle.std.specs.Prelude.{Option, Some, None, filter, slice_get}
use Rattle.std.specs.List.{list_any}
use Rattle.std.proofs.lemmas.List.{length-append}
use Rattle.cil_base.specs.Lists.{contains_here, contains_none}
use Rattle.cil_syntax.specs.declared.kind.Keyword.{Keyword}
use Rattle.cil_syntax.specs.declared.kind.Keyword.TheVariants as keywords
use Rattle.cil_syntax.specs.Written.{Written, is_abstraction}
use Rattle.cil_blocks.specs.declared.parts.Parts.{Parts}
use Rattle.cil_blocks.specs.declared.targets.Targets.{Targets}
use Rattle.cil_blocks.specs.Contents.{Target, is_abstract, is_at, is_block, is_inheriting, keeps_place}
use Rattle.cil_blocks.specs.Entries.{AreOpened, AreParts, SaysOpened, first_number, nothing, opened_as, opened_block, opened_of, parts_at, statement_at}
use Rattle.cil_blocks.specs.Laws.{HasOneTarget}
use Rattle.cil_blocks.specs.Named.{AreAllTargets, AreTargetsOf, targets_in}
use Rattle.cil_blocks.specs.Opens.{parts, target_of}
use Rattle.cil_blocks.proofs.AllTargets.{targets_of_one}
use Rattle.cil_base.specs.Places.{none_some, not_there, some_same}
use Rattle.cil_blocks.proofs.NameLemmas.{get_none}
use Rattle.cil_blocks.proofs.StandingWalk.{is_the_target, target_is}

-- ---- marks

any_kept_by : {X : Type 0} (p q : X → Bool) (x : X) (xs : List X) (a b : Bool) → p x ≡ a → list_any (λ y. p y && q y) xs ≡ list_any p (filter q xs)
    → ((a && b) || list_any (λ y. p y && q y) xs) ≡ list_any p (if b then x ∷ filter q xs else filter q xs)
any_kept_by p q x xs true true f e = sym (ap (λ c. c || list_any p (filter q xs)) f)
any_kept_by p q x xs true false f e = e
any_kept_by p q x xs false true f e = e ∙ sym (ap (λ c. c || list_any p (filter q xs)) f)
any_kept_by p q x xs false false f e = e

any_kept : {X : Type 0} (p q : X → Bool) (xs : List X) → list_any (λ y. p y && q y) xs ≡ list_any p (filter q xs)
any_kept p q [] = refl
any_kept p q (x ∷ xs) = any_kept_by p q x xs (p x) (q x) refl (any_kept p q xs)

map_any : {X Y : Type 0} (p : Y → Bool) (f : X → Y) (xs : List X) → list_any p (map f xs) ≡ list_any (λ x. p (f x)) xs
map_any p f [] = refl
map_any p f (x ∷ xs) = ap (λ b. p (f x) || b) (map_any p f xs)

module _ (ws : List Written) where
  -- a block is marked where one of its parts is a mark
  marked : (b : Written) → is_abstract ws b ≡ list_any (λ v. is_abstraction v.statement.keyword) (parts ws b)
  unfolding is_abstract
  marked b = any_kept (λ v. is_abstraction v.statement.keyword) (λ v. is_at b.statement.at v.context.under) ws

  pub marked_by : (ps : Parts) (n : ℕ) (m : Bool) (numbers : List ℕ) → AreParts ws ps → n < length ws → numbers ≡ parts_at ps n
      → m ≡ list_any (λ k. is_abstraction (statement_at ws k).statement.keyword) numbers → m ≡ is_abstract ws (statement_at ws n)
  marked_by ps n m numbers p h is e =
      e ∙ ap (list_any (λ k. is_abstraction (statement_at ws k).statement.keyword)) is
      ∙ sym (map_any (λ (v : Written). is_abstraction v.statement.keyword) (statement_at ws) (parts_at ps n))
      ∙ ap (list_any (λ (v : Written). is_abstraction v.statement.keyword)) (p.inside n h) ∙ sym (marked (statement_at ws n))

  pub says_marked : (n : ℕ) → true ≡ is_abstract ws (statement_at ws n) → SaysOpened ws (Some None) (opened_block ws (statement_at ws n))
  says_marked n e = ap (λ b. if b then None else Some (statement_at ws n)) (sym e)

  pub says_itself : (n : ℕ) → n < length ws → false ≡ is_abstract ws (statement_at ws n) → SaysOpened ws (Some (Some n)) (opened_block ws (statement_at ws n))
  says_itself n h e = (h, ap (λ b. if b then None else Some (statement_at ws n)) (sym e))

  -- ---- by the keyword

  block_opened : (k : Keyword) (w : Written) → is_block k ≡ true → opened_block ws w ≡ opened_as ws w k
  block_opened keywords.Block w e = refl
  block_opened k w e = absurd (let f : false ≡ true = e in cc)

  inheriting_opened : (k : Keyword) (w : Written) → is_inheriting k ≡ true → target_of ws w ≡ opened_as ws w k
  inheriting_opened keywords.BlockInherit w e = refl
  inheriting_opened k w e = absurd (let f : false ≡ true = e in cc)

  kept_opened : (k : Keyword) (w : Written) → keeps_place k ≡ true → opened_as ws w k ≡ Some w
  kept_opened keywords.Optional w e = refl
  kept_opened keywords.BooleanIf w e = refl
  kept_opened k w e = absurd (let f : false ≡ true = e in cc)

  nothing_opened : (k : Keyword) (w : Written) → is_block k ≡ false → is_inheriting k ≡ false → keeps_place k ≡ false → opened_as ws w k ≡ None
  nothing_opened keywords.Block w e f o = absurd (let g : true ≡ false = e in cc)
  nothing_opened keywords.BlockInherit w e f o = absurd (let g : true ≡ false = f in cc)
  nothing_opened keywords.Optional w e f o = absurd (let g : true ≡ false = o in cc)
  nothing_opened keywords.BooleanIf w e f o = absurd (let g : true ≡ false = o in cc)
  nothing_opened k w e f o = refl

  pub says_block : (n : ℕ) (k : Keyword) (o : Option ℕ) → (statement_at ws n).statement.keyword ≡ k → is_block k ≡ true
      → SaysOpened ws (Some o) (opened_block ws (statement_at ws n)) → SaysOpened ws (Some o) (opened_of ws (statement_at ws n))
  says_block n k o e b s =
      subst (SaysOpened ws (Some o)) (block_opened (statement_at ws n).statement.keyword (statement_at ws n) (ap is_block e ∙ b)) s

  pub says_kept : (n : ℕ) (k : Keyword) → (statement_at ws n).statement.keyword ≡ k → keeps_place k ≡ true → n < length ws
      → SaysOpened ws (Some (Some n)) (opened_of ws (statement_at ws n))
  says_kept n k e o h = (h, kept_opened (statement_at ws n).statement.keyword (statement_at ws n) (ap keeps_place e ∙ o))

  pub says_nothing : (n : ℕ) (k : Keyword) → (statement_at ws n).statement.keyword ≡ k → is_block k ≡ false → is_inheriting k ≡ false → keeps_place k ≡ false
      → SaysOpened ws (Some None) (opened_of ws (statement_at ws n))
  says_nothing n k e b i o =
      nothing_opened (statement_at ws n).statement.keyword (statement_at ws n) (ap is_block e ∙ b) (ap is_inheriting e ∙ i) (ap keeps_place e ∙ o)

  -- ---- by the targets

  no_target_by : (w : Written) (o : Option Written) → target_of ws w ≡ o → ((b : Written) → Target ws w b → ⊥) → o ≡ None
  no_target_by w None e none = refl
  no_target_by w (Some b) e none = absurd (none b (target_is ws w b e))

  target_says : (one : HasOneTarget ws) (n : ℕ) (found : List ℕ) → is_inheriting (statement_at ws n).statement.keyword ≡ true → AreTargetsOf ws n found
      → SaysOpened ws (Some (first_number found)) (target_of ws (statement_at ws n))
  target_says one n [] i t =
      no_target_by (statement_at ws n) (target_of ws (statement_at ws n)) refl (λ b x. let k = t.all b i x in contains_none k.0 k.1)
  target_says one n (k ∷ ks) i t =
      let is = t.named k (contains_here k ks) in
      (is.0, is_the_target ws one (statement_at ws n) (statement_at ws k) is.1)

  pub says_target : (one : HasOneTarget ws) (n : ℕ) (k : Keyword) (ts : Targets) (found : List ℕ) (o : Option ℕ) → (statement_at ws n).statement.keyword ≡ k
      → is_inheriting k ≡ true → n < length ws → AreAllTargets ws ts → found ≡ targets_in ts n → o ≡ first_number found
      → SaysOpened ws (Some o) (opened_of ws (statement_at ws n))
  says_target one n k ts found o e i h t is f =
      let inherits : is_inheriting (statement_at ws n).statement.keyword ≡ true = ap is_inheriting e ∙ i in
      subst (SaysOpened ws (Some o)) (inheriting_opened (statement_at ws n).statement.keyword (statement_at ws n) inherits)
      (subst (λ x. SaysOpened ws (Some x) (target_of ws (statement_at ws n))) (sym (f ∙ ap first_number is))
      (target_says one n (targets_in ts n) inherits (targets_of_one ws ts n h t)))

  -- ---- all statements

  -- the first so many are right
  abbrev pub AreOpenedUpTo : ℕ → List (Option ℕ) → Type 0
  AreOpenedUpTo n os = (length os ≡ n) × ((i : ℕ) (o : Option ℕ) → slice_get os i ≡ Some o → SaysOpened ws (Some o) (opened_of ws (statement_at ws i)))

  one_got : (os : List (Option ℕ)) (last o : Option ℕ) (i n : ℕ) → length os ≡ n → slice_get (os ++ last ∷ []) i ≡ Some o → (slice_get os i ≡ Some o) ⊎ ((i ≡ n) × (last ≡ o))
  one_got [] last o zero n l e = inr ((let m = l in omega (arith, m)), some_same last o e)
  one_got [] last o (suc i) n l e = absurd (none_some o e)
  one_got (x ∷ xs) last o zero n l e = inl e
  one_got (x ∷ xs) last o (suc i) zero l e = absurd (omega (arith, l))
  one_got (x ∷ xs) last o (suc i) (suc n) l e =
      elim (one_got xs last o i n (omega (arith, l)) e) [ inl f ↦ inl f | inr f ↦ inr (ap suc f.0, f.1) ]

  pub one_more : (n : ℕ) (os new : List (Option ℕ)) (o : Option ℕ) → AreOpenedUpTo n os → new ≡ os ++ o ∷ []
      → SaysOpened ws (Some o) (opened_of ws (statement_at ws n)) → AreOpenedUpTo (n + 1) new
  one_more n os new o so e s =
      let l = so.0 in (
        ap length e ∙ length-append os (o ∷ []) ∙ ap (λ m. m + 1) l,
        λ i p g. elim (one_got os o p i n l (ap (λ xs. slice_get xs i) (sym e) ∙ g)) [
          | inl f ↦ so.1 i p f
          | inr f ↦ subst (λ q. SaysOpened ws (Some q) (opened_of ws (statement_at ws i))) f.1
              (subst (λ m. SaysOpened ws (Some o) (opened_of ws (statement_at ws m))) (sym f.0) s)
        ],
      )

  all_by : (n : ℕ) (os : List (Option ℕ)) (i : ℕ) (g : Option (Option ℕ)) → slice_get os i ≡ g → length ws ≤ n → AreOpenedUpTo n os
      → SaysOpened ws g (opened_of ws (statement_at ws i))
  all_by n os i (Some o) e h so = so.1 i o e
  all_by n os i None e h so =
      let far : slice_get ws i ≡ None = not_there ws i (far_off os i n (length ws) e so.0 h) in
      ap (opened_of ws) (get_none ws i nothing far) where
        far_off : (xs : List (Option ℕ)) (i n m : ℕ) → slice_get xs i ≡ None → length xs ≡ n → m ≤ n → m ≤ i
        far_off [] i n m e l h = omega (arith, l, h)
        far_off (x ∷ xs) zero n m e l h = absurd (none_some x (sym e))
        far_off (x ∷ xs) (suc i) zero m e l h = omega (arith, l, h)
        far_off (x ∷ xs) (suc i) (suc n) zero e l h = omega arith
        far_off (x ∷ xs) (suc i) (suc n) (suc m) e l h = let r = far_off xs i n m e (omega (arith, l)) (omega (arith, h)) in omega (arith, r)

  pub all_opened : (n : ℕ) (os : List (Option ℕ)) → length ws ≤ n → AreOpenedUpTo n os → AreOpened ws os
  all_opened n os h so i = all_by n os i (slice_get os i) refl h so
