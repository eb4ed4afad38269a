-- What stands is what the queue reaches, and the order of trails is that of the queue. So the walk that opens each in turn gives
-- the list of all that stands.
use Rattle.std.proofs.Common.{◌≡◌, ℕ, ◌+◌, ◌≤◌, Bool, true, false, if◌then◌else◌, List, [], ◌∷◌, ◌++◌, length, map, refl, sym, ◌∙◌, ap, subst, arith}
use Rattle.std.specs.Prelude.{Contains, Option, Some, None, filter}
use Rattle.std.specs.declared.cmp.Ordering.TheVariants.{Less}
use Rattle.std.specs.Cmp.Lexicographic.{same_text, other_text}
use Rattle.cil_syntax.specs.Spelling.{same_bytes}
use Rattle.cil_faults.specs.Namespaces.{Namespace}
use Rattle.cil_syntax.specs.Scopes.{asked}
use Rattle.cil_syntax.specs.declared.term.Word.{Word}
use Rattle.std.specs.List.Sorted.{IsStrictlySortedBy}
use Rattle.std.proofs.lemmas.List.Kept.{IsStrictlySortedBy-filter}
use Rattle.std.proofs.lemmas.List.{length-append}
use Rattle.cil_base.specs.Lists.{contains_none, all_at}
use Rattle.cil_faults.specs.declared.spot.Spot.{Spot}
use Rattle.cil_syntax.specs.declared.kind.Keyword.{Keyword}
use Rattle.cil_syntax.specs.declared.kind.Keyword.TheVariants as keywords
use Rattle.cil_blocks.specs.Contents.{first_word, block_space, is_block_named, is_block, is_conditional, is_inheriting, is_optional, is_abstract, is_at, same_spot, IsIn, Target, Standing, standing_top, standing_in_block, standing_in_branch, standing_in_optional, standing_inherited, standing_cmp, path_cmp, spot_cmp, Stands, top, in_block, in_branch, in_optional, inherited, spot_total}
use Rattle.cil_blocks.specs.Opens.{on_top_by, target_in, target_by, is_on_top, tops, parts, target_of, opens_target, opens_as, opens}
use Rattle.cil_syntax.specs.Written.{Written, written_cmp}
use Rattle.cil_base.specs.Rising.{all_from}
use Rattle.cil_base.specs.MadeLists.{contains_map, from_map}
use Rattle.cil_base.specs.Searches.{find_some, found_is, kept_into, kept_is}
use Rattle.cil_base.specs.Places.{none_some}
use Rattle.cil_base.specs.Paths.{opened_later, opened_beside, longer_than_one, alone}
use Rattle.cil_base.specs.Queue.{IsReached, at_first, onward, IsQueueOrder}

-- ---- places

head_of : List ℕ → ℕ
head_of [] = 0
head_of (x ∷ xs) = x

tail_of : List ℕ → List ℕ
tail_of [] = []
tail_of (x ∷ xs) = xs

pub same_spots : (a b : Spot) → same_spot a b ≡ true → a ≡ b
unfolding head_of tail_of
same_spots a b e =
    let l : (a.«module» ∷ a.at ∷ []) ≡ (b.«module» ∷ b.at ∷ []) = same_text (a.«module» ∷ a.at ∷ []) (b.«module» ∷ b.at ∷ []) (sym e) in
    λ i. record { «module» = head_of (l i); at = head_of (tail_of (l i)) }

pub text_true : (xs ys : List ℕ) (r : Bool) → r ≡ same_bytes xs ys → xs ≡ ys → same_bytes xs ys ≡ true
text_true xs ys true e q = sym e
text_true xs ys false e q = absurd (other_text xs ys e q)

pub spots_same : (a b : Spot) → a ≡ b → same_spot a b ≡ true
spots_same a b e =
    text_true (a.«module» ∷ a.at ∷ []) (b.«module» ∷ b.at ∷ []) (same_spot a b) refl (λ i. (e i).«module» ∷ (e i).at ∷ [])

at_in : (at : Spot) (o : Option Spot) → is_at at o ≡ true → o ≡ Some at
at_in at None e = absurd (let f : false ≡ true = e in cc)
at_in at (Some s) e = ap Some (sym (same_spots at s e))

in_at : (at : Spot) (o : Option Spot) → o ≡ Some at → is_at at o ≡ true
in_at at o e = subst (λ x. is_at at x ≡ true) (sym e) (spots_same at at refl)

pub top_on : {X : Type 0} (o : Option X) → on_top_by o ≡ true → o ≡ None
top_on None e = refl
top_on (Some x) e = absurd (let f : false ≡ true = e in cc)

module _ (ws : List Written) where
  pub parts_of : (p w : Written) → Contains (parts ws p) w → Contains ws w × IsIn w p
  parts_of p w c = let k = kept_is (λ v. is_at p.statement.at v.context.under) ws w c in (k.0, at_in p.statement.at w.context.under k.1)

  pub in_parts : (p w : Written) → Contains ws w → IsIn w p → Contains (parts ws p) w
  in_parts p w c i = kept_into (λ v. is_at p.statement.at v.context.under) ws w c (in_at p.statement.at w.context.under i)

  -- ---- targets

  target_in_is : (w : Written) (word : Word) (o : Option Namespace) (b : Written) → first_word w.statement.args ≡ Some word
      → block_space ws w.context.space word ≡ o → target_in ws word o ≡ Some b → Target ws w b
  target_in_is w word None b f g e = absurd (none_some b e)
  target_in_is w word (Some n) b f g e =
      let k = found_is (is_block_named (asked word.bytes).name n) ws b e in
      record { word = word; is_word = f; space = n; found = g; is_written = k.0; named = k.1 }

  target_by_is : (w b : Written) (o : Option Word) → first_word w.statement.args ≡ o → target_by ws w.context.space o ≡ Some b → Target ws w b
  target_by_is w b None f e = absurd (none_some b e)
  target_by_is w b (Some word) f e = target_in_is w word (block_space ws w.context.space word) b f refl e

  pub target_is : (w b : Written) → target_of ws w ≡ Some b → Target ws w b
  unfolding target_of
  target_is w b e = target_by_is w b (first_word w.statement.args) refl e

  some_target : (w b : Written) → Target ws w b → (z : Written) × (target_of ws w ≡ Some z)
  unfolding target_of
  some_target w b t =
      let f = find_some (is_block_named (asked t.word.bytes).name t.space) ws b t.is_written t.named in
      (f.0, ap (target_by ws w.context.space) t.is_word ∙ ap (target_in ws t.word) t.found ∙ f.1)

  -- ---- what is opened stands

  module _ (one_target : (w b c : Written) → Target ws w b → Target ws w c → b ≡ c) where
    pub is_the_target : (w b : Written) → Target ws w b → target_of ws w ≡ Some b
    is_the_target w b t = let f = some_target w b t in f.1 ∙ ap Some (one_target w f.0 b (target_is w f.0 f.1) t)

    -- in a keyword, what is opened is a step of what stands
    opened_block : (s t : Standing) (b : Bool) → is_abstract ws s.statement ≡ b → is_block s.statement.statement.keyword ≡ true → Stands ws s
        → Contains (if b then [] else map (standing_in_block s) (parts ws s.statement)) t → Stands ws t
    opened_block s t true a k st c = absurd (contains_none t c)
    opened_block s t false a k st c =
        let m = from_map (standing_in_block s) (parts ws s.statement) t c in
        let p = parts_of s.statement m.0 m.1 in
        subst (Stands ws) m.2 (in_block s m.0 st k a p.0 p.1)

    opened_target : (s t : Standing) (o : Option Written) → target_of ws s.statement ≡ o → is_inheriting s.statement.statement.keyword ≡ true → Stands ws s
        → Contains (opens_target ws s o) t → Stands ws t
    opened_target s t None e k st c = absurd (contains_none t c)
    opened_target s t (Some b) e k st c =
        let m = from_map (standing_inherited s b) (parts ws b) t c in
        let p = parts_of b m.0 m.1 in
        subst (Stands ws) m.2 (inherited s b m.0 st k (target_is s.statement b e) p.0 p.1)

    opened_optional : (s t : Standing) → is_optional s.statement.statement.keyword ≡ true → Stands ws s
        → Contains (map (standing_in_optional s) (parts ws s.statement)) t → Stands ws t
    opened_optional s t k st c =
        let m = from_map (standing_in_optional s) (parts ws s.statement) t c in
        let p = parts_of s.statement m.0 m.1 in
        subst (Stands ws) m.2 (in_optional s m.0 st k p.0 p.1)

    opened_branch : (s t : Standing) → is_conditional s.statement.statement.keyword ≡ true → Stands ws s
        → Contains (map (standing_in_branch s) (parts ws s.statement)) t → Stands ws t
    opened_branch s t k st c =
        let m = from_map (standing_in_branch s) (parts ws s.statement) t c in
        let p = parts_of s.statement m.0 m.1 in
        subst (Stands ws) m.2 (in_branch s m.0 st k p.0 p.1)

    opened_as : (s t : Standing) (k : Keyword) → s.statement.statement.keyword ≡ k → Stands ws s → Contains (opens_as ws s k) t → Stands ws t
    opened_as s t keywords.Block e st c = opened_block s t (is_abstract ws s.statement) refl (ap is_block e) st c
    opened_as s t keywords.BlockInherit e st c = opened_target s t (target_of ws s.statement) refl (ap is_inheriting e) st c
    opened_as s t keywords.Optional e st c = opened_optional s t (ap is_optional e) st c
    opened_as s t keywords.BooleanIf e st c = opened_branch s t (ap is_conditional e) st c
    opened_as s t k e st c = absurd (contains_none t c)

    pub stands_reached : (s : Standing) → IsReached standing_cmp (tops ws) (opens ws) s → Stands ws s
    unfolding opens
    stands_reached s (at_first t c) =
        let m = from_map standing_top (filter is_on_top ws) t c in
        let k = kept_is is_on_top ws m.0 m.1 in
        subst (Stands ws) m.2 (top m.0 k.0 (top_on m.0.context.under k.1))
    stands_reached s (onward p t r c) = opened_as p t p.statement.statement.keyword refl (stands_reached p r) c

    -- ---- and back

    none_on_top : {X : Type 0} (o : Option X) → o ≡ None → on_top_by o ≡ true
    none_on_top o e = subst (λ x. on_top_by x ≡ true) (sym e) refl

    block_opens : (s t : Standing) (k : Keyword) → is_block k ≡ true → is_abstract ws s.statement ≡ false
        → Contains (map (standing_in_block s) (parts ws s.statement)) t → Contains (opens_as ws s k) t
    block_opens s t keywords.Block k a c = subst (λ b. Contains (if b then [] else map (standing_in_block s) (parts ws s.statement)) t) (sym a) c
    block_opens s t kw k a c = absurd (let f : false ≡ true = k in cc)

    optional_opens : (s t : Standing) (k : Keyword) → is_optional k ≡ true → Contains (map (standing_in_optional s) (parts ws s.statement)) t
        → Contains (opens_as ws s k) t
    optional_opens s t keywords.Optional k c = c
    optional_opens s t kw k c = absurd (let f : false ≡ true = k in cc)

    branch_opens : (s t : Standing) (k : Keyword) → is_conditional k ≡ true → Contains (map (standing_in_branch s) (parts ws s.statement)) t
        → Contains (opens_as ws s k) t
    branch_opens s t keywords.BooleanIf k c = c
    branch_opens s t kw k c = absurd (let f : false ≡ true = k in cc)

    inheriting_opens : (s t : Standing) (k : Keyword) (b : Written) → is_inheriting k ≡ true → target_of ws s.statement ≡ Some b
        → Contains (map (standing_inherited s b) (parts ws b)) t → Contains (opens_as ws s k) t
    inheriting_opens s t keywords.BlockInherit b k e c = subst (λ o. Contains (opens_target ws s o) t) (sym e) c
    inheriting_opens s t kw b k e c = absurd (let f : false ≡ true = k in cc)

    pub reached_stands : (s : Standing) → Stands ws s → IsReached standing_cmp (tops ws) (opens ws) s
    unfolding opens
    reached_stands s (top w c u) =
        at_first (standing_top w) (contains_map standing_top (filter is_on_top ws) w (kept_into is_on_top ws w c (none_on_top w.context.under u)))
    reached_stands s (in_block p w sp k a c u) =
        onward p (standing_in_block p w) (reached_stands p sp)
        (block_opens p (standing_in_block p w) p.statement.statement.keyword k a (contains_map (standing_in_block p) (parts ws p.statement) w (in_parts p.statement w c u)))
    reached_stands s (in_optional p w sp k c u) =
        onward p (standing_in_optional p w) (reached_stands p sp)
        (optional_opens p (standing_in_optional p w) p.statement.statement.keyword k
        (contains_map (standing_in_optional p) (parts ws p.statement) w (in_parts p.statement w c u)))
    reached_stands s (in_branch p w sp k c u) =
        onward p (standing_in_branch p w) (reached_stands p sp)
        (branch_opens p (standing_in_branch p w) p.statement.statement.keyword k
        (contains_map (standing_in_branch p) (parts ws p.statement) w (in_parts p.statement w c u)))
    reached_stands s (inherited p b w sp k t c u) =
        onward p (standing_inherited p b w) (reached_stands p sp)
        (inheriting_opens p (standing_inherited p b w) p.statement.statement.keyword b k (is_the_target p.statement b t)
        (contains_map (standing_inherited p b) (parts ws b) w (in_parts b w c u)))

  -- ---- the order of the queue

  -- a step adds one place to the trail
  abbrev IsStepOf : Standing → Standing → Type 0
  IsStepOf s t = (at : Spot) × (t.trail ≡ s.trail ++ at ∷ [])

  mapped_step : (s t : Standing) (f : Written → Standing) (us : List Written) → ((w : Written) → (f w).trail ≡ s.trail ++ w.statement.at ∷ [])
      → Contains (map f us) t → IsStepOf s t
  mapped_step s t f us h c =
      let m = from_map f us t c in (m.0.statement.at, ap (λ (x : Standing). x.trail) (sym m.2) ∙ h m.0)

  block_step : (s t : Standing) (b : Bool) → Contains (if b then [] else map (standing_in_block s) (parts ws s.statement)) t → IsStepOf s t
  block_step s t true c = absurd (contains_none t c)
  block_step s t false c = mapped_step s t (standing_in_block s) (parts ws s.statement) (λ w. refl) c

  target_step : (s t : Standing) (o : Option Written) → Contains (opens_target ws s o) t → IsStepOf s t
  target_step s t None c = absurd (contains_none t c)
  target_step s t (Some b) c = mapped_step s t (standing_inherited s b) (parts ws b) (λ w. refl) c

  step_as : (s t : Standing) (k : Keyword) → Contains (opens_as ws s k) t → IsStepOf s t
  step_as s t keywords.Block c = block_step s t (is_abstract ws s.statement) c
  step_as s t keywords.BlockInherit c = target_step s t (target_of ws s.statement) c
  step_as s t keywords.Optional c = mapped_step s t (standing_in_optional s) (parts ws s.statement) (λ w. refl) c
  step_as s t keywords.BooleanIf c = mapped_step s t (standing_in_branch s) (parts ws s.statement) (λ w. refl) c
  step_as s t k c = absurd (contains_none t c)

  a_step : (s t : Standing) → Contains (opens ws s) t → IsStepOf s t
  unfolding opens
  a_step s t c = step_as s t s.statement.statement.keyword c

  some_trail : (s : Standing) → IsReached standing_cmp (tops ws) (opens ws) s → 1 ≤ length s.trail
  some_trail s (at_first t c) =
      let m = from_map standing_top (filter is_on_top ws) t c in
      let l : length t.trail ≡ 1 = ap (λ (x : Standing). length x.trail) (sym m.2) in
      omega (arith, l)
  some_trail s (onward p t r c) =
      let a = a_step p t c in
      let l : length t.trail ≡ length p.trail + 1 = ap length a.1 ∙ length-append p.trail (a.0 ∷ []) in
      omega (arith, l)

  module _ (rising : IsStrictlySortedBy written_cmp ws) where
    pub rising_map : (f : Written → Standing) → ((v w : Written) → written_cmp v w ≡ Less → standing_cmp (f v) (f w) ≡ Less) → (us : List Written)
        → IsStrictlySortedBy written_cmp us → IsStrictlySortedBy standing_cmp (map f us)
    unfolding IsStrictlySortedBy
    rising_map f h [] r = tt
    rising_map f h (u ∷ us) r = (
      all_from (λ y. standing_cmp (f u) y ≡ Less) (map f us) (λ y c. let back = from_map f us y c in
          subst (λ y. standing_cmp (f u) y ≡ Less) back.2 (h u back.0 (all_at (λ w. written_cmp u w ≡ Less) us back.0 r.0 back.1))),
      rising_map f h us r.1,
    )

    nothing_rises : IsStrictlySortedBy standing_cmp []
    unfolding IsStrictlySortedBy
    nothing_rises = tt

    parts_rise : (p : Written) → IsStrictlySortedBy written_cmp (parts ws p)
    parts_rise p = IsStrictlySortedBy-filter written_cmp (λ w. is_at p.statement.at w.context.under) ws rising

    step_rises : (s : Standing) (f : Written → Standing) (p : Written) → ((w : Written) → (f w).trail ≡ s.trail ++ w.statement.at ∷ [])
        → IsStrictlySortedBy standing_cmp (map f (parts ws p))
    step_rises s f p h =
        rising_map f (λ v w e. (λ i. path_cmp (h v i) (h w i)) ∙ opened_beside spot_cmp spot_total s.trail v.statement.at w.statement.at e) (parts ws p) (parts_rise p)

    block_rises : (s : Standing) (b : Bool) → IsStrictlySortedBy standing_cmp (if b then [] else map (standing_in_block s) (parts ws s.statement))
    block_rises s true = nothing_rises
    block_rises s false = step_rises s (standing_in_block s) s.statement (λ w. refl)

    target_rises : (s : Standing) (o : Option Written) → IsStrictlySortedBy standing_cmp (opens_target ws s o)
    target_rises s None = nothing_rises
    target_rises s (Some b) = step_rises s (standing_inherited s b) b (λ w. refl)

    as_rises : (s : Standing) (k : Keyword) → IsStrictlySortedBy standing_cmp (opens_as ws s k)
    as_rises s keywords.Block = block_rises s (is_abstract ws s.statement)
    as_rises s keywords.BlockInherit = target_rises s (target_of ws s.statement)
    as_rises s keywords.Optional = step_rises s (standing_in_optional s) s.statement (λ w. refl)
    as_rises s keywords.BooleanIf = step_rises s (standing_in_branch s) s.statement (λ w. refl)
    as_rises s k = nothing_rises

    opens_rise : (s : Standing) → IsStrictlySortedBy standing_cmp (opens ws s)
    unfolding opens
    opens_rise s = as_rises s s.statement.statement.keyword

    -- the order of trails is that of the queue
    pub queue_order : IsQueueOrder standing_cmp (tops ws) (opens ws)
    queue_order = record {
      start_rises = rising_map standing_top (λ v w e. alone spot_cmp spot_total v.statement.at w.statement.at e) (filter is_on_top ws)
          (IsStrictlySortedBy-filter written_cmp is_on_top ws rising);
      each_rises = λ s r. opens_rise s;
      behind_start = λ x y b c r d. let m = from_map standing_top (filter is_on_top ws) x c in let a = a_step y b d in
          (λ i. path_cmp ((sym m.2 i).trail) (a.1 i)) ∙ longer_than_one spot_cmp spot_total y.trail m.0.statement.at a.0 (some_trail y r);
      later = λ x y a b r q e c d. let p = a_step x a c in let s = a_step y b d in
          (λ i. path_cmp (p.1 i) (s.1 i)) ∙ opened_later spot_cmp spot_total x.trail y.trail p.0 s.0 e;
    }
