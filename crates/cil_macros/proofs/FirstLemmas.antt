-- The first body of each macro: how the table grows, and why nothing came through a macro whose first body is later.
use Rattle.std.proofs.Common.{◌≡◌, ℕ, zero, suc, ◌+◌, ◌<◌, ◌≤◌, ◌==◌, ◌&&◌, ◌⊎◌, Bool, true, false, cond, if◌then◌else◌, List, [], ◌∷◌, ◌++◌, length, refl, sym, ◌∙◌, ap, subst, inl, inr, arith}
use Rattle.std.proofs.lemmas.Grind.{common_steps}
use Rattle.std.specs.Prelude.{Option, Some, None, is_some, slice_get}
use Rattle.std.specs.List.{position, position_or_len}
use Rattle.std.specs.Map.{lookup}
use Rattle.std.specs.Option.{option_or}
use Rattle.std.proofs.lemmas.Bool.{eqb-true, and_parts}
use Rattle.std.proofs.lemmas.List.{length-append}
use Rattle.std.proofs.lemmas.List.Folds.{position_or_len_push}
use Rattle.std.proofs.lemmas.List.Sums.{fails_before_first}
use Rattle.indexmap.specs.IndexMap.{IndexMap, get}
use Rattle.cil_base.specs.Places.{get_in_front, get_so, in_range, none_some, some_at, some_same}
use Rattle.cil_faults.specs.declared.spot.Spot.{Spot}
use Rattle.cil_syntax.specs.Written.{Written}
use Rattle.cil_blocks.specs.Contents.{Standing, same_spot}
use Rattle.cil_blocks.proofs.StandingWalk.{same_spots, spots_same}
use Rattle.cil_macros.specs.declared.entry.Body.{Body}
use Rattle.cil_macros.specs.declared.entry.Called.{Called}
use Rattle.cil_macros.specs.declared.chain.Brought.{Brought}
use Rattle.cil_macros.specs.Entries.{AreBodies, IsBodyAt, placed_of}
use Rattle.cil_macros.specs.Firsts.{AreFirsts, IsEarlier, IsFirstKept, Key, is_body_of, is_stated_at, key_of, same_key}
use Rattle.cil_macros.proofs.BodyLemmas.{is_brought}
use Rattle.cil_macros.proofs.ChainLemmas.{IsCame, came_before, came_not}
use Rattle.cil_macros.proofs.EntryLemmas.{placed_length}
use Rattle.cil_macros.proofs.WalkLemmas.{either_at}

-- ---- keys

key_same : (a b : Key) → same_key a b ≡ true → (a.0 ≡ b.0) × (a.1 ≡ b.1)
key_same a b e = let t = and_parts (a.0 == b.0) (a.1 == b.1) e in (eqb-true a.0 b.0 t.0, eqb-true a.1 b.1 t.1)

-- ---- one number more

pub or_itself : (o : Option ℕ) (b : Bool) (n : ℕ) → (b ≡ true → is_some o ≡ true) → o ≡ option_or o (if b then Some n else None)
or_itself (Some x) b n h = refl
or_itself None true n h = absurd (let f : false ≡ true = h refl in cc)
or_itself None false n h = refl

pub or_put : (o : Option ℕ) (b : Bool) (n : ℕ) → (b ≡ true → is_some o ≡ false) → cond b (Some n) o ≡ option_or o (if b then Some n else None)
or_put None true n h = refl
or_put None false n h = refl
or_put (Some x) true n h = absurd (let f : true ≡ false = h refl in cc)
or_put (Some x) false n h = refl

module _ {S : Type 0} where
  -- keys of one place have one value
  alike : (m : IndexMap Key ℕ S) (a b : Key) → same_key a b ≡ true → get same_key m a ≡ get same_key m b
  alike m a b e = let t = key_same a b e in ap (λ (p : ℕ × ℕ). lookup (same_key p) m.entries) (λ i. (t.0 i, t.1 i))

  pub kept_known : (called : Spot) (number : ℕ) (m : IndexMap Key ℕ S) → true ≡ is_some (get same_key m (key_of called)) → IsFirstKept called number m m
  kept_known called number m e k =
      or_itself (get same_key m k) (same_key (key_of called) k) number (λ t. ap is_some (sym (alike m (key_of called) k t)) ∙ sym e)

  pub kept_new : (called : Spot) (number : ℕ) (old new : IndexMap Key ℕ S) → false ≡ is_some (get same_key old (key_of called))
      → ((k : Key) → get same_key new k ≡ cond (same_key (key_of called) k) (Some number) (get same_key old k)) → IsFirstKept called number old new
  kept_new called number old new e put k =
      put k ∙ or_put (get same_key old k) (same_key (key_of called) k) number (λ t. ap is_some (sym (alike old (key_of called) k t)) ∙ sym e)

-- ---- the number of the first

module _ {X : Type 0} (p : X → Bool) where
  no_more : (xs : List X) → position_or_len p xs ≤ length xs
  no_more [] = omega arith
  no_more (x ∷ xs) = let rest = no_more xs in grind (arith, rest)

  pub none_first : (xs : List X) → position p xs ≡ None → length xs ≡ position_or_len p xs
  none_first xs e = let most = no_more xs in grind (arith, common_steps)

  pub some_first : (xs : List X) (i : ℕ) → position p xs ≡ Some i → i ≡ position_or_len p xs
  some_first xs i e = grind (arith, common_steps)

  position_more : (xs : List X) (x : X) → position p (xs ++ x ∷ []) ≡ option_or (position p xs) (if p x then Some (length xs) else None)
  position_more xs x = let more = position_or_len_push p xs x in let most = no_more xs in let one = length-append xs (x ∷ []) in grind (arith, common_steps)

-- ---- nothing came through a macro whose first body is later

module _ (ws : List Written) (ss : List Standing) (cs : List Called) (bs : List Body) (are : AreBodies ws ss cs bs)
    (in_turn : (i j : ℕ) (b : Body) (c : Called) → slice_get bs i ≡ Some b → b.call ≡ length ss + j → slice_get cs j ≡ Some c → c.body < i)
    (spot : Spot) (first : ℕ) (is_first : first ≡ position_or_len (is_body_of ss spot) bs) where
  its_body : (j at : ℕ) (c : Called) → slice_get cs j ≡ Some c → at ≡ length ss + j
      → (b : Body) × (slice_get bs c.body ≡ Some b) × IsBodyAt ws ss cs at b
  its_body j at c e place =
      let b = is_brought ws ss cs bs are j c e in
      let before = b.before in (
        b.body,
        b.is_body,
        record {
          so = b.so;
          before = omega (arith, before, place);
          there = b.there;
          placed = ap (slice_get (placed_of ws ss cs)) place ∙ b.placed;
          is = b.is;
        },
      )

  of_another : (i : ℕ) (b : Body) (m : Standing) → i < first → slice_get bs i ≡ Some b → slice_get ss b.macro_rank ≡ Some m
      → false ≡ same_spot spot m.statement.statement.at
  of_another i b m h e f =
      sym (fails_before_first (is_body_of ss spot) bs i b (omega (arith, h, is_first)))
      ∙ ap (is_body_of ss spot) (get_so bs i b b e)
      ∙ ap (is_stated_at spot) f

  behind : (at : ℕ) → at < length ss + length cs → (at < length ss) ⊎ ((j : ℕ) × (at ≡ length ss + j) × (j < length cs))
  behind at h = by (length ss) at h
    where
      by : (n at : ℕ) → at < n + length cs → (at < n) ⊎ ((j : ℕ) × (at ≡ n + j) × (j < length cs))
      by zero at h = inr (at, omega arith, omega (arith, h))
      by (suc n) zero h = inl (omega arith)
      by (suc n) (suc at) h = shifted (by n at (omega (arith, h)))
        where
          shifted : (at < n) ⊎ ((j : ℕ) × (at ≡ n + j) × (j < length cs)) → (suc at < suc n) ⊎ ((j : ℕ) × (suc at ≡ suc n + j) × (j < length cs))
          shifted (inl l) = inl (omega (arith, l))
          shifted (inr x) = let e = x.1 in inr (x.0, omega (arith, e), x.2)

  -- nothing came through it here, if nothing came through it before
  abbrev Never : ℕ → Type 0
  Never at = at < length ss + length cs → IsEarlier cs first (length ss) at → IsCame ws ss cs spot at false

  never_here : (at : ℕ) → ((k : ℕ) → k < at → Never k) → (at < length ss) ⊎ ((j : ℕ) × (at ≡ length ss + j) × (j < length cs)) → Never at
  never_here at again (inl h) within earlier = came_not ws ss cs spot at h
  never_here at again (inr x) within earlier =
      let c = some_at cs x.0 x.2 in
      let b = its_body x.0 at c.0 c.1 x.1 in
      let before = b.2.before in
      let less = earlier x.0 c.0 x.1 c.1 in
      came_before ws ss cs spot at b.0 b.2 (of_another c.0.body b.0 b.2.so.opened.macro less b.1 b.2.so.is_macro) false
      (again b.0.call before (omega (arith, before, within))
      (λ k d f g. let turn = in_turn c.0.body k b.0 d b.1 f g in omega (arith, turn, less)))

  never_from : (n at : ℕ) → at < n → Never at
  never_from zero at below within earlier = absurd (let e : at < zero = below in omega (arith, e))
  never_from (suc n) at below within earlier =
      never_here at (λ k h. never_from n k (omega (arith, h, below))) (behind at within) within earlier

  pub never_came : (at : ℕ) → at < length ss + length cs → IsEarlier cs first (length ss) at → IsCame ws ss cs spot at false
  never_came at within earlier = never_from (at + 1) at (omega arith) within earlier

-- ---- one body more

both_ways : (a b : Bool) → (a ≡ true → b ≡ true) → (b ≡ true → a ≡ true) → a ≡ b
both_ways true b f g = sym (f refl)
both_ways false true f g = g refl
both_ways false false f g = refl

number_itself : (n : ℕ) → (n == n) ≡ true
number_itself n = grind arith

key_itself : (k : Key) → same_key k k ≡ true
key_itself k = ap (λ b. b && (k.1 == k.1)) (number_itself k.0) ∙ number_itself k.1

same_places : (a b : Spot) → same_key (key_of a) (key_of b) ≡ same_spot b a
same_places a b = both_ways (same_key (key_of a) (key_of b)) (same_spot b a)
    (λ e. let t = key_same (key_of a) (key_of b) e in spots_same b a (λ i. record { «module» = sym t.0 i; at = sym t.1 i }))
    (λ e. ap (λ (x : Spot). same_key (key_of a) (key_of x)) (same_spots b a e) ∙ key_itself (key_of a))

module _ (ws : List Written) (ss : List Standing) (old new : Brought) (are : AreBodies ws ss old.entries.items old.bodies.items) (firsts : AreFirsts ss old)
    (body : Body) (m : Standing) (is_macro : slice_get ss body.macro_rank ≡ Some m) (within : body.call < length ss + length old.entries.items)
    (more : List Called) (called : new.entries.items ≡ old.entries.items ++ more) (bodies : new.bodies.items ≡ old.bodies.items ++ body ∷ [])
    (spot : Spot) (is_spot : spot ≡ m.statement.statement.at) (number : ℕ) (is_number : number ≡ length old.bodies.items)
    (kept : IsFirstKept spot number old.firsts new.firsts) where
  its_first : (asked : Spot) → get same_key new.firsts (key_of asked) ≡ position (is_body_of ss asked) new.bodies.items
  its_first asked =
      kept (key_of asked)
      ∙ ap (λ b. option_or (get same_key old.firsts (key_of asked)) (if b then Some number else None))
      (same_places spot asked ∙ ap (same_spot asked) is_spot ∙ ap (is_stated_at asked) (sym is_macro))
      ∙ ap (λ n. option_or (get same_key old.firsts (key_of asked)) (if is_body_of ss asked body then Some n else None)) is_number
      ∙ ap (λ o. option_or o (if is_body_of ss asked body then Some (length old.bodies.items) else None)) (firsts.first asked)
      ∙ sym (position_more (is_body_of ss asked) old.bodies.items body)
      ∙ ap (position (is_body_of ss asked)) (sym bodies)

  -- its call was there before
  call_there : (b : Body) (j : ℕ) (c : Called) → b.call < length ss + length old.entries.items → b.call ≡ length ss + j → slice_get new.entries.items j ≡ Some c
      → slice_get old.entries.items j ≡ Some c
  call_there b j c h e f =
      sym (get_in_front old.entries.items more j (omega (arith, h, e))) ∙ ap (λ xs. slice_get xs j) (sym called) ∙ f

  each_turn : (i j : ℕ) (b : Body) (c : Called) → slice_get new.bodies.items i ≡ Some b → b.call ≡ length ss + j → slice_get new.entries.items j ≡ Some c → c.body < i
  each_turn i j b c e f g = by (either_at ws ss old.bodies.items (body ∷ []) i b (ap (λ xs. slice_get xs i) (sym bodies) ∙ e))
    where
      by : ((i < length old.bodies.items) × (slice_get old.bodies.items i ≡ Some b)) ⊎ ((k : ℕ) × (i ≡ length old.bodies.items + k) × (slice_get (body ∷ []) k ≡ Some b)) → c.body < i
      by (inl h) =
          let x = are.each i b h.1 in
          let l = placed_length ws ss old.entries.items in
          let r = in_range (placed_of ws ss old.entries.items) b.call x.call x.is_call in
          firsts.in_turn i j b c h.1 f (call_there b j c (omega (arith, l, r)) f g)
      by (inr (zero, h, k)) =
          let same = some_same body b k in
          let there = call_there b j c (subst (λ (x : Body). x.call < length ss + length old.entries.items) same within) f g in
          let x = are.brought j c there in
          let r = in_range old.bodies.items c.body x.body x.is_body in
          omega (arith, h, r)
      by (inr (suc n, h, k)) = absurd (none_some b k)

  pub firsts_opened : AreFirsts ss new
  firsts_opened = record { first = its_first; in_turn = each_turn }

-- an optional opens no body
pub firsts_stay : (ws : List Written) (ss : List Standing) (old new : Brought) → AreBodies ws ss old.entries.items old.bodies.items → AreFirsts ss old
    → (more : List Called) → new.entries.items ≡ old.entries.items ++ more → new.bodies.items ≡ old.bodies.items → new.firsts ≡ old.firsts → AreFirsts ss new
firsts_stay ws ss old new are firsts more called bodies same = record {
  first = λ spot. ap (λ m. get same_key m (key_of spot)) same ∙ firsts.first spot ∙ ap (position (is_body_of ss spot)) (sym bodies);
  in_turn = λ i j b c e f g.
      let there = ap (λ xs. slice_get xs i) (sym bodies) ∙ e in
      let x = are.each i b there in
      let l = placed_length ws ss old.entries.items in
      let r = in_range (placed_of ws ss old.entries.items) b.call x.call x.is_call in
      firsts.in_turn i j b c there f
      (sym (get_in_front old.entries.items more j (omega (arith, l, r, f))) ∙ ap (λ xs. slice_get xs j) (sym called) ∙ g);
}

-- nothing is brought yet
pub no_firsts : (ss : List Standing) (b : Brought) → b.bodies.items ≡ [] → b.firsts.entries ≡ [] → AreFirsts ss b
no_firsts ss b e f = record {
  first = λ spot. ap (lookup (same_key (key_of spot))) f ∙ ap (position (is_body_of ss spot)) (sym e);
  in_turn = λ i j x c g. absurd (none_some x (ap (λ xs. slice_get xs i) (sym e) ∙ g));
}
