-- Cycles: a blockinherit lies on one exactly where its target, or a block that this needs, encloses it.
use Rattle.std.proofs.Common.{◌≡◌, ℕ, ◌⊎◌, Bool, true, false, List, [], ◌∷◌, refl, sym, ap, subst, inl, inr}
use Rattle.std.specs.Prelude.{Contains, Option, Some, None}
use Rattle.cil_blocks.specs.Contents.{is_inheriting, IsIn, Target, name_of}
use Rattle.cil_blocks.specs.InheritFaults.{Within, directly, further, Needs, one, more, Gives, texts, own, handed}
use Rattle.cil_blocks.specs.Leads as leads
use Rattle.cil_blocks.specs.Leads.{Leads, here, nested, IsOnCycle, IsEnclosed, IsCycle, Shares, first, second, GiveTogether, IsShared}
use Rattle.cil_faults.specs.Namespaces.{Namespace}
use Rattle.cil_syntax.specs.Written.{Written}

module _ (ws : List Written) where
  -- a block needs what those that it needs need
  needs_more : (b c d : Written) → Needs ws b c → Needs ws c d → Needs ws b d
  needs_more b c d (one b' w c' i k t) n = more b w c d i k t n
  needs_more b c d (more b' w e c' i k t m) n = more b w e d i k t (needs_more e c d m n)

  joined : (a b c : Written) → Leads ws a b → Leads ws b c → Leads ws a c
  joined a b c l here = l
  joined a b c l (nested q p m k i) = nested q p (joined a b q l m) k i
  joined a b c l (leads.handed q v p m k i h t) = leads.handed q v p (joined a b q l m) k i h t

  within_leads : (b w : Written) → Within ws b w → Leads ws b w
  within_leads b w (directly x k i) = nested b w here k i
  within_leads b w (further v x i k j) = nested v w (within_leads b v i) k j

  -- what is written in a block is directly in something that the block leads to
  round_of : (b w : Written) → Within ws b w → (p : Written) × IsIn w p × Leads ws b p
  round_of b w (directly x k i) = (b, i, here)
  round_of b w (further v x i k j) = (v, j, within_leads b v i)

  one_leads : (b w c : Written) → Within ws b w → Contains ws w → is_inheriting w.statement.keyword ≡ true → Target ws w c → Leads ws b c
  one_leads b w c i k h t = let r = round_of b w i in leads.handed r.0 w c r.2 k r.1 h t

  is_written : (b w : Written) → Within ws b w → Contains ws w
  is_written b w (directly x k i) = k
  is_written b w (further v x i k j) = k

  needs_leads : (b c : Written) → Needs ws b c → Leads ws b c
  needs_leads b c (one b' w c' i k t) = one_leads b w c i (is_written b w i) k t
  needs_leads b c (more b' w e c' i k t n) = joined b e c (one_leads b w e i (is_written b w i) k t) (needs_leads e c n)

  target_leads : (b c : Written) → (b ≡ c) ⊎ Needs ws b c → Leads ws b c
  target_leads b c (inl e) = subst (Leads ws b) e here
  target_leads b c (inr n) = needs_leads b c n

  -- ---- and back

  record IsBack (b p : Written) : Type 0 where
    pub block : Written
    pub needed : (b ≡ block) ⊎ Needs ws b block
    pub round : (block ≡ p) ⊎ Within ws block p

  deeper : (block q p : Written) → (block ≡ q) ⊎ Within ws block q → Contains ws p → IsIn p q → Within ws block p
  deeper block q p (inl e) k i = directly p k (subst (IsIn p) (sym e) i)
  deeper block q p (inr w) k i = further q p w k i

  needs_next : (b c p : Written) (v : Written) → (b ≡ c) ⊎ Needs ws b c → Within ws c v → is_inheriting v.statement.keyword ≡ true → Target ws v p → Needs ws b p
  needs_next b c p v (inl e) i h t = subst (λ x. Needs ws x p) (sym e) (one c v p i h t)
  needs_next b c p v (inr n) i h t = needs_more b c p n (one c v p i h t)

  back : (b p : Written) → Leads ws b p → IsBack b p
  back b p here = record { block = b; needed = inl refl; round = inl refl }
  back b p (nested q x l k i) = let r = back b q l in record { block = r.block; needed = r.needed; round = inr (deeper r.block q p r.round k i) }
  back b p (leads.handed q v x l k i h t) =
      let r = back b q l in
      record { block = p; needed = inr (needs_next b r.block p v r.needed (deeper r.block q v r.round k i) h t); round = inl refl }

  pub is_cycle : IsCycle ws
  is_cycle w k = (
    (λ c. let r = back c.target c.round c.leads in
        record { target = c.target; is_target = c.is_target; block = r.block; needed = r.needed; encloses = deeper r.block c.round w r.round k c.is_round }),
    (λ e. let r = round_of e.block w e.encloses in
        record { target = e.target; is_target = e.is_target; round = r.0; is_round = r.1; leads = joined e.target e.block r.0 (target_leads e.target e.block e.needed) r.2 }),
  )

  -- ---- common namespaces

  given : (a b : Option Written) → Shares ws a b → GiveTogether ws a b
  given a b leads.texts = ([], texts, texts)
  given a b (leads.own c d v w s kv bv iv av kw bw iw aw e) =
      let g = given c d s in
      (name_of v ∷ g.0, own g.0 c v g.1 kv bv iv av, subst (λ x. Gives ws (x ∷ g.0) (Some w)) (sym e) (own g.0 d w g.2 kw bw iw aw))
  given a b (first c d v t s k h i g) = let r = given c b s in (r.0, handed r.0 c v t r.1 k h i g, r.2)
  given a b (second c d w t s k h i g) = let r = given a d s in (r.0, r.1, handed r.0 d w t r.2 k h i g)

  abbrev innermost : Namespace → List ℕ
  innermost [] = []
  innermost (x ∷ n) = x

  abbrev outer : Namespace → Namespace
  outer [] = []
  outer (x ∷ n) = n

  abbrev is_some_space : Namespace → Bool
  is_some_space [] = false
  is_some_space (x ∷ n) = true

  shared : (n m : Namespace) (a b : Option Written) → Gives ws n a → Gives ws m b → n ≡ m → Shares ws a b
  shared n m a b texts texts e = leads.texts
  shared n m a b texts (own k c w g x y i z) e = absurd (let f : false ≡ true = ap is_some_space e in cc)
  shared n m a b (own k c w g x y i z) texts e = absurd (let f : true ≡ false = ap is_some_space e in cc)
  shared n m a b (own k c v g kv bv iv av) (own l d w h kw bw iw aw) e =
      leads.own c d v w (shared k l c d g h (ap outer e)) kv bv iv av kw bw iw aw (ap innermost e)
  shared n m a b (handed k c v t g x y i z) h e = first c b v t (shared k m c b g h e) x y i z
  shared n m a b texts (handed l d w t h x y i z) e = second None d w t (shared [] l None d texts h e) x y i z
  shared n m a b (own k c v g kv bv iv av) (handed l d w t h x y i z) e =
      second (Some v) d w t (shared (name_of v ∷ k) l (Some v) d (own k c v g kv bv iv av) h e) x y i z

  pub is_shared : IsShared ws
  is_shared a b = ((λ s. given a b s), (λ g. shared g.0 g.0 a b g.1 g.2 refl))
