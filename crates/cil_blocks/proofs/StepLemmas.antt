-- Steps between numbers are those of the definition between statements.
use Rattle.std.proofs.Common.{◌≡◌, ◌⊎◌, ℕ, ◌+◌, ◌<◌, ◌≤◌, ◌==◌, Bool, true, false, List, [], ◌∷◌, ◌++◌, length, get_or, refl, sym, ◌∙◌, ap, subst, inl, inr, arith}
use Rattle.std.specs.Prelude.{◌↔◌, Contains, IsTrue}
use Rattle.std.proofs.lemmas.List.Elements.{Contains-append_left, Contains-append_right, Contains-append_cases}
use Rattle.cil_base.specs.Lists.{contains_cases, contains_here, contains_none}
use Rattle.cil_syntax.specs.declared.kind.Keyword.{Keyword}
use Rattle.cil_syntax.specs.declared.kind.Keyword.TheVariants as keywords
use Rattle.cil_syntax.specs.declared.program.Statement.{Statement}
use Rattle.cil_syntax.specs.Program.{IsNested, has_body, program_of}
use Rattle.cil_syntax.specs.Table.{entry_of}
use Rattle.cil_syntax.specs.Written.{Written, written_cmp, written_total}
use Rattle.cil_blocks.specs.declared.parts.Parts.{Parts}
use Rattle.cil_blocks.specs.declared.targets.Targets.{Targets}
use Rattle.cil_blocks.specs.Contents.{IsIn, Target, is_block, is_inheriting}
use Rattle.cil_blocks.specs.Entries.{AreParts, nothing, parts_at, statement_at}
use Rattle.cil_blocks.specs.Leads as leads
use Rattle.cil_blocks.specs.Leads.{IsOnCycle, Leads, here, nested}
use Rattle.cil_blocks.specs.Named.{AreAllTargets, targets_in}
use Rattle.cil_blocks.specs.Steps.{AreFlags, AreOnCycles, ComesBack, Fall, HasTarget, HasWayBack, HaveWayBack, IsStep, NoneComesBack, Reaches, StayBelow, itself, level_at, onward}
use Rattle.cil_base.specs.MadeLists.{contains_map, from_map}
use Rattle.cil_base.specs.Places.{get_contains, is_there}
use Rattle.cil_base.specs.Rising.{tied_places}
use Rattle.cil_blocks.specs.OneStanding.{first_of_three}
use Rattle.cil_blocks.proofs.FirstNamed.{nothing_there, some_there}
use Rattle.cil_blocks.proofs.ProgramLemmas.{in_number, kept_at, tied}
use Rattle.cil_blocks.proofs.StandingWalk.{in_parts, parts_of}

pub or_last : (i n : ℕ) → i < n + 1 → (i < n) ⊎ (i ≡ n)
or_last i n h = grind arith

-- ---- levels

module _ (ps : Parts) (ts : Targets) (n : ℕ) where
  pub reach_below : (a k : ℕ) → StayBelow ps ts n → a < n → Reaches ps ts a k → k < n
  reach_below a k stay h itself = h
  reach_below a k stay h (onward q k' r s) = stay q k s

  -- the level does not rise along any number of steps
  never_rises : (levels : List ℕ) (a k : ℕ) → StayBelow ps ts n → Fall ps ts n levels → a < n → Reaches ps ts a k → level_at levels k ≤ level_at levels a
  never_rises levels a k stay fall h itself = omega arith
  never_rises levels a k stay fall h (onward q k' r s) =
      let one = fall q k (reach_below a q stay h r) s in
      let rest = never_rises levels a q stay fall h r in
      omega (arith, one, rest)

  pub none_back : (levels : List ℕ) → StayBelow ps ts n → Fall ps ts n levels → NoneComesBack ps ts n
  none_back levels stay fall i h c =
      let one = fall i c.next h c.is_step in
      let rest = never_rises levels c.next i stay fall (stay i c.next c.is_step) c.further in
      omega (arith, one, rest)

  -- one more statement, with its level, the statements in it and its targets
  pub still_falls : (levels inside named : List ℕ) (level : ℕ) → level ≡ level_at levels n → inside ≡ parts_at ps n → named ≡ targets_in ts n
      → ((k : ℕ) → Contains inside k → level_at levels k < level) → ((k : ℕ) → Contains named k → level_at levels k < level) → Fall ps ts n levels
      → Fall ps ts (n + 1) levels
  still_falls levels inside named level l p t f g fall q k h s =
      elim (or_last q n h) [
        | inl below ↦ fall q k below s
        | inr same ↦ let last : level_at levels k < level_at levels n = of_last k (subst (λ x. IsStep ps ts x k) same s) in
            subst (λ x. level_at levels k < level_at levels x) (sym same) last
      ] where
        of_last : (k : ℕ) → IsStep ps ts n k → level_at levels k < level_at levels n
        of_last k (inl c) = let h = f k (subst (λ xs. Contains xs k) (sym p) c) in omega (arith, h, l)
        of_last k (inr c) = let h = g k (subst (λ xs. Contains xs k) (sym t) c) in omega (arith, h, l)

-- ---- the statements that come back

one_of : (xs : List ℕ) → (xs ≡ [] → ⊥) → (k : ℕ) × Contains xs k
one_of [] none = absurd (none refl)
one_of (x ∷ xs) none = (x, contains_here x xs)

only_one : (x k : ℕ) → Contains (x ∷ []) k → x ≡ k
only_one x k c = elim (contains_cases k x [] c) [ inl e ↦ e | inr d ↦ absurd (contains_none k d) ]

module _ (ps : Parts) (ts : Targets) where
  pub none_found : (found : List ℕ) → found ≡ [] → HaveWayBack ps ts 0 found
  none_found found e i = ((λ c. absurd (contains_none i (subst (λ xs. Contains xs i) e c))), (λ h. let below = h.0 in absurd (omega (arith, below))))

  pub one_found : (n : ℕ) (old new : List ℕ) → HasWayBack ps ts n → new ≡ old ++ n ∷ [] → HaveWayBack ps ts n old → HaveWayBack ps ts (n + 1) new
  one_found n old new back e so i = (
    (λ c. elim (Contains-append_cases old (n ∷ []) i (subst (λ xs. Contains xs i) e c)) [
      | inl d ↦ let h = (so i).0 d in let below = h.0 in (omega (arith, below), h.1)
      | inr d ↦ let same = only_one n i d in (omega (arith, same), subst (HasWayBack ps ts) same back)
    ]),
    (λ h. subst (λ xs. Contains xs i) (sym e) (elim (or_last i n h.0) [
      | inl below ↦ Contains-append_left old (n ∷ []) i ((so i).1 (below, h.1))
      | inr same ↦ Contains-append_right old (n ∷ []) i (subst (Contains (n ∷ [])) (sym same) (contains_here n []))
    ])),
  )

  pub none_more : (n : ℕ) (found : List ℕ) → (HasWayBack ps ts n → ⊥) → HaveWayBack ps ts n found → HaveWayBack ps ts (n + 1) found
  none_more n found not so i = (
    (λ c. let h = (so i).0 c in let below = h.0 in (omega (arith, below), h.1)),
    (λ h. elim (or_last i n h.0) [
      | inl below ↦ (so i).1 (below, h.1)
      | inr same ↦ absurd (not (subst (HasWayBack ps ts) same h.1))
    ]),
  )

  -- the flag of a statement that has a target tells whether it comes back
  pub flagged_back : (n i : ℕ) (flags : List Bool) (b : Bool) → i < n → AreFlags ps ts n flags → b ≡ true
      → IsTrue b ↔ (HasTarget ts i × (get_or flags i false ≡ true)) → HasWayBack ps ts i
  flagged_back n i flags b h are t so = let is = so.0 t in (is.0, (are i h).0 is.1)

  pub not_back : (n i : ℕ) (flags : List Bool) (b : Bool) → i < n → AreFlags ps ts n flags → b ≡ false
      → IsTrue b ↔ (HasTarget ts i × (get_or flags i false ≡ true)) → HasWayBack ps ts i → ⊥
  not_back n i flags b h are f so back = let t : false ≡ true = sym f ∙ so.1 (back.0, (are i h).1 back.1) in absurd (cc)

pub no_target : (ts : Targets) (i : ℕ) (flags : List Bool) (ks : List ℕ) → ks ≡ targets_in ts i → true ≡ (length ks == 0)
    → IsTrue false ↔ (HasTarget ts i × (get_or flags i false ≡ true))
no_target ts i flags ks e t = ((λ x. absurd (let f : false ≡ true = x in cc)), (λ h. absurd (h.0 (sym e ∙ nothing_there ks t))))

pub has_flag : (ts : Targets) (i : ℕ) (flags : List Bool) (ks : List ℕ) (b : Bool) → ks ≡ targets_in ts i → false ≡ (length ks == 0) → b ≡ get_or flags i false
    → IsTrue b ↔ (HasTarget ts i × (get_or flags i false ≡ true))
has_flag ts i flags ks b e f is = ((λ t. ((λ none. some_there ks f (e ∙ none)), sym is ∙ t)), (λ h. is ∙ h.1))

block_inherits_not : (k : Keyword) → is_block k ≡ true → is_inheriting k ≡ false
block_inherits_not keywords.Block e = refl
block_inherits_not k e = absurd (let f : false ≡ true = e in cc)

-- what is inherited has no body
inherits_has_none : (k : Keyword) → is_inheriting k ≡ true → has_body (entry_of k).body ≡ true → ⊥
unfolding entry_of
inherits_has_none keywords.BlockInherit e t = let f : false ≡ true = t in cc
inherits_has_none k e t = let f : false ≡ true = e in cc

abbrev LiesOnCycle : List Written → ℕ → Type 0
LiesOnCycle ws i = (is_inheriting (statement_at ws i).statement.keyword ≡ true) × IsOnCycle ws (statement_at ws i)

-- ---- steps between statements

module _ (ss : List Statement) (ordered : IsNested ss) (ps : Parts) (ts : Targets) (are_parts : AreParts (program_of ss) ps) (are_targets : AreAllTargets (program_of ss) ts) where
  abbrev ws : List Written
  ws = program_of ss

  pub steps_stay : StayBelow ps ts (length ws)
  steps_stay q k (inl c) = are_parts.are_numbers q k c
  steps_stay q k (inr c) = (are_targets.named q k c).0

  there : (k : ℕ) → k < length ws → Contains ws (statement_at ws k)
  there k h = get_contains ws k (statement_at ws k) (is_there ws k nothing h)

  part_written : (q k : ℕ) → q < length ws → Contains (parts_at ps q) k → Contains ws (statement_at ws k) × IsIn (statement_at ws k) (statement_at ws q)
  part_written q k h c =
      parts_of ws (statement_at ws q) (statement_at ws k)
      (subst (λ xs. Contains xs (statement_at ws k)) (are_parts.inside q h) (contains_map (statement_at ws) (parts_at ps q) k c))

  part_number : (q : ℕ) (w : Written) → q < length ws → Contains ws w → IsIn w (statement_at ws q) → (k : ℕ) × Contains (parts_at ps q) k × (statement_at ws k ≡ w)
  part_number q w h c i =
      from_map (statement_at ws) (parts_at ps q) w (subst (λ xs. Contains xs w) (sym (are_parts.inside q h)) (in_parts ws (statement_at ws q) w c i))

  target_is_block : (q k : ℕ) → Contains (targets_in ts q) k → is_inheriting (statement_at ws k).statement.keyword ≡ false
  target_is_block q k c = block_inherits_not (statement_at ws k).statement.keyword (first_of_three _ _ _ (are_targets.named q k c).1.named)

  -- a statement to which another leads; a blockinherit among these stands in one of these
  record IsLedTo (a k : ℕ) : Type 0 where
    pub below : k < length ws
    pub leads : Leads ws (statement_at ws a) (statement_at ws k)
    pub round : is_inheriting (statement_at ws k).statement.keyword ≡ true → (q : Written) × Leads ws (statement_at ws a) q × IsIn (statement_at ws k) q

  led : (a k : ℕ) → a < length ws → is_inheriting (statement_at ws a).statement.keyword ≡ false → Reaches ps ts a k → IsLedTo a k
  led a k h block itself = record { below = h; leads = here; round = λ e. absurd (let f : false ≡ true = sym block ∙ e in cc) }
  led a k h block (onward q k' r (inl c)) =
      let before = led a q h block r in
      let p = part_written q k before.below c in
      record {
        below = are_parts.are_numbers q k c;
        leads = nested (statement_at ws q) (statement_at ws k) before.leads p.0 p.1;
        round = λ e. (statement_at ws q, before.leads, p.1);
      }
  led a k h block (onward q k' r (inr c)) =
      let before = led a q h block r in
      let inherits = (are_targets.inheriting q k c).1 in
      let body = before.round inherits in
      record {
        below = (are_targets.named q k c).0;
        leads = leads.handed body.0 (statement_at ws q) (statement_at ws k) body.1 (there q before.below) body.2 inherits (are_targets.named q k c).1;
        round = λ e. absurd (let f : false ≡ true = sym (target_is_block q k c) ∙ e in cc);
      }

  record IsNumbered (a : ℕ) (w : Written) : Type 0 where
    pub number : ℕ
    pub below : number < length ws
    pub same : statement_at ws number ≡ w
    pub reached : Reaches ps ts a number

  numbered : (a : ℕ) (w : Written) → a < length ws → Leads ws (statement_at ws a) w → IsNumbered a w
  numbered a w h here = record { number = a; below = h; same = refl; reached = itself }
  numbered a w h (nested q p l c i) =
      let before = numbered a q h l in
      let k = part_number before.number w before.below c (subst (IsIn w) (sym before.same) i) in
      record { number = k.0; below = are_parts.are_numbers before.number k.0 k.1; same = k.2; reached = onward before.number k.0 before.reached (inl k.1) }
  numbered a w h (leads.handed q v p l c i e t) =
      let before = numbered a q h l in
      let m = part_number before.number v before.below c (subst (IsIn v) (sym before.same) i) in
      let inherits : is_inheriting (statement_at ws m.0).statement.keyword ≡ true = subst (λ (x : Written). is_inheriting x.statement.keyword ≡ true) (sym m.2) e in
      let k = are_targets.all m.0 w (are_parts.are_numbers before.number m.0 m.1) inherits (subst (λ (x : Written). Target ws x w) (sym m.2) t) in
      record {
        number = k.0;
        below = (are_targets.named m.0 k.0 k.1).0;
        same = k.2;
        reached = onward m.0 k.0 (onward before.number m.0 before.reached (inl m.1)) (inr k.1);
      }

  one_number : (i j : ℕ) → i < length ws → j < length ws → statement_at ws i ≡ statement_at ws j → i ≡ j
  one_number i j h l e =
      tied_places written_cmp written_total ws i j (statement_at ws i) (statement_at ws j) ordered.rising (is_there ws i nothing h) (is_there ws j nothing l)
      (tied (statement_at ws i) (statement_at ws j) (ap (λ (w : Written). w.statement.at) e))

  -- ---- cycles

  -- nothing is in a blockinherit
  no_parts : (q k : ℕ) → q < length ws → is_inheriting (statement_at ws q).statement.keyword ≡ true → Contains (parts_at ps q) k → ⊥
  no_parts q k h e c =
      let p = part_written q k h c in
      let below = are_parts.are_numbers q k c in
      let s = kept_at ss ordered k (statement_at ws k) (is_there ws k nothing below) in
      let m = in_number ss ordered k s.0 (statement_at ws k) (statement_at ws q) s.1 (is_there ws k nothing below) (there q h) p.1 in
      let r = kept_at ss ordered m.0 (statement_at ws q) m.3 in
      let body = ordered.opened s.0 r.0 m.0 (get_contains ss k s.0 s.1) m.1 r.1 in
      inherits_has_none r.0.keyword (subst (λ (w : Written). is_inheriting w.statement.keyword ≡ true) r.2 e) body

  on_cycle_by : (i b : ℕ) → is_inheriting (statement_at ws i).statement.keyword ≡ true → Contains (targets_in ts i) b → Reaches ps ts b i → IsOnCycle ws (statement_at ws i)
  on_cycle_by i b e c r =
      let is = are_targets.named i b c in
      let round = (led b i is.0 (target_is_block i b c) r).round e in
      record { target = statement_at ws b; is_target = is.1; round = round.0; is_round = round.2; leads = round.1 }

  lies : (i : ℕ) → i < length ws → HasTarget ts i → ComesBack ps ts i → LiesOnCycle ws i
  lies i h some c =
      let t = one_of (targets_in ts i) some in
      let e = (are_targets.inheriting i t.0 t.1).1 in (
        e,
        elim c.is_step [
          | inl part ↦ absurd (no_parts i c.next h e part)
          | inr target ↦ on_cycle_by i c.next e target c.further
        ],
      )

  comes_back : (i : ℕ) → i < length ws → LiesOnCycle ws i → HasWayBack ps ts i
  comes_back i h (e, cycle) =
      let b = are_targets.all i cycle.target h e cycle.is_target in
      let below = (are_targets.named i b.0 b.1).0 in
      let n = numbered b.0 cycle.round below (subst (λ (x : Written). Leads ws x cycle.round) (sym b.2) cycle.leads) in
      let k = part_number n.number (statement_at ws i) n.below (there i h) (subst (IsIn (statement_at ws i)) (sym n.same) cycle.is_round) in
      let same : k.0 ≡ i = one_number k.0 i (are_parts.are_numbers n.number k.0 k.1) h k.2 in (
        (λ none. contains_none b.0 (subst (λ xs. Contains xs b.0) none b.1)),
        record { next = b.0; is_step = inr b.1; further = subst (Reaches ps ts b.0) same (onward n.number k.0 n.reached (inl k.1)) },
      )

  -- what is found among so many statements is right
  pub cycles_are : (n : ℕ) (found : List ℕ) → n ≡ length ws → HaveWayBack ps ts n found → AreOnCycles ws found
  cycles_are n found l so i = (
    (λ c. let h = (so i).0 c in let below = h.0 in let within : i < length ws = omega (arith, below, l) in let it = lies i within h.1.0 h.1.1 in (within, it.0, it.1)),
    (λ h. let below = h.0 in (so i).1 (omega (arith, below, l), comes_back i h.0 (h.1, h.2))),
  )

  pub no_cycles : (n : ℕ) (found : List ℕ) → n ≡ length ws → found ≡ [] → NoneComesBack ps ts n → AreOnCycles ws found
  no_cycles n found l e none i = (
    (λ c. absurd (contains_none i (subst (λ xs. Contains xs i) e c))),
    (λ h. let below = h.0 in absurd (none i (omega (arith, below, l)) (comes_back i h.0 (h.1, h.2)).1)),
  )
