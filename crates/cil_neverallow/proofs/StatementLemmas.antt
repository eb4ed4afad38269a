-- Statements with their rules: parts of one list, and which statements are there.
use Rattle.std.specs.Prelude.{Contains, get_or, slice_range}
use Rattle.std.proofs.Common.{◌≡◌, ◌⊎◌, ℕ, zero, suc, ◌+◌, ◌-◌, ◌<◌, ◌≤◌, List, [], ◌∷◌, ◌++◌, length, map, take, drop, refl, sym, ◌∙◌, ap, subst, inl, inr, arith}
use Rattle.std.proofs.Math.Seq.{drop-append_seam}
use Rattle.std.proofs.lemmas.List.{drop-append-le, get_or-map, length-append, length-drop, length-map, map-append, take-append-le, take_all}
use Rattle.std.proofs.lemmas.List.Elements.{Contains-append_cases, Contains-append_left, Contains-append_right}
use Rattle.cil_base.specs.Lists.{contains_cases, contains_here, contains_later, contains_none}
use Rattle.cil_base.specs.MadeLists.{from_map}
use Rattle.cil_base.specs.Records.{AreRecordsOf}
use Rattle.cil_macros.specs.Item.{Item}
use Rattle.cil_index.specs.rules.Behind.{AreBehind}
use Rattle.cil_index.specs.rules.Kept.{rule_named}
use Rattle.cil_index.specs.rules.Rule.{Rule}
use Rattle.cil_index.specs.rules.NamedRule.{NamedRule}
use Rattle.cil_neverallow.specs.declared.statements.Run.{Run}
use Rattle.cil_neverallow.specs.Permissions.{AreApart}
use Rattle.cil_neverallow.specs.Stated.{AreHereOr, AreKept, AreRunsIn, AreStatements, IsAdded, IsRunIn, Keeps, Stated, nothing_stated, stated_at, stated_in}

-- ---- parts of one list

pub no_items : {X : Type 0} (xs : List X) → length xs ≡ 0 → xs ≡ []
no_items [] e = refl
no_items (x ∷ xs) e = absurd (omega (arith, e))

module _ (rules : List NamedRule) where
  -- the statement of a run
  pub run_at : (runs : List Run) (k : ℕ) (run : Run) → k < length runs → run ≡ get_or runs k run → stated_in rules run ≡ stated_at (map (stated_in rules) runs) k
  run_at runs k run within is = ap (stated_in rules) is ∙ sym (get_or-map (stated_in rules) runs k run nothing_stated within)

  -- and the part that was cut out for it
  pub same_run : (all : List NamedRule) (run : Run) (part : List NamedRule) → all ≡ rules → part ≡ (stated_in all run).rules → record { place = run.place; rules = part } ≡ stated_in rules run
  same_run all run part same is = λ i. record { place = run.place; rules = (is ∙ ap (λ l. slice_range l run.from run.to) same) i }

  pub within_view : (runs : List Run) (k : ℕ) → k < length (map (stated_in rules) runs) → k < length runs
  within_view runs k h = let n = length-map runs (stated_in rules) in omega (arith, n, h)

  -- what is in a part is in the list
  in_part : (from to : ℕ) (r : NamedRule) → Contains (slice_range rules from to) r → Contains rules r
  in_part from to r c = in_drop from rules (in_take (to - from) (drop from rules) c)
    where
      in_take : (n : ℕ) (xs : List NamedRule) → Contains (take n xs) r → Contains xs r
      in_take zero xs d = absurd (contains_none r d)
      in_take (suc n) [] d = absurd (contains_none r d)
      in_take (suc n) (x ∷ xs) d = elim (contains_cases r x (take n xs) d) [
        | inl e ↦ subst (Contains (x ∷ xs)) e (contains_here x xs)
        | inr e ↦ contains_later r x xs (in_take n xs e)
      ]

      in_drop : (n : ℕ) (xs : List NamedRule) → Contains (drop n xs) r → Contains xs r
      in_drop zero xs d = d
      in_drop (suc n) [] d = d
      in_drop (suc n) (x ∷ xs) d = contains_later r x xs (in_drop n xs d)

  pub rule_in : (runs : List Run) (st : Stated) (r : NamedRule) → Contains (map (stated_in rules) runs) st → Contains st.rules r → Contains rules r
  rule_in runs st r c d =
      let (run, there, is) = from_map (stated_in rules) runs st c in
      in_part run.from run.to r (subst (λ (s : Stated). Contains s.rules r) (sym is) d)

  -- ---- one statement more

  module _ (more : List NamedRule) where
    part_stays : (run : Run) → IsRunIn rules run → stated_in (rules ++ more) run ≡ stated_in rules run
    part_stays run is =
        let f = is.forward in
        let w = is.within in
        let n = length-drop run.from rules in
        let part : slice_range (rules ++ more) run.from run.to ≡ slice_range rules run.from run.to =
        ap (take (run.to - run.from)) (drop-append-le run.from rules more (omega (arith, f, w)))
        ∙ take-append-le (run.to - run.from) (drop run.from rules) more (omega (arith, n, f, w)) in
        λ i. record { place = run.place; rules = part i }

    all_stay : (runs : List Run) → AreRunsIn rules runs → map (stated_in (rules ++ more)) runs ≡ map (stated_in rules) runs
    all_stay [] are = refl
    all_stay (run ∷ runs) are =
        let here = part_stays run (are run (contains_here run runs)) in
        let rest = all_stay runs (λ r c. are r (contains_later r run runs c)) in
        λ i. here i ∷ rest i

    pub still_in : (runs : List Run) → AreRunsIn rules runs → AreRunsIn (rules ++ more) runs
    still_in runs are run c =
        let is = are run c in
        let w = is.within in
        let n = length-append rules more in
        record { forward = is.forward; within = omega (arith, w, n) }

    last_part : (place : ℕ) → stated_in (rules ++ more) (record { place = place; from = length rules; to = length (rules ++ more) }) ≡ record { place = place; rules = more }
    last_part place =
        let part : slice_range (rules ++ more) (length rules) (length (rules ++ more)) ≡ more =
        ap (take (length (rules ++ more) - length rules)) (drop-append_seam rules more)
        ∙ take_all (length (rules ++ more) - length rules) more (let n = length-append rules more in omega (arith, n)) in
        λ i. record { place = place; rules = part i }

    pub one_more : (runs : List Run) (place : ℕ) → AreRunsIn rules runs
        → map (stated_in (rules ++ more)) (runs ++ record { place = place; from = length rules; to = length (rules ++ more) } ∷ []) ≡ map (stated_in rules) runs ++ record { place = place; rules = more } ∷ []
    one_more runs place are =
        map-append (stated_in (rules ++ more)) runs (record { place = place; from = length rules; to = length (rules ++ more) } ∷ [])
        ∙ (λ i. all_stay runs are i ++ last_part place i ∷ [])

    pub one_more_in : (runs : List Run) (place : ℕ) → AreRunsIn rules runs → AreRunsIn (rules ++ more) (runs ++ record { place = place; from = length rules; to = length (rules ++ more) } ∷ [])
    one_more_in runs place are run c =
        elim (Contains-append_cases runs (record { place = place; from = length rules; to = length (rules ++ more) } ∷ []) run c) [
          | inl d ↦ still_in runs are run d
          | inr d ↦ elim (contains_cases run (record { place = place; from = length rules; to = length (rules ++ more) }) [] d) [
            | inl e ↦ subst (IsRunIn (rules ++ more)) e (record { forward = let n = length-append rules more in omega (arith, n); within = omega arith })
            | inr n ↦ absurd (contains_none run n)
          ]
        ]

    -- the same, by what was pushed
    pub pushed_view : (all : List NamedRule) (runs new : List Run) (place from to : ℕ) → AreRunsIn rules runs → all ≡ rules ++ more → from ≡ length rules → to ≡ length all
        → new ≡ runs ++ record { place = place; from = from; to = to } ∷ [] → map (stated_in all) new ≡ map (stated_in rules) runs ++ record { place = place; rules = more } ∷ []
    pushed_view all runs new place from to are put begun ended pushed =
        (λ i. map (stated_in (put i)) (pushed i))
        ∙ (λ i. map (stated_in (rules ++ more)) (runs ++ record { place = place; from = begun i; to = (ended ∙ ap length put) i } ∷ []))
        ∙ one_more runs place are

    pub pushed_in : (all : List NamedRule) (runs new : List Run) (place from to : ℕ) → AreRunsIn rules runs → all ≡ rules ++ more → from ≡ length rules → to ≡ length all
        → new ≡ runs ++ record { place = place; from = from; to = to } ∷ [] → AreRunsIn all new
    pushed_in all runs new place from to are put begun ended pushed =
        let last : new ≡ runs ++ record { place = place; from = length rules; to = length (rules ++ more) } ∷ [] =
        pushed ∙ (λ i. runs ++ record { place = place; from = begun i; to = (ended ∙ ap length put) i } ∷ []) in
        subst (λ z. AreRunsIn z new) (sym put) (subst (AreRunsIn (rules ++ more)) (sym last) (one_more_in runs place are))

pub no_runs_in : (rules : List NamedRule) → AreRunsIn rules []
no_runs_in rules run c = absurd (contains_none run c)

-- ---- which statements are there

pub same_here : (sts : List Stated) (place : ℕ) → AreHereOr sts place sts
same_here sts place st c = inl c

pub one_here : (old new : List Stated) (st : Stated) → new ≡ old ++ st ∷ [] → AreHereOr old st.place new
one_here old new st push s c = elim (Contains-append_cases old (st ∷ []) s (subst (λ z. Contains z s) push c)) [
  | inl d ↦ inl d
  | inr d ↦ elim (contains_cases s st [] d) [ inl e ↦ inr (ap (λ (z : Stated). z.place) (sym e)) | inr n ↦ absurd (contains_none s n) ]
]

pub places_more : (old new : List Stated) (i n : ℕ) → i < n → ((st : Stated) → Contains old st → st.place < n) → AreHereOr old i new → (st : Stated) → Contains new st → st.place < n
places_more old new i n within below here st c = elim (here st c) [ inl d ↦ below st d | inr e ↦ (let h = e in omega (arith, h, within)) ]

-- those that are kept of one statement more
module _ {masks : List ℕ} (all old new : List Stated) (one : Stated) (keeps : Keeps masks all old) where
  with_one : new ≡ old ++ one ∷ [] → Keeps masks (all ++ one ∷ []) new
  with_one push = record {
    among = λ st c. elim (Contains-append_cases old (one ∷ []) st (subst (λ l. Contains l st) push c)) [
      | inl d ↦ Contains-append_left all (one ∷ []) st (keeps.among st d)
      | inr d ↦ Contains-append_right all (one ∷ []) st d
    ];
    rest = λ st c. elim (Contains-append_cases all (one ∷ []) st c) [
      | inl d ↦ elim (keeps.rest st d) [ inl e ↦ inl (subst (λ l. Contains l st) (sym push) (Contains-append_left old (one ∷ []) st e)) | inr e ↦ inr e ]
      | inr d ↦ inl (subst (λ l. Contains l st) (sym push) (Contains-append_right old (one ∷ []) st d))
    ];
  }

  without_one : new ≡ old → AreApart masks one.rules → Keeps masks (all ++ one ∷ []) new
  without_one same apart = record {
    among = λ st c. Contains-append_left all (one ∷ []) st (keeps.among st (subst (λ l. Contains l st) same c));
    rest = λ st c. elim (Contains-append_cases all (one ∷ []) st c) [
      | inl d ↦ elim (keeps.rest st d) [ inl e ↦ inl (subst (λ l. Contains l st) (sym same) e) | inr e ↦ inr e ]
      | inr d ↦ elim (contains_cases st one [] d) [ inl e ↦ inr (subst (λ (z : Stated). AreApart masks z.rules) e apart) | inr m ↦ absurd (contains_none st m) ]
    ];
  }

module _ {K : Type 0} (asked : Item → K → Type 0) (gives : K → Rule → Type 0) (sets : List (List ℕ)) where
  -- rules that were put into an empty room are those of the statement
  pub of_room : (x : Item) (place : ℕ) (old new : List NamedRule) → old ≡ [] → AreBehind asked gives (rule_named [] sets) x place old new → AreRecordsOf asked gives (x ∷ []) (map (rule_named [] sets) new)
  of_room x place old new empty behind =
      subst (λ l. AreRecordsOf asked gives (x ∷ []) (map (rule_named [] sets) l)) (sym (behind.behind ∙ ap (λ l. l ++ behind.rules) empty)) behind.are

  -- a statement that has a rule with one of the permissions is put behind those that are kept
  pub was_kept : (masks : List ℕ) (x : Item) (rules : List NamedRule) (old new : List Stated) (place : ℕ) → new ≡ old ++ record { place = place; rules = rules } ∷ []
      → AreRecordsOf asked gives (x ∷ []) (map (rule_named [] sets) rules) → IsAdded masks asked gives sets x place old new
  was_kept masks x rules old new place push are = record { statement = record { place = place; rules = rules }; stands = refl; rules = are; kept = inl push }

  -- or it has none
  pub was_left : (masks : List ℕ) (x : Item) (rules : List NamedRule) (old new : List Stated) (place : ℕ) → new ≡ old → AreApart masks rules
      → AreRecordsOf asked gives (x ∷ []) (map (rule_named [] sets) rules) → IsAdded masks asked gives sets x place old new
  was_left masks x rules old new place same apart are = record { statement = record { place = place; rules = rules }; stands = refl; rules = are; kept = inr (same, apart) }

  module _ (at : ℕ → Item) where
    no_statements : AreStatements asked gives sets at 0 []
    no_statements = record {
      each = λ st c. absurd (contains_none st c);
      all = λ place k below is. absurd (omega (arith, below));
    }

    -- one place more
    statements_more : (i : ℕ) (sts : List Stated) (one : Stated) → one.place ≡ i → AreRecordsOf asked gives (at i ∷ []) (map (rule_named [] sets) one.rules)
        → AreStatements asked gives sets at i sts → AreStatements asked gives sets at (i + 1) (sts ++ one ∷ [])
    statements_more i sts one stands rules so_far = record {
      each = λ st c. elim (Contains-append_cases sts (one ∷ []) st c) [
        | inl d ↦ so_far.each st d
        | inr d ↦ elim (contains_cases st one [] d) [
          | inl e ↦ subst (λ (z : Stated). AreRecordsOf asked gives (at z.place ∷ []) (map (rule_named [] sets) z.rules)) e
              (subst (λ p. AreRecordsOf asked gives (at p ∷ []) (map (rule_named [] sets) one.rules)) (sym stands) rules)
          | inr n ↦ absurd (contains_none st n)
        ]
      ];
      all = λ place k below is. elim (before_or place i below) [
        | inl less ↦ let s = so_far.all place k less is in (s.0, Contains-append_left sts (one ∷ []) s.0 s.1, s.2)
        | inr e ↦ (one, Contains-append_right sts (one ∷ []) one (contains_here one []), stands ∙ sym e)
      ];
    }
      where
        before_or : (p j : ℕ) → p < j + 1 → (p < j) ⊎ (p ≡ j)
        before_or p j h = grind arith

    module _ (masks : List ℕ) where
      pub none_kept : (kept : List Stated) → kept ≡ [] → AreKept masks asked gives sets at 0 kept
      none_kept kept none = record {
        all = [];
        within = λ st c. absurd (contains_none st c);
        are = no_statements;
        keeps = record { among = λ st c. absurd (contains_none st (subst (λ l. Contains l st) none c)); rest = λ st c. absurd (contains_none st c) };
      }

      -- one place more: its statement is kept or not
      pub kept_more : (i : ℕ) (old new : List Stated) → AreKept masks asked gives sets at i old → IsAdded masks asked gives sets (at i) i old new → AreKept masks asked gives sets at (i + 1) new
      kept_more i old new so_far added = record {
        all = so_far.all ++ one ∷ [];
        within = λ st c. elim (Contains-append_cases so_far.all (one ∷ []) st c) [
          | inl d ↦ let w = so_far.within st d in omega (arith, w)
          | inr d ↦ elim (contains_cases st one [] d) [
            | inl e ↦ let p = ap (λ (z : Stated). z.place) (sym e) ∙ added.stands in omega (arith, p)
            | inr n ↦ absurd (contains_none st n)
          ]
        ];
        are = statements_more i so_far.all one added.stands added.rules so_far.are;
        keeps = elim added.kept [ inl push ↦ with_one so_far.all old new one so_far.keeps push | inr left ↦ without_one so_far.all old new one so_far.keeps left.0 left.1 ];
      }
        where
          one : Stated
          one = added.statement

      pub all_kept : (i n : ℕ) (kept : List Stated) → n ≤ i → i ≤ n → AreKept masks asked gives sets at i kept → AreKept masks asked gives sets at n kept
      all_kept i n kept over up are = subst (λ k. AreKept masks asked gives sets at k kept) (omega (arith, over, up)) are

    -- without masks each statement that has a case is kept
    pub each_kept : (masks : List ℕ) (n : ℕ) (kept : List Stated) → masks ≡ [] → AreKept masks asked gives sets at n kept → AreStatements asked gives sets at n kept
    each_kept masks n kept none are = record {
      each = λ st c. are.are.each st (are.keeps.among st c);
      all = λ place k below is. let s = are.are.all place k below is in elim (are.keeps.rest s.0 s.1) [
        | inl c ↦ (s.0, c, s.2)
        | inr apart ↦ absurd (no_case s.0 k (are.are.each s.0 s.1) (subst (λ p. asked (at p) k) (sym s.2) is) (subst (λ l. AreApart l s.0.rules) none apart))
      ];
    }
      where
        no_case : (st : Stated) (k : K) → AreRecordsOf asked gives (at st.place ∷ []) (map (rule_named [] sets) st.rules) → asked (at st.place) k → AreApart [] st.rules → ⊥
        no_case st k of_it is apart =
            let r = of_it.each (at st.place) k (contains_here (at st.place) []) is in
            let (named, there, e) = from_map (rule_named [] sets) st.rules r.0 r.2 in
            let w = (apart named there).within in
            omega (arith, w)
