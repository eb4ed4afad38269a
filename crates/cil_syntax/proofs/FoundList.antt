-- The list of a tree has what is found in it and nothing else, and rises by place.
use Rattle.std.proofs.Common.{◌≡◌, ℕ, zero, suc, ◌<◌, List, [], ◌∷◌, ◌++◌, length, refl, sym, subst, inl, inr, arith}
use Rattle.std.specs.Prelude.{Contains}
use Rattle.std.specs.declared.cmp.Ordering.{Ordering}
use Rattle.std.specs.declared.cmp.Ordering.TheVariants.{Less}
use Rattle.std.specs.Ordering.{nat_cmp, on}
use Rattle.std.specs.List.Sorted.{IsStrictlySortedBy}
use Rattle.std.proofs.lemmas.List.Elements.{Contains-append_cases}
use Rattle.cil_base.specs.Paths.{less_from}
use Rattle.cil_base.specs.Rising.{rising_join}
use Rattle.cil_base.specs.Lists.{contains_cases, contains_none}
use Rattle.cil_sexpr.specs.Text.{IsText}
use Rattle.cil_sexpr.specs.Tree.{Node, Word as TextWord, Quoted, Branch, Nodes, none, next, span_of, inner_of, IsBetween, AreInOrder}
use Rattle.cil_modset.specs.Modules.{module_of}
use Rattle.cil_syntax.specs.Table.{Body, plain, behind, branched, entry_of}
use Rattle.cil_syntax.specs.Standpoints.{Standpoint, Opening, closed, opened, forked, opening_by, opening_of, found_from, found_behind, found_inside}
use Rattle.cil_syntax.specs.Written.{Context, at_top, Verdict, Refused, Shaped, verdict_of, IsItem, first, later, skipped, beside, all_behind_first, within, inside_of, FoundIn, top, inside}
use Rattle.cil_syntax.proofs.PlacesApart.{start_of, apart_from, apart_behind, apart_inside, strictly, behind_verdict, skipped_zero}

abbrev pub place_order : Standpoint → Standpoint → Ordering
place_order = on start_of nat_cmp

rises_none : IsStrictlySortedBy place_order []
unfolding IsStrictlySortedBy
rises_none = tt

rises_one : (f : Standpoint) → IsStrictlySortedBy place_order (f ∷ [])
unfolding IsStrictlySortedBy
rises_one f = (tt, tt)

module _ (m : ℕ) where
  mutual
    unfolding found_from found_behind found_inside

    rises_from : (c : Context) (n : Node) (from to : ℕ) → IsBetween from to n → IsStrictlySortedBy place_order (found_from m c n)
    rises_from c (TextWord place bytes) from to b = rises_one (record { context = c; node = TextWord place bytes })
    rises_from c (Quoted place bytes) from to b = rises_one (record { context = c; node = Quoted place bytes })
    rises_from c (Branch place inner) from to b =
        let here : Standpoint = record { context = c; node = Branch place inner } in
        let o = opening_of c (verdict_of m c (Branch place inner)) in
        rising_join place_order (here ∷ []) (found_behind m o inner) (rises_one here) (rises_behind o inner place.start place.end b.3)
        (λ x y d e. elim (contains_cases x here [] d) [
          | inl s ↦ subst (λ z. place_order z y ≡ Less) s
              (less_from place.start (start_of y) (strictly m o inner place.start place.end b.3 (behind_verdict c (verdict_of m c (Branch place inner))) y e))
          | inr s ↦ absurd (contains_none x s)
        ])

    pub rises_behind : (o : Opening) (ns : Nodes) (from to : ℕ) → AreInOrder from to ns → IsStrictlySortedBy place_order (found_behind m o ns)
    rises_behind o none from to b = rises_none
    rises_behind closed (next n ns) from to b = rises_none
    rises_behind (opened c zero) (next n ns) from to b =
        rising_join place_order (found_from m c n) (found_behind m (opened c zero) ns) (rises_from c n from to b.0) (rises_behind (opened c zero) ns (span_of n).end to b.1)
        (λ x y d e. let p = (apart_from m c n from to b.0).0 x d in let q = (apart_behind m (opened c zero) ns (span_of n).end to b.1).0 y e in
        less_from (start_of x) (start_of y) (omega (arith, p.1, q.0)))
    rises_behind (opened c (suc k)) (next n ns) from to b = rises_behind (opened c k) ns (span_of n).end to b.1
    rises_behind (forked c zero) (next n ns) from to b =
        rising_join place_order (found_inside m c n) (found_behind m (forked c zero) ns) (rises_inside c n from to b.0) (rises_behind (forked c zero) ns (span_of n).end to b.1)
        (λ x y d e. let p = (apart_inside m c n from to b.0).0 x d in let q = (apart_behind m (forked c zero) ns (span_of n).end to b.1).0 y e in
        less_from (start_of x) (start_of y) (omega (arith, p.1, q.0)))
    rises_behind (forked c (suc k)) (next n ns) from to b = rises_behind (forked c k) ns (span_of n).end to b.1

    rises_inside : (c : Context) (n : Node) (from to : ℕ) → IsBetween from to n → IsStrictlySortedBy place_order (found_inside m c n)
    rises_inside c (TextWord place bytes) from to b = rises_none
    rises_inside c (Quoted place bytes) from to b = rises_none
    rises_inside c (Branch place inner) from to b = rises_behind (opened c (suc zero)) inner place.start place.end b.3

  -- ---- what the list has is found

  module _ (modules : List (List ℕ)) where
    abbrev AreFound : List Standpoint → Type 0
    AreFound fs = (f : Standpoint) → Contains fs f → FoundIn modules m f.context f.node

    found_join : (fs gs : List Standpoint) → AreFound fs → AreFound gs → AreFound (fs ++ gs)
    found_join fs gs a b f c = elim (Contains-append_cases fs gs f c) [ inl d ↦ a f d | inr d ↦ b f d ]

    found_one : (h : Standpoint) → FoundIn modules m h.context h.node → AreFound (h ∷ [])
    found_one h g f c = elim (contains_cases f h [] c) [ inl s ↦ subst (λ (x : Standpoint). FoundIn modules m x.context x.node) s g | inr d ↦ absurd (contains_none f d) ]

    -- what stands in an opening is found, where the items behind those that are skipped are
    abbrev IsOpen : Opening → Nodes → Type 0
    IsOpen closed ns = Unit {0}
    IsOpen (opened d k) ns = (q : Node) → IsItem q (skipped k ns) → FoundIn modules m d q
    IsOpen (forked d k) ns = (q : Node) → IsItem q (all_behind_first (skipped k ns)) → FoundIn modules m d q

    open_by : (c : Context) (n : Node) (v : Verdict) → verdict_of m c n ≡ v → FoundIn modules m c n → IsOpen (opening_of c v) (inner_of n)
    open_by c n (Refused i) e f = tt
    open_by c n (Shaped s faults) e f = open_body (entry_of s.keyword).body refl where
      open_body : (b : Body) → (entry_of s.keyword).body ≡ b → IsOpen (opening_by (inside_of c s) b) (inner_of n)
      open_body plain is = tt
      open_body (behind k place) is = λ q i. inside c n q s faults f e (subst (λ b. IsItem q (within b (inner_of n))) (sym is) i)
      open_body (branched k) is = λ q i. inside c n q s faults f e (subst (λ b. IsItem q (within b (inner_of n))) (sym is) i)

    in_first : (us vs : Nodes) (q : Node) → IsItem q us → IsItem q (beside us vs)
    unfolding beside
    in_first none vs q i = elim i [ ]
    in_first (next a us) vs q first = first
    in_first (next a us) vs q (later i) = later (in_first us vs q i)

    in_second : (us vs : Nodes) (q : Node) → IsItem q vs → IsItem q (beside us vs)
    unfolding beside
    in_second none vs q i = i
    in_second (next a us) vs q i = later (in_second us vs q i)

    mutual
      unfolding found_from found_behind found_inside skipped all_behind_first

      found_of : (c : Context) (n : Node) → FoundIn modules m c n → AreFound (found_from m c n)
      found_of c (TextWord place bytes) f = found_one (record { context = c; node = TextWord place bytes }) f
      found_of c (Quoted place bytes) f = found_one (record { context = c; node = Quoted place bytes }) f
      found_of c (Branch place inner) f =
          let here : Standpoint = record { context = c; node = Branch place inner } in
          found_join (here ∷ []) (found_behind m (opening_of c (verdict_of m c (Branch place inner))) inner) (found_one here f)
          (found_in (opening_of c (verdict_of m c (Branch place inner))) inner (open_by c (Branch place inner) (verdict_of m c (Branch place inner)) refl f))

      found_in : (o : Opening) (ns : Nodes) → IsOpen o ns → AreFound (found_behind m o ns)
      found_in o none h = λ f c. absurd (contains_none f c)
      found_in closed (next n ns) h = λ f c. absurd (contains_none f c)
      found_in (opened d zero) (next n ns) h =
          found_join (found_from m d n) (found_behind m (opened d zero) ns) (found_of d n (h n first)) (found_in (opened d zero) ns (λ q i. h q (later (unskipped ns q i))))
      found_in (opened d (suc k)) (next n ns) h = found_in (opened d k) ns h
      found_in (forked d zero) (next n ns) h =
          found_join (found_inside m d n) (found_behind m (forked d zero) ns)
          (found_within d n (λ q i. h q (in_first (skipped 1 (inner_of n)) (all_behind_first ns) q i)))
          (found_in (forked d zero) ns
          (λ q i. h q (in_second (skipped 1 (inner_of n)) (all_behind_first ns) q (subst (λ ks. IsItem q (all_behind_first ks)) (skipped_zero ns) i))))
      found_in (forked d (suc k)) (next n ns) h = found_in (forked d k) ns h

      found_within : (d : Context) (n : Node) → ((q : Node) → IsItem q (skipped 1 (inner_of n)) → FoundIn modules m d q) → AreFound (found_inside m d n)
      found_within d (TextWord place bytes) h = λ f c. absurd (contains_none f c)
      found_within d (Quoted place bytes) h = λ f c. absurd (contains_none f c)
      found_within d (Branch place inner) h = found_in (opened d (suc zero)) inner h

      unskipped : (ns : Nodes) (q : Node) → IsItem q (skipped zero ns) → IsItem q ns
      unskipped none q i = i
      unskipped (next n ns) q i = i

    pub points_are_found : (tree : Nodes) → m < length modules → IsText (module_of modules m) tree → AreFound (found_behind m (opened at_top zero) tree)
    points_are_found tree h t = found_in (opened at_top zero) tree (λ q i. top tree q h t (unskipped tree q i))
