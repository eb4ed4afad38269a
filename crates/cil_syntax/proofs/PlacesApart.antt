-- Places are apart: a place of a module is that of one node at most that stands where a statement must.
use Rattle.std.proofs.Common.{◌≡◌, ℕ, zero, suc, ◌+◌, ◌<◌, ◌≤◌, List, [], ◌∷◌, ◌++◌, refl, sym, ◌∙◌, ap, subst, inl, inr, arith}
use Rattle.std.specs.Prelude.{◌⊎◌, Contains}
use Rattle.std.proofs.lemmas.List.Elements.{Contains-append_left, Contains-append_right, Contains-append_cases}
use Rattle.cil_base.specs.Lists.{contains_here, contains_later, contains_cases, contains_none}
use Rattle.cil_sexpr.specs.Laws.{HasOneTree}
use Rattle.cil_sexpr.specs.Text.{IsText}
use Rattle.cil_sexpr.specs.Tree.{Node, Word as TextWord, Quoted, Branch, Nodes, none, next, span_of, inner_of, IsBetween, AreInOrder}
use Rattle.cil_modset.specs.Modules.{module_of}
use Rattle.cil_syntax.specs.declared.kind.Keyword.{Keyword}
use Rattle.cil_syntax.specs.declared.kind.Keyword.TheVariants as keywords
use Rattle.cil_syntax.specs.Shapes.{Inner}
use Rattle.cil_syntax.specs.Table.{Body, plain, behind, branched, entry_of}
use Rattle.cil_syntax.specs.Standpoints.{Standpoint, Opening, closed, opened, forked, opening_by, opening_of, found_from, found_behind, found_inside}
use Rattle.cil_syntax.specs.Written.{Statement, Context, at_top, Verdict, Refused, Shaped, verdict_of, IsItem, first, later, skipped, beside, all_behind_first, within, inside_of, body_of, FoundIn, top, inside}

abbrev pub start_of : Standpoint → ℕ
start_of f = (span_of f.node).start

-- all stand from one place on, before another
abbrev pub AllFrom : ℕ → ℕ → List Standpoint → Type 0
AllFrom from to fs = (f : Standpoint) → Contains fs f → (from ≤ start_of f) × (start_of f < to)

-- no two stand at one place
abbrev pub AreApart : List Standpoint → Type 0
AreApart fs = (f g : Standpoint) → Contains fs f → Contains fs g → start_of f ≡ start_of g → f ≡ g

-- ---- lists of such nodes

no_points : (from to : ℕ) → AllFrom from to [] × AreApart []
no_points from to = ((λ f c. absurd (contains_none f c)), (λ f g c d e. absurd (contains_none f c)))

one_point : (f : Standpoint) (from to : ℕ) → from ≤ start_of f → start_of f < to → AllFrom from to (f ∷ []) × AreApart (f ∷ [])
one_point f from to low high = (
  (λ g c. elim (contains_cases g f [] c) [
    | inl e ↦ subst (λ h. (from ≤ start_of h) × (start_of h < to)) e (low, high)
    | inr d ↦ absurd (contains_none g d)
  ]),
  (λ g h c d e. elim (contains_cases g f [] c) [
    | inl p ↦ elim (contains_cases h f [] d) [ inl q ↦ sym p ∙ q | inr q ↦ absurd (contains_none h q) ]
    | inr p ↦ absurd (contains_none g p)
  ]),
)

widened : (from to low high : ℕ) (fs : List Standpoint) → low ≤ from → to ≤ high → AllFrom from to fs × AreApart fs → AllFrom low high fs × AreApart fs
widened from to low high fs a b h = ((λ f c. let x = h.0 f c in (omega (arith, x.0, a), omega (arith, x.1, b))), h.1)

joined_points : (from mid to : ℕ) (fs gs : List Standpoint) → from ≤ mid → mid ≤ to → AllFrom from mid fs × AreApart fs → AllFrom mid to gs × AreApart gs
    → AllFrom from to (fs ++ gs) × AreApart (fs ++ gs)
joined_points from mid to fs gs a b h k = (
  (λ f c. elim (Contains-append_cases fs gs f c) [
    | inl d ↦ let x = h.0 f d in (x.0, omega (arith, x.1, b))
    | inr d ↦ let x = k.0 f d in (omega (arith, x.0, a), x.1)
  ]),
  (λ f g c d e. elim (Contains-append_cases fs gs f c) [
    | inl p ↦ elim (Contains-append_cases fs gs g d) [
      | inl q ↦ h.1 f g p q e
      | inr q ↦ absurd (let x = h.0 f p in let y = k.0 g q in omega (arith, x.1, y.0, e))
    ]
    | inr p ↦ elim (Contains-append_cases fs gs g d) [
      | inl q ↦ absurd (let x = h.0 g q in let y = k.0 f p in omega (arith, x.1, y.0, e))
      | inr q ↦ k.1 f g p q e
    ]
  ]),
)

-- ---- bodies

-- a body stands behind the first word of its statement
abbrev pub IsBehind : Opening → Type 0
IsBehind closed = Unit {0}
IsBehind (opened c k) = 0 < k
IsBehind (forked c k) = 0 < k

behind_word : (c : Context) (k : Keyword) → IsBehind (opening_by c (entry_of k).body)
unfolding entry_of
behind_word c keywords.Block = omega arith
behind_word c keywords.Macro = omega arith
behind_word c keywords.Optional = omega arith
behind_word c keywords.BooleanIf = omega arith
behind_word c k = tt

pub skipped_zero : (ns : Nodes) → skipped zero ns ≡ ns
unfolding skipped
skipped_zero none = refl
skipped_zero (next n ns) = refl

pub skipped_none : (k : ℕ) → skipped k none ≡ none
unfolding skipped
skipped_none k = refl

pub no_item : (n : Node) (ns : Nodes) → ns ≡ none → IsItem n ns → ⊥
no_item n none e i = elim i [ ]
no_item n (next q ns) e i = let f : next q ns ≡ none = e in cc

pub behind_verdict : (c : Context) (v : Verdict) → IsBehind (opening_of c v)
behind_verdict c (Refused i) = tt
behind_verdict c (Shaped s faults) = behind_word (inside_of c s) s.keyword

-- where a node lies, and where it is strictly inside
pub placed : (from to : ℕ) (n : Node) → IsBetween from to n → (from ≤ (span_of n).start) × ((span_of n).start < (span_of n).end) × ((span_of n).end ≤ to)
placed from to (TextWord place bytes) b = b
placed from to (Quoted place bytes) b = b
placed from to (Branch place inner) b = (b.0, b.1, b.2)

pub not_empty : (from to : ℕ) (ns : Nodes) → AreInOrder from to ns → from ≤ to
not_empty from to none o = o
not_empty from to (next n ns) o = let p = placed from to n o.0 in let q = not_empty (span_of n).end to ns o.1 in omega (arith, p.0, p.1, q)

module _ (m : ℕ) where
  mutual
    unfolding found_from found_behind found_inside

    pub apart_from : (c : Context) (n : Node) (from to : ℕ) → IsBetween from to n → AllFrom (span_of n).start (span_of n).end (found_from m c n) × AreApart (found_from m c n)
    apart_from c (TextWord place bytes) from to b = one_point (record { context = c; node = TextWord place bytes }) place.start place.end (omega arith) b.1
    apart_from c (Quoted place bytes) from to b = one_point (record { context = c; node = Quoted place bytes }) place.start place.end (omega arith) b.1
    apart_from c (Branch place inner) from to b =
        let here : Standpoint = record { context = c; node = Branch place inner } in
        let rest = apart_behind (opening_of c (verdict_of m c (Branch place inner))) inner place.start place.end b.3 in
        let deep = strictly (opening_of c (verdict_of m c (Branch place inner))) inner place.start place.end b.3 (behind_verdict c (verdict_of m c (Branch place inner))) in
        joined_points place.start (place.start + 1) place.end (here ∷ []) (found_behind m (opening_of c (verdict_of m c (Branch place inner))) inner)
        (omega arith) (omega (arith, b.1)) (one_point here place.start (place.start + 1) (omega arith) (omega arith))
        ((λ f d. let x = rest.0 f d in let y = deep f d in (omega (arith, y), x.1)), rest.1)

    pub apart_behind : (o : Opening) (ns : Nodes) (from to : ℕ) → AreInOrder from to ns → AllFrom from to (found_behind m o ns) × AreApart (found_behind m o ns)
    apart_behind o none from to b = no_points from to
    apart_behind closed (next n ns) from to b = no_points from to
    apart_behind (opened c zero) (next n ns) from to b =
        let p = placed from to n b.0 in
        let q = not_empty (span_of n).end to ns b.1 in
        joined_points from (span_of n).end to (found_from m c n) (found_behind m (opened c zero) ns) (omega (arith, p.0, p.1)) q
        (widened (span_of n).start (span_of n).end from (span_of n).end (found_from m c n) p.0 (omega arith) (apart_from c n from to b.0))
        (apart_behind (opened c zero) ns (span_of n).end to b.1)
    apart_behind (opened c (suc k)) (next n ns) from to b =
        let p = placed from to n b.0 in
        widened (span_of n).end to from to (found_behind m (opened c k) ns) (omega (arith, p.0, p.1)) (omega arith) (apart_behind (opened c k) ns (span_of n).end to b.1)
    apart_behind (forked c zero) (next n ns) from to b =
        let p = placed from to n b.0 in
        let q = not_empty (span_of n).end to ns b.1 in
        joined_points from (span_of n).end to (found_inside m c n) (found_behind m (forked c zero) ns) (omega (arith, p.0, p.1)) q
        (widened (span_of n).start (span_of n).end from (span_of n).end (found_inside m c n) p.0 (omega arith) (apart_inside c n from to b.0))
        (apart_behind (forked c zero) ns (span_of n).end to b.1)
    apart_behind (forked c (suc k)) (next n ns) from to b =
        let p = placed from to n b.0 in
        widened (span_of n).end to from to (found_behind m (forked c k) ns) (omega (arith, p.0, p.1)) (omega arith) (apart_behind (forked c k) ns (span_of n).end to b.1)

    pub apart_inside : (c : Context) (n : Node) (from to : ℕ) → IsBetween from to n → AllFrom (span_of n).start (span_of n).end (found_inside m c n) × AreApart (found_inside m c n)
    apart_inside c (TextWord place bytes) from to b = no_points place.start place.end
    apart_inside c (Quoted place bytes) from to b = no_points place.start place.end
    apart_inside c (Branch place inner) from to b = apart_behind (opened c (suc zero)) inner place.start place.end b.3

    pub strictly : (o : Opening) (ns : Nodes) (from to : ℕ) → AreInOrder from to ns → IsBehind o → (f : Standpoint) → Contains (found_behind m o ns) f → from < start_of f
    strictly o none from to b i f c = absurd (contains_none f c)
    strictly closed (next n ns) from to b i f c = absurd (contains_none f c)
    strictly (opened d zero) (next n ns) from to b i f c = absurd (omega (arith, i))
    strictly (opened d (suc k)) (next n ns) from to b i f c =
        let p = placed from to n b.0 in let x = (apart_behind (opened d k) ns (span_of n).end to b.1).0 f c in omega (arith, p.0, p.1, x.0)
    strictly (forked d zero) (next n ns) from to b i f c = absurd (omega (arith, i))
    strictly (forked d (suc k)) (next n ns) from to b i f c =
        let p = placed from to n b.0 in let x = (apart_behind (forked d k) ns (span_of n).end to b.1).0 f c in omega (arith, p.0, p.1, x.0)

  -- ---- the list has what is found, and nothing else

  abbrev pub points : Context → Nodes → List Standpoint
  points c tree = found_behind m (opened c zero) tree

  head_in : (c : Context) (n : Node) → Contains (found_from m c n) (record { context = c; node = n })
  unfolding found_from
  head_in c (TextWord place bytes) = contains_here (record { context = c; node = TextWord place bytes }) []
  head_in c (Quoted place bytes) = contains_here (record { context = c; node = Quoted place bytes }) []
  head_in c (Branch place inner) = contains_here _ _

  all_items : (ns : Nodes) (n : Node) → IsItem n ns → IsItem n (skipped zero ns)
  unfolding skipped
  all_items none n i = i
  all_items (next q ns) n i = i

  item_behind : (c : Context) (k : ℕ) (ns : Nodes) (n : Node) → IsItem n (skipped k ns) → Contains (found_behind m (opened c k) ns) (record { context = c; node = n })
  unfolding found_behind skipped
  item_behind c k none n i = elim i [ ]
  item_behind c zero (next q ns) n first = Contains-append_left (found_from m c q) (found_behind m (opened c zero) ns) _ (head_in c q)
  item_behind c zero (next q ns) n (later i) =
      Contains-append_right (found_from m c q) (found_behind m (opened c zero) ns) _ (item_behind c zero ns n (all_items ns n i))
  item_behind c (suc k) (next q ns) n i = item_behind c k ns n i

  -- an item of two lists of nodes is one of the first or of the second
  pub beside_cases : (us vs : Nodes) (n : Node) → IsItem n (beside us vs) → IsItem n us ⊎ IsItem n vs
  unfolding beside
  beside_cases none vs n i = inr i
  beside_cases (next a us) vs n first = inl first
  beside_cases (next a us) vs n (later i) = elim (beside_cases us vs n i) [ inl j ↦ inl (later j) | inr j ↦ inr j ]

  -- what is behind the first item of a list is found inside it
  item_inside : (c : Context) (q n : Node) → IsItem n (skipped 1 (inner_of q)) → Contains (found_inside m c q) (record { context = c; node = n })
  unfolding found_inside
  item_inside c (TextWord place bytes) n i = absurd (no_item n (skipped 1 none) (skipped_none 1) i)
  item_inside c (Quoted place bytes) n i = absurd (no_item n (skipped 1 none) (skipped_none 1) i)
  item_inside c (Branch place inner) n i = item_behind c 1 inner n i

  item_forked : (c : Context) (k : ℕ) (ns : Nodes) (n : Node) → IsItem n (all_behind_first (skipped k ns)) → Contains (found_behind m (forked c k) ns) (record { context = c; node = n })
  unfolding found_behind skipped all_behind_first
  item_forked c k none n i = elim i [ ]
  item_forked c zero (next q ns) n i =
      elim (beside_cases (skipped 1 (inner_of q)) (all_behind_first ns) n i) [
        | inl j ↦ Contains-append_left (found_inside m c q) (found_behind m (forked c zero) ns) _ (item_inside c q n j)
        | inr j ↦ Contains-append_right (found_inside m c q) (found_behind m (forked c zero) ns) _
            (item_forked c zero ns n (subst (λ ks. IsItem n (all_behind_first ks)) (sym (skipped_zero ns)) j))
      ]
  item_forked c (suc k) (next q ns) n i = item_forked c k ns n i

  item_opened : (c : Context) (body : Body) (ns : Nodes) (n : Node) → IsItem n (within body ns) → Contains (found_behind m (opening_by c body) ns) (record { context = c; node = n })
  item_opened c plain ns n i = elim i [ ]
  item_opened c (behind k place) ns n i = item_behind c k ns n i
  item_opened c (branched k) ns n i = item_forked c k ns n i

  no_items : (body : Body) (n : Node) → IsItem n (within body none) → ⊥
  unfolding skipped all_behind_first
  no_items plain n i = elim i [ ]
  no_items (behind k place) n i = elim i [ ]
  no_items (branched k) n i = elim i [ ]

  -- what stands in a node of the list is in the list
  abbrev IsClosed : List Standpoint → Type 0
  IsClosed fs = (f : Standpoint) (s : Statement) (faults : List Inner) (n : Node) → Contains fs f → verdict_of m f.context f.node ≡ Shaped s faults
      → IsItem n (body_of s f.node) → Contains fs (record { context = inside_of f.context s; node = n })

  closed_leaf : (h : Standpoint) → inner_of h.node ≡ none → IsClosed (h ∷ [])
  closed_leaf h e f s faults n c v i =
      elim (contains_cases f h [] c) [
        | inl same ↦ absurd (no_items (entry_of s.keyword).body n
            (subst (λ ns. IsItem n (within (entry_of s.keyword).body ns)) (ap (λ (x : Standpoint). inner_of x.node) (sym same) ∙ e) i))
        | inr d ↦ absurd (contains_none f d)
      ]

  closed_join : (fs gs : List Standpoint) → IsClosed fs → IsClosed gs → IsClosed (fs ++ gs)
  closed_join fs gs a b f s faults n c v i =
      elim (Contains-append_cases fs gs f c) [
        | inl d ↦ Contains-append_left fs gs _ (a f s faults n d v i)
        | inr d ↦ Contains-append_right fs gs _ (b f s faults n d v i)
      ]

  closed_none : IsClosed []
  closed_none f s faults n c v i = absurd (contains_none f c)

  closed_branch : (h : Standpoint) → IsClosed (found_behind m (opening_of h.context (verdict_of m h.context h.node)) (inner_of h.node))
      → IsClosed (h ∷ found_behind m (opening_of h.context (verdict_of m h.context h.node)) (inner_of h.node))
  closed_branch h rest f s faults n c v i =
      let below = found_behind m (opening_of h.context (verdict_of m h.context h.node)) (inner_of h.node) in
      elim (contains_cases f h below c) [
        | inl same ↦ contains_later _ h below (subst (λ (x : Standpoint). Contains below (record { context = inside_of x.context s; node = n })) same
            (subst (λ o. Contains (found_behind m (opening_of h.context o) (inner_of h.node)) (record { context = inside_of h.context s; node = n }))
            (sym (subst (λ (x : Standpoint). verdict_of m x.context x.node ≡ Shaped s faults) (sym same) v))
            (item_opened (inside_of h.context s) (entry_of s.keyword).body (inner_of h.node) n
            (subst (λ (x : Standpoint). IsItem n (body_of s x.node)) (sym same) i))))
        | inr d ↦ contains_later _ h below (rest f s faults n d v i)
      ]

  mutual
    unfolding found_from found_behind found_inside

    closed_from : (c : Context) (n : Node) → IsClosed (found_from m c n)
    closed_from c (TextWord place bytes) = closed_leaf (record { context = c; node = TextWord place bytes }) refl
    closed_from c (Quoted place bytes) = closed_leaf (record { context = c; node = Quoted place bytes }) refl
    closed_from c (Branch place inner) =
        closed_branch (record { context = c; node = Branch place inner }) (closed_behind (opening_of c (verdict_of m c (Branch place inner))) inner)

    closed_behind : (o : Opening) (ns : Nodes) → IsClosed (found_behind m o ns)
    closed_behind o none = closed_none
    closed_behind closed (next n ns) = closed_none
    closed_behind (opened c zero) (next n ns) =
        closed_join (found_from m c n) (found_behind m (opened c zero) ns) (closed_from c n) (closed_behind (opened c zero) ns)
    closed_behind (opened c (suc k)) (next n ns) = closed_behind (opened c k) ns
    closed_behind (forked c zero) (next n ns) =
        closed_join (found_inside m c n) (found_behind m (forked c zero) ns) (closed_inside c n) (closed_behind (forked c zero) ns)
    closed_behind (forked c (suc k)) (next n ns) = closed_behind (forked c k) ns

    closed_inside : (c : Context) (n : Node) → IsClosed (found_inside m c n)
    closed_inside c (TextWord place bytes) = closed_none
    closed_inside c (Quoted place bytes) = closed_none
    closed_inside c (Branch place inner) = closed_behind (opened c (suc zero)) inner

  -- what is found is in the list of its tree
  record IsListed (modules : List (List ℕ)) (c : Context) (n : Node) : Type 0 where
    pub tree : Nodes
    pub is_text : IsText (module_of modules m) tree
    pub listed : Contains (points at_top tree) (record { context = c; node = n })

  listed : (modules : List (List ℕ)) (c : Context) (n : Node) → FoundIn modules m c n → IsListed modules c n
  listed modules c n (top tree k below text i) =
      record { tree = tree; is_text = text; listed = item_behind at_top zero tree n (all_items tree n i) }
  listed modules c n (inside d p k s faults f v i) =
      let l = listed modules d p f in
      record { tree = l.tree; is_text = l.is_text; listed = closed_behind (opened at_top zero) l.tree (record { context = d; node = p }) s faults n l.listed v i }

  -- the law: a place is that of one node
  pub places_are_apart : HasOneTree → (modules : List (List ℕ)) → ((tree : Nodes) → IsText (module_of modules m) tree → (to : ℕ) × AreInOrder 0 to tree)
      → (c d : Context) (n k : Node) → FoundIn modules m c n → FoundIn modules m d k → (span_of n).start ≡ (span_of k).start → (c ≡ d) × (n ≡ k)
  places_are_apart one_tree modules in_order c d n k f g e =
      let a = listed modules c n f in
      let b = listed modules d k g in
      let order = in_order a.tree a.is_text in
      let same = one_tree (module_of modules m) b.tree a.tree b.is_text a.is_text in
      let one = (apart_behind (opened at_top zero) a.tree 0 order.0 order.1).1 (record { context = c; node = n }) (record { context = d; node = k }) a.listed
      (subst (λ t. Contains (points at_top t) (record { context = d; node = k })) same b.listed) e in
      (ap (λ (x : Standpoint). x.context) one, ap (λ (x : Standpoint). x.node) one)

  -- what is found is in the list of the tree of its module
  pub listed_in : HasOneTree → (modules : List (List ℕ)) (c : Context) (n : Node) → FoundIn modules m c n → (tree : Nodes) → IsText (module_of modules m) tree
      → Contains (found_behind m (opened at_top 0) tree) (record { context = c; node = n })
  listed_in one_tree modules c n f tree is =
      let l = listed modules c n f in
      subst (λ t. Contains (points at_top t) (record { context = c; node = n })) (one_tree (module_of modules m) l.tree tree l.is_text is) l.listed
