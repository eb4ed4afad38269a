-- The faults of each step over items are finite, and so are the permissions of a class.
use Rattle.std.specs.Prelude.{Contains, None, Option, Some, codes, ◌&&◌}
use Rattle.std.specs.Cmp.Lexicographic.{bytes_decides}
use Rattle.std.specs.List.{list_any, flat_map}
use Rattle.std.specs.Option.{option_map_or}
use Rattle.std.proofs.Common.{◌≡◌, ◌⊎◌, ℕ, ◌<◌, true, false, List, [], length, refl, sym, ap, subst, inl, inr, arith}
use Rattle.std.proofs.lemmas.Bool.{and_parts, cases_lt, or_cases, true≢false}
use Rattle.std.proofs.lemmas.Cmp.{nat_list_cmp_total}
use Rattle.std.proofs.lemmas.Map.Lookups.{exact_bytes}
use Rattle.cil_base.specs.Lists.{Lists, text_cmp, one_list}
use Rattle.cil_base.specs.Sorted.{lists_of}
use Rattle.cil_base.specs.MadeLists.{contains_flat}
use Rattle.cil_base.specs.Searches.{any_true}
use Rattle.cil_base.specs.Decided.{Decided, decided_both, decided_not, decided_same, same_bool, same_text}
use Rattle.cil_faults.specs.declared.code.FaultCode.TheVariants as causes
use Rattle.cil_faults.specs.declared.fault.Fault.{Fault}
use Rattle.cil_syntax.specs.declared.kind.Keyword.TheVariants as keywords
use Rattle.cil_syntax.specs.declared.kind.Kind.TheVariants as kinds
use Rattle.cil_syntax.specs.declared.kind.Sign.{Sign}
use Rattle.cil_syntax.specs.declared.kind.Sign.TheVariants as signs
use Rattle.cil_syntax.specs.Forms.{two_words}
use Rattle.cil_syntax.specs.Scopes.{ScopedWord, asked}
use Rattle.cil_faults.specs.Namespaces.{Namespace}
use Rattle.cil_faults.specs.Fails.{AreFaults}
use Rattle.cil_faults.specs.FaultOrder.{fault_cmp, fault_total, one_fault}
use Rattle.cil_base.specs.Listing.{Listing}
use Rattle.cil_syntax.specs.declared.name_space.NameSpace.TheVariants as name_spaces
use Rattle.cil_syntax.specs.NameSpaces.{name_space}
use Rattle.cil_syntax.specs.Spelling.{same_bytes}
use Rattle.cil_syntax.specs.Terms.{Name, cons}
use Rattle.cil_faults.specs.Reported.{fault_at, global_fault}
use Rattle.cil_syntax.proofs.DecidedEquality.{keyword_is, same_namespace}
use Rattle.cil_names.proofs.DeclareDecided.{same_declaration, same_name_space}
use Rattle.cil_names.specs.Declarations.{Declaration, declared_by, IsDeclaration, Clash, Symbol, nowhere}
use Rattle.cil_classes.specs.Commons.{IsToldTwice}
use Rattle.cil_classes.specs.Faults.{ClassFault, IsClassName, most_classes, too_many, two_commons, wide}
use Rattle.cil_names.specs.Faults.{ClashFault, clash, ResolveFault, unresolved}
use Rattle.cil_macros.specs.Item.{Item, OptSet, everybody, nobody, is_enabled}
use Rattle.cil_names.specs.Resolves.{fits, found_in, gives_permission, has_permission, is_class_common, is_judged, listed_permissions, lists_named, lists_permission, names_outside, resolves, shares_permission, shares_words, told_word, Wanted, words_of}
use Rattle.cil_classes.specs.Row.{most_permissions}
use Rattle.cil_tables.proofs.Finite.{Finite, decided_where, finite_all, finite_either, finite_given, finite_if, finite_list, finite_listing, finite_same, finite_where}
use Rattle.cil_tables.proofs.FiniteCommons.{finite_twice}
use Rattle.cil_tables.proofs.FinitePolicy.{Front, finite_declarations, finite_front, finite_names}
use Rattle.cil_tables.specs.Named.{IsNameOf}

pub decided_less : (a b : ℕ) → Decided (a < b)
decided_less a b = elim (cases_lt a b) [ inl less ↦ inl less | inr ge ↦ inr (λ less. absurd (omega (arith, less, ge))) ]

-- ---- clashes

decided_clash : (d e : Declaration) → Decided (Clash d e)
decided_clash d e =
    decided_same (λ h. record { one_name = h.0; one_namespace = h.1.0; one_name_space = h.1.1.0; apart = h.1.1.1.0; differ = h.1.1.1.1 })
    (λ c. (c.one_name, (c.one_namespace, (c.one_name_space, (c.apart, c.differ)))))
    (decided_both (same_text d.name e.name)
    (decided_both (same_namespace d.space e.space)
    (decided_both (same_name_space (name_space d.kind) (name_space e.kind))
    (decided_both (decided_not (same_name_space (name_space d.kind) name_spaces.Blocks)) (decided_not (same_declaration d e))))))

module _ (xs : List Item) where
  -- a declaration of the statement clashes with some declaration
  abbrev Clashes : Item → Type 0
  Clashes x = (d : Declaration) × Contains (declared_by x) d × ((e : Declaration) × IsDeclaration xs everybody e × Clash d e)

  decided_clashes : (x : Item) → Decided (Clashes x)
  decided_clashes x =
      decided_where (Contains (declared_by x)) (λ d. (e : Declaration) × IsDeclaration xs everybody e × Clash d e) (finite_list (declared_by x))
      (λ d c. decided_where (IsDeclaration xs everybody) (Clash d) (finite_declarations xs everybody) (λ e is. decided_clash d e))

  -- a fault at the name of a statement of which something holds
  abbrev AtName : Item → (Front → Fault) → Type 0 → Fault → Type 0
  AtName x fault A f = (p : Front) × (x.args ≡ cons (Name p.0 p.1) p.2) × ((fault p ≡ f) × A)

  finite_at_name : (x : Item) (fault : Front → Fault) (A : Type 0) → Decided A → Finite (AtName x fault A)
  finite_at_name x fault A d =
      finite_all (λ p f. (fault p ≡ f) × A) (λ p. x.args ≡ cons (Name p.0 p.1) p.2) (finite_front x.args) (λ p e. finite_if A (fault p) d)

  clash_at : Item → Front → Fault
  clash_at x p = fault_at causes.Clash p.0 x.space p.1

  pub finite_clashes : Finite (ClashFault xs)
  unfolding clash_at
  finite_clashes =
      finite_same (λ f. (x : Item) × Contains xs x × AtName x (clash_at x) (Clashes x) f) (ClashFault xs)
      (λ f h. let c = h.2.2.1 in subst (ClashFault xs) h.2.2.0 (clash h.0 h.2.0.0 h.2.0.1 h.2.0.2 c.0 c.2.0 h.1 h.2.1 c.1 c.2.1 c.2.2)) parts
      (finite_all (λ x f. AtName x (clash_at x) (Clashes x) f) (Contains xs) (finite_list xs) (λ x c. finite_at_name x (clash_at x) (Clashes x) (decided_clashes x)))
    where
      parts : (f : Fault) → ClashFault xs f → (x : Item) × Contains xs x × AtName x (clash_at x) (Clashes x) f
      parts f (clash x at name rest d e cx says cd is k) = (x, cx, ((at, name, rest), says, (refl, (d, cd, (e, is, k)))))

  -- ---- words that name nothing

  word_at : Item → Wanted → Fault
  word_at x w = fault_at causes.Unresolved (told_word w).at x.space (told_word w).bytes

  module _ (s : OptSet) where
    abbrev Lost : Item → Fault → Type 0
    Lost x f =
        (x.round ≡ []) × ((w : Wanted) × Contains (words_of x) w × ((word_at x w ≡ f) × ((is_judged xs s w ≡ true) × (resolves xs s w ≡ false))))

    finite_lost : (x : Item) → Finite (Lost x)
    finite_lost x =
        finite_given (x.round ≡ []) (λ f. (w : Wanted) × Contains (words_of x) w × ((word_at x w ≡ f) × ((is_judged xs s w ≡ true) × (resolves xs s w ≡ false))))
        (no_round x.round)
        (finite_all (λ w f. (word_at x w ≡ f) × ((is_judged xs s w ≡ true) × (resolves xs s w ≡ false))) (Contains (words_of x)) (finite_list (words_of x))
        (λ w c. finite_if ((is_judged xs s w ≡ true) × (resolves xs s w ≡ false)) (word_at x w)
        (decided_both (same_bool (is_judged xs s w) true) (same_bool (resolves xs s w) false))))
      where
        no_round : (ns : List ℕ) → Decided (ns ≡ [])
        no_round ns = same_text ns []

    pub finite_unresolved : Finite (ResolveFault s xs)
    unfolding word_at
    finite_unresolved =
        finite_same (λ f. (x : Item) × Contains xs x × Lost x f) (ResolveFault s xs)
        (λ f h. let w = h.2.1 in subst (ResolveFault s xs) w.2.0 (unresolved h.0 w.0 h.1 h.2.0 w.1 w.2.1.0 w.2.1.1)) parts
        (finite_all Lost (Contains xs) (finite_list xs) (λ x c. finite_lost x))
      where
        parts : (f : Fault) → ResolveFault s xs f → (x : Item) × Contains xs x × Lost x f
        parts f (unresolved x w c round asks judged missing) = (x, c, (round, (w, asks, (refl, (judged, missing)))))

  -- ---- classes that are too wide

  candidates : List (List ℕ)
  candidates = flat_map (λ x. listed_permissions x.args) xs

  listed_candidate : (sign : Sign) (c : Symbol) (p : List ℕ) → lists_permission xs sign c p ≡ true → Contains candidates p
  unfolding lists_permission candidates
  listed_candidate sign c p e =
      let x = any_true (gives_permission sign c p) xs e in
      let parts = and_parts (is_enabled nobody x.0 && list_any (fits c.name sign c.space) (declared_by x.0)) (list_any (same_bytes p) (listed_permissions x.0.args)) x.2 in
      let q = any_true (same_bytes p) (listed_permissions x.0.args) parts.1 in
      contains_flat (λ y. listed_permissions y.args) xs x.0 p x.1 (subst (Contains (listed_permissions x.0.args)) (sym ((bytes_decides p q.0).0 q.2)) q.1)

  -- a permission of a common
  shared_candidate : (c : Symbol) (p : List ℕ) (o : Option (ScopedWord × ScopedWord)) → shares_words xs c p o ≡ true → Contains candidates p
  shared_candidate c p None e = absurd (true≢false (sym e))
  shared_candidate c p (Some (v, k)) e = of_space (found_in xs nobody k) (and_parts (names_outside xs signs.PlainClass v c) (lists_named xs k p) e).1
    where
      of_space : (o : Option Namespace) → option_map_or (λ n. lists_permission xs signs.Commons (record { space = n; name = (asked k.bytes).name }) p) o false ≡ true → Contains candidates p
      of_space None h = absurd (true≢false (sym h))
      of_space (Some n) h = listed_candidate signs.Commons (record { space = n; name = (asked k.bytes).name }) p h

  candidate : (c : Symbol) (p : List ℕ) → has_permission xs c p ≡ true → Contains candidates p
  unfolding has_permission
  candidate c p e =
      elim (or_cases (lists_permission xs signs.Classes c p) (list_any (shares_permission xs c p) xs) e) [
        | inl own ↦ listed_candidate signs.Classes c p own
        | inr shared ↦
            let x = any_true (shares_permission xs c p) xs shared in
            shared_candidate c p (two_words x.0.args) (and_parts (is_enabled nobody x.0 && is_class_common x.0.keyword) (shares_words xs c p (two_words x.0.args)) x.2).1
      ]

  pub finite_permissions : (c : Symbol) → Finite (λ p. has_permission xs c p ≡ true)
  finite_permissions c =
      finite_same (λ p. Contains candidates p × (has_permission xs c p ≡ true)) (λ p. has_permission xs c p ≡ true) (λ p h. h.1) (λ p e. (candidate c p e, e))
      (finite_where (Contains candidates) (λ p. has_permission xs c p ≡ true) (finite_list candidates) (λ p d. same_bool (has_permission xs c p) true))

  -- the permissions of a class, in order
  pub permissions_of : (c : Symbol) → Listing text_cmp (λ p. has_permission xs c p ≡ true)
  permissions_of c = finite_listing text_cmp nat_list_cmp_total exact_bytes (λ p. has_permission xs c p ≡ true) (finite_permissions c)

  abbrev IsWide : Symbol → Type 0
  IsWide c = (ps : List (List ℕ)) × Lists text_cmp (λ p. has_permission xs c p ≡ true) ps × (most_permissions < length ps)

  decided_wide : (c : Symbol) → Decided (IsWide c)
  decided_wide c =
      let l = permissions_of c in
      elim (cases_lt most_permissions (length l.list)) [
        | inl big ↦ inl (l.list, l.lists, big)
        | inr few ↦ inr (λ h.
            let same : h.0 ≡ l.list = one_list text_cmp nat_list_cmp_total (λ p. has_permission xs c p ≡ true) h.0 l.list h.1 l.lists in
            let len = ap length same in let big = h.2 in omega (arith, len, big, few))
      ]

  module _ (s : OptSet) where
    abbrev Widens : Item → Fault → Type 0
    Widens x f =
        ((is_enabled s x ≡ true) × (x.keyword ≡ keywords.Class))
        × ((p : Front) × (x.args ≡ cons (Name p.0 p.1) p.2) × ((fault_at causes.ClassWide p.0 x.space p.1 ≡ f) × IsWide (record { space = x.space; name = p.1 })))

    finite_widens : (x : Item) → Finite (Widens x)
    finite_widens x =
        finite_given ((is_enabled s x ≡ true) × (x.keyword ≡ keywords.Class)) _ (decided_both (same_bool (is_enabled s x) true) (keyword_is x.keyword keywords.Class))
        (finite_all (λ p f. (fault_at causes.ClassWide p.0 x.space p.1 ≡ f) × IsWide (record { space = x.space; name = p.1 }))
        (λ p. x.args ≡ cons (Name p.0 p.1) p.2) (finite_front x.args)
        (λ p e. finite_if (IsWide (record { space = x.space; name = p.1 })) (fault_at causes.ClassWide p.0 x.space p.1) (decided_wide (record { space = x.space; name = p.1 }))))

    -- the names of the classes
    class_names : Listing text_cmp (IsNameOf xs s kinds.Class)
    class_names = finite_listing text_cmp nat_list_cmp_total exact_bytes (IsNameOf xs s kinds.Class) (finite_names xs s kinds.Class)

    class_names_are : Lists text_cmp (IsClassName s xs) class_names.list
    class_names_are =
        lists_of text_cmp (IsNameOf xs s kinds.Class) (IsClassName s xs) class_names.list (λ n i. record { symbol = i.symbol; declared = i.declared; named = i.named })
        (λ n i. record { symbol = i.symbol; declared = i.declared; named = i.named }) class_names.lists

    abbrev IsOver : Fault → Type 0
    IsOver f = (global_fault causes.TooMany nowhere (codes "classes") ≡ f) × (most_classes < length class_names.list)

    finite_over : Finite IsOver
    finite_over = finite_if (most_classes < length class_names.list) (global_fault causes.TooMany nowhere (codes "classes")) (decided_less most_classes (length class_names.list))

    abbrev IsOfClasses : Fault → Type 0
    IsOfClasses f = ((x : Item) × Contains xs x × Widens x f) ⊎ (IsToldTwice xs f ⊎ IsOver f)

    pub finite_class : Finite (ClassFault s xs)
    finite_class =
        finite_same IsOfClasses (ClassFault s xs) there parts
        (finite_either (λ f. (x : Item) × Contains xs x × Widens x f) (λ f. IsToldTwice xs f ⊎ IsOver f) (finite_all Widens (Contains xs) (finite_list xs) (λ x c. finite_widens x))
        (finite_either (IsToldTwice xs) IsOver (finite_twice xs) finite_over))
      where
        there : (f : Fault) → IsOfClasses f → ClassFault s xs f
        there f (inl h) =
            let p = h.2.1 in
            subst (ClassFault s xs) p.2.0 (wide h.0 p.0.0 p.0.1 p.0.2 p.2.1.0 h.1 h.2.0.0 h.2.0.1 p.1 p.2.1.1 p.2.1.2)
        there f (inr (inl t)) = two_commons t.0 f t.1 t.2
        there f (inr (inr o)) = too_many f (record { names = class_names.list; are_names = class_names_are; many = o.1; told = sym o.0 })

        parts : (f : Fault) → ClassFault s xs f → IsOfClasses f
        parts f (wide x at name rest permissions c on keyword says listed big) = inl (x, c, ((on, keyword), ((at, name, rest), says, (refl, (permissions, listed, big)))))
        parts f (two_commons x g c h) = inr (inl (x, c, h))
        parts f (too_many g m) =
            let counted = ap length (one_list text_cmp nat_list_cmp_total (IsClassName s xs) m.names class_names.list m.are_names class_names_are) in
            let over = m.many in
            inr (inr (sym m.told, omega (arith, counted, over)))

-- ---- a step

-- a finite step has the list of its faults, or no fault
pub step_outcome : (step : Fault → Type 0) → Finite step → ((fs : List Fault) × AreFaults step fs) ⊎ ((f : Fault) → step f → ⊥)
step_outcome step f = by_length (finite_listing fault_cmp fault_total one_fault step f)
  where
    by_length : Listing fault_cmp step → ((fs : List Fault) × AreFaults step fs) ⊎ ((f : Fault) → step f → ⊥)
    by_length l = elim (cases_lt 0 (length l.list)) [
      | inl some ↦ inl (l.list, record { listed = l.lists; some = some })
      | inr none ↦ inr (λ g s. let c = (l.lists.members g).1 s in let within = c.1 in omega (arith, within, none))
    ]
