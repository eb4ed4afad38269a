-- The nodes of all to which a class permission leads.
use Rattle.std.specs.Prelude.{◌⊎◌, ◌↔◌, Contains, Some, None, slice_get}
use Rattle.std.specs.List.Sorted.{IsStrictlySortedBy}
use Rattle.std.proofs.Common.{◌≡◌, ℕ, ◌+◌, ◌<◌, ◌≤◌, Bool, true, false, List, [], ◌∷◌, ◌++◌, length, refl, sym, ◌∙◌, ap, subst, inl, inr, arith}
use Rattle.std.proofs.lemmas.Bool.{and_from, and_parts, true≢false}
use Rattle.std.proofs.lemmas.List.Elements.{Contains-append_left, Contains-append_right, Contains-append_cases}
use Rattle.std.proofs.lemmas.Option.{none-some, same_Some}
use Rattle.cil_base.specs.Lists.{contains_cases, contains_here, contains_none}
use Rattle.cil_base.specs.Places.{get_contains, some_at}
use Rattle.cil_syntax.specs.Forms.{class_form, leaf_of}
use Rattle.cil_syntax.specs.declared.kind.Kind.{Kind}
use Rattle.cil_syntax.specs.declared.kind.Kind.TheVariants as kinds
use Rattle.cil_syntax.specs.declared.kind.Sign.TheVariants as signs
use Rattle.cil_syntax.specs.declared.term.Op.TheVariants as ops
use Rattle.cil_faults.specs.declared.spot.Spot.{Spot}
use Rattle.cil_syntax.specs.Kinds.{is_wanted}
use Rattle.cil_syntax.specs.Scopes.{ScopedWord}
use Rattle.cil_syntax.specs.Terms.{Term, Leaf, Name, Form, nil, cons}
use Rattle.cil_macros.specs.Item.{Item, OptSet}
use Rattle.cil_names.specs.Declarations.{Symbol}
use Rattle.cil_names.specs.declared.entry.Entry.{Entry}
use Rattle.cil_known.specs.declared.known.Known.{Known}
use Rattle.cil_known.specs.Known.{IsKnown, StandsForNothing, enabled_in}
use Rattle.cil_known.specs.Members.{StandsFor}
use Rattle.cil_names.specs.Symbols.{symbol_of}
use Rattle.cil_names.specs.Resolves.{has_permission}
use Rattle.cil_names.specs.Unresolved.{listed_at}
use Rattle.cil_classes.specs.declared.nodes.Node.{Node}
use Rattle.cil_classes.specs.declared.nodes.Run.{Run}
use Rattle.cil_classes.specs.Given.{Holder, mapped, named}
use Rattle.cil_classes.specs.NodeOrder.{node_cmp, same_node}
use Rattle.cil_classes.specs.Nodes.{IsEntryOf, IsNodeIn, IsRunOf, StandsAs}
use Rattle.cil_classes.specs.Numbers.{IsHeld}
use Rattle.cil_classes.specs.Parts.{AreAmong, AreLed, AreNodes, AreThoseUpTo, IsEntryFor, IsHeldAt}
use Rattle.cil_classes.specs.Tied.{Leads, to_mapped, to_named}
use Rattle.cil_classes.specs.Values.{in_value, in_value_there}
use Rattle.cil_classes.proofs.EntryForLemmas.{its_permissions, same_entry}
use Rattle.cil_classes.proofs.NodeLemmas.{one_place}
use Rattle.cil_classes.proofs.ValueLemmas.{value_there}

-- ---- the places of a run

pub none_yet : (P : ℕ → Type 0) (run : Run) (from : List ℕ) → from ≡ [] → AreThoseUpTo P run run.start from
none_yet P run from none = record {
  low = omega arith;
  high = inr refl;
  members = λ u. (λ c. absurd (contains_none u (subst (λ l. Contains l u) none c)), λ m. absurd (let low = m.0 in let high = m.1 in omega (arith, low, high)));
}

pub one_more : (P : ℕ → Type 0) (run : Run) (v : ℕ) (old new : List ℕ) (wanted : Bool) → v < run.end → AreThoseUpTo P run v old → (wanted ≡ true → P v) → (P v → wanted ≡ true)
    → ((u : ℕ) → Contains new u ↔ (Contains old u ⊎ ((wanted ≡ true) × (v ≡ u)))) → AreThoseUpTo P run (v + 1) new
one_more P run v old new wanted within so sound complete added = record {
  low = let l = so.low in omega (arith, l);
  high = inl (omega (arith, within));
  members = λ u. (
    λ c. elim ((added u).0 c) [
      | inl before ↦ let m = (so.members u).0 before in (m.0, let less = m.1 in omega (arith, less), m.2)
      | inr it ↦ let same = it.1 in let low = so.low in (omega (arith, low, same), omega (arith, same), subst P same (sound it.0))
    ],
    λ m. (added u).1 (elim (below u v m.1) [
      | inl less ↦ inl ((so.members u).1 (m.0, less, m.2))
      | inr same ↦ inr (complete (subst P same m.2), sym same)
    ]),
  );
}
  where
    below : (u v : ℕ) → u < v + 1 → (u < v) ⊎ (u ≡ v)
    below u v l = grind arith

pub not_pushed : (old : List ℕ) (wanted : Bool) (v : ℕ) → wanted ≡ false → (u : ℕ) → Contains old u ↔ (Contains old u ⊎ ((wanted ≡ true) × (v ≡ u)))
not_pushed old wanted v off u = (λ c. inl c, λ e. elim e [ inl c ↦ c | inr it ↦ absurd (true≢false (sym it.0 ∙ off)) ])

pub pushed : (old new : List ℕ) (wanted : Bool) (v : ℕ) → wanted ≡ true → new ≡ old ++ v ∷ [] → (u : ℕ) → Contains new u ↔ (Contains old u ⊎ ((wanted ≡ true) × (v ≡ u)))
pushed old new wanted v on push u = (
  λ c. elim (Contains-append_cases old (v ∷ []) u (subst (λ l. Contains l u) push c)) [
    | inl before ↦ inl before
    | inr last ↦ elim (contains_cases u v [] last) [ inl same ↦ inr (on, same) | inr none ↦ absurd (contains_none u none) ]
  ],
  λ d. subst (λ l. Contains l u) (sym push) (elim d [
    | inl before ↦ Contains-append_left old (v ∷ []) u before
    | inr it ↦ Contains-append_right old (v ∷ []) u (subst (Contains (v ∷ [])) it.1 (contains_here v []))
  ]),
)

pub all_of_run : (P : ℕ → Type 0) (run : Run) (v : ℕ) (from : List ℕ) → run.end ≤ v → AreThoseUpTo P run v from → (u : ℕ) → Contains from u ↔ ((run.start ≤ u) × (u < run.end) × P u)
all_of_run P run v from over so u = (
  λ c. let m = (so.members u).0 c in
      let low = m.0 in
      let less = m.1 in (
        m.0,
        elim so.high [ inl l ↦ omega (arith, less, l) | inr e ↦ absurd (omega (arith, low, less, e)) ],
        m.2,
      ),
  λ m. (so.members u).1 (m.0, let less = m.1 in omega (arith, less, over), m.2),
)

-- whether a node of the run is wanted
module _ (permissions : List (List ℕ)) (nodes : List Node) (run : Run) (e : Term ScopedWord) (among : AreAmong permissions nodes run) (v : ℕ) (low : run.start ≤ v) (high : v < run.end) (n : Node)
    (at : slice_get nodes v ≡ Some n) (wanted : Bool) (held : IsHeld permissions n.number e wanted) where
  pub wanted_held : wanted ≡ true → IsHeldAt permissions nodes e v
  wanted_held is =
      let (p, here) = among v n low high at in record { node = n; at = at; permission = p; is_permission = here; value = sym (held p here) ∙ is }

  pub held_wanted : IsHeldAt permissions nodes e v → wanted ≡ true
  held_wanted h =
      let one = same_Some n h.node (sym at ∙ h.at) in
      held h.permission (ap (λ (m : Node). slice_get permissions m.number) one ∙ h.is_permission) ∙ h.value

-- ---- to what class permissions lead

module _ (xs : List Item) (s : OptSet) where
  pub record NameLead (cp : Term ScopedWord) (h : Holder) : Type 0 where
    pub word : ScopedWord
    pub symbol : Symbol
    pub is : leaf_of cp ≡ Some word
    pub holder : h ≡ named symbol
    pub stands : StandsFor xs s kinds.ClassPermission word symbol

  pub record MapLead (cp : Term ScopedWord) (h : Holder) : Type 0 where
    pub word : ScopedWord
    pub expression : Term ScopedWord
    pub symbol : Symbol
    pub permission : List ℕ
    pub form : class_form cp ≡ Some (word, expression)
    pub holder : h ≡ mapped symbol permission
    pub stands : StandsFor xs s kinds.ClassMap word symbol
    pub value : in_value (has_permission xs symbol) expression permission ≡ true

  pub parts_of_lead : (cp : Term ScopedWord) (h : Holder) → Leads xs s cp h → NameLead cp h ⊎ MapLead cp h
  parts_of_lead cp h (to_mapped at word e m r stands value) =
      inr (record { word = word; expression = e; symbol = m; permission = r; form = refl; holder = refl; stands = stands; value = value })
  parts_of_lead cp h (to_named word n stands) = inl (record { word = word; symbol = n; is = refl; holder = refl; stands = stands })

-- a class list is no word
pub form_no_leaf : (cp : Term ScopedWord) (word : ScopedWord) (e : Term ScopedWord) (w : ScopedWord) → class_form cp ≡ Some (word, e) → leaf_of cp ≡ Some w → ⊥
form_no_leaf (Leaf v) word e w form leaf = none-some (word, e) form
form_no_leaf (Name at bytes) word e w form leaf = none-some w leaf
form_no_leaf (Form at op parts) word e w form leaf = none-some w leaf

module _ (k : Known) (xs : List Item) (names : Kind → List (List ℕ)) (known : IsKnown k xs names) (nodes : List Node) (are : AreNodes k nodes) where
  -- nothing is led to
  pub none_led : (cp : Term ScopedWord) (from : List ℕ) → from ≡ [] → ((v : ℕ) (h : Holder) → IsNodeIn k nodes v h → Leads xs (enabled_in k) cp h → ⊥) → AreLed k xs nodes cp from
  none_led cp from none never = record {
    leads = λ v h is. (λ leads. absurd (never v h is leads), λ c. absurd (contains_none v (subst (λ l. Contains l v) none c)));
    are_nodes = λ v c. absurd (contains_none v (subst (λ l. Contains l v) none c));
  }

  -- a term that is no word and no class list
  pub led_nowhere : (cp : Term ScopedWord) (from : List ℕ) → from ≡ [] → leaf_of cp ≡ None → class_form cp ≡ None → AreLed k xs nodes cp from
  led_nowhere cp from none leaf form = none_led cp from none (λ v h is leads. elim (parts_of_lead xs (enabled_in k) cp h leads) [
    | inl by_name ↦ none-some by_name.word (sym leaf ∙ by_name.is)
    | inr by_map ↦ none-some (by_map.word, by_map.expression) (sym form ∙ by_map.form)
  ])

  -- a word that names no class permission
  pub unnamed : (w : ScopedWord) (from : List ℕ) → from ≡ [] → StandsForNothing xs (enabled_in k) kinds.ClassPermission w → AreLed k xs nodes (Leaf w) from
  unnamed w from none nothing = none_led (Leaf w) from none (λ v h is leads. elim (parts_of_lead xs (enabled_in k) (Leaf w) h leads) [
    | inl by_name ↦ nothing by_name.symbol (subst (λ u. StandsFor xs (enabled_in k) kinds.ClassPermission u by_name.symbol) (sym (same_Some w by_name.word by_name.is)) by_name.stands)
    | inr by_map ↦ none-some (by_map.word, by_map.expression) by_map.form
  ])

  entry_itself : (kind : Kind) (w : ScopedWord) (d : ℕ) (for : IsEntryFor k xs kind w d) (t : Symbol) → t ≡ symbol_of k.lookup.namespaces.now for.entry
      → IsEntryOf k.lookup.namespaces.now k.lookup.names.now kind d t
  entry_itself kind w d for t is = record { entry = for.entry; at = for.at; of_kind = for.of_kind; symbol = sym is }

  -- the node of a class permission that a word names
  module _ (w : ScopedWord) (d : ℕ) (for : IsEntryFor k xs kinds.ClassPermission w d) where
    abbrev named_node : Node
    named_node = record { entry = d; number = 0 }

    its_named_node : (v : ℕ) (h : Holder) (is : IsNodeIn k nodes v h) → Leads xs (enabled_in k) (Leaf w) h → is.node ≡ named_node
    its_named_node v h is leads = elim (parts_of_lead xs (enabled_in k) (Leaf w) h leads) [
      | inl by_name ↦
          let stands = subst (λ u. StandsFor xs (enabled_in k) kinds.ClassPermission u by_name.symbol) (sym (same_Some w by_name.word by_name.is)) by_name.stands in
          let one = for.only_symbol by_name.symbol stands in
          let node = subst (StandsAs k.lookup.namespaces.now k.lookup.names.now k.permissions.now is.node) by_name.holder is.stands in
          let same : is.node.entry ≡ d =
          same_entry k.lookup.namespaces.now k.lookup.names.now known.namespaces known.entries.ordered kinds.ClassPermission signs.ClassPermissions refl is.node.entry d by_name.symbol node.0
          (entry_itself kinds.ClassPermission w d for by_name.symbol one) in
          same_node is.node named_node same node.1
      | inr by_map ↦ absurd (none-some (by_map.word, by_map.expression) by_map.form)
    ]

    named_by : (h : Holder) (n : Node) → StandsAs k.lookup.namespaces.now k.lookup.names.now k.permissions.now n h → n.entry ≡ d → Leads xs (enabled_in k) (Leaf w) h
    named_by (named c) n stands same =
        let one : for.entry ≡ stands.0.entry = same_Some for.entry stands.0.entry (sym for.at ∙ ap (slice_get k.lookup.names.now) (sym same) ∙ stands.0.at) in
        to_named w c (subst (StandsFor xs (enabled_in k) kinds.ClassPermission w) (ap (symbol_of k.lookup.namespaces.now) one ∙ stands.0.symbol) for.stands)
    named_by (mapped m r) n stands same =
        let one : for.entry ≡ stands.0.entry = same_Some for.entry stands.0.entry (sym for.at ∙ ap (slice_get k.lookup.names.now) (sym same) ∙ stands.0.at) in
        absurd (let kinds_differ : kinds.ClassPermission ≡ kinds.ClassMap = sym for.of_kind ∙ ap (λ (x : Entry). x.kind) one ∙ stands.0.of_kind in cc)

    -- nobody gives it anything
    pub not_given : (from : List ℕ) → from ≡ [] → ((v : ℕ) → slice_get nodes v ≡ Some named_node → ⊥) → AreLed k xs nodes (Leaf w) from
    not_given from none never = none_led (Leaf w) from none (λ v h is leads. never v (is.at ∙ ap Some (its_named_node v h is leads)))

    pub led_by_name : IsStrictlySortedBy node_cmp nodes → (v : ℕ) → slice_get nodes v ≡ Some named_node → (from : List ℕ) → from ≡ v ∷ [] → AreLed k xs nodes (Leaf w) from
    led_by_name rising v at from is_from = record {
      leads = λ u h is. (
        λ leads. subst (Contains from) (sym (one_place nodes rising u v named_node (is.at ∙ ap Some (its_named_node u h is leads)) at)) here,
        λ c.
            let node = same_Some is.node named_node (sym is.at ∙ ap (slice_get nodes) (only u c) ∙ at) in
            named_by h is.node is.stands (ap (λ (n : Node). n.entry) node),
      );
      are_nodes = λ u c.
          let (h, stands) = are v named_node at in
          (h, record { node = named_node; at = ap (slice_get nodes) (only u c) ∙ at; stands = stands });
    }
      where
        here : Contains from v
        here = subst (λ l. Contains l v) (sym is_from) (contains_here v [])

        only : (u : ℕ) → Contains from u → u ≡ v
        only u c = elim (contains_cases u v [] (subst (λ l. Contains l u) is_from c)) [ inl same ↦ sym same | inr none ↦ absurd (contains_none u none) ]

  -- ---- a list on a class map

  module _ (cp : Term ScopedWord) (word : ScopedWord) (expression : Term ScopedWord) (form : class_form cp ≡ Some (word, expression)) where
    its_lead : (h : Holder) → Leads xs (enabled_in k) cp h → (m : Symbol) × (r : List ℕ) × (h ≡ mapped m r) × StandsFor xs (enabled_in k) kinds.ClassMap word m
        × (in_value (has_permission xs m) expression r ≡ true)
    its_lead h leads = elim (parts_of_lead xs (enabled_in k) cp h leads) [
      | inl by_name ↦ absurd (form_no_leaf cp word expression by_name.word form by_name.is)
      | inr by_map ↦
          let same = same_Some (by_map.word, by_map.expression) (word, expression) (sym by_map.form ∙ form) in (
            by_map.symbol,
            by_map.permission,
            by_map.holder,
            subst (λ u. StandsFor xs (enabled_in k) kinds.ClassMap u by_map.symbol) (ap (λ p. p.0) same) by_map.stands,
            subst (λ e. in_value (has_permission xs by_map.symbol) e by_map.permission ≡ true) (ap (λ p. p.1) same) by_map.value,
          )
    ]

    -- the class word names no class map
    pub unmapped : (from : List ℕ) → from ≡ [] → StandsForNothing xs (enabled_in k) kinds.ClassMap word → AreLed k xs nodes cp from
    unmapped from none nothing = none_led cp from none (λ v h is leads. let l = its_lead h leads in nothing l.0 l.3)

    module _ (d : ℕ) (for : IsEntryFor k xs kinds.ClassMap word d) (run : Run) (of_entry : IsRunOf nodes d run) where
      -- the node of a holder to which it leads is of this class map
      its_node : (v : ℕ) (h : Holder) (is : IsNodeIn k nodes v h) (m : Symbol) (r : List ℕ) → h ≡ mapped m r → StandsFor xs (enabled_in k) kinds.ClassMap word m
          → (is.node.entry ≡ d) × (slice_get (listed_at k.permissions.now d) is.node.number ≡ Some r)
      its_node v h is m r holder stands =
          let node = subst (StandsAs k.lookup.namespaces.now k.lookup.names.now k.permissions.now is.node) holder is.stands in
          let same : is.node.entry ≡ d =
          same_entry k.lookup.namespaces.now k.lookup.names.now known.namespaces known.entries.ordered kinds.ClassMap signs.ClassMaps refl is.node.entry d m node.0
          (entry_itself kinds.ClassMap word d for m (for.only_symbol m stands)) in
          (same, subst (λ j. slice_get (listed_at k.permissions.now j) is.node.number ≡ Some r) same node.1)

      -- nobody gives anything to a permission of the class map
      pub no_run : (from : List ℕ) → from ≡ [] → run.end ≤ run.start → AreLed k xs nodes cp from
      no_run from none empty = none_led cp from none (λ v h is leads.
          let (m, r, holder, stands, value) = its_lead h leads in
          let m = of_entry.in_run v is.node is.at (its_node v h is m r holder stands).0 in
          let low = m.0 in
          let high = m.1 in
          omega (arith, low, high, empty))

      module _ (is_form : (at : Spot) × (cp ≡ Form at ops.ClassPermissions (cons (Leaf word) (cons expression nil)))) (within : run.end ≤ length nodes) (from : List ℕ)
          (all : (v : ℕ) → Contains from v ↔ ((run.start ≤ v) × (v < run.end) × IsHeldAt (listed_at k.permissions.now d) nodes expression v)) where
        to_mapped_node : (v : ℕ) (h : Holder) → IsNodeIn k nodes v h → Leads xs (enabled_in k) cp h → Contains from v
        to_mapped_node v h is leads =
            let (m, r, holder, stands, value) = its_lead h leads in
            let (same, at) = its_node v h is m r holder stands in
            let run_has = of_entry.in_run v is.node is.at same in
            (all v).1 (
              run_has.0,
              run_has.1,
              record {
                node = is.node;
                at = is.at;
                permission = r;
                is_permission = at;
                value = (and_parts (has_permission xs m r) (in_value_there expression r) (sym (value_there (has_permission xs m) expression r) ∙ value)).1;
              },
            )

        mapped_by : (h : Holder) (v : ℕ) (is : IsNodeIn k nodes v h) → is.node.entry ≡ d → IsHeldAt (listed_at k.permissions.now d) nodes expression v → Leads xs (enabled_in k) cp h
        mapped_by (named c) v is same held =
            let one : for.entry ≡ is.stands.0.entry = same_Some for.entry is.stands.0.entry (sym for.at ∙ ap (slice_get k.lookup.names.now) (sym same) ∙ is.stands.0.at) in
            absurd (let kinds_differ : kinds.ClassMap ≡ kinds.ClassPermission = sym for.of_kind ∙ ap (λ (x : Entry). x.kind) one ∙ is.stands.0.of_kind in cc)
        mapped_by (mapped m r) v is same held =
            let one : for.entry ≡ is.stands.0.entry = same_Some for.entry is.stands.0.entry (sym for.at ∙ ap (slice_get k.lookup.names.now) (sym same) ∙ is.stands.0.at) in
            let symbol : symbol_of k.lookup.namespaces.now for.entry ≡ m = ap (symbol_of k.lookup.namespaces.now) one ∙ is.stands.0.symbol in
            let here : slice_get (listed_at k.permissions.now d) is.node.number ≡ Some r = subst (λ j. slice_get (listed_at k.permissions.now j) is.node.number ≡ Some r) same is.stands.1 in
            let node_same : held.node ≡ is.node = same_Some held.node is.node (sym held.at ∙ is.at) in
            let permission_same : held.permission ≡ r =
            same_Some held.permission r (sym held.is_permission ∙ ap (λ (n : Node). slice_get (listed_at k.permissions.now d) n.number) node_same ∙ here) in
            let has : has_permission xs m r ≡ true =
            subst (λ (t : Symbol). has_permission xs t r ≡ true) symbol
            (((its_permissions k xs names known word d for.entry for.means for.at (ap (is_wanted signs.Classes) for.of_kind)).members r).0 (get_contains (listed_at k.permissions.now d) is.node.number r here)) in
            subst (λ t. Leads xs (enabled_in k) t (mapped m r)) (sym is_form.1)
            (to_mapped is_form.0 word expression m r (subst (StandsFor xs (enabled_in k) kinds.ClassMap word) symbol for.stands)
            (value_there (has_permission xs m) expression r ∙ and_from (has_permission xs m r) (in_value_there expression r) has (subst (λ p. in_value_there expression p ≡ true) permission_same held.value)))

        pub led_by_map : AreLed k xs nodes cp from
        led_by_map = record {
          leads = λ v h is. (
            to_mapped_node v h is,
            λ c. let m = (all v).0 c in mapped_by h v is (of_entry.of_entry v is.node m.0 m.1 is.at) m.2,
          );
          are_nodes = λ v c.
              let m = (all v).0 c in
              let less = m.1 in
              let (n, at) = some_at nodes v (omega (arith, less, within)) in
              let (h, stands) = are v n at in
              (h, record { node = n; at = at; stands = stands });
        }
