-- The nodes of what statements give something to, and what they give, as lists.
use Rattle.std.specs.Prelude.{Contains, IsPermutation, Option, Some, None, slice_get}
use Rattle.std.specs.List.Retain.{DiffersFromLast, IsFiltered}
use Rattle.std.specs.List.Sorted.{IsSorted, IsStrictlySortedBy}
use Rattle.std.specs.Global.{Vec}
use Rattle.std.specs.Option.{option_map_or}
use Rattle.std.specs.Ordering.{eq_by_cmp}
use Rattle.std.proofs.Common.{◌≡◌, ℕ, true, List, [], refl, sym, ◌∙◌, ap, subst}
use Rattle.std.proofs.lemmas.Option.{none-some, same_Some}
use Rattle.cil_base.proofs.SortedLists.{sorted_list}
use Rattle.cil_base.specs.Lists.{Lists, text_cmp}
use Rattle.cil_base.specs.declared.bytes.Bytes.{Bytes}
use Rattle.cil_base.specs.Places.{get_at, get_contains}
use Rattle.cil_base.specs.Records.{AreRecordsOf, IsRecordOf}
use Rattle.cil_syntax.specs.Kinds.{is_wanted}
use Rattle.cil_syntax.specs.declared.kind.Kind.{Kind}
use Rattle.cil_syntax.specs.declared.kind.Kind.TheVariants as kinds
use Rattle.cil_syntax.specs.declared.kind.Sign.TheVariants as signs
use Rattle.cil_syntax.specs.declared.term.Word.{Word}
use Rattle.cil_syntax.specs.Scopes.{ScopedWord}
use Rattle.cil_syntax.specs.Terms.{Term}
use Rattle.cil_macros.specs.Item.{Item, OptSet, is_enabled}
use Rattle.cil_names.specs.Declarations.{Symbol}
use Rattle.cil_names.specs.declared.entry.Entry.{Entry}
use Rattle.cil_known.specs.declared.known.Known.{Known}
use Rattle.cil_known.specs.Known.{IsKnown, enabled_in}
use Rattle.cil_names.specs.Symbols.{symbol_of}
use Rattle.cil_names.specs.Unresolved.{listed_at, term_with}
use Rattle.cil_names.specs.Resolves.{has_permission}
use Rattle.cil_classes.specs.declared.assigned.Given.{Given}
use Rattle.cil_classes.specs.declared.givens.Giving.{Giving}
use Rattle.cil_classes.specs.declared.nodes.Node.{Node}
use Rattle.cil_classes.specs.declared.row.Class.{Class}
use Rattle.cil_classes.specs.Given.{Holder, IsGiven, by_mapping, by_set, mapped, named}
use Rattle.cil_classes.specs.Givings.{GivesTo, HaveNodes, IsGivenBy, IsGivenFor, IsGivingOf, IsNodeFor}
use Rattle.cil_classes.specs.NodeOrder.{node_cmp, node_total, one_node, same_node}
use Rattle.cil_classes.specs.Nodes.{IsBitOf, IsEntryOf, IsNodeIn, StandsAs}
use Rattle.cil_classes.specs.Parts.{AreNodes, IsPartIn}
use Rattle.cil_classes.specs.Tied.{AreGivens, IsThere}
use Rattle.cil_classes.proofs.AlikeLemmas.{part_alike}
use Rattle.cil_classes.proofs.EntryForLemmas.{same_entry}
use Rattle.cil_classes.proofs.NodeLemmas.{one_place}
use Rattle.cil_classes.proofs.ValueLemmas.{apart}
use Rattle.cil_classes.proofs.WidthLemmas.{listed_are}

-- ---- nodes and holders are one to one

module _ (k : Known) (xs : List Item) (names : Kind → List (List ℕ)) (known : IsKnown k xs names) where
  entry_same : (n : Node) (a b : Kind) (c d : Symbol) (first : IsEntryOf k.lookup.namespaces.now k.lookup.names.now a n.entry c) (second : IsEntryOf k.lookup.namespaces.now k.lookup.names.now b n.entry d)
      → first.entry ≡ second.entry
  entry_same n a b c d first second = same_Some first.entry second.entry (sym first.at ∙ second.at)

  one_holder_of : (n : Node) (h g : Holder) → StandsAs k.lookup.namespaces.now k.lookup.names.now k.permissions.now n h → StandsAs k.lookup.namespaces.now k.lookup.names.now k.permissions.now n g → h ≡ g
  one_holder_of n (named c) (named d) a b = ap named (sym a.0.symbol ∙ ap (symbol_of k.lookup.namespaces.now) (entry_same n kinds.ClassPermission kinds.ClassPermission c d a.0 b.0) ∙ b.0.symbol)
  one_holder_of n (mapped m r) (mapped l q) a b =
      ap (λ t. mapped t r) (sym a.0.symbol ∙ ap (symbol_of k.lookup.namespaces.now) (entry_same n kinds.ClassMap kinds.ClassMap m l a.0 b.0) ∙ b.0.symbol) ∙ ap (mapped l) (same_Some r q (sym a.1 ∙ b.1))
  one_holder_of n (named c) (mapped m r) a b =
      absurd (let e : kinds.ClassPermission ≡ kinds.ClassMap = sym a.0.of_kind ∙ ap (λ (x : Entry). x.kind) (entry_same n kinds.ClassPermission kinds.ClassMap c m a.0 b.0) ∙ b.0.of_kind in cc)
  one_holder_of n (mapped m r) (named c) a b =
      absurd (let e : kinds.ClassMap ≡ kinds.ClassPermission = sym a.0.of_kind ∙ ap (λ (x : Entry). x.kind) (entry_same n kinds.ClassMap kinds.ClassPermission m c a.0 b.0) ∙ b.0.of_kind in cc)

  pub one_node_of : (a b : Node) (h : Holder) → StandsAs k.lookup.namespaces.now k.lookup.names.now k.permissions.now a h → StandsAs k.lookup.namespaces.now k.lookup.names.now k.permissions.now b h → a ≡ b
  one_node_of a b (named c) first second =
      same_node a b (same_entry k.lookup.namespaces.now k.lookup.names.now known.namespaces known.entries.ordered kinds.ClassPermission signs.ClassPermissions refl a.entry b.entry c first.0 second.0)
      (first.1 ∙ sym second.1)
  one_node_of a b (mapped m r) first second =
      let entry = same_entry k.lookup.namespaces.now k.lookup.names.now known.namespaces known.entries.ordered kinds.ClassMap signs.ClassMaps refl a.entry b.entry m first.0 second.0 in
      let here : slice_get (listed_at k.permissions.now b.entry) a.number ≡ Some r = subst (λ j. slice_get (listed_at k.permissions.now j) a.number ≡ Some r) entry first.1 in
      same_node a b entry (apart (listed_at k.permissions.now b.entry) (rising_at_entry b.entry b.number r second.1) a.number b.number r here second.1)
    where
      rising_at_entry : (d n : ℕ) (p : List ℕ) → slice_get (listed_at k.permissions.now d) n ≡ Some p → IsStrictlySortedBy text_cmp (listed_at k.permissions.now d)
      rising_at_entry d n p at = by_option (slice_get k.permissions.now d) refl at
        where
          by_option : (o : Option (Vec Bytes)) → slice_get k.permissions.now d ≡ o → slice_get (option_map_or (λ (v : Vec Bytes). v.items) o []) n ≡ Some p
              → IsStrictlySortedBy text_cmp (listed_at k.permissions.now d)
          by_option None e got = absurd (none-some p got)
          by_option (Some v) e got =
              subst (IsStrictlySortedBy text_cmp) (sym (ap (λ o. option_map_or (λ (w : Vec Bytes). w.items) o []) e)) (known.permissions.rising v (get_contains k.permissions.now d v e))

  -- a holder of a node is there
  there_of : (n : Node) (h : Holder) → StandsAs k.lookup.namespaces.now k.lookup.names.now k.permissions.now n h → IsThere xs (enabled_in k) h
  there_of n (named c) stands = tt
  there_of n (mapped m r) stands =
      subst (λ t. has_permission xs t r ≡ true) stands.0.symbol
      (((listed_are k.permissions.now n.entry k.lookup.namespaces.now k.lookup.names.now xs known.permissions stands.0.entry stands.0.at (ap (is_wanted signs.Classes) stands.0.of_kind)).members r).0
      (get_contains (listed_at k.permissions.now n.entry) n.number r stands.1))

-- ---- the nodes

-- one statement
pub node_recorded : (k : Known) (xs : List Item) (f : Word → ScopedWord) (x : Item) (r : Giving) → IsGivingOf k xs f x r → IsRecordOf (GivesTo xs (enabled_in k)) (IsNodeFor k) x (Some r.node)
node_recorded k xs f x r is = ((is.gift, is.by), λ g gives. subst (λ j. IsNodeFor k j r.node) (sym (is.only g gives)) is.node)

module _ (k : Known) (xs : List Item) (raw : List Node) (are : AreRecordsOf (GivesTo xs (enabled_in k)) (IsNodeFor k) xs raw) (ys zs : List Node) (moved : IsPermutation raw ys) (sorted : IsSorted node_cmp ys)
    (kept : IsFiltered (DiffersFromLast (eq_by_cmp node_cmp)) [] ys zs) where
  list : Lists node_cmp (Contains raw) zs
  list = sorted_list node_cmp node_total one_node raw ys zs moved sorted kept

  pub they_are_nodes : AreNodes k zs
  they_are_nodes v n at =
      let o = are.only n ((list.members n).0 (get_contains zs v n at)) in (o.1.holder, o.4)

  pub they_have_nodes : HaveNodes k xs zs
  they_have_nodes x g c gives =
      let e = are.each x g c gives in (e.0, (list.members e.0).1 e.2, e.1)

pub nodes_rise : (raw ys zs : List Node) → IsPermutation raw ys → IsSorted node_cmp ys → IsFiltered (DiffersFromLast (eq_by_cmp node_cmp)) [] ys zs → IsStrictlySortedBy node_cmp zs
nodes_rise raw ys zs moved sorted kept = (sorted_list node_cmp node_total one_node raw ys zs moved sorted kept).rising

-- ---- what is given

module _ (k : Known) (xs : List Item) (names : Kind → List (List ℕ)) (known : IsKnown k xs names) (rows : List Class) (nodes : List Node) (f : Word → ScopedWord) (x : Item) (r : Giving)
    (is : IsGivingOf k xs f x r) where
  -- what gives something, gives it to a node
  pub has_a_place : HaveNodes k xs nodes → Contains xs x → ((v : ℕ) → slice_get nodes v ≡ Some r.node → ⊥) → ⊥
  has_a_place all c none =
      let (n, among, stands) = all x is.gift c is.by in
      let (v, below, at) = get_at nodes n among in
      none v (at ∙ ap Some (one_node_of k xs names known n r.node is.gift.holder stands is.node))

  pub given_recorded : (given : Given) → slice_get nodes given.to ≡ Some r.node → IsPartIn k xs rows nodes given.part (term_with f r.«module» r.term.now)
      → IsRecordOf (GivesTo xs (enabled_in k)) (IsGivenFor k xs rows nodes) x (Some given)
  given_recorded given at part = (
    (is.gift, is.by),
    λ g gives. subst (λ j. IsGivenFor k xs rows nodes j given) (sym (is.only g gives))
        (record { node = r.node; at = at; stands = is.node }, part_alike xs (enabled_in k) (IsNodeIn k nodes) (IsBitOf xs (enabled_in k) rows) given.part (term_with f r.«module» r.term.now) is.gift.term (sym is.term) part),
  )

-- ---- all of them

module _ (xs : List Item) (s : OptSet) where
  -- a statement that gives something, among all
  from_given : (h : Holder) (cp : Term ScopedWord) → IsGiven xs s h cp → IsThere xs s h → (x : Item) × Contains xs x × GivesTo xs s x (record { holder = h; term = cp })
  from_given h cp (by_set word t n says stands) there = (
    says.item,
    says.is_item,
    record { enabled = says.enabled; there = there; given = (word, says.is_keyword, says.says, stands) },
  )
  from_given h cp (by_mapping word permission t m says stands) there = (
    says.item,
    says.is_item,
    record { enabled = says.enabled; there = there; given = (word, permission, says.is_keyword, says.says, stands, refl) },
  )

  to_given : (x : Item) (h : Holder) (cp : Term ScopedWord) → Contains xs x → is_enabled s x ≡ true → IsGivenBy xs s x h cp → IsGiven xs s h cp
  to_given x (named n) cp c enabled given =
      by_set given.0 cp n (record { item = x; is_item = c; enabled = enabled; is_keyword = given.1; says = given.2 }) given.3
  to_given x (mapped m r) cp c enabled given =
      subst (λ q. IsGiven xs s (mapped m q) cp) given.5
      (by_mapping given.0 given.1 cp m (record { item = x; is_item = c; enabled = enabled; is_keyword = given.2; says = given.3 }) given.4)

module _ (k : Known) (xs : List Item) (names : Kind → List (List ℕ)) (known : IsKnown k xs names) (rows : List Class) (nodes : List Node) (rising : IsStrictlySortedBy node_cmp nodes) (givens : List Given)
    (are : AreRecordsOf (GivesTo xs (enabled_in k)) (IsGivenFor k xs rows nodes) xs givens) where
  pub are_givens : AreGivens xs (enabled_in k) (IsNodeIn k nodes) (IsBitOf xs (enabled_in k) rows) givens
  are_givens = record {
    each = λ h cp given there.
        let (x, c, gives) = from_given xs (enabled_in k) h cp given there in
        let (g, is, among) = are.each x (record { holder = h; term = cp }) c gives in
        (g, among, is.0, is.1);
    only = λ g c.
        let (x, gift, cx, gives, is) = are.only g c in
        (gift.holder, gift.term, to_given xs (enabled_in k) x gift.holder gift.term cx gives.enabled gives.given, is.0, is.1);
    there = λ v h is. there_of k xs names known is.node h is.stands;
    one_node = λ v u h a b.
        let same = one_node_of k xs names known a.node b.node h a.stands b.stands in
        one_place nodes rising v u b.node (a.at ∙ ap Some same) b.at;
    one_holder = λ v h g a b.
        let same : b.node ≡ a.node = same_Some b.node a.node (sym b.at ∙ a.at) in
        one_holder_of k xs names known a.node h g a.stands (subst (λ n. StandsAs k.lookup.namespaces.now k.lookup.names.now k.permissions.now n g) same b.stands);
  }
