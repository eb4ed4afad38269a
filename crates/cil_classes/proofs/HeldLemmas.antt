-- The masks that are kept say what is given to class permissions and to permissions of class maps.
use Rattle.std.specs.Prelude.{All, Contains, IsBitSet}
use Rattle.std.specs.List.Retain.{DiffersFromLast, IsFiltered}
use Rattle.std.specs.List.Sorted.{IsPermutation, IsSorted, IsStrictlySortedBy}
use Rattle.std.specs.Ordering.{eq_by_cmp, nat_cmp}
use Rattle.std.proofs.Common.{◌≡◌, ℕ, ◌+◌, ◌<◌, ◌≤◌, Bool, List, [], ◌∷◌, ◌++◌, get_or, length, map, take, sym, ◌∙◌, ap, subst, inl, inr, arith}
use Rattle.std.proofs.lemmas.List.{get_or_default, map-append, take_all, take_more}
use Rattle.std.proofs.lemmas.List.Elements.{Contains-append_cases, Contains-append_left, Contains-append_right}
use Rattle.std.proofs.Math.Dec.{eqb}
use Rattle.std.proofs.lemmas.Bool.Decides.{nat_tests}
use Rattle.std.proofs.lemmas.Cmp.{nat_cmp_total}
use Rattle.cil_base.proofs.SortedLists.{sorted_list}
use Rattle.cil_base.specs.Paths.{same_by}
use Rattle.cil_base.specs.Lists.{Lists, contains_cases, contains_here, contains_none}
use Rattle.cil_base.specs.MadeLists.{from_map}
use Rattle.cil_base.specs.Places.{in_range}
use Rattle.cil_base.specs.Records.{AreRecordsOf}
use Rattle.cil_syntax.specs.declared.kind.Kind.{Kind}
use Rattle.cil_macros.specs.Item.{Item}
use Rattle.cil_known.specs.declared.known.Known.{Known}
use Rattle.cil_known.specs.Known.{IsKnown, enabled_in}
use Rattle.cil_classes.specs.declared.assigned.Given.{Given}
use Rattle.cil_classes.specs.declared.held.ClassMasks.{ClassMasks}
use Rattle.cil_classes.specs.declared.held.GivenPermissions.{GivenPermissions}
use Rattle.cil_classes.specs.declared.nodes.Node.{Node}
use Rattle.cil_classes.specs.declared.row.Class.{Class}
use Rattle.cil_classes.specs.Assigned.{AreMasks, Has, IsWithin, own, through}
use Rattle.cil_classes.specs.Given.{Holder}
use Rattle.cil_classes.specs.Givings.{GivesTo, IsGivenFor}
use Rattle.cil_classes.specs.Held.{AreHeld, IsAssigned}
use Rattle.cil_classes.specs.NodeOrder.{node_cmp}
use Rattle.cil_classes.specs.Nodes.{IsBitOf, IsNodeIn}
use Rattle.cil_classes.specs.Parts.{AreNodes}
use Rattle.cil_classes.specs.Tied.{AreGivens}
use Rattle.cil_classes.proofs.BitLemmas.{none_set}
use Rattle.cil_classes.proofs.GivensLemmas.{are_givens}
use Rattle.cil_classes.proofs.TiedLemmas.{exact, has_bit_of, root_of}

-- ---- class by class

-- before the first class
pub none_yet : (givens : List Given) (count : ℕ) (held : List ClassMasks) → held ≡ []
    → (map (λ (h : ClassMasks). h.class) held ≡ []) × ((h : ClassMasks) → Contains held h → AreMasks givens h.class count h.masks.items)
none_yet givens count held e =
    (ap (map (λ (h : ClassMasks). h.class)) e, λ h there. absurd (contains_none h (subst (λ (hs : List ClassMasks). Contains hs h) e there)))

pub one_held : (givens : List Given) (count : ℕ) (old new : List ClassMasks) (one : ClassMasks) → new ≡ old ++ one ∷ [] → ((h : ClassMasks) → Contains old h → AreMasks givens h.class count h.masks.items)
    → AreMasks givens one.class count one.masks.items → (h : ClassMasks) → Contains new h → AreMasks givens h.class count h.masks.items
one_held givens count old new one push all is h c =
    elim (Contains-append_cases old (one ∷ []) h (subst (λ l. Contains l h) push c)) [
      | inl before ↦ all h before
      | inr last ↦ elim (contains_cases h one [] last) [
        | inl same ↦ subst (λ (m : ClassMasks). AreMasks givens m.class count m.masks.items) same is
        | inr none ↦ absurd (contains_none h none)
      ]
    ]

pub classes_pushed : (classes : List ℕ) (i d : ℕ) (old new : List ClassMasks) (one : ClassMasks) → i < length classes → one.class ≡ get_or classes i d → new ≡ old ++ one ∷ []
    → map (λ (h : ClassMasks). h.class) old ≡ take i classes → map (λ (h : ClassMasks). h.class) new ≡ take (i + 1) classes
classes_pushed classes i d old new one within is push so =
    ap (map (λ (h : ClassMasks). h.class)) push
    ∙ map-append (λ (h : ClassMasks). h.class) old (one ∷ [])
    ∙ ap (λ l. l ++ one.class ∷ []) so
    ∙ ap (λ c. take i classes ++ c ∷ []) is
    ∙ sym (take_more classes i d within)

pub are_held : (givens : List Given) (count i : ℕ) (classes : List ℕ) (held : List ClassMasks) → length classes ≤ i → map (λ (h : ClassMasks). h.class) held ≡ take i classes
    → ((h : ClassMasks) → Contains held h → AreMasks givens h.class count h.masks.items) → IsStrictlySortedBy nat_cmp classes
    → ((g : Given) → Contains givens g → (g.part.mask ≡ 0 → ⊥) → Contains classes g.part.class) → AreHeld givens count held
are_held givens count i classes held over named each rising all =
    let whole : map (λ (h : ClassMasks). h.class) held ≡ classes = named ∙ take_all i classes over in
    record {
      rising = subst (IsStrictlySortedBy nat_cmp) (sym whole) rising;
      each = each;
      all = λ g c some. from_map (λ (h : ClassMasks). h.class) held g.part.class (subst (λ l. Contains l g.part.class) (sym whole) (all g c some));
    }

-- ---- all of them

module _ (k : Known) (xs : List Item) (names : Kind → List (List ℕ)) (known : IsKnown k xs names) (rows : List Class) (nodes : List Node) (rising : IsStrictlySortedBy node_cmp nodes) (givens : List Given)
    (are : AreRecordsOf (GivesTo xs (enabled_in k)) (IsGivenFor k xs rows nodes) xs givens) where
  givens_are : AreGivens xs (enabled_in k) (IsNodeIn k nodes) (IsBitOf xs (enabled_in k) rows) givens
  givens_are = are_givens k xs names known rows nodes rising givens are

  -- what is given goes to nodes
  pub to_nodes : All (IsWithin (length nodes)) givens
  to_nodes i d within =
      let (h, cp, given, node, part) = givens_are.only (get_or givens i d) (i, within, get_or_default givens i _ d within) in
      in_range nodes (get_or givens i d).to node.node node.at

  has_node : (class_ v bit : ℕ) → Has givens class_ v bit → (h : Holder) × IsNodeIn k nodes v h
  has_node class_ v bit (own g b cg same set) = let (h, cp, given, node, part) = givens_are.only g cg in (h, node)
  has_node class_ v bit (through g u b cg cu has) = let (h, cp, given, node, part) = givens_are.only g cg in (h, node)

  pub all_assigned : (a : GivenPermissions) → a.nodes.items ≡ nodes → AreNodes k nodes → AreHeld givens (length nodes) a.held.items → IsAssigned k xs rows a
  all_assigned a is_nodes are_nodes held = record {
    nodes_rise = subst (IsStrictlySortedBy node_cmp) (sym is_nodes) rising;
    are_nodes = subst (AreNodes k) (sym is_nodes) are_nodes;
    rising = held.rising;
    said = λ h v bit c set.
        let has = ((held.each h c).bits v bit).0 set in
        let (holder, node) = has_node h.class v bit has in
        let (symbol, p, is_bit) = has_bit_of xs (enabled_in k) (IsNodeIn k nodes) (IsBitOf xs (enabled_in k) rows) givens givens_are h.class v bit has in
        record {
          holder = holder;
          symbol = symbol;
          permission = p;
          node = subst (λ ns. IsNodeIn k ns v holder) (sym is_nodes) node;
          is_bit = is_bit;
          holds = (exact xs (enabled_in k) (IsNodeIn k nodes) (IsBitOf xs (enabled_in k) rows) givens givens_are v h.class bit holder symbol p node is_bit).0 has;
        };
    bits = λ h v bit holder symbol p c node is_bit holds.
        ((held.each h c).bits v bit).1
        ((exact xs (enabled_in k) (IsNodeIn k nodes) (IsBitOf xs (enabled_in k) rows) givens givens_are v h.class bit holder symbol p (subst (λ ns. IsNodeIn k ns v holder) is_nodes node) is_bit).1 holds);
    all = λ holder symbol p there holds.
        let (g, cg, node, part) = givens_are.each holder holds.given holds.is_given there in
        let root = root_of xs (enabled_in k) (IsNodeIn k nodes) (IsBitOf xs (enabled_in k) rows) givens givens_are holder symbol p holds.given there holds.is_given holds.gives in
        let (h, ch, same) = held.all root.given root.among (λ zero. none_set root.bit (subst (λ j. IsBitSet j root.bit) zero root.set)) in (
          (g.to, subst (λ ns. IsNodeIn k ns g.to holder) (sym is_nodes) node),
          record { masks = h; among = ch; bit = root.bit; is_bit = subst (λ n. IsBitOf xs (enabled_in k) rows n root.bit symbol p) (sym same) root.is_bit },
        );
  }

-- ---- the classes

pub more_classes : (givens : List Given) (i : ℕ) (g : Given) (old new : List ℕ) → i < length givens → g ≡ get_or givens i g
    → ((h : Given) → Contains (take i givens) h → (h.part.mask ≡ 0 → ⊥) → Contains old h.part.class) → ((class_ : ℕ) → Contains old class_ → Contains new class_)
    → ((g.part.mask ≡ 0 → ⊥) → Contains new g.part.class) → (h : Given) → Contains (take (i + 1) givens) h → (h.part.mask ≡ 0 → ⊥) → Contains new h.part.class
more_classes givens i g old new within is so kept added h c some =
    elim (Contains-append_cases (take i givens) (g ∷ []) h (subst (λ l. Contains l h) (take_more givens i g within ∙ ap (λ x. take i givens ++ x ∷ []) (sym is)) c)) [
      | inl before ↦ kept h.part.class (so h before some)
      | inr last ↦ elim (contains_cases h g [] last) [
        | inl same ↦ subst (λ (x : Given). Contains new x.part.class) same (added (λ zero. some (ap (λ (x : Given). x.part.mask) (sym same) ∙ zero)))
        | inr none ↦ absurd (contains_none h none)
      ]
    ]

pub class_kept : (old new : List ℕ) (d : ℕ) → new ≡ old ++ d ∷ [] → (other : ℕ) → Contains old other → Contains new other
class_kept old new d push other there = subst (λ l. Contains l other) (sym push) (Contains-append_left old (d ∷ []) other there)

pub class_added : (old new : List ℕ) (d : ℕ) → new ≡ old ++ d ∷ [] → Contains new d
class_added old new d push = subst (λ l. Contains l d) (sym push) (Contains-append_right old (d ∷ []) d (contains_here d []))

tests_agree : (a b : ℕ) → eqb a b ≡ eq_by_cmp nat_cmp a b
tests_agree a b = grind (arith, nat_tests)

-- numbers are equal where they tie
pub as_filtered : (ys zs : List ℕ) → IsFiltered (DiffersFromLast eqb) [] ys zs → IsFiltered (DiffersFromLast (eq_by_cmp nat_cmp)) [] ys zs
as_filtered ys zs kept = subst (λ (same : ℕ → ℕ → Bool). IsFiltered (DiffersFromLast same) [] ys zs) (λ i a b. tests_agree a b i) kept

classes_listed : (raw ys zs : List ℕ) → IsPermutation raw ys → IsSorted nat_cmp ys → IsFiltered (DiffersFromLast (eq_by_cmp nat_cmp)) [] ys zs → Lists nat_cmp (Contains raw) zs
classes_listed raw ys zs moved sorted kept = sorted_list nat_cmp nat_cmp_total (λ a b e. same_by a b e) raw ys zs moved sorted kept

pub classes_rise : (raw ys zs : List ℕ) → IsPermutation raw ys → IsSorted nat_cmp ys → IsFiltered (DiffersFromLast (eq_by_cmp nat_cmp)) [] ys zs → IsStrictlySortedBy nat_cmp zs
classes_rise raw ys zs moved sorted kept = (classes_listed raw ys zs moved sorted kept).rising

pub all_classes : (givens : List Given) (i : ℕ) (raw ys zs : List ℕ) → IsPermutation raw ys → IsSorted nat_cmp ys → IsFiltered (DiffersFromLast (eq_by_cmp nat_cmp)) [] ys zs → length givens ≤ i
    → ((h : Given) → Contains (take i givens) h → (h.part.mask ≡ 0 → ⊥) → Contains raw h.part.class) → (h : Given) → Contains givens h → (h.part.mask ≡ 0 → ⊥) → Contains zs h.part.class
all_classes givens i raw ys zs moved sorted kept over so h c some =
    ((classes_listed raw ys zs moved sorted kept).members h.part.class).1 (so h (subst (λ l. Contains l h) (sym (take_all i givens over)) c) some)
