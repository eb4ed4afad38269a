-- Where no set depends on itself, declarations sorted by ranks name only what is made before.
use Rattle.std.proofs.Common.{◌≡◌, ◌↔◌, ℕ, ◌<◌, true, false, List, get_or, length, refl, sym, ◌∙◌, ap, subst, arith}
use Rattle.std.specs.Prelude.{Contains, IsPermutation}
use Rattle.std.specs.List.Sorted.{IsNonDecreasingBy}
use Rattle.std.specs.Option.{option_map_or}
use Rattle.std.proofs.lemmas.List.Sorted.{Contains-permutation, IsPermutation-sym}
use Rattle.cil_base.specs.Places.{get_contains, get_so, in_range}
use Rattle.cil_settle.specs.declared.edge.Edge.{Edge}
use Rattle.cil_settle.specs.Cycles.{Fall, HasNoCycle, Leads, Reaches}
use Rattle.cil_settle.specs.Cycles as paths
use Rattle.cil_faults.specs.Reported.{fault_at}
use Rattle.cil_faults.specs.declared.code.FaultCode.TheVariants as causes
use Rattle.cil_faults.specs.declared.fault.Fault.{Fault}
use Rattle.cil_syntax.specs.declared.kind.Kind.{Kind}
use Rattle.cil_macros.specs.Item.{Item}
use Rattle.cil_macros.specs.Items.{Kept, item_at, items_in}
use Rattle.cil_names.specs.Laws.{MeansWhatItNames}
use Rattle.cil_known.specs.declared.known.Known.{Known}
use Rattle.cil_known.specs.Known.{IsKnown, enabled_in}
use Rattle.cil_mls.specs.attrs.SetFaults.{symbol_under}
use Rattle.cil_mls.specs.CategorySets.{CircularSet}
use Rattle.cil_mls.specs.SetEdges.{DeclaresSet, IsSetEdgeIn, is_set, is_set_at, is_set_kind}
use Rattle.cil_mls.proofs.SetEdgeLemmas.{depends}
use Rattle.cil_levels.specs.declared.definitions.Definition.{Definition}
use Rattle.std.proofs.lemmas.Bool.{true≢false}
use Rattle.cil_names.specs.declared.entry.Entry.{Entry}
use Rattle.cil_mls.specs.declared.categories.Categories.{Categories}
use Rattle.cil_mls.specs.declared.expression.Held.{Held}
use Rattle.cil_mls.specs.declared.expression.Held.TheVariants.{Nothing, Category, Set}
use Rattle.cil_levels.specs.Begun.{IsBegun, IsBegunBy}
use Rattle.cil_levels.specs.Made.{AreDefined, AreInOrder, CanBeMade}

-- no set depends on itself, so no path leads from one to itself
module _ (k : Known) (xs : List Item) (sections : Kind → List (List ℕ)) (known : IsKnown k xs sections) (law : MeansWhatItNames) (edges : List Edge) (lead : (a b : ℕ) → Leads edges a b ↔ IsSetEdgeIn k xs a b)
    (none : (f : Fault) → CircularSet xs (enabled_in k) f → ⊥) where
  first_edge : (a b : ℕ) → Reaches edges a b → (x : Item) × DeclaresSet k xs x a
  first_edge a b (paths.at_once u v l) = let (x, is_x, e) = (lead u v).0 l in (x, e.declares)
  first_edge a b (paths.further u v w l r) = let (x, is_x, e) = (lead u v).0 l in (x, e.declares)

  pub no_cycle : HasNoCycle edges
  no_cycle v r =
      let (x, d) = first_edge v v r in
      let a = symbol_under x d.name in
      none (fault_at causes.SetCycle d.at x.space d.name)
      (record { item = x; at = d.at; name = d.name; declares = d.declares; depends = depends k xs sections known law edges lead v v a a d.entry d.entry r; told = refl })

  -- so ranks fall that do where there is no cycle
  pub falls : (ranks : List ℕ) (handed : List Edge) → handed ≡ edges → (HasNoCycle handed → Fall handed ranks) → Fall edges ranks
  falls ranks handed same fall = subst (λ (l : List Edge). HasNoCycle l → Fall l ranks) same fall no_cycle

module _ (k : Known) (i : Kept) (n : ℕ) (all : List Definition) (are : AreDefined k i n all) (edges : List Edge) (lead : (a b : ℕ) → Leads edges a b ↔ IsSetEdgeIn k (items_in i) a b) (ranks : List ℕ) (fall : Fall edges ranks) where
  -- a declared set has the entry of a set
  pub of_set : (x : Item) (d : ℕ) → DeclaresSet k (items_in i) x d → is_set_at k.lookup.names.now d ≡ true
  of_set x d declares = ap (λ o. option_map_or is_set o false) declares.entry.at ∙ ap is_set_kind declares.entry.of_kind

  pub in_order : (ordered : List Definition) → IsNonDecreasingBy (λ (x : Definition). get_or ranks x.set 0) ordered → IsPermutation all ordered → AreInOrder k i ordered
  in_order ordered rising permuted p q x y at_p at_q le w within means =
      let is_x = Contains-permutation ordered all x (IsPermutation-sym all ordered permuted) (get_contains ordered p x at_p) in
      let is_y = Contains-permutation ordered all y (IsPermutation-sym all ordered permuted) (get_contains ordered q y at_q) in
      let of_x = (are.each x is_x).1.declares in
      let of_y = (are.each y is_y).1.declares in
      let edge : Leads edges x.set y.set =
      (lead x.set y.set).1 (item_at i x.at, of_x.declares.is_item, record { declares = of_x; word = w; within = within; means = means; of_sets = of_set (item_at i y.at) y.set of_y }) in
      let lower : get_or ranks y.set 0 < get_or ranks x.set 0 = fall x.set y.set edge in
      let rises = rising p q x le (in_range ordered q y at_q) in
      let here = ap (λ (z : Definition). get_or ranks z.set 0) (get_so ordered p x x at_p) in
      let there = ap (λ (z : Definition). get_or ranks z.set 0) (get_so ordered q y x at_q) in
      omega (arith, lower, rises, here, there)

-- the same declarations in another order
pub defined_too : (k : Known) (i : Kept) (n : ℕ) (all ordered : List Definition) → IsPermutation all ordered → AreDefined k i n all → AreDefined k i n ordered
defined_too k i n all ordered same are = record {
  each = λ d c. are.each d (Contains-permutation ordered all d (IsPermutation-sym all ordered same) c);
  every = λ at set l h. Contains-permutation all ordered (record { set = set; at = at }) same (are.every at set l h);
}

-- a set holds a set at first
begun_set : (es : List Entry) (standing : List (List ℕ)) (places : List ℕ) (d : ℕ) (h : Held) → IsBegun es standing places d h → is_set_at es d ≡ true → (set : Categories) × (h ≡ Set set)
begun_set es standing places d Nothing is set = absurd (true≢false (sym set ∙ is.0))
begun_set es standing places d (Category c) is set = absurd (true≢false (sym set ∙ is.0))
begun_set es standing places d (Set s) is set = (s, refl)

-- so each declaration can be made
pub can_be_made : (k : Known) (i : Kept) (all : List Definition) → AreDefined k i (length (items_in i)) all → (first : List Held) → IsBegunBy k.lookup.names.now first → (x : Definition) → Contains all x → CanBeMade i first x
can_be_made k i all are first by x c =
    let h = are.each x c in
    let declares = h.1.declares in
    record {
      within = h.0;
      is_set =
          begun_set k.lookup.names.now by.standing by.places x.set (get_or first x.set Nothing) (by.begun.each x.set (in_range k.lookup.names.now x.set declares.entry.entry declares.entry.at))
          (ap (λ o. option_map_or is_set o false) declares.entry.at ∙ ap is_set_kind declares.entry.of_kind);
      declares = declares.declares.of_kind;
    }
