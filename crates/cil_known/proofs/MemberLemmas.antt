-- The test of declared symbols, and words of kinds that have no sets.
use Rattle.std.proofs.Common.{◌≡◌, ◌⊎◌, ◌↔◌, Bool, true, false, ◌&&◌, ◌||◌, List, refl, sym, ◌∙◌, ap, inl, inr}
use Rattle.std.specs.Prelude.{Option, Some, None, nat_eq}
use Rattle.std.specs.List.{list_any}
use Rattle.std.specs.Option.{option_map_or}
use Rattle.std.specs.Cmp.Lexicographic.{bytes_decides}
use Rattle.cil_base.specs.Searches.{any_from, any_true}
use Rattle.cil_syntax.specs.declared.kind.Kind.{Kind}
use Rattle.cil_syntax.specs.declared.kind.Kind.TheVariants as kinds
use Rattle.cil_syntax.specs.Kinds.{is_wanted, kind_number}
use Rattle.cil_faults.specs.Namespaces.{Namespace}
use Rattle.cil_syntax.specs.Scopes.{ScopedWord, asked, same_space}
use Rattle.cil_syntax.specs.Spelling.{same_bytes}
use Rattle.cil_syntax.proofs.DecidedEquality.{spaces_decide}
use Rattle.cil_syntax.proofs.KindLemmas.{one_kind, same_kind}
use Rattle.cil_names.specs.macros.Item.{Item, OptSet, is_enabled}
use Rattle.cil_names.specs.Declarations.{Declaration, Declared, IsDeclaration, Symbol, by, declared_by, object, object_role}
use Rattle.cil_names.specs.Resolves.{found_in}
use Rattle.cil_known.specs.Family.{Family, holds, no_range}
use Rattle.cil_known.specs.Members.{HasNoSets, StandsFor, space_of}
use Rattle.cil_known.specs.Spaces.{SpaceOf, is_declared, is_set, is_of_symbol, names, names_set, is_same_symbol, symbol_in}

both : (a b : Bool) → (a && b) ≡ true → (a ≡ true) × (b ≡ true)
both true b e = (refl, e)
both false b e = absurd (let c : false ≡ true = e in cc)

pair : (a b : Bool) → a ≡ true → b ≡ true → (a && b) ≡ true
pair true b e f = f
pair false b e f = absurd (let c : false ≡ true = e in cc)

either : (a b : Bool) → (a || b) ≡ true → (a ≡ true) ⊎ (b ≡ true)
either true b e = inl refl
either false b e = inr e

first : (a b : Bool) → a ≡ true → (a || b) ≡ true
first true b e = refl
first false b e = absurd (let c : false ≡ true = e in cc)

second : (a b : Bool) → b ≡ true → (a || b) ≡ true
second true b e = refl
second false b e = e

-- ---- declared

symbol_so : (kind : Kind) (t : Symbol) (d : Declaration) → is_of_symbol kind t d ≡ true → (d.kind ≡ kind) × (d.space ≡ t.space) × (d.name ≡ t.name)
symbol_so kind t d e =
    let p = both (nat_eq (kind_number d.kind) (kind_number kind) && same_space d.space t.space) (same_bytes d.name t.name) e in
    let q = both (nat_eq (kind_number d.kind) (kind_number kind)) (same_space d.space t.space) p.0 in
    (one_kind d.kind kind q.0, (spaces_decide d.space t.space).0 q.1, (bytes_decides d.name t.name).0 p.1)

so_symbol : (kind : Kind) (t : Symbol) (d : Declaration) → d.kind ≡ kind → d.space ≡ t.space → d.name ≡ t.name → is_of_symbol kind t d ≡ true
so_symbol kind t d k n b = pair _ _ (pair _ _ (same_kind d.kind kind k) ((spaces_decide d.space t.space).1 n)) ((bytes_decides d.name t.name).1 b)

declares : (xs : List Item) (s : OptSet) (kind : Kind) (t : Symbol) (d : Declaration) → IsDeclaration xs s d → is_of_symbol kind t d ≡ true → Declared xs s kind t
declares xs s kind t d i e = let so = symbol_so kind t d e in record { declaration = d; declares = i; of_kind = so.0; in_space = so.1; of_name = so.2 }

pub declared_is : (xs : List Item) (s : OptSet) (kind : Kind) (t : Symbol) → (is_declared xs s kind t ≡ true) ↔ Declared xs s kind t
unfolding is_declared
declared_is xs s kind t = (λ e. there e, λ d. back d.declaration d.declares (so_symbol kind t d.declaration d.of_kind d.in_space d.of_name)) where
  there : (is_of_symbol kind t object_role || list_any (λ x. is_enabled s x && list_any (is_of_symbol kind t) (declared_by x)) xs) ≡ true → Declared xs s kind t
  there e = elim (either (is_of_symbol kind t object_role) (list_any (λ x. is_enabled s x && list_any (is_of_symbol kind t) (declared_by x)) xs) e) [
    | inl o ↦ declares xs s kind t object_role object o
    | inr a ↦
        let x = any_true (λ (x : Item). is_enabled s x && list_any (is_of_symbol kind t) (declared_by x)) xs a in
        let p = both (is_enabled s x.0) (list_any (is_of_symbol kind t) (declared_by x.0)) x.2 in
        let d = any_true (is_of_symbol kind t) (declared_by x.0) p.1 in
        declares xs s kind t d.0 (by x.0 d.0 x.1 p.0 d.1) d.2
  ]

  back : (d : Declaration) → IsDeclaration xs s d → is_of_symbol kind t d ≡ true → (is_of_symbol kind t object_role || list_any (λ x. is_enabled s x && list_any (is_of_symbol kind t) (declared_by x)) xs) ≡ true
  back d object e = first _ _ e
  back d (by x f c on within) e =
      second (is_of_symbol kind t object_role) _ (any_from (λ (x : Item). is_enabled s x && list_any (is_of_symbol kind t) (declared_by x)) xs x c
      (pair _ _ on (any_from (is_of_symbol kind t) (declared_by x) d within e)))

-- ---- name spaces

-- a name space is that of its items
pub item_of : (kind : Kind) → (space_of kind).item ≡ kind
item_of kinds.Type_ = refl
item_of kinds.Role = refl
item_of kinds.User = refl
item_of kind = refl

-- ---- words of kinds without sets

abbrev bare : Kind → SpaceOf
bare kind = record { item = kind; aliases = None; attributes = None }

module _ (xs : List Item) (s : OptSet) (kind : Kind) (none : HasNoSets kind) (w : ScopedWord) (t : Symbol) where
  none_there : (m : Family) (r : Option Namespace) → option_map_or (λ n. names_set xs s (bare kind) w (symbol_in w n) && m (symbol_in w n) t) r false ≡ false
  none_there m None = refl
  none_there m (Some n) = refl

  names_bare : (m : Family) → holds xs s (bare kind) no_range m w t ≡ (names xs s kind w t || false)
  unfolding holds
  names_bare m = ap (λ b. names xs s kind w t || b) (none_there m (found_in xs s w))

  names_held : (m : Family) → holds xs s (space_of kind) no_range m w t ≡ (names xs s kind w t || false)
  names_held m = ap (λ space. holds xs s space no_range m w t) none ∙ names_bare m

  -- no symbol is a set
  no_set : (a : Symbol) → is_set xs s (space_of kind) a ≡ false
  no_set a = ap (λ space. is_set xs s space a) none

  or_false : (b : Bool) → (b || false) ≡ true → b ≡ true
  or_false true e = refl
  or_false false e = e

  found_there : (r : Option Namespace) → option_map_or (λ n. is_same_symbol (symbol_in w n) t) r false ≡ true → (r ≡ Some t.space) × (t.name ≡ (asked w.bytes).name)
  found_there None e = absurd (let c : false ≡ true = e in cc)
  found_there (Some n) e =
      let p = both (same_space n t.space) (same_bytes (asked w.bytes).name t.name) e in
      (ap Some ((spaces_decide n t.space).0 p.0), sym ((bytes_decides (asked w.bytes).name t.name).0 p.1))

  found_back : (r : Option Namespace) → r ≡ Some t.space → t.name ≡ (asked w.bytes).name → option_map_or (λ n. is_same_symbol (symbol_in w n) t) r false ≡ true
  found_back r e f = ap (λ q. option_map_or (λ n. is_same_symbol (symbol_in w n) t) q false) e ∙ pair _ _ ((spaces_decide t.space t.space).1 refl) ((bytes_decides (asked w.bytes).name t.name).1 (sym f))

  pub stands_for_one : StandsFor xs s kind w t ↔ ((is_wanted w.sign kind ≡ true) × (found_in xs s w ≡ Some t.space) × (t.name ≡ (asked w.bytes).name) × Declared xs s kind t)
  unfolding names
  stands_for_one = (
    λ st.
        let e : names xs s kind w t ≡ true = or_false (names xs s kind w t) (sym (names_held st.family) ∙ st.held) in
        let p = both (is_wanted w.sign kind && is_declared xs s kind t) (option_map_or (λ n. is_same_symbol (symbol_in w n) t) (found_in xs s w) false) e in
        let q = both (is_wanted w.sign kind) (is_declared xs s kind t) p.0 in
        let f = found_there (found_in xs s w) p.1 in
        (q.0, f.0, f.1, st.declared),
    λ h. record {
      family = λ a u. false;
      solves = λ a u e. absurd (let c : false ≡ true = sym (no_set a) ∙ e in cc);
      held = names_held (λ a u. false) ∙ first _ _ (pair _ _ (pair _ _ h.0 ((declared_is xs s kind t).1 h.3)) (found_back (found_in xs s w) h.1 h.2));
      declared = h.3;
    },
  )

  pub wanted_of : StandsFor xs s kind w t → is_wanted w.sign kind ≡ true
  wanted_of st = (stands_for_one.0 st).0

  pub found_of : StandsFor xs s kind w t → found_in xs s w ≡ Some t.space
  found_of st = (stands_for_one.0 st).1

  pub named_of : StandsFor xs s kind w t → t.name ≡ (asked w.bytes).name
  named_of st = (stands_for_one.0 st).2

  pub stands_by : is_wanted w.sign kind ≡ true → found_in xs s w ≡ Some t.space → t.name ≡ (asked w.bytes).name → Declared xs s kind t → StandsFor xs s kind w t
  stands_by wanted found named declared = stands_for_one.1 (wanted, found, named, declared)
