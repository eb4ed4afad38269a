-- A class that no statement makes too wide has few permissions.
use Rattle.std.specs.Prelude.{Contains}
use Rattle.std.specs.List.{list_any}
use Rattle.std.proofs.Common.{◌≡◌, ℕ, ◌<◌, ◌≤◌, Bool, true, false, List, length, refl, sym, ◌∙◌, ap, subst, inl, inr, arith}
use Rattle.std.proofs.lemmas.Bool.{cases_lt, true≢false}
use Rattle.cil_base.specs.Lists.{Lists, text_cmp}
use Rattle.cil_base.specs.Searches.{any_from}
use Rattle.cil_base.specs.MadeLists.{from_map}
use Rattle.cil_faults.specs.declared.fault.Fault.{Fault}
use Rattle.cil_syntax.specs.declared.kind.Keyword.{Keyword}
use Rattle.cil_syntax.specs.declared.kind.Keyword.TheVariants as keywords
use Rattle.cil_syntax.specs.declared.kind.Kind.{Kind}
use Rattle.cil_syntax.specs.declared.kind.Kind.TheVariants as kinds
use Rattle.cil_faults.specs.declared.spot.Spot.{Spot}
use Rattle.cil_syntax.specs.Table.{entry_of}
use Rattle.cil_syntax.specs.Terms.{Leaf, Name, Form, Terms, nil, cons}
use Rattle.cil_faults.specs.Namespaces.{Namespace}
use Rattle.cil_syntax.specs.Scopes.{ScopedWord}
use Rattle.cil_names.specs.Declarations.{Declaration, declarations, IsDeclaration, object, by, Declared, Symbol, content_of}
use Rattle.cil_macros.specs.Item.{Item, OptSet}
use Rattle.cil_names.specs.Resolves.{has_permission}
use Rattle.cil_classes.specs.declared.row.Class.{Class}
use Rattle.cil_classes.specs.ClassRows.{IsRowOf}
use Rattle.cil_classes.specs.Faults.{ClassFault, wide}
use Rattle.cil_classes.specs.Row.{most_permissions}

abbrev is_class : Kind → Bool
is_class kinds.Class = true
is_class kind = false

lacks_class : (ks : List Kind) → list_any is_class ks ≡ false → Contains ks kinds.Class → ⊥
lacks_class ks none c = true≢false (sym (any_from is_class ks kinds.Class c refl) ∙ none)

-- only a class statement declares a class
pub class_keyword : (k : Keyword) → Contains (entry_of k).declares kinds.Class → k ≡ keywords.Class
unfolding entry_of
class_keyword keywords.Class c = refl
class_keyword k c = absurd (lacks_class (entry_of k).declares refl c)

-- a declaration of a statement is of a kind that its entry names
pub of_own_kind : (space : Namespace) (ks : List Kind) (args : Terms ScopedWord) (d : Declaration) → Contains (declarations space ks args) d → Contains ks d.kind
of_own_kind space ks nil d c = absurd (omega (arith, c.1))
of_own_kind space ks (cons (Leaf w) rest) d c = absurd (omega (arith, c.1))
of_own_kind space ks (cons (Form at op parts) rest) d c = absurd (omega (arith, c.1))
of_own_kind space ks (cons (Name at name) rest) d c =
    let r = from_map (λ kind. record { kind = kind; space = space; name = name; content = content_of rest }) ks d c in
    subst (λ e. Contains ks e.kind) r.2 r.1

-- the name in front of terms that declare something
pub record IsInFront (space : Namespace) (args : Terms ScopedWord) (d : Declaration) : Type 0 where
  pub at : Spot
  pub rest : Terms ScopedWord
  pub says : args ≡ cons (Name at d.name) rest
  pub in_space : d.space ≡ space

pub in_front : (space : Namespace) (ks : List Kind) (args : Terms ScopedWord) (d : Declaration) → Contains (declarations space ks args) d → IsInFront space args d
in_front space ks nil d c = absurd (omega (arith, c.1))
in_front space ks (cons (Leaf w) rest) d c = absurd (omega (arith, c.1))
in_front space ks (cons (Form at op parts) rest) d c = absurd (omega (arith, c.1))
in_front space ks (cons (Name at name) rest) d c =
    let r = from_map (λ kind. record { kind = kind; space = space; name = name; content = content_of rest }) ks d c in
    record { at = at; rest = rest; says = ap (λ (e : Declaration). cons (Name at e.name) rest) r.2; in_space = ap (λ (e : Declaration). e.space) (sym r.2) }

module _ (xs : List Item) (s : OptSet) (none : (f : Fault) → ClassFault s xs f → ⊥) where
  wide_class : (c : Symbol) (permissions : List (List ℕ)) (d : Declaration) → IsDeclaration xs s d → d.kind ≡ kinds.Class → d.space ≡ c.space → d.name ≡ c.name
      → Lists text_cmp (λ p. has_permission xs c p ≡ true) permissions → most_permissions < length permissions → ⊥
  wide_class c permissions d object k space named listed big = cc
  wide_class c permissions d (by x e cx on by_it) k space named listed big =
      let keyword = class_keyword x.keyword
      (subst (λ j. Contains (entry_of x.keyword).declares j) k (of_own_kind x.space (entry_of x.keyword).declares x.args e by_it)) in
      let f = in_front x.space (entry_of x.keyword).declares x.args e by_it in
      let same : c ≡ record { space = x.space; name = e.name } = λ i. record { space = (sym space ∙ f.in_space) i; name = (sym named) i } in
      none _ (wide x f.at e.name f.rest permissions cx on keyword f.says
      (subst (λ t. Lists text_cmp (λ p. has_permission xs t p ≡ true) permissions) same listed) big)

  pub few : (c : Symbol) (row : Class) → Declared xs s kinds.Class c → IsRowOf xs c row → length row.permissions ≤ most_permissions
  few c row d is = elim (cases_lt most_permissions (length row.permissions)) [
    | inl big ↦ absurd (wide_class c row.permissions d.declaration d.declares d.of_kind d.in_space d.of_name is.permissions big)
    | inr le ↦ le
  ]
