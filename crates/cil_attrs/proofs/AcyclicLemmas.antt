-- Where the sets of a name space have no fault, none depends on itself by numbers.
use Rattle.std.proofs.Common.{◌≡◌, ◌⊎◌, ℕ, Bool, true, false, ◌||◌, List, refl, sym, ◌∙◌, ap, subst, inl, inr}
use Rattle.std.specs.Prelude.{Contains, Option, Some, None, slice_get}
use Rattle.std.specs.Option.{option_map_or}
use Rattle.std.proofs.lemmas.Bool.{true≢false}
use Rattle.cil_base.specs.Lists.{contains_none}
use Rattle.cil_base.specs.MadeLists.{from_map}
use Rattle.cil_faults.specs.Reported.{fault_at}
use Rattle.cil_faults.specs.declared.code.FaultCode.TheVariants as causes
use Rattle.cil_faults.specs.declared.fault.Fault.{Fault}
use Rattle.cil_faults.specs.declared.spot.Spot.{Spot}
use Rattle.cil_syntax.specs.declared.kind.Kind.{Kind}
use Rattle.cil_syntax.specs.declared.kind.Kind.TheVariants as kinds
use Rattle.cil_syntax.specs.Scopes.{ScopedWord}
use Rattle.cil_syntax.specs.Table.{entry_of}
use Rattle.cil_syntax.specs.Terms.{Leaf, Name, Form, Terms, nil, cons}
use Rattle.cil_syntax.proofs.KindLemmas.{one_kind}
use Rattle.cil_known.specs.macros.Item.{Item, OptSet, is_enabled}
use Rattle.cil_known.specs.names.Declarations.{Declaration, IsDeclaration, by, content_of, declarations, declared_by, object}
use Rattle.cil_known.specs.names.Entries.{AreEntries, is_declared_in}
use Rattle.cil_known.specs.Family.{DependsOn, no_range}
use Rattle.cil_known.specs.names.Symbols.{symbol_of}
use Rattle.cil_known.specs.Spaces.{Sets, SpaceOf, any_sets}
use Rattle.cil_known.specs.names.Entry.{Entry}
use Rattle.cil_known.specs.declared.known.Known.{Known}
use Rattle.cil_known.proofs.names_lemmas.DeclareDecided.{symbol_by}
use Rattle.cil_attrs.specs.Holding.{is_kind}
use Rattle.cil_attrs.specs.SetFaults.{DeclaresAt, SetFault, alias_cycle, set_cycle, symbol_under}

-- what a statement declares is declared at a name
pub record IsDeclaredAt (x : Item) (d : Declaration) : Type 0 where
  pub at : Spot
  pub rest : Terms ScopedWord
  pub says : x.args ≡ cons (Name at d.name) rest
  pub in_space : d.space ≡ x.space
  pub of_kind : Contains (entry_of x.keyword).declares d.kind

declared_by_name : (x : Item) (d : Declaration) → Contains (declared_by x) d → IsDeclaredAt x d
declared_by_name x d c = go x.args refl c
  where
    go : (ts : Terms ScopedWord) → x.args ≡ ts → Contains (declarations x.space (entry_of x.keyword).declares ts) d → IsDeclaredAt x d
    go nil e n = absurd (contains_none d n)
    go (cons (Leaf w) rest) e n = absurd (contains_none d n)
    go (cons (Form at op parts) rest) e n = absurd (contains_none d n)
    go (cons (Name at name) rest) e n =
        let (kind, has, same) = from_map (λ (q : Kind). record { kind = q; space = x.space; name = name; content = content_of rest }) (entry_of x.keyword).declares d n in
        record {
          at = at;
          rest = rest;
          says = e ∙ ap (λ (z : Declaration). cons (Name at z.name) rest) same;
          in_space = ap (λ (z : Declaration). z.space) (sym same);
          of_kind = subst (Contains (entry_of x.keyword).declares) (ap (λ (z : Declaration). z.kind) same) has;
        }

either_of : (a b : Bool) → (a || b) ≡ true → (a ≡ true) ⊎ (b ≡ true)
either_of true b e = inl refl
either_of false b e = inr e

module _ (xs : List Item) (s : OptSet) (which : SpaceOf) (none : (f : Fault) → SetFault xs s which f → ⊥) where
  -- an enabled statement declares no set that depends on itself
  module _ (x : Item) (member : Contains xs x) (on : is_enabled s x ≡ true) (d : Declaration) (is : IsDeclaredAt x d) (depends : DependsOn xs s which no_range (symbol_under x d.name) (symbol_under x d.name)) where
    declares : (kind : Kind) → d.kind ≡ kind → DeclaresAt xs s kind x is.at d.name
    declares kind e = record { is_item = member; enabled = on; rest = is.rest; says = is.says; of_kind = subst (Contains (entry_of x.keyword).declares) e is.of_kind }

    of_alias : (o : Option Sets) → which.aliases ≡ o → option_map_or (λ (j : Sets). is_kind d.kind j.kind) o false ≡ true → ⊥
    of_alias None e t = let f : false ≡ true = t in cc
    of_alias (Some j) e t =
        none (fault_at causes.AliasCycle is.at x.space d.name)
        (alias_cycle (record { kind = j; are_sets = e; item = x; at = is.at; name = d.name; declares = declares j.kind (one_kind d.kind j.kind t); depends = depends; told = refl }))

    of_attribute : (o : Option Sets) → which.attributes ≡ o → option_map_or (λ (j : Sets). is_kind d.kind j.kind) o false ≡ true → ⊥
    of_attribute None e t = let f : false ≡ true = t in cc
    of_attribute (Some j) e t =
        none (fault_at causes.SetCycle is.at x.space d.name)
        (set_cycle (record { kind = j; are_sets = e; item = x; at = is.at; name = d.name; declares = declares j.kind (one_kind d.kind j.kind t); depends = depends; told = refl }))

    pub no_circle : any_sets which (λ j. is_kind d.kind j.kind) ≡ true → ⊥
    no_circle t = elim (either_of _ _ t) [ inl a ↦ of_alias which.aliases refl a | inr b ↦ of_attribute which.attributes refl b ]

  -- nor does a declared name
  pub no_circular : (k : Known) → AreEntries k.lookup.namespaces.now xs k.lookup.names.now → any_sets which (λ j. is_kind kinds.Role j.kind) ≡ false → (d : ℕ) (e : Entry)
      → slice_get k.lookup.names.now d ≡ Some e → is_declared_in s e ≡ true → any_sets which (λ j. is_kind e.kind j.kind) ≡ true
      → DependsOn xs s which no_range (symbol_of k.lookup.namespaces.now e) (symbol_of k.lookup.namespaces.now e) → ⊥
  no_circular k entries no_role d e at live sets depends =
      let (declaration, is_d, of_kind, in_space, of_name) = entries.only s d e at live in
      go declaration is_d of_kind in_space of_name
    where
      go : (q : Declaration) → IsDeclaration xs s q → q.kind ≡ e.kind → q.space ≡ (symbol_of k.lookup.namespaces.now e).space → q.name ≡ e.name → ⊥
      go q object of_kind in_space of_name = true≢false (sym sets ∙ ap (λ kind. any_sets which (λ j. is_kind kind j.kind)) (sym of_kind) ∙ no_role)
      go q (by x d member on within) of_kind in_space of_name =
          let is = declared_by_name x d within in
          let symbol : symbol_of k.lookup.namespaces.now e ≡ symbol_under x d.name = symbol_by (symbol_of k.lookup.namespaces.now e) (symbol_under x d.name) (sym in_space ∙ is.in_space) (sym of_name) in
          no_circle x member on d is (subst (λ z. DependsOn xs s which no_range z z) symbol depends) (ap (λ kind. any_sets which (λ j. is_kind kind j.kind)) of_kind ∙ sets)
