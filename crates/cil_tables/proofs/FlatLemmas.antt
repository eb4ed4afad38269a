-- Items without namespaces.
use Rattle.std.specs.Prelude.{Contains}
use Rattle.std.proofs.Common.{◌≡◌, ℕ, List, [], ◌∷◌, refl, sym, ◌∙◌, ap}
use Rattle.cil_syntax.specs.declared.kind.Kind.{Kind}
use Rattle.cil_syntax.specs.Table.{entry_of}
use Rattle.cil_faults.specs.Namespaces.{qualified}
use Rattle.cil_names.proofs.DeclareDecided.{symbol_by}
use Rattle.cil_names.specs.Declarations.{Declaration, IsDeclaration, object, by, Declared, Symbol, name_of}
use Rattle.cil_macros.specs.Item.{Item, nobody}
use Rattle.cil_tables.specs.Named.{IsNameOf}
use Rattle.cil_tables.proofs.WideClasses.{in_front}

-- no item stands in a namespace
abbrev pub AreFlat : List Item → Type 0
AreFlat xs = (x : Item) → Contains xs x → x.space ≡ []

-- a symbol of the global namespace
abbrev pub global_symbol : List ℕ → Symbol
global_symbol name = record { space = []; name = name }

module _ (xs : List Item) (flat : AreFlat xs) where
  global_declaration : (d : Declaration) → IsDeclaration xs nobody d → d.space ≡ []
  global_declaration d object = refl
  global_declaration d (by x e c is_on by_it) = (in_front x.space (entry_of x.keyword).declares x.args d by_it).in_space ∙ flat x c

  -- a declared symbol of flat items stands in the global namespace
  pub global_symbol_of : (kind : Kind) (t : Symbol) → Declared xs nobody kind t → t.space ≡ []
  global_symbol_of kind t d = sym d.in_space ∙ global_declaration d.declaration d.declares

  pub name_of_global : (t : Symbol) → t.space ≡ [] → name_of t ≡ t.name
  name_of_global t e = ap (λ s. qualified (t.name ∷ s)) e

  -- symbols of one name are one
  pub one_flat : (kind j : Kind) (t u : Symbol) → Declared xs nobody kind t → Declared xs nobody j u → name_of t ≡ name_of u → t ≡ u
  one_flat kind j t u d e same =
      let ts = global_symbol_of kind t d in
      let us = global_symbol_of j u e in
      symbol_by t u (ts ∙ sym us) (sym (name_of_global t ts) ∙ same ∙ name_of_global u us)

  -- a declared name, as one of the global namespace
  pub declared_here : (kind : Kind) (name : List ℕ) → IsNameOf xs nobody kind name → Declared xs nobody kind (global_symbol name)
  declared_here kind name n =
      let space = global_symbol_of kind n.symbol n.declared in
      record {
        declaration = n.declared.declaration;
        declares = n.declared.declares;
        of_kind = n.declared.of_kind;
        in_space = global_declaration n.declared.declaration n.declared.declares;
        of_name = n.declared.of_name ∙ sym (name_of_global n.symbol space) ∙ n.named;
      }

  pub name_declared : (kind : Kind) (t : Symbol) → Declared xs nobody kind t → IsNameOf xs nobody kind t.name
  name_declared kind t d = record { symbol = t; declared = d; named = name_of_global t (global_symbol_of kind t d) }
