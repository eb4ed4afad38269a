-- Which permissions a statement covers, whatever branch of a booleanif it is in. CIL Reference Guide, "allow", "neverallow".
use Rattle.std.specs.Prelude.{◌≡◌, ℕ, List, Contains, true}
use Rattle.cil_syntax.specs.declared.kind.Keyword.{Keyword}
use Rattle.cil_syntax.specs.declared.kind.Kind.TheVariants as kinds
use Rattle.cil_syntax.specs.declared.term.Op.TheVariants as ops
use Rattle.cil_syntax.specs.Terms.{Term, Leaf, Name, Form, nil, cons}
use Rattle.cil_syntax.specs.Scopes.{ScopedWord}
use Rattle.cil_macros.specs.Item.{Item, OptSet, is_enabled}
use Rattle.cil_classes.specs.names.Declarations.{Symbol}
use Rattle.cil_conditions.specs.known.Members.{StandsFor}
use Rattle.cil_classes.specs.Given.{HasPair}

-- the target of a rule has the type: `self` where it is the source type
abbrev pub IsTarget : List Item → OptSet → Symbol → Symbol → Term ScopedWord → Type 0
IsTarget xs s source target (Leaf w) = StandsFor xs s kinds.Type_ w target
IsTarget xs s source target (Name at name) = ⊥
IsTarget xs s source target (Form at op parts) = (op ≡ ops.Itself) × (source ≡ target)

-- the statement is an enabled one with this first word, and covers the permission
pub record IsCoveredBy (xs : List Item) (s : OptSet) (keyword : Keyword) (x : Item) (source target class_ : Symbol) (permission : List ℕ) : Type 0 where
  pub is_item : Contains xs x
  pub enabled : is_enabled s x ≡ true
  pub is_keyword : x.keyword ≡ keyword
  pub source_word : ScopedWord
  pub target_term : Term ScopedWord
  pub class_permission : Term ScopedWord
  pub says : x.args ≡ cons (Leaf source_word) (cons target_term (cons class_permission nil))
  pub has_source : StandsFor xs s kinds.Type_ source_word source
  pub has_target : IsTarget xs s source target target_term
  pub permits : HasPair xs s class_permission class_ permission
