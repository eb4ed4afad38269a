-- The numbers of declared symbols: for each kind that has a section, the place of the qualified name among all of
-- that kind. This project's profile.
use Rattle.std.specs.Prelude.{◌≡◌, ℕ, Bool, true, false, List, [], ◌∷◌, Contains, Some, slice_get, get_or, if◌then◌else◌}
use Rattle.std.specs.Option.{unwrap_or}
use Rattle.cil_base.specs.Lists.{Lists, text_cmp}
use Rattle.cil_syntax.specs.declared.kind.Kind.{Kind}
use Rattle.cil_syntax.specs.declared.kind.Kind.TheVariants as kinds
use Rattle.cil_syntax.specs.Spelling.{is_name, same_bytes}
use Rattle.cil_syntax.specs.Scopes.{IsDotless}
use Rattle.cil_names.specs.declared.entry.Entry.{Entry}
use Rattle.cil_known.specs.declared.numbers.Sections.{Sections}
use Rattle.cil_names.specs.blocks.Space.{Space}
use Rattle.cil_names.specs.Declarations.{name_of}
use Rattle.cil_names.specs.Entries.{is_declared_in, place_where}
use Rattle.cil_names.specs.Symbols.{is_of, symbol_of}
use Rattle.cil_names.specs.macros.Item.{OptSet}
use Rattle.cil_names.specs.blocks.Namespaces.{space_at}

-- the qualified name of an entry
abbrev pub spelled_of : List Space → Entry → List ℕ
spelled_of ss e = name_of (symbol_of ss e)

-- the qualified name of a declared symbol of this kind
pub record IsNameAmong (ss : List Space) (es : List Entry) (s : OptSet) (kind : Kind) (name : List ℕ) : Type 0 where
  pub entry : Entry
  pub among : Contains es entry
  pub of_kind : entry.kind ≡ kind
  pub live : is_declared_in s entry ≡ true
  pub spelled : spelled_of ss entry ≡ name

-- the kinds whose symbols have a section
abbrev pub has_section : Kind → Bool
has_section kinds.Type_ = true
has_section kinds.Role = true
has_section kinds.User = true
has_section kinds.Class = true
has_section kinds.Boolean = true
has_section kinds.Sensitivity = true
has_section kinds.Category = true
has_section kind = false

-- the names of the symbols of one kind
abbrev pub names_of : Sections → Kind → List (List ℕ)
names_of sections kinds.Type_ = sections.types.items
names_of sections kinds.Role = sections.roles.items
names_of sections kinds.User = sections.users.items
names_of sections kinds.Class = sections.classes.items
names_of sections kinds.Boolean = sections.booleans.items
names_of sections kinds.Sensitivity = sections.sensitivities.items
names_of sections kinds.Category = sections.categories.items
names_of sections kind = []

-- the qualified names of the entries of one kind, as they come
abbrev pub name_given : List Space → OptSet → Kind → Entry → List (List ℕ)
name_given ss s kind e = if is_of s kind e then spelled_of ss e ∷ [] else []

-- the place of a name in a list, and 0 where it is not there
abbrev pub place_in : List (List ℕ) → List ℕ → ℕ
place_in names name = unwrap_or (place_where (λ x. same_bytes x name) names) 0

-- each section lists the names of the declared symbols of its kind, and each entry has the place of its name in its
-- section
pub record AreNumbers (ss : List Space) (es : List Entry) (s : OptSet) (names : Kind → List (List ℕ)) (numbers : List ℕ) : Type 0 where
  pub lists : (kind : Kind) → has_section kind ≡ true → Lists text_cmp (IsNameAmong ss es s kind) (names kind)
  pub at : (d : ℕ) (e : Entry) → slice_get es d ≡ Some e → has_section e.kind ≡ true → is_declared_in s e ≡ true
      → slice_get (names e.kind) (get_or numbers d 0) ≡ Some (spelled_of ss e)

-- ---- one number is of one symbol

-- a name that is not empty, and has no dot
pub record IsPlain (name : List ℕ) : Type 0 where
  pub some : name ≡ [] → ⊥
  pub dotless : IsDotless name

abbrev pub ArePlain : List (List ℕ) → Type 0
ArePlain names = (x : List ℕ) → Contains names x → IsPlain x

-- the names of the entries, and of the namespaces in which they are, are names as the language has them
pub record ArePlainNames (ss : List Space) (es : List Entry) : Type 0 where
  pub namespaces : (e : Entry) (name : List ℕ) → Contains es e → Contains (space_at ss e.space) name → is_name name ≡ true
  pub entries : (e : Entry) → Contains es e → is_name e.name ≡ true

-- two declared symbols of one kind have two numbers
abbrev pub AreApart : List Entry → OptSet → List ℕ → Type 0
AreApart es s numbers =
    (d k : ℕ) (e f : Entry) → slice_get es d ≡ Some e → slice_get es k ≡ Some f → e.kind ≡ f.kind → has_section e.kind ≡ true → is_declared_in s e ≡ true → is_declared_in s f ≡ true
    → get_or numbers d 0 ≡ get_or numbers k 0 → d ≡ k
