-- The faults of one statement about classes. No other crate needs these words.
use Rattle.std.specs.Prelude.{◌≡◌, ◌↔◌, ◌⊎◌, ◌<◌, ℕ, Bool, true, Contains, List, MatchOption, Option, length}
use Rattle.std.specs.Global.{Vec}
use Rattle.cil_base.specs.declared.bytes.Bytes.{Bytes}
use Rattle.cil_macros.specs.blocks.Namespaces.{AreNamespaces}
use Rattle.cil_base.specs.Lists.{Lists, text_cmp}
use Rattle.cil_faults.specs.declared.code.FaultCode.TheVariants as causes
use Rattle.cil_faults.specs.declared.fault.Fault.{Fault}
use Rattle.cil_syntax.specs.declared.kind.Keyword.TheVariants as keywords
use Rattle.cil_faults.specs.declared.spot.Spot.{Spot}
use Rattle.cil_syntax.specs.Terms.{Name, Terms, cons}
use Rattle.cil_faults.specs.Reported.{fault_at}
use Rattle.cil_macros.specs.Item.{Item, OptSet, is_enabled}
use Rattle.cil_macros.specs.Items.{Kept, item_at, items_in, namespaces_in}
use Rattle.cil_syntax.specs.Scopes.{ScopedWord}
use Rattle.cil_names.specs.Entries.{AreEntries}
use Rattle.cil_names.specs.Resolves.{has_permission}
use Rattle.cil_names.specs.Shared.{AreShared}
use Rattle.cil_names.specs.Unresolved.{ArePermissions}
use Rattle.cil_names.specs.declared.entry.Entry.{Entry}
use Rattle.cil_names.specs.declared.shared.Shared.{Shared}
use Rattle.cil_names.specs.declared.table.Lookup.{Lookup}
use Rattle.cil_classes.specs.declared.commons.Wrong.{Wrong}
use Rattle.cil_classes.specs.Commons.{HasTwoCommons, IsFlagged, IsTwice, cause_of}
use Rattle.cil_classes.specs.Row.{most_permissions}

-- an item declares an enabled class that has more permissions than a mask has bits
pub record IsWide (s : OptSet) (xs : List Item) (x : Item) (f : Fault) : Type 0 where
  pub at : Spot
  pub name : List ℕ
  pub rest : Terms ScopedWord
  pub permissions : List (List ℕ)
  pub enabled : is_enabled s x ≡ true
  pub keyword : x.keyword ≡ keywords.Class
  pub says : x.args ≡ cons (Name at name) rest
  pub listed : Lists text_cmp (λ p. has_permission xs (record { space = x.space; name = name }) p ≡ true) permissions
  pub wide : most_permissions < length permissions
  pub told : f ≡ fault_at causes.ClassWide at x.space name

-- an item declares a class that has too many permissions, or joins a common to a class that has two
abbrev pub IsWrong : OptSet → List Item → Item → Fault → Type 0
IsWrong s xs x f = IsWide s xs x f ⊎ HasTwoCommons xs x f

-- this is what is wrong with a statement of the namespace
abbrev pub IsWhatIsWrong : (Fault → Type 0) → List (List ℕ) → Option Wrong → Type 0
IsWhatIsWrong P space wrong = MatchOption wrong ((f : Fault) → P f → ⊥) (λ w. (f : Fault) → P f ↔ (f ≡ fault_at (cause_of w.wide) w.at space w.bytes.now))

-- what is looked up is of these items
pub record AreAsked (i : Kept) (l : Lookup) (lists : List (Vec Bytes)) : Type 0 where
  pub namespaces : l.namespaces.now ≡ namespaces_in i
  pub entries : AreEntries l.namespaces.now (items_in i) l.names.now
  pub permissions : ArePermissions l.namespaces.now l.names.now (items_in i) lists

-- the flags are those of the classes to which two commons are joined
pub record AreTwice (i : Kept) (es : List Entry) (flags : List Bool) : Type 0 where
  pub namespaces : AreNamespaces (namespaces_in i)
  pub entries : AreEntries (namespaces_in i) (items_in i) es
  pub pairs : List Shared
  pub shared : AreShared (namespaces_in i) es (items_in i) pairs
  pub flagged : (d : ℕ) → IsFlagged flags d ↔ IsTwice pairs d

-- what is wrong with the statement at a place: the class that it declares has too many permissions; or that, or it has two commons.
-- They are records, so that a contract does not write out what the statement is
pub record IsWideAt (s : OptSet) (i : Kept) (at : ℕ) (wrong : Option Wrong) : Type 0 where
  pub is : IsWhatIsWrong (IsWide s (items_in i) (item_at i at)) (item_at i at).space wrong

pub record IsWrongAt (s : OptSet) (i : Kept) (at : ℕ) (wrong : Option Wrong) : Type 0 where
  pub is : IsWhatIsWrong (IsWrong s (items_in i) (item_at i at)) (item_at i at).space wrong

-- it was put behind other faults
pub record IsPushed (s : OptSet) (i : Kept) (at : ℕ) (old new : List Fault) : Type 0 where
  pub is : (f : Fault) → Contains new f ↔ (Contains old f ⊎ IsWrong s (items_in i) (item_at i at) f)

-- the faults are those of these items
abbrev pub AreToldOf : (Item → Fault → Type 0) → List Item → List Fault → Type 0
AreToldOf P xs faults = (f : Fault) → Contains faults f ↔ ((x : Item) × Contains xs x × P x f)
