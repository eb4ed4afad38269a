-- Declarations as entries: one for each name of a name space in a namespace, with the optionals round its declaring
-- statements. This project's profile.
use Rattle.std.specs.Prelude.{◌≡◌, suc, cond, ◌≤◌, ℕ, Bool, true, false, ◌&&◌, ◌||◌, ◌==◌, List, [], ◌∷◌, map, length, get_or, Contains, Option, Some, None, MatchOption, slice_get}
use Rattle.std.specs.Global.{Vec}
use Rattle.std.specs.List.{flat_map, list_all, list_any}
use Rattle.std.specs.Option.{option_map, option_map_or}
use Rattle.std.specs.declared.cmp.Ordering.{Ordering}
use Rattle.std.specs.Ordering.{nat_cmp, on, then_cmp}
use Rattle.std.specs.List.Sorted.{IsStrictlySortedBy}
use Rattle.cil_base.specs.Lists.{text_cmp}
use Rattle.cil_syntax.specs.declared.kind.Kind.{Kind}
use Rattle.cil_syntax.specs.declared.kind.Sign.{Sign}
use Rattle.cil_syntax.specs.declared.term.Word.{Word}
use Rattle.cil_syntax.specs.Spelling.{same_bytes}
use Rattle.cil_faults.specs.Namespaces.{Namespace}
use Rattle.cil_syntax.specs.Scopes.{Scope, asked, same_space, spaces_asked, ScopedWord}
use Rattle.cil_names.specs.declared.entry.Entry.{Entry}
use Rattle.cil_macros.specs.blocks.Space.{Space}
use Rattle.cil_names.specs.Declarations.{Declaration, IsDeclaration, declared_by}
use Rattle.cil_macros.specs.Item.{Item, OptSet, everybody}
use Rattle.cil_names.specs.Resolves.{found_in}
use Rattle.cil_syntax.specs.Kinds.{is_wanted}
use Rattle.cil_syntax.specs.NameSpaces.{rank}
use Rattle.cil_macros.specs.blocks.Namespaces.{space_at}

-- ---- words, where namespaces are numbers

abbrev pub scope_of : List Space → List ℕ → Scope
scope_of ss numbers = map (space_at ss) numbers

abbrev pub scoped : List Space → List ℕ → Word → ScopedWord
scoped ss scope w = record { at = w.at; bytes = w.bytes; sign = w.sign; scope = scope_of ss scope }

-- ---- entries

-- what distinguishes entries: the number of the namespace, the name, and the name space
pub record Key : Type 0 where
  pub space : ℕ
  pub name : List ℕ
  pub rank : ℕ

-- by the name, then by the name space, and last by the number of the namespace: all entries of a name are side by side
abbrev pub by_name_cmp : Key → Key → Ordering
by_name_cmp = then_cmp (then_cmp (on (λ (k : Key). k.name) text_cmp) (on (λ (k : Key). k.rank) nat_cmp)) (on (λ (k : Key). k.space) nat_cmp)

abbrev pub key_of : Entry → Key
key_of e = record { space = e.space; name = e.name; rank = rank e.kind }

-- a set of optionals, from a flag for each
abbrev pub is_in : List Bool → OptSet
is_in flags o = get_or flags o false

-- the entry is declared where these optionals are enabled
abbrev pub is_declared_in : OptSet → Entry → Bool
is_declared_in s e = e.always || list_any (λ r. list_all s r.items) e.rounds.items

-- the entry of this number is declared where these optionals are enabled
abbrev pub is_declared_at : OptSet → List Entry → ℕ → Bool
is_declared_at s es d = option_map_or (is_declared_in s) (slice_get es d) false

-- the entry is one of a wanted kind, with this name in this namespace
abbrev pub is_entry : List ℕ → Sign → ℕ → Entry → Bool
is_entry name sign k e = (e.space == k) && same_bytes e.name name && is_wanted sign e.kind

-- the number of an entry of a wanted kind, with this name in the namespace of this number
pub record IsEntryAt (es : List Entry) (name : List ℕ) (sign : Sign) (k d : ℕ) : Type 0 where
  pub entry : Entry
  pub at : slice_get es d ≡ Some entry
  pub fits : is_entry name sign k entry ≡ true
  pub only : (m : ℕ) (e : Entry) → slice_get es m ≡ Some e → is_entry name sign k e ≡ true → m ≡ d

abbrev pub HasNoEntry : List Entry → List ℕ → Sign → ℕ → Type 0
HasNoEntry es name sign k = (m : ℕ) (e : Entry) → slice_get es m ≡ Some e → is_entry name sign k e ≡ true → ⊥

-- ---- candidates

-- the place of the first item that passes a test
unfoldable pub place_where : {X : Type 0} → (X → Bool) → List X → Option ℕ
place_where p [] = None
place_where p (x ∷ xs) = cond (p x) (Some 0) (option_map suc (place_where p xs))

-- the entry is of a wanted kind, and has this name in this namespace
abbrev pub is_entry_of : List Space → List ℕ → Sign → Namespace → Entry → Bool
is_entry_of ss name sign n e = same_space (space_at ss e.space) n && same_bytes e.name name && is_wanted sign e.kind

-- the number of the entry of a wanted kind, with this name in this namespace
pub record IsEntryIn (ss : List Space) (es : List Entry) (name : List ℕ) (sign : Sign) (n : Namespace) (d : ℕ) : Type 0 where
  pub entry : Entry
  pub at : slice_get es d ≡ Some entry
  pub fits : is_entry_of ss name sign n entry ≡ true
  pub only : (m : ℕ) (e : Entry) → slice_get es m ≡ Some e → is_entry_of ss name sign n e ≡ true → m ≡ d

abbrev pub HasNoEntryIn : List Space → List Entry → List ℕ → Sign → Namespace → Type 0
HasNoEntryIn ss es name sign n = (m : ℕ) (e : Entry) → slice_get es m ≡ Some e → is_entry_of ss name sign n e ≡ true → ⊥

-- the number of the entry of a wanted kind under this name in a namespace
abbrev pub candidate : List Space → List Entry → List ℕ → Sign → Namespace → Option ℕ
candidate ss es name sign n = place_where (is_entry_of ss name sign n) es

abbrev pub listed : {X : Type 0} → Option X → List X
listed None = []
listed (Some x) = x ∷ []

-- the numbers of the entries that a word could name, in the order of its scope
unfoldable pub candidates_of : List Space → List Entry → ScopedWord → List ℕ
candidates_of ss es w = flat_map (λ n. listed (candidate ss es (asked w.bytes).name w.sign n)) (spaces_asked (asked w.bytes) w.scope)

-- the entries rise, and stand in namespaces
pub record AreOrdered (ss : List Space) (es : List Entry) : Type 0 where
  pub rising : IsStrictlySortedBy (on key_of by_name_cmp) es
  pub within : (e : Entry) → Contains es e → e.space ≤ length ss

-- ---- what a word names

-- the entry of this number is that of a declaration
pub record IsEntryFor (ss : List Space) (es : List Entry) (s : OptSet) (kind : Kind) (space : Namespace) (name : List ℕ) (d : ℕ) : Type 0 where
  pub entry : Entry
  pub at : slice_get es d ≡ Some entry
  pub of_kind : entry.kind ≡ kind
  pub in_space : space_at ss entry.space ≡ space
  pub of_name : entry.name ≡ name
  pub live : is_declared_in s entry ≡ true

-- these are the optionals round some item, and there are some
abbrev pub IsRoundOf : List Item → List ℕ → Type 0
IsRoundOf xs round = (x : Item) × Contains xs x × (x.round ≡ round) × (round ≡ [] → ⊥)

-- the optionals that entries name are those round some item
abbrev pub AreRounds : List Item → List Entry → Type 0
AreRounds xs es = (e : Entry) (r : Vec ℕ) → Contains es e → Contains e.rounds.items r → IsRoundOf xs r.items

-- the declaration is of the name of an entry, in its namespace and name space
pub record IsOf (ss : List Space) (e : Entry) (d : Declaration) : Type 0 where
  pub space : d.space ≡ space_at ss e.space
  pub name : d.name ≡ e.name
  pub rank : rank d.kind ≡ rank e.kind

-- an entry keeps the optionals round each item that declares it in some, also where others imply them
abbrev pub KeepRounds : List Space → List Item → List Entry → Type 0
KeepRounds ss xs es = (i : ℕ) (e : Entry) → slice_get es i ≡ Some e → (x : Item) (d : Declaration) → Contains xs x → Contains (declared_by x) d → IsOf ss e d
    → (x.round ≡ [] → ⊥) → Contains (map (λ (r : Vec ℕ). r.items) e.rounds.items) x.round

-- the entries are the declarations of the items, whatever is enabled: each declaration has one, each that is declared
-- has a declaration, the optionals that they name are those round items, each is declared where all are enabled, and it
-- keeps the optionals round each of its declarations
pub record AreEntries (ss : List Space) (xs : List Item) (es : List Entry) : Type 0 where
  pub ordered : AreOrdered ss es
  pub each : (s : OptSet) (d : Declaration) → IsDeclaration xs s d → (i : ℕ) × IsEntryFor ss es s d.kind d.space d.name i
  pub only : (s : OptSet) (i : ℕ) (e : Entry) → slice_get es i ≡ Some e → is_declared_in s e ≡ true
      → (d : Declaration) × IsDeclaration xs s d × (d.kind ≡ e.kind) × (d.space ≡ space_at ss e.space) × (d.name ≡ e.name)
  pub rounds : AreRounds xs es
  pub used : (i : ℕ) (e : Entry) → slice_get es i ≡ Some e → is_declared_in everybody e ≡ true
  pub kept : KeepRounds ss xs es

-- the word names this entry: it is declared, of a wanted kind, and has the name of the word in the namespace in which
-- the word is found
pub record IsNamed (ss : List Space) (xs : List Item) (es : List Entry) (s : OptSet) (w : ScopedWord) (d : ℕ) : Type 0 where
  pub space : Namespace
  pub found : found_in xs s w ≡ Some space
  pub entry : Entry
  pub at : slice_get es d ≡ Some entry
  pub fits : is_entry_of ss (asked w.bytes).name w.sign space entry ≡ true
  pub live : is_declared_in s entry ≡ true
  pub only : (m : ℕ) (e : Entry) → slice_get es m ≡ Some e → is_entry_of ss (asked w.bytes).name w.sign space e ≡ true → m ≡ d

-- what look-up answers: nothing where the word is not found, and else the one entry that it names
abbrev pub IsAnswer : List Space → List Item → List Entry → OptSet → ScopedWord → Option ℕ → Type 0
IsAnswer ss xs es s w r = MatchOption r (found_in xs s w ≡ None) (IsNamed ss xs es s w)
