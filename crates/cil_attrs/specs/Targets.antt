-- What statements say of aliases, by the numbers of entries. No other crate needs these words.
use Rattle.std.specs.Prelude.{◌≡◌, ◌⊎◌, ◌↔◌, ◌<◌, ℕ, Bool, true, false, ◌||◌, if◌then◌else◌, List, [], ◌∷◌, Contains, MatchOption, Option, Some, None, get_or, length, slice_get}
use Rattle.std.specs.List.{flat_map}
use Rattle.std.specs.Option.{option_map_or}
use Rattle.cil_faults.specs.Reported.{fault_at}
use Rattle.cil_faults.specs.declared.code.FaultCode.{FaultCode}
use Rattle.cil_faults.specs.declared.code.FaultCode.TheVariants as causes
use Rattle.cil_faults.specs.declared.fault.Fault.{Fault}
use Rattle.cil_faults.specs.declared.spot.Spot.{Spot}
use Rattle.cil_syntax.specs.declared.kind.Kind.{Kind}
use Rattle.cil_syntax.specs.Forms.{word_and_term}
use Rattle.cil_syntax.specs.Scopes.{ScopedWord}
use Rattle.cil_syntax.specs.Terms.{Term, Leaf, Name, Form}
use Rattle.cil_syntax.specs.declared.term.Word.{Word}
use Rattle.cil_known.specs.macros.blocks.Space as blocks
use Rattle.cil_known.specs.macros.Item.{Item, OptSet}
use Rattle.cil_known.specs.macros.Items.{Kept, item_at, items_in, may_say_lists, says_as_written}
use Rattle.cil_known.specs.names.Declarations.{Symbol}
use Rattle.cil_known.specs.Known.{enabled_in}
use Rattle.cil_known.specs.names.Symbols.{symbol_of}
use Rattle.cil_known.specs.Family.{DependsOn, no_range}
use Rattle.cil_known.specs.Spaces.{Sets, SpaceOf, any_sets}
use Rattle.cil_known.specs.names.Entry.{Entry}
use Rattle.cil_known.specs.declared.known.Known.{Known}
use Rattle.cil_attrs.specs.declared.making.Given.{Given}
use Rattle.cil_attrs.specs.declared.targets.Step.{Step}
use Rattle.cil_attrs.specs.Holding.{is_kind}
use Rattle.cil_attrs.specs.Made.{said}
use Rattle.cil_attrs.specs.SetFaults.{DeclaresAt, TargetBy, symbol_under}

-- the entry of this number is of this kind, and that of the symbol
pub record IsEntryAt (ss : List blocks.Space) (es : List Entry) (kind : Kind) (d : ℕ) (a : Symbol) : Type 0 where
  pub entry : Entry
  pub at : slice_get es d ≡ Some entry
  pub of_kind : entry.kind ≡ kind
  pub symbol : symbol_of ss entry ≡ a

-- ---- what statements say of aliases

module _ (k : Known) (i : Kept) (item : Kind) (j : Sets) where
  -- the statement at the place of the step says that the alias stands for the target, both by the numbers of their entries
  pub record IsStep (s : Step) : Type 0 where
    pub alias : Symbol
    pub target : Symbol
    pub within : s.at < length (items_in i)
    pub by : TargetBy (items_in i) (enabled_in k) item j (item_at i s.at) alias target
    pub is_alias : IsEntryAt k.lookup.namespaces.now k.lookup.names.now j.kind s.alias alias
    pub target_kind : Kind
    pub is_target : IsEntryAt k.lookup.namespaces.now k.lookup.names.now target_kind s.target target
    pub in_space : (target_kind ≡ item) ⊎ (target_kind ≡ j.kind)

  -- these are the steps of all statements
  pub record AreSteps (steps : List Step) : Type 0 where
    pub each : (s : Step) → Contains steps s → IsStep s
    pub all : (x : Item) (alias target : Symbol) → TargetBy (items_in i) (enabled_in k) item j x alias target
        → (s : Step) × Contains steps s × (is : IsStep s) × (is.alias ≡ alias) × (is.target ≡ target) × (x ≡ item_at i s.at)

-- ---- how they are found

-- what the word means that an expression is; none where it is no word
abbrev pub leaf_meaning : Term Word → List (Option ℕ) → Option ℕ
leaf_meaning (Leaf w) words = get_or words 0 None
leaf_meaning (Name at bytes) words = None
leaf_meaning (Form at op parts) words = None

-- the entry is that of an item or of an alias
abbrev pub is_target : Kind → Kind → Entry → Bool
is_target item alias e = is_kind e.kind item || is_kind e.kind alias

abbrev pub target_among : List Entry → Kind → Kind → Option ℕ → Option ℕ
target_among es item alias None = None
target_among es item alias (Some d) = if option_map_or (is_target item alias) (slice_get es d) false then Some d else None

abbrev pub target_by : List Entry → Kind → Kind → Given → Option ℕ
target_by es item alias g = target_among es item alias (leaf_meaning (said g) g.words.now)

abbrev pub step_to : Given → Option ℕ → List Step
step_to g None = []
step_to g (Some target) = record { alias = g.set; target = target; at = g.at } ∷ []

abbrev pub steps_by : List Entry → Kind → Kind → Given → List Step
steps_by es item alias g = step_to g (target_by es item alias g)

abbrev pub steps_in : List Entry → Kind → Kind → List Given → List Step
steps_in es item alias givens = flat_map (steps_by es item alias) givens

-- ---- by numbers alone

-- a step leads from the one entry to the other
pub record HasStep (steps : List Step) (d b : ℕ) : Type 0 where
  pub step : Step
  pub is_step : Contains steps step
  pub from : step.alias ≡ d
  pub to : step.target ≡ b

abbrev pub HasNoStep : List Step → ℕ → Type 0
HasNoStep steps d = (b : ℕ) → HasStep steps d b → ⊥

-- the last step of each entry
abbrev pub AreLast : List Step → List (Option ℕ) → Type 0
AreLast steps lasts = (d : ℕ) → MatchOption (get_or lasts d None) (HasNoStep steps d) (HasStep steps d)

-- two steps lead from the entry to different ones
pub record HasTwoSteps (steps : List Step) (d : ℕ) : Type 0 where
  pub first : ℕ
  pub second : ℕ
  pub has_first : HasStep steps d first
  pub has_second : HasStep steps d second
  pub differ : first ≡ second → ⊥

-- the step is one of the entry, and leads elsewhere than its last one
pub record IsOther (lasts : List (Option ℕ)) (d : ℕ) (s : Step) : Type 0 where
  pub from : s.alias ≡ d
  pub other : get_or lasts s.alias None ≡ Some s.target → ⊥

abbrev pub HasOther : List Step → List (Option ℕ) → ℕ → Type 0
HasOther steps lasts d = (s : Step) × Contains steps s × IsOther lasts d s

-- the flag of this number is set
abbrev pub IsFlagged : List Bool → ℕ → Type 0
IsFlagged flags d = get_or flags d false ≡ true

-- ---- what is told

-- a declaration of this kind whose entry is flagged
pub record IsToldAt (ss : List blocks.Space) (es : List Entry) (xs : List Item) (s : OptSet) (kind : Kind) (code : FaultCode) (flags : List Bool) (x : Item) (f : Fault) : Type 0 where
  pub at : Spot
  pub name : List ℕ
  pub place : ℕ
  pub declares : DeclaresAt xs s kind x at name
  pub entry : IsEntryAt ss es kind place (symbol_under x name)
  pub flagged : IsFlagged flags place
  pub told : f ≡ fault_at code at x.space name

abbrev pub IsToldIn : List blocks.Space → List Entry → List Item → OptSet → Kind → FaultCode → List Bool → Fault → Type 0
IsToldIn ss es xs s kind code flags f = (x : Item) × Contains xs x × IsToldAt ss es xs s kind code flags x f

-- a step of an entry of which this holds
pub record IsToldOf (i : Kept) (P : ℕ → Type 0) (s : Step) (f : Fault) : Type 0 where
  pub word : ScopedWord
  pub term : Term ScopedWord
  pub says : word_and_term (item_at i s.at).args ≡ Some (word, term)
  pub holds : P s.alias
  pub told : f ≡ fault_at causes.AliasTwice word.at (item_at i s.at).space word.bytes

abbrev pub IsToldAmong : Kept → (ℕ → Type 0) → List Step → Fault → Type 0
IsToldAmong i P steps f = (s : Step) × Contains steps s × IsToldOf i P s f

-- the statement at the place of the step says two words
abbrev pub SaysTwo : Kept → Step → Type 0
SaysTwo i s = (w v : ScopedWord) × (word_and_term (item_at i s.at).args ≡ Some (w, Leaf v)) × (says_as_written (item_at i s.at).keyword ≡ true) × (may_say_lists (item_at i s.at).keyword ≡ false)
    × (s.at < length (items_in i))

-- ---- which sets depend on themselves

-- the entry of a set is flagged where the set depends on itself
abbrev pub AreCircular : Known → List Item → SpaceOf → List Bool → Type 0
AreCircular k xs which flags =
    (d : ℕ) (e : Entry) → slice_get k.lookup.names.now d ≡ Some e → any_sets which (λ j. is_kind e.kind j.kind) ≡ true
    → IsFlagged flags d ↔ DependsOn xs (enabled_in k) which no_range (symbol_of k.lookup.namespaces.now e) (symbol_of k.lookup.namespaces.now e)
