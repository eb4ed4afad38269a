-- What the walk over the terms of a statement adds. No other crate needs these words.
use Rattle.std.specs.Prelude.{◌≡◌, ℕ, false, List, [], ◌∷◌, ◌++◌, map, Option}
use Rattle.cil_faults.specs.Namespaces.{Namespace}
use Rattle.cil_faults.specs.Reported.{fault_at}
use Rattle.cil_faults.specs.declared.code.FaultCode.TheVariants as causes
use Rattle.cil_faults.specs.declared.fault.Fault.{Fault}
use Rattle.cil_faults.specs.declared.spot.Spot.{Spot}
use Rattle.cil_syntax.specs.declared.term.Op.{Op}
use Rattle.cil_syntax.specs.declared.term.Op.TheVariants as ops
use Rattle.cil_syntax.specs.declared.term.Term as rust
use Rattle.cil_syntax.specs.declared.term.Word.{Word}
use Rattle.cil_syntax.specs.Forms.{is_class_list}
use Rattle.cil_syntax.specs.Said.{all_said}
use Rattle.cil_syntax.specs.Scopes.{ScopedWord}
use Rattle.cil_syntax.specs.Terms.{Term, Form, Terms, nil, cons}
use Rattle.cil_macros.specs.declared.listed.Part as kept_part
use Rattle.cil_macros.specs.Item.{all_replaced}
use Rattle.cil_macros.specs.Items.{all_placed, item_at}
use Rattle.cil_macros.specs.Listed.{Part, all_parts_of, closes, opens, parts_there}
use Rattle.cil_macros.specs.ListTerms.{AreAlike}
use Rattle.cil_macros.specs.Placed.{Placed}
use Rattle.cil_names.specs.Resolves.{all_wanted_in}
use Rattle.cil_known.specs.declared.known.Known.{Known}
use Rattle.cil_known.specs.Known.{enabled_in, value_in}
use Rattle.cil_ranges.specs.declared.walk.Ahead.{Ahead}
use Rattle.cil_ranges.specs.declared.walk.Walk.{Walk}
use Rattle.cil_ranges.specs.LevelFaults.{IsFaultInside, TermFault}
use Rattle.cil_ranges.specs.Levels.{Ground}
use Rattle.cil_ranges.specs.Reading.{AreAhead, HaveMore, IsAhead, IsBehind, Judges}

-- the namespace of the statement
abbrev pub space_in : Walk → Namespace
space_in w = (item_at w.instances.now w.at).space

-- all that is placed
abbrev pub placed_in : Walk → List Placed
placed_in w = all_placed w.instances.now

-- a list is ahead whose terms these are
pub record IsOpened (k : Known) (f : Word → ScopedWord) (ps : List Placed) (ts : List rust.Term) (us : Terms ScopedWord) (a : Ahead) (at : Spot) (op : Op) : Type 0 where
  pub alike : AreAlike (all_replaced (λ at. at) f (all_said 0 ts)) us
  pub words : List (Option ℕ)
  pub asks : a.words.now ≡ map (value_in k) (all_wanted_in us) ++ words
  pub parts : List Part
  pub says : parts_there ps a.parts.now ≡ opens at op ∷ (all_parts_of us ++ parts)

module _ (w : Walk) (ts : List rust.Term) (a : Ahead) (old new : List Fault) where
  -- whatever list is ahead whose terms these are, what is wrong with it itself is added
  abbrev pub Adds : (Op → Type 0) → Type 0
  Adds Is =
      (k : Known) (g : Ground) (f : Word → ScopedWord) (us : Terms ScopedWord) (at : Spot) (op : Op) → Is op → Judges k w.judge g → IsOpened k f (placed_in w) ts us a at op
      → HaveMore old new (λ h. TermFault (enabled_in k) g (space_in w) h (Form at op us))

  abbrev pub AddsUnpermitted : Type 0
  AddsUnpermitted = Adds (λ op. op ≡ ops.Level)

  abbrev pub AddsTurned : Type 0
  AddsTurned = Adds (λ op. op ≡ ops.LevelRange)

  abbrev pub AddsBackwards : Type 0
  AddsBackwards = Adds (λ op. op ≡ ops.Range)

  abbrev pub AddsOwn : Op → Type 0
  AddsOwn which = Adds (λ op. op ≡ which)

-- that what begins there is turned
abbrev pub AddsOrder : Walk → List kept_part.Part → List Fault → List Fault → Type 0
AddsOrder w parts old new = (at : Spot) (op : Op) (xs : List Part) → parts_there (placed_in w) parts ≡ opens at op ∷ xs → new ≡ old ++ fault_at causes.RangeOrder at (space_in w) [] ∷ []

module _ (w : Walk) (a : Ahead) (old new : List Fault) (rest : Ahead) where
  -- the faults inside of some terms, behind which this is ahead
  pub record IsWalked (k : Known) (g : Ground) (us : Terms ScopedWord) (words : List (Option ℕ)) (parts : List Part) : Type 0 where
    pub behind : IsBehind (placed_in w) rest words parts
    pub more : HaveMore old new (IsFaultInside (enabled_in k) g (space_in w) us)

  abbrev pub WalksTerm : rust.Term → Type 0
  WalksTerm t =
      (k : Known) (g : Ground) (f : Word → ScopedWord) (u : Term ScopedWord) (words : List (Option ℕ)) (parts : List Part) → Judges k w.judge g → IsAhead k f 0 (placed_in w) t u a words parts
      → IsWalked k g (cons u nil) words parts

  abbrev pub WalksTerms : List rust.Term → Type 0
  WalksTerms ts =
      (k : Known) (g : Ground) (f : Word → ScopedWord) (us : Terms ScopedWord) (words : List (Option ℕ)) (parts : List Part) → Judges k w.judge g → AreAhead k f 0 (placed_in w) ts us a words parts
      → IsWalked k g us words parts

  -- of a list with these terms
  abbrev pub WalksForm : Op → List rust.Term → Type 0
  WalksForm op ts =
      (k : Known) (g : Ground) (f : Word → ScopedWord) (us : Terms ScopedWord) (at : Spot) (words : List (Option ℕ)) (parts : List Part) → Judges k w.judge g → is_class_list op ≡ false
      → AreAlike (all_replaced (λ at. at) f (all_said 0 ts)) us → a.words.now ≡ map (value_in k) (all_wanted_in us) ++ words
      → parts_there (placed_in w) a.parts.now ≡ opens at op ∷ (all_parts_of us ++ closes ∷ parts) → IsWalked k g (cons (Form at op us) nil) words parts
