-- Sets of numbers that statements give their members, one statement after another. No other crate needs these words.
use Rattle.std.specs.Prelude.{◌≡◌, ℕ, ◌≤◌, Bool, false, ◌&&◌, ◌||◌, ◌==◌, List, Contains, Option, Some, length, map, set, slice_get}
use Rattle.std.specs.Option.{option_map_or}
use Rattle.cil_syntax.specs.declared.term.Word.{Word}
use Rattle.cil_syntax.specs.Said.{said_of}
use Rattle.cil_syntax.specs.Terms.{Term}
use Rattle.cil_known.specs.macros.Item.{words_in}
use Rattle.cil_attrs.specs.declared.evaluator.Held.{Held}
use Rattle.cil_attrs.specs.declared.evaluator.Held.TheVariants.{Nothing, Set}
use Rattle.cil_attrs.specs.declared.making.Given.{Given}
use Rattle.cil_attrs.specs.Evaluated.{BeginWith, in_term, is_held}

-- what the entry of this number holds has the number
abbrev pub held_at : List Held → ℕ → ℕ → Bool
held_at helds d v = option_map_or (is_held v) (slice_get helds d) false

-- the entry of this number holds a set
abbrev pub IsSetAt : List Held → ℕ → Type 0
IsSetAt helds d = (members : List ℕ) × (slice_get helds d ≡ Some (Set members))

abbrev pub AreSetsAt : List Held → List Given → Type 0
AreSetsAt helds xs = (x : Given) → Contains xs x → IsSetAt helds x.set

-- the expression that a statement gives a set
abbrev pub said : Given → Term Word
said x = said_of x.«module» x.term.now

-- one set has got what a statement gives it, by what the other entries hold: it holds nothing itself meanwhile
pub record IsGiven (all : List ℕ) (old new : List Held) (x : Given) : Type 0 where
  pub len : length new ≡ length old
  pub is_set : IsSetAt new x.set
  pub others : (d : ℕ) → (d ≡ x.set → ⊥) → slice_get new d ≡ slice_get old d
  pub added : (m : Word → Option ℕ) (more : List (Option ℕ)) → BeginWith m (said x) x.words.now more
      → (v : ℕ) → held_at new x.set v ≡ (held_at old x.set v || in_term (set old x.set Nothing) all m v (said x))

-- ---- the order of statements

-- no word of the expression means the entry
abbrev pub LeavesOut : Given → ℕ → Type 0
LeavesOut x d = Contains x.words.now (Some d) → ⊥

-- no expression names the set that it is given to, nor one that a later statement gives something
abbrev pub AreInOrder : List Given → Type 0
AreInOrder xs = (i j : ℕ) (x y : Given) → slice_get xs i ≡ Some x → slice_get xs j ≡ Some y → i ≤ j → LeavesOut x y.set

-- ---- what all statements give

module _ (g : Given → Word → Option ℕ) where
  -- these are the meanings of the words of each expression
  abbrev pub HaveMeanings : List Given → Type 0
  HaveMeanings xs = (x : Given) → Contains xs x → x.words.now ≡ map (g x) (words_in (said x))

  -- the statement gives the set this number
  abbrev pub is_made_by : List Held → List ℕ → ℕ → ℕ → Given → Bool
  is_made_by helds all d v x = (x.set == d) && in_term helds all (g x) v (said x)
