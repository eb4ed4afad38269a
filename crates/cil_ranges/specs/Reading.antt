-- How the terms and the words of a statement are read. No other crate needs these words.
use Rattle.std.specs.Prelude.{◌≡◌, ◌↔◌, ◌⊎◌, ℕ, ◌<◌, Bool, true, false, List, ◌++◌, map, Contains, Option, None, Some, MatchOption, get_or, slice_get}
use Rattle.std.specs.Option.{option_map_or}
use Rattle.cil_faults.specs.declared.fault.Fault.{Fault}
use Rattle.cil_syntax.specs.declared.term.Op.{Op}
use Rattle.cil_syntax.specs.declared.term.Op.TheVariants as ops
use Rattle.cil_syntax.specs.declared.term.Term as rust
use Rattle.cil_syntax.specs.declared.term.Word.{Word}
use Rattle.cil_syntax.specs.Said.{all_said, said_of}
use Rattle.cil_syntax.specs.Scopes.{ScopedWord}
use Rattle.cil_syntax.specs.Terms.{Term, Leaf, Name, Form, Terms, nil, cons}
use Rattle.cil_macros.specs.Item.{OptSet, all_replaced, all_words_in, replaced, words_in}
use Rattle.cil_macros.specs.Listed.{Part, all_parts_of, parts_of, parts_there}
use Rattle.cil_macros.specs.ListTerms.{AreAlike, IsAlike}
use Rattle.cil_macros.specs.Placed.{Placed}
use Rattle.cil_names.specs.Resolves.{all_wanted_in, wanted_in}
use Rattle.cil_known.specs.declared.known.Known.{Known}
use Rattle.cil_known.specs.Known.{enabled_in, meant_in, value_in}
use Rattle.cil_mls.specs.declared.categories.Categories.{Categories}
use Rattle.cil_mls.specs.declared.level.Level.{Level}
use Rattle.cil_mls.specs.declared.level.Range.{Range}
use Rattle.cil_mls.specs.Bits.{in_words}
use Rattle.cil_mls.specs.Dominance.{AreSame, has}
use Rattle.cil_mls.specs.Values.{in_term}
use Rattle.cil_levels.specs.Held.{HoldCategories}
use Rattle.cil_levels.specs.Permitted.{ArePermitted}
use Rattle.cil_levels.specs.Places.{IsCategoryAt}
use Rattle.cil_levels.specs.Values.{in_value}
use Rattle.cil_ranges.specs.declared.scale.Scale.{Scale}
use Rattle.cil_ranges.specs.declared.own.Judge.{Judge}
use Rattle.cil_ranges.specs.declared.own.Judged.{Judged}
use Rattle.cil_ranges.specs.declared.own.Span.{Span}
use Rattle.cil_ranges.specs.declared.own.Judged.TheVariants as judged
use Rattle.cil_ranges.specs.declared.walk.Ahead.{Ahead}
use Rattle.cil_ranges.specs.Levels.{Ground, IsNamedLevel, IsNamedRange, IsSensitivityAt}

-- ---- what names stand for

-- what a word of this meaning stands for, by the number of what it names
abbrev pub meant : {X : Type 0} → List (Option X) → Option ℕ → Option X
meant table meaning = option_map_or (λ d. get_or table d None) meaning None

-- levels are measured right: by the sensitivities for which words stand, and by the categories that words and expressions have
pub record Measures (k : Known) (by : Scale) (g : Ground) : Type 0 where
  pub sensitivities : (w : ScopedWord) (n : ℕ) → IsSensitivityAt (enabled_in k) g w n ↔ (meant by.sensitivities.now (meant_in k w) ≡ Some n)
  pub categories : HoldCategories k g.items g.categories by.categories.held.now
  pub values : (e : Term ScopedWord) (c : ℕ) → c < 1024 → in_term by.categories.held.now by.categories.count (meant_in k) c e ≡ in_value g.categories g.values e c

-- the named levels are there, each of them one: each word that names a level means it
pub record HasLevels (k : Known) (levels : List (Option Level)) (g : Ground) : Type 0 where
  pub each : (w : ScopedWord) → MatchOption (meant levels (meant_in k w)) ((l : Level) → IsNamedLevel (enabled_in k) g (Leaf w) l → ⊥) (IsNamedLevel (enabled_in k) g (Leaf w))
  pub one : (w : ScopedWord) (l m : Level) → IsNamedLevel (enabled_in k) g (Leaf w) l → IsNamedLevel (enabled_in k) g (Leaf w) m → AreSame l m

-- the named ranges, likewise
pub record HasRanges (k : Known) (ranges : List (Option Range)) (g : Ground) : Type 0 where
  pub each : (w : ScopedWord) → MatchOption (meant ranges (meant_in k w)) ((r : Range) → IsNamedRange (enabled_in k) g (Leaf w) r → ⊥) (IsNamedRange (enabled_in k) g (Leaf w))

-- what levels are judged by: what they are read by, and what sensitivities permit
pub record Judges (k : Known) (by : Judge) (g : Ground) : Type 0 where
  pub measures : Measures k by.named.scale g
  pub levels : HasLevels k by.named.levels.now g
  pub permitted : ArePermitted g.items (enabled_in k) g.sensitivities g.categories g.values by.permitted.now

-- ---- terms

-- the first term is a word
abbrev pub is_word : {L : Type 0} → Term L → Bool
is_word (Leaf w) = true
is_word (Name at bytes) = false
is_word (Form at op ts) = false

-- the first of some terms is no word for a sensitivity
abbrev pub SaysNoLevel : OptSet → Ground → Terms ScopedWord → Type 0
SaysNoLevel s g us = (w : ScopedWord) (rest : Terms ScopedWord) (n : ℕ) → us ≡ cons (Leaf w) rest → IsSensitivityAt s g w n → ⊥

-- some terms begin with a word, and those are behind it
pub record BeginsWithWord (f : Word → ScopedWord) (m : ℕ) (behind : List rust.Term) (us : Terms ScopedWord) : Type 0 where
  pub word : ScopedWord
  pub rest : Terms ScopedWord
  pub says : us ≡ cons (Leaf word) rest
  pub alike : AreAlike (all_replaced (λ at. at) f (all_said m behind)) rest

-- the sensitivity of the level permits its categories
pub record LevelIsPermitted (permitted : List Categories) (l : Level) : Type 0 where
  pub set : Categories
  pub there : slice_get permitted l.sensitivity ≡ Some set
  pub within : (c : ℕ) → c < 1024 → has l c ≡ true → in_words set.words c ≡ true

-- some terms are two words, for these categories
pub record IsSpan (k : Known) (g : Ground) (us : Terms ScopedWord) (p : Span) : Type 0 where
  pub from : ScopedWord
  pub to : ScopedWord
  pub says : us ≡ cons (Leaf from) (cons (Leaf to) nil)
  pub is_first : IsCategoryAt g.items (enabled_in k) g.categories from p.first
  pub is_last : IsCategoryAt g.items (enabled_in k) g.categories to p.last

-- how a form with this operator is judged
abbrev pub judged_as : Op → Judged
judged_as ops.Level = judged.Level
judged_as ops.LevelRange = judged.Levels
judged_as ops.Range = judged.Categories
judged_as op = judged.Nothing

module _ (k : Known) (f : Word → ScopedWord) (m : ℕ) where
  -- the term says this, but for places, and the words mean what its words mean, and then more
  pub record IsRead (t : rust.Term) (u : Term ScopedWord) (words more : List (Option ℕ)) : Type 0 where
    pub alike : IsAlike (replaced (λ at. at) f (said_of m t)) u
    pub row : words ≡ map (meant_in k) (words_in u) ++ more

  pub record AreRead (ts : List rust.Term) (us : Terms ScopedWord) (words more : List (Option ℕ)) : Type 0 where
    pub alike : AreAlike (all_replaced (λ at. at) f (all_said m ts)) us
    pub row : words ≡ map (meant_in k) (all_words_in us) ++ more

  -- the same of the values of what they ask for, and of their parts
  pub record IsAhead (ps : List Placed) (t : rust.Term) (u : Term ScopedWord) (a : Ahead) (words : List (Option ℕ)) (parts : List Part) : Type 0 where
    pub alike : IsAlike (replaced (λ at. at) f (said_of m t)) u
    pub asks : a.words.now ≡ map (value_in k) (wanted_in u) ++ words
    pub says : parts_there ps a.parts.now ≡ parts_of u ++ parts

  pub record AreAhead (ps : List Placed) (ts : List rust.Term) (us : Terms ScopedWord) (a : Ahead) (words : List (Option ℕ)) (parts : List Part) : Type 0 where
    pub alike : AreAlike (all_replaced (λ at. at) f (all_said m ts)) us
    pub asks : a.words.now ≡ map (value_in k) (all_wanted_in us) ++ words
    pub says : parts_there ps a.parts.now ≡ all_parts_of us ++ parts

-- this is what is left
pub record IsBehind (ps : List Placed) (b : Ahead) (words : List (Option ℕ)) (parts : List Part) : Type 0 where
  pub asks : b.words.now ≡ words
  pub says : parts_there ps b.parts.now ≡ parts

-- ---- faults

-- these are all that were there, and those
abbrev pub HaveMore : (old new : List Fault) → (Fault → Type 0) → Type 0
HaveMore old new P = (f : Fault) → Contains new f ↔ (Contains old f ⊎ P f)
