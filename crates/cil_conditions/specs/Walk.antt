-- What a walk over a condition makes. No other crate needs these words.
use Rattle.std.specs.Prelude.{◌≡◌, ℕ, false, List, [], ◌∷◌, ◌++◌, drop, get_or, length, suc, map, None, Option}
use Rattle.cil_syntax.specs.declared.kind.Kind.{Kind}
use Rattle.cil_syntax.specs.declared.kind.Kind.TheVariants as kinds
use Rattle.cil_syntax.specs.declared.program.Statement.{Statement}
use Rattle.cil_syntax.specs.declared.term.Op.{Op}
use Rattle.cil_syntax.specs.declared.term.Term as rust
use Rattle.cil_syntax.specs.declared.term.Word.{Word}
use Rattle.cil_syntax.specs.Forms.{is_class_list}
use Rattle.cil_syntax.specs.Said.{args_of, said_of}
use Rattle.cil_syntax.specs.Scopes.{ScopedWord}
use Rattle.cil_syntax.specs.Terms.{Leaf, Terms, cons}
use Rattle.cil_known.specs.macros.Item.{Item}
use Rattle.cil_known.specs.declared.known.Known.{Known}
use Rattle.cil_known.specs.Known.{BeginWith, IsKnown, enabled_in, meant_in, value_in, wanted_with}
use Rattle.cil_known.specs.names.Resolves.{all_wanted_in}
use Rattle.cil_known.specs.names.Unresolved.{term_with, terms_with}
use Rattle.cil_conditions.specs.declared.token.Token.{Token}
use Rattle.cil_conditions.specs.declared.token.Token.TheVariants as tokens
use Rattle.cil_conditions.specs.Conditions.{FormNamesBooleans, NamesBooleans}
use Rattle.cil_conditions.specs.Spelled.{Spells, SpellsForm}
use Rattle.cil_conditions.specs.Truth.{AreOperands}

-- the tokens spell one expression: in front of others they make one more
abbrev pub IsOne : List Token → Type 0
IsOne ts = (n : ℕ) (rest : List Token) → AreOperands n rest → AreOperands (suc n) (ts ++ rest)

-- ---- a term

-- one expression was put behind some tokens, which spells the term where the meanings begin with those of its words; the rest of the
-- meanings is what is behind these
pub record IsAdded (k : Known) (m : ℕ) (t : rust.Term) (words rest : List (Option ℕ)) (old new : List Token) : Type 0 where
  pub added : List Token
  pub behind : new ≡ old ++ added
  pub is_one : IsOne added
  pub spells : (xs : List Item) (names : Kind → List (List ℕ)) (f : Word → ScopedWord) → IsKnown k xs names → BeginWith k f (said_of m t) words
      → Spells xs (enabled_in k) (names kinds.Boolean) (term_with f m t) added
  pub left : (f : Word → ScopedWord) → rest ≡ drop (length (wanted_with f (said_of m t))) words

-- the term has no tokens
abbrev pub IsUnsaid : Known → ℕ → rust.Term → List (Option ℕ) → Type 0
IsUnsaid k m t words = (xs : List Item) (names : Kind → List (List ℕ)) (f : Word → ScopedWord) → IsKnown k xs names → BeginWith k f (said_of m t) words
    → NamesBooleans xs (enabled_in k) (term_with f m t) → ⊥

-- ---- the parts of a form

-- the values of what some terms ask for
abbrev pub all_meant : Known → (Word → ScopedWord) → ℕ → List rust.Term → List (Option ℕ)
all_meant k f m ts = map (value_in k) (all_wanted_in (terms_with f m ts))

-- the meanings begin with those of what some terms ask for
pub record AllBeginWith (k : Known) (f : Word → ScopedWord) (m : ℕ) (ts : List rust.Term) (words : List (Option ℕ)) : Type 0 where
  pub more : List (Option ℕ)
  pub are : words ≡ all_meant k f m ts ++ more

-- and the same of an operator and its operands
pub record IsFormAdded (k : Known) (m : ℕ) (op : Op) (ts : List rust.Term) (words rest : List (Option ℕ)) (old new : List Token) : Type 0 where
  pub added : List Token
  pub behind : new ≡ old ++ added
  pub is_one : IsOne added
  pub plain : is_class_list op ≡ false
  pub spells : (xs : List Item) (names : Kind → List (List ℕ)) (f : Word → ScopedWord) → IsKnown k xs names → AllBeginWith k f m ts words
      → SpellsForm xs (enabled_in k) (names kinds.Boolean) op (terms_with f m ts) added
  pub left : (f : Word → ScopedWord) → rest ≡ drop (length (all_wanted_in (terms_with f m ts))) words

abbrev pub IsFormUnsaid : Known → ℕ → Op → List rust.Term → List (Option ℕ) → Type 0
IsFormUnsaid k m op ts words = (xs : List Item) (names : Kind → List (List ℕ)) (f : Word → ScopedWord) → IsKnown k xs names → AllBeginWith k f m ts words
    → FormNamesBooleans xs (enabled_in k) op (terms_with f m ts) → ⊥

-- ---- a word

-- the boolean of the first meaning was put behind some tokens
pub record IsWordAdded (k : Known) (words rest : List (Option ℕ)) (old new : List Token) : Type 0 where
  pub number : ℕ
  pub behind : new ≡ old ++ tokens.Boolean number ∷ []
  pub spells : (xs : List Item) (names : Kind → List (List ℕ)) (w : ScopedWord) → IsKnown k xs names → get_or words 0 None ≡ meant_in k w
      → Spells xs (enabled_in k) (names kinds.Boolean) (Leaf w) (tokens.Boolean number ∷ [])
  pub left : rest ≡ drop 1 words

abbrev pub IsWordUnsaid : Known → List (Option ℕ) → Type 0
IsWordUnsaid k words = (xs : List Item) (names : Kind → List (List ℕ)) (w : ScopedWord) → IsKnown k xs names → get_or words 0 None ≡ meant_in k w
    → NamesBooleans xs (enabled_in k) (Leaf w) → ⊥

-- ---- a whole condition

-- the tokens spell the term, by meanings that begin with those of its words
abbrev pub IsSpelledBy : Known → ℕ → rust.Term → List (Option ℕ) → List Token → Type 0
IsSpelledBy k m t words ts = (xs : List Item) (names : Kind → List (List ℕ)) (f : Word → ScopedWord) → IsKnown k xs names → BeginWith k f (said_of m t) words
    → Spells xs (enabled_in k) (names kinds.Boolean) (term_with f m t) ts

-- the term is the condition of the statement
pub record IsConditionIn (s : Statement) (t : rust.Term) : Type 0 where
  pub more : Terms Word
  pub are : args_of s ≡ cons (said_of s.at.«module» t) more
