-- The lines of optionals and of reasons.
use Rattle.std.proofs.Common.{◌≡◌, ℕ, ◌+◌, ◌≤◌, Bool, true, false, List, [], ◌∷◌, ◌++◌, length, drop, refl, sym, ◌∙◌, ap, append-nil, append_assoc, add-one}
use Rattle.std.proofs.lemmas.List.{drop_all}
use Rattle.std.specs.Prelude.{if◌then◌else◌}
use Rattle.cil_syntax.specs.declared.kind.Keyword.{Keyword}
use Rattle.cil_syntax.specs.declared.kind.Keyword.TheVariants as keywords
use Rattle.cil_syntax.specs.declared.program.Statement.{Statement}
use Rattle.cil_faults.specs.declared.spot.Spot.{Spot}
use Rattle.cil_syntax.specs.declared.term.Word.{Word}
use Rattle.cil_syntax.specs.Program.{statement_of}
use Rattle.cil_syntax.specs.Said.{args_of}
use Rattle.cil_syntax.specs.Scopes.{ScopedWord}
use Rattle.cil_syntax.specs.Terms.{Leaf, Name, Form, Terms, nil, cons}
use Rattle.cil_syntax.specs.Written.{Statement as Said, Written, bytes_of, named_in_front}
use Rattle.cil_faults.specs.Namespaces.{qualified}
use Rattle.cil_blocks.specs.Contents.{is_optional}
use Rattle.cil_macros.specs.Item.{Item, OptSet, all_replaced, replaced}
use Rattle.cil_macros.specs.Items.{Kept, item_at, may_say_lists, placed_at, says_as_written, word_at}
use Rattle.cil_optionals.specs.declared.lines.OptionalLine.{OptionalLine}
use Rattle.cil_optionals.specs.Lines.{label_of, lines_from, lines_of, optional_line}
use Rattle.cil_macros.proofs.ItemsThere.{keyword_there, named_there}

-- ---- labels

-- what an optional says is what is written
optional_said : (k : Keyword) → is_optional k ≡ true → says_as_written k ≡ true
optional_said keywords.BlockInherit e = e
optional_said keywords.BlockAbstract e = e
optional_said keywords.Call e = e
optional_said k e = refl

-- no list stands for a word of it
optional_named : (k : Keyword) → is_optional k ≡ true → may_say_lists k ≡ false
optional_named keywords.Optional e = refl
optional_named k e = absurd (let f : false ≡ true = e in cc)

-- the name in front is said as it is written
front_name : (f : Word → ScopedWord) (ts : Terms Word) → bytes_of (named_in_front (all_replaced (λ at. at) f ts)) ≡ bytes_of (named_in_front ts)
unfolding replaced all_replaced
front_name f nil = refl
front_name f (cons (Leaf w) ts) = refl
front_name f (cons (Name at name) ts) = refl
front_name f (cons (Form at op parts) ts) = refl

module _ (i : Kept) (at : ℕ) (s : Statement) (is : statement_of s ≡ (placed_at i at).standing.statement.statement) where
  -- the label of an optional is the name with which its statement begins
  pub label_there : is_optional s.keyword ≡ true → bytes_of (named_in_front (args_of s)) ≡ label_of (item_at i at)
  label_there e =
      sym (ap (λ ts. bytes_of (named_in_front ts)) (named_there i at s is (optional_named s.keyword e) (optional_said s.keyword e))
      ∙ front_name (word_at i at) (args_of s))

  -- where it is written
  pub place_there : s.at ≡ (item_at i at).at
  place_there = ap (λ (t : Said). t.at) is

  pub optional_there : (b : Bool) → is_optional s.keyword ≡ b → is_optional (item_at i at).keyword ≡ b
  optional_there b e = ap is_optional (keyword_there i at s is) ∙ e

-- ---- the lines of optionals

module _ (inside : Bool) (x : Item) where
  pub no_line : (before : List OptionalLine) → is_optional x.keyword ≡ false → before ≡ before ++ lines_of inside x
  no_line before e = sym (ap (λ b. before ++ (if b then optional_line x inside ∷ [] else [])) e ∙ append-nil before)

  pub one_line : is_optional x.keyword ≡ true → optional_line x inside ∷ [] ≡ lines_of inside x
  one_line e = sym (ap (λ b. if b then optional_line x inside ∷ [] else []) e)

  -- the line is made of its parts
  pub made_line : (at : Spot) (space label : List ℕ) (b : Bool) → at ≡ x.at → space ≡ qualified x.space → label ≡ label_of x → b ≡ inside
      → record { «module» = at.«module»; at = at.at; space = space; label = label; enabled = b } ≡ optional_line x inside
  made_line at space label b p s l e = λ i. record { «module» = (p i).«module»; at = (p i).at; space = s i; label = l i; enabled = e i }

module _ (s : OptSet) (xs : List Item) where
  -- the lines of those before a place, and then of the rest, are those of all
  abbrev pub HasLines : ℕ → List OptionalLine → Type 0
  HasLines at lines = lines ++ lines_from s at (drop at xs) ≡ lines_from s 0 xs

  pub one_more : (at : ℕ) (x : Item) (old new : List OptionalLine) → drop at xs ≡ x ∷ drop (at + 1) xs → new ≡ old ++ lines_of (s at) x → HasLines at old → HasLines (at + 1) new
  unfolding lines_from
  one_more at x old new left added so =
      ap (λ ls. ls ++ lines_from s (at + 1) (drop (at + 1) xs)) added
      ∙ append_assoc old (lines_of (s at) x) (lines_from s (at + 1) (drop (at + 1) xs))
      ∙ ap (λ n. old ++ (lines_of (s at) x ++ lines_from s n (drop (at + 1) xs))) (add-one at)
      ∙ sym (ap (λ ys. old ++ lines_from s at ys) left) ∙ so

  pub all_lines : (at : ℕ) (lines : List OptionalLine) → length xs ≤ at → HasLines at lines → lines ≡ lines_from s 0 xs
  unfolding lines_from
  all_lines at lines over so = sym (append-nil lines) ∙ sym (ap (λ ys. lines ++ lines_from s at ys) (drop_all at xs over)) ∙ so
