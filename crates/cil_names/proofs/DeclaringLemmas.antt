-- What an item declares, and the statement that stands there.
use Rattle.std.specs.Prelude.{Contains, None}
use Rattle.std.proofs.Common.{◌≡◌, ℕ, true, List, [], refl, ◌∙◌, ap, subst}
use Rattle.cil_base.specs.Lists.{contains_none}
use Rattle.cil_syntax.specs.declared.kind.Keyword.{Keyword}
use Rattle.cil_syntax.specs.declared.kind.Keyword.TheVariants as keywords
use Rattle.cil_syntax.specs.declared.kind.Kind.{Kind}
use Rattle.cil_syntax.specs.declared.program.Statement as rust
use Rattle.cil_faults.specs.declared.spot.Spot.{Spot}
use Rattle.cil_syntax.specs.Forms.{BeginsWithName, name_in_front}
use Rattle.cil_syntax.specs.Program.{statement_of}
use Rattle.cil_syntax.specs.Said.{args_of}
use Rattle.cil_syntax.specs.Scopes.{ScopedWord}
use Rattle.cil_syntax.specs.Table.{entry_of}
use Rattle.cil_syntax.specs.Terms.{Leaf, Name, Form, Terms, nil, cons}
use Rattle.cil_syntax.specs.Written.{Statement}
use Rattle.cil_macros.specs.Item.{Item}
use Rattle.cil_macros.specs.Items.{Kept, item_at, placed_at, says_as_written}
use Rattle.cil_macros.proofs.SaidTerms.{SaysTerms, front_said, same_front, terms_there}
use Rattle.cil_names.specs.Declarations.{Declaration, declarations, declared_by}

-- ---- what statements declare

-- what declares something says what is written
pub declares_written : (k : Keyword) (kind : Kind) → Contains (entry_of k).declares kind → says_as_written k ≡ true
unfolding entry_of
declares_written keywords.BlockAbstract kind c = absurd (contains_none kind c)
declares_written keywords.BlockInherit kind c = absurd (contains_none kind c)
declares_written keywords.Call kind c = absurd (contains_none kind c)
declares_written keywords.Optional kind c = absurd (contains_none kind c)
declares_written k kind c = refl

-- ---- what declares nothing

module _ (x : Item) where
  pub without_kind : (entry_of x.keyword).declares ≡ [] → (d : Declaration) → Contains (declared_by x) d → ⊥
  without_kind e d c = none_of x.args (subst (λ ks. Contains (declarations x.space ks x.args) d) e c)
    where
      none_of : (args : Terms ScopedWord) → Contains (declarations x.space [] args) d → ⊥
      none_of nil h = contains_none d h
      none_of (cons (Leaf w) rest) h = contains_none d h
      none_of (cons (Name at name) rest) h = contains_none d h
      none_of (cons (Form at op parts) rest) h = contains_none d h

  pub without_name : name_in_front x.args ≡ None → (d : Declaration) → Contains (declared_by x) d → ⊥
  without_name e d c = none_of x.args e c
    where
      none_of : (args : Terms ScopedWord) → name_in_front args ≡ None → Contains (declarations x.space (entry_of x.keyword).declares args) d → ⊥
      none_of nil is h = contains_none d h
      none_of (cons (Leaf w) rest) is h = contains_none d h
      none_of (cons (Name at name) rest) is h = absurd cc
      none_of (cons (Form at op parts) rest) is h = contains_none d h

-- ---- the statement at a place

module _ (i : Kept) (k : ℕ) where
  abbrev pub there : Statement
  there = (placed_at i k).standing.statement.statement

  module _ (s : rust.Statement) (is : statement_of s ≡ there) where
    pub keyword_there : s.keyword ≡ (item_at i k).keyword
    keyword_there = ap (λ (x : Statement). x.keyword) is

    module _ (written : says_as_written (item_at i k).keyword ≡ true) where
      -- the item says what the statement says, each word as a term that is no name
      pub args_there : SaysTerms (args_of s) (item_at i k).args
      args_there = terms_there i k s is (ap says_as_written keyword_there ∙ written)

      pub no_front : name_in_front (args_of s) ≡ None → name_in_front (item_at i k).args ≡ None
      no_front e = same_front (args_of s) (item_at i k).args args_there ∙ e

      pub begins_there : (at : Spot) (name : List ℕ) → BeginsWithName (args_of s) at name → BeginsWithName (item_at i k).args at name
      begins_there = front_said (args_of s) (item_at i k).args args_there
