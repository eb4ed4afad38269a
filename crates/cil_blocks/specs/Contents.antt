-- What stands in which namespace, and through which inheritances. CIL Reference Guide, "Container Statements" and
-- "Namespaces"; where it leaves a choice, for scopes, this project's profile.
use Rattle.std.specs.Prelude.{◌≡◌, ℕ, Bool, true, false, ◌&&◌, List, [], ◌∷◌, ◌++◌, length, Contains, Option, Some, None, find}
use Rattle.std.specs.declared.cmp.Ordering.{Ordering}
use Rattle.std.specs.Ordering.{nat_cmp, on, then_cmp}
use Rattle.std.specs.Cmp.{IsTotalOrder}
use Rattle.std.specs.Cmp.Lexicographic.{slice_cmp}
use Rattle.std.specs.List.{list_any}
use Rattle.std.proofs.lemmas.Cmp.{nat_cmp_total, on_total, then_total}
use Rattle.cil_syntax.specs.Spelling.{same_bytes}
use Rattle.cil_syntax.specs.declared.kind.Keyword.{Keyword}
use Rattle.cil_syntax.specs.declared.kind.Keyword.TheVariants as keywords
use Rattle.cil_faults.specs.declared.spot.Spot.{Spot}
use Rattle.cil_faults.specs.Namespaces.{Namespace}
use Rattle.cil_syntax.specs.Scopes.{Scope, ScopedWord, same_space, chain, tidy, scope_at, asked, spaces_asked}
use Rattle.cil_syntax.specs.declared.term.Word.{Word}
use Rattle.cil_syntax.specs.Terms.{Term, Leaf, Name, Form, Terms, nil, cons}
use Rattle.cil_syntax.specs.Written.{Written, is_abstraction, named_in_front, bytes_of}
use Rattle.cil_blocks.specs.Branches.{branch_value, condition_in, replaced}

-- ---- what a written statement is

-- it is a namespace
abbrev pub is_block : Keyword → Bool
is_block keywords.Block = true
is_block k = false

-- it has the statements of a block stand where it stands
abbrev pub is_inheriting : Keyword → Bool
is_inheriting keywords.BlockInherit = true
is_inheriting k = false

-- a statement whose contents stand in the same namespace, and are there or not as a whole
abbrev pub is_optional : Keyword → Bool
is_optional keywords.Optional = true
is_optional k = false

-- a statement whose contents stand in the same namespace, and count where a condition has the value of their branch
abbrev pub is_conditional : Keyword → Bool
is_conditional keywords.BooleanIf = true
is_conditional k = false

-- what is in it stands where it stands itself
abbrev pub keeps_place : Keyword → Bool
keeps_place keywords.Optional = true
keeps_place keywords.BooleanIf = true
keeps_place k = false

-- a block or a macro: what has a name among blocks and macros
abbrev pub is_named : Keyword → Bool
is_named keywords.Block = true
is_named keywords.Macro = true
is_named k = false

-- two places of the modules are one
abbrev pub same_spot : Spot → Spot → Bool
same_spot a b = same_bytes (a.«module» ∷ a.at ∷ []) (b.«module» ∷ b.at ∷ [])

-- the place is this one
abbrev pub is_at : Spot → Option Spot → Bool
is_at at None = false
is_at at (Some under) = same_spot at under

-- the name that a statement declares
abbrev pub name_of : Written → List ℕ
name_of w = bytes_of (named_in_front w.statement.args)

-- the looked-up word in front of some terms
abbrev pub first_word : {L : Type 0} → Terms L → Option L
first_word nil = None
first_word (cons (Leaf w) ts) = Some w
first_word (cons (Name at name) ts) = None
first_word (cons (Form at op parts) ts) = None

-- ---- targets: they are looked up among the written blocks

-- a written block of this name in this namespace
abbrev pub is_block_named : List ℕ → Namespace → Written → Bool
is_block_named name n w = is_block w.statement.keyword && same_bytes (name_of w) name && same_space w.context.space n

unfoldable pub has_block : List Written → List ℕ → Namespace → Bool
has_block ws name n = list_any (is_block_named name n) ws

-- the namespace in which a word that is written in a namespace finds a block
unfoldable pub block_space : List Written → Namespace → Word → Option Namespace
block_space ws here w = find (has_block ws (asked w.bytes).name) (spaces_asked (asked w.bytes) (scope_at here))

-- the block is one that a blockinherit names
pub record Target (ws : List Written) (w b : Written) : Type 0 where
  pub word : Word
  pub is_word : first_word w.statement.args ≡ Some word
  pub space : Namespace
  pub found : block_space ws w.context.space word ≡ Some space
  pub is_written : Contains ws b
  pub named : is_block_named (asked word.bytes).name space b ≡ true

-- ---- contents

-- a condition, and a value of it for which some statements count
abbrev pub Branch : Type 0
Branch = Term ScopedWord × Bool

-- a statement as it stands somewhere: in which namespace, through which blockinherits (the first one first), in which
-- scope, in which optionals, each by its trail (the innermost first), in which branch of which condition (the innermost), and its
-- own trail: every statement through which it came, itself the last
pub record Standing : Type 0 where
  pub statement : Written
  pub space : Namespace
  pub chain : List Spot
  pub scope : Scope
  pub round : List (List Spot)
  pub branch : Option Branch
  pub trail : List Spot

-- which of all it is: the blockinherits through which it came, and where it is written
abbrev pub path_of : Standing → List Spot
path_of s = s.chain ++ s.statement.statement.at ∷ []

-- a block that is marked as abstract, where it is written
unfoldable pub is_abstract : List Written → Written → Bool
is_abstract ws b = list_any (λ v. is_abstraction v.statement.keyword && is_at b.statement.at v.context.under) ws

-- the statement stands directly in the other, as written
abbrev pub IsIn : Written → Written → Type 0
IsIn w p = w.context.under ≡ Some p.statement.at

-- a statement at the top of a module, in the global namespace
abbrev pub standing_top : Written → Standing
standing_top w = record { statement = w; space = []; chain = []; scope = [] ∷ []; round = []; branch = None; trail = w.statement.at ∷ [] }

-- one more in a block: its name is in front of the namespace, and the new namespace in front of the scope
abbrev pub standing_in_block : Standing → Written → Standing
standing_in_block s w = record {
  statement = w;
  space = name_of s.statement ∷ s.space;
  chain = s.chain;
  scope = tidy ((name_of s.statement ∷ s.space) ∷ s.scope);
  round = s.round;
  branch = s.branch;
  trail = s.trail ++ w.statement.at ∷ [];
}

-- one more in an optional: all stays but what is round it
abbrev pub standing_in_optional : Standing → Written → Standing
standing_in_optional s w = record {
  statement = w;
  space = s.space;
  chain = s.chain;
  scope = s.scope;
  round = s.trail ∷ s.round;
  branch = s.branch;
  trail = s.trail ++ w.statement.at ∷ [];
}

-- one more in a branch of this condition: all stays but the branch. It is in no optional for it
abbrev pub standing_under_condition : Standing → Term ScopedWord → Written → Standing
standing_under_condition s condition w = record {
  statement = w;
  space = s.space;
  chain = s.chain;
  scope = s.scope;
  round = s.round;
  branch = Some (condition, branch_value s.statement.statement.args w.statement.at);
  trail = s.trail ++ w.statement.at ∷ [];
}

-- a word in a scope
abbrev pub in_scope : Scope → Word → ScopedWord
in_scope scope w = record { at = w.at; bytes = w.bytes; sign = w.sign; scope = scope }

-- the condition of a booleanif: its words are looked up where it stands
abbrev pub condition_of : Standing → Term ScopedWord
condition_of s = replaced (λ at. at) (in_scope s.scope) (condition_in s.statement.statement.args)

-- one more in a branch
abbrev pub standing_in_branch : Standing → Written → Standing
standing_in_branch s w = standing_under_condition s (condition_of s) w

-- what a block hands to a place: its contents see that place first, and then what is round the block
abbrev pub standing_inherited : Standing → Written → Written → Standing
standing_inherited s b w = record {
  statement = w;
  space = s.space;
  chain = path_of s;
  scope = tidy (s.scope ++ chain b.context.space);
  round = s.round;
  branch = s.branch;
  trail = s.trail ++ w.statement.at ∷ [];
}

-- what stands: a top statement; what is directly in a block that stands and is not abstract; what is directly in an optional, or in
-- a branch of a booleanif, that stands; what is directly in a target of a blockinherit that stands
pub data Stands (ws : List Written) : Standing → Type 0 where
  top : (w : Written) → Contains ws w → w.context.under ≡ None → Stands ws (standing_top w)
  in_block : (s : Standing) (w : Written) → Stands ws s → is_block s.statement.statement.keyword ≡ true → is_abstract ws s.statement ≡ false
      → Contains ws w → IsIn w s.statement → Stands ws (standing_in_block s w)
  in_optional : (s : Standing) (w : Written) → Stands ws s → is_optional s.statement.statement.keyword ≡ true
      → Contains ws w → IsIn w s.statement → Stands ws (standing_in_optional s w)
  in_branch : (s : Standing) (w : Written) → Stands ws s → is_conditional s.statement.statement.keyword ≡ true
      → Contains ws w → IsIn w s.statement → Stands ws (standing_in_branch s w)
  inherited : (s : Standing) (b w : Written) → Stands ws s → is_inheriting s.statement.statement.keyword ≡ true → Target ws s.statement b
      → Contains ws w → IsIn w b → Stands ws (standing_inherited s b w)

-- ---- the order

-- by module, then by place
abbrev pub spot_cmp : Spot → Spot → Ordering
spot_cmp = then_cmp (on (λ p. p.«module») nat_cmp) (on (λ p. p.at) nat_cmp)

-- any two places have an order
pub spot_total : IsTotalOrder spot_cmp
spot_total = then_total (on_total (λ p. p.«module») nat_cmp_total) (on_total (λ p. p.at) nat_cmp_total)

-- a shorter path first; of two of one length the first place that differs decides
abbrev pub path_cmp : List Spot → List Spot → Ordering
path_cmp = then_cmp (on length nat_cmp) (slice_cmp spot_cmp)

-- by the number of statements through which they came, then by these
abbrev pub standing_cmp : Standing → Standing → Ordering
standing_cmp = on (λ s. s.trail) path_cmp
