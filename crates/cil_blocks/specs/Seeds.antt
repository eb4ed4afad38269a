-- What the pass over pairs of bodies computes, by numbers. A body is none, for the texts, or the number of a block. A seed is
-- a body that gives to a namespace by itself; with it go all bodies that are handed to that namespace.
use Rattle.std.specs.Prelude.{◌≡◌, ◌⊎◌, ℕ, true, false, List, ◌++◌, map, flat_map, Contains, Option, Some, None}
use Rattle.std.specs.List.Sorted.{IsSortedByKey}
use Rattle.cil_base.specs.Lists.{text_cmp}
use Rattle.cil_syntax.specs.Written.{Written}
use Rattle.cil_blocks.specs.declared.parts.Parts.{Parts}
use Rattle.cil_blocks.specs.declared.reach.Members.{Members}
use Rattle.cil_blocks.specs.declared.seeds.Matched.{Matched}
use Rattle.cil_blocks.specs.declared.targets.Targets.{Targets}
use Rattle.cil_blocks.specs.Contents.{is_abstract, is_block, name_of}
use Rattle.cil_blocks.specs.Doubled.{AreThose, IsMatched, is_named_at}
use Rattle.cil_blocks.specs.Entries.{parts_at, statement_at}
use Rattle.cil_blocks.specs.Named.{targets_in}

-- what is reached from a start, one step after another
pub data IsReachedBy {X : Type 0} (opens : X → X → Type 0) (start : X) : X → Type 0 where
  at_start : IsReachedBy opens start start
  further : (x y : X) → IsReachedBy opens start x → opens x y → IsReachedBy opens start y

-- some were put behind others, but for those that were there
pub record IsJoined {X : Type 0} (more old new : List X) : Type 0 where
  pub behind : List X
  pub is : new ≡ old ++ behind
  pub kept : (x : X) → Contains behind x → Contains more x
  pub all : (x : X) → Contains more x → Contains new x

-- ---- bodies

abbrev pub body_of : List Written → Option ℕ → Option Written
body_of ws None = None
body_of ws (Some k) = Some (statement_at ws k)

-- the statements directly in a body
abbrev pub body_parts : Parts → Option ℕ → List ℕ
body_parts ps None = ps.tops.items
body_parts ps (Some k) = parts_at ps k

-- the blocks of some numbers, as bodies
abbrev pub bodies : List ℕ → List (Option ℕ)
bodies numbers = map Some numbers

-- what is handed to a body: the targets of the blockinherits directly in it
unfoldable pub handed_to : Parts → Targets → Option ℕ → List (Option ℕ)
handed_to ps ts body = flat_map (λ v. bodies (targets_in ts v)) (body_parts ps body)

abbrev pub IsHanded : Parts → Targets → Option ℕ → Option ℕ → Type 0
IsHanded ps ts a b = Contains (handed_to ps ts a) b

-- the seed, and all that is handed to its namespace
abbrev pub Reaches : Parts → Targets → Option ℕ → Option ℕ → Type 0
Reaches ps ts seed body = IsReachedBy (IsHanded ps ts) seed body

-- ---- what bodies give

abbrev pub own_name : List Written → ℕ → List ℕ
own_name ws i = name_of (statement_at ws i)

-- the statement is a block that is not abstract, so it is a seed
abbrev pub IsOpen : List Written → ℕ → Type 0
IsOpen ws i = (is_block (statement_at ws i).statement.keyword ≡ true) × (is_abstract ws (statement_at ws i) ≡ false)

-- a statement directly in the seed or in what is handed to it
pub record IsGivenBy (ps : Parts) (ts : Targets) (seed : Option ℕ) (i : ℕ) : Type 0 where
  pub body : Option ℕ
  pub reached : Reaches ps ts seed body
  pub is_in : Contains (body_parts ps body) i

-- a block or a macro among them; a block among them that is not abstract
abbrev pub IsMember : List Written → Parts → Targets → Option ℕ → ℕ → Type 0
IsMember ws ps ts seed i = IsGivenBy ps ts seed i × (is_named_at ws i ≡ true)

abbrev pub IsOpenMember : List Written → Parts → Targets → Option ℕ → ℕ → Type 0
IsOpenMember ws ps ts seed i = IsMember ws ps ts seed i × IsOpen ws i

-- the blocks and macros of a seed, and those of the blocks that are not abstract, in the order of their own names
pub record AreMembers (ws : List Written) (ps : Parts) (ts : Targets) (seed : Option ℕ) (m : Members) : Type 0 where
  pub named : AreThose (IsMember ws ps ts seed) m.named.items
  pub named_sorted : IsSortedByKey (own_name ws) text_cmp m.named.items
  pub open_blocks : AreThose (IsOpenMember ws ps ts seed) m.open_blocks.items
  pub open_sorted : IsSortedByKey (own_name ws) text_cmp m.open_blocks.items

-- ---- pairs of seeds

abbrev pub Pair : Type 0
Pair = Option ℕ × Option ℕ

-- of a number of each list, where the two have one key
pub record IsPaired {K : Type 0} (key : ℕ → K) (ones others : List ℕ) (p : Pair) : Type 0 where
  pub one : ℕ
  pub other : ℕ
  pub is_one : Contains ones one
  pub is_other : Contains others other
  pub one_key : key other ≡ key one
  pub is : p ≡ (Some one, Some other)

-- two blocks of one name, which two seeds of one namespace have, are seeds of one namespace
pub record IsNext (ws : List Written) (ps : Parts) (ts : Targets) (p q : Pair) : Type 0 where
  pub one : ℕ
  pub other : ℕ
  pub is_one : IsOpenMember ws ps ts p.0 one
  pub is_other : IsOpenMember ws ps ts p.1 other
  pub one_name : own_name ws other ≡ own_name ws one
  pub is : q ≡ (Some one, Some other)

-- pairs of seeds that give to one namespace
abbrev pub AreSeeds : List Written → Parts → Targets → Pair → Type 0
AreSeeds ws ps ts p = IsReachedBy (IsNext ws ps ts) (None, None) p

-- a block or a macro of the first seed shares its name with another one of the second
pub record IsDoubledBy (ws : List Written) (ps : Parts) (ts : Targets) (p : Pair) (i : ℕ) : Type 0 where
  pub is_one : IsMember ws ps ts p.0 i
  pub other : ℕ
  pub is_other : IsMember ws ps ts p.1 other
  pub one_name : own_name ws other ≡ own_name ws i
  pub differ : other ≡ i → ⊥

-- it shares its name with another one in some namespace
abbrev pub StandsTwice : List Written → Parts → Targets → ℕ → Type 0
StandsTwice ws ps ts i = (p : Pair) × AreSeeds ws ps ts p × IsDoubledBy ws ps ts p i

-- ---- seeds that tell nothing new

-- the pair is of a seed with itself, which is among some bodies
abbrev pub IsCovered : List (Option ℕ) → Pair → Type 0
IsCovered covered p = (p.0 ≡ p.1) × Contains covered p.0

-- no more bodies were put in than a seed reaches
abbrev pub CoversFrom : Parts → Targets → Option ℕ → List (Option ℕ) → List (Option ℕ) → Type 0
CoversFrom ps ts seed old new = (b : Option ℕ) → Contains new b → Contains old b ⊎ Reaches ps ts seed b

-- no more than the seed of a pair reaches, if it is paired with itself
abbrev pub Covers : Parts → Targets → Pair → List (Option ℕ) → List (Option ℕ) → Type 0
Covers ps ts p old new = (b : Option ℕ) → Contains new b → Contains old b ⊎ ((p.0 ≡ p.1) × Reaches ps ts p.0 b)

-- ---- what a pair tells

-- what a pair of seeds tells
pub record AreMatched (ws : List Written) (ps : Parts) (ts : Targets) (p : Pair) (m : Matched) : Type 0 where
  pub doubled : AreThose (IsDoubledBy ws ps ts p) m.doubled.items
  pub next : AreThose (IsNext ws ps ts p) m.next.items

-- what a pair of seeds tells was put behind what is there: of blocks and macros, and of pairs
pub record IsTold (ws : List Written) (ps : Parts) (ts : Targets) (p : Pair) (found new : List ℕ) (pairs more : List Pair) : Type 0 where
  pub doubled : List ℕ
  pub are_doubled : AreThose (IsDoubledBy ws ps ts p) doubled
  pub is_found : new ≡ found ++ doubled
  pub next : List Pair
  pub are_next : AreThose (IsNext ws ps ts p) next
  pub is_joined : IsJoined next pairs more

-- the same by the lists of the two
pub record AreMatchedOf (ws : List Written) (ones others : Members) (m : Matched) : Type 0 where
  pub doubled : AreThose (IsMatched (own_name ws) ones.named.items others.named.items) m.doubled.items
  pub next : AreThose (IsPaired (own_name ws) ones.open_blocks.items others.open_blocks.items) m.next.items

-- the pairs of a number with others
abbrev pub paired_with : ℕ → List ℕ → List Pair
paired_with one others = map (λ other. (Some one, Some other)) others
