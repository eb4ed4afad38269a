-- What a standing statement opens: the statements that stand directly in it, a block, an optional or a booleanif, or in the block
-- that it inherits.
use Rattle.std.specs.Prelude.{Bool, true, false, if◌then◌else◌, List, [], map, filter, find, Option, Some, None}
use Rattle.cil_syntax.specs.declared.kind.Keyword.{Keyword}
use Rattle.cil_syntax.specs.declared.kind.Keyword.TheVariants as keywords
use Rattle.cil_blocks.specs.Contents.{is_at, is_abstract, is_block_named, block_space, first_word, Standing, standing_top, standing_in_block, standing_in_branch, standing_in_optional, standing_inherited}
use Rattle.cil_faults.specs.Namespaces.{Namespace}
use Rattle.cil_syntax.specs.Scopes.{asked}
use Rattle.cil_syntax.specs.declared.term.Word.{Word}
use Rattle.cil_syntax.specs.Written.{Written}

-- ---- the statements at the top, and those directly in another

abbrev pub on_top_by : {X : Type 0} → Option X → Bool
on_top_by None = true
on_top_by (Some x) = false

abbrev pub is_on_top : Written → Bool
is_on_top w = on_top_by w.context.under

-- the first that stand
abbrev pub tops : List Written → List Standing
tops ws = map standing_top (filter is_on_top ws)

-- the statements directly in another
abbrev pub parts : List Written → Written → List Written
parts ws p = filter (λ w. is_at p.statement.at w.context.under) ws

-- ---- the block that a blockinherit names

abbrev pub target_in : List Written → Word → Option Namespace → Option Written
target_in ws w None = None
target_in ws w (Some n) = find (is_block_named (asked w.bytes).name n) ws

abbrev pub target_by : List Written → Namespace → Option Word → Option Written
target_by ws here None = None
target_by ws here (Some w) = target_in ws w (block_space ws here w)

-- the block that a blockinherit names
unfoldable pub target_of : List Written → Written → Option Written
target_of ws w = target_by ws w.context.space (first_word w.statement.args)

-- ---- what a standing statement opens

abbrev pub opens_target : List Written → Standing → Option Written → List Standing
opens_target ws s None = []
opens_target ws s (Some b) = map (standing_inherited s b) (parts ws b)

abbrev pub opens_as : List Written → Standing → Keyword → List Standing
opens_as ws s keywords.Block = if is_abstract ws s.statement then [] else map (standing_in_block s) (parts ws s.statement)
opens_as ws s keywords.BlockInherit = opens_target ws s (target_of ws s.statement)
opens_as ws s keywords.Optional = map (standing_in_optional s) (parts ws s.statement)
opens_as ws s keywords.BooleanIf = map (standing_in_branch s) (parts ws s.statement)
opens_as ws s k = []

unfoldable pub opens : List Written → Standing → List Standing
opens ws s = opens_as ws s s.statement.statement.keyword
