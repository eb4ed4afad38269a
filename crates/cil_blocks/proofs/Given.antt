-- A namespace has the statements of the bodies that give to it: what stands there, without the chains.
use Rattle.std.proofs.Common.{◌≡◌, Bool, true, false, ◌&&◌, List, ◌∷◌, refl, sym, ◌∙◌, ap, subst}
use Rattle.std.specs.Prelude.{Contains, Option, Some, None}
use Rattle.cil_base.specs.Places.{get_at, some_same}
use Rattle.cil_syntax.specs.declared.kind.Keyword.{Keyword}
use Rattle.cil_syntax.specs.declared.kind.Keyword.TheVariants as keywords
use Rattle.cil_syntax.specs.declared.kind.Nesting.{Nesting}
use Rattle.cil_syntax.specs.declared.kind.Nesting.TheVariants as nestings
use Rattle.cil_syntax.specs.declared.program.Statement.{Statement}
use Rattle.cil_syntax.specs.Program.{IsNested, context_in, program_of}
use Rattle.cil_faults.specs.Namespaces.{Namespace}
use Rattle.cil_syntax.specs.Table.{entry_of}
use Rattle.cil_syntax.specs.Written.{Context, Written, allows, may_stand, nesting_within}
use Rattle.cil_blocks.specs.Contents.{is_block, is_inheriting, is_abstract, keeps_place, IsIn, Target, Standing, standing_top, standing_in_block, standing_inherited, Stands, top, in_block, in_branch, in_optional, inherited, name_of}
use Rattle.cil_blocks.specs.InheritFaults.{IsOf, Gives, texts, own, handed}
use Rattle.cil_blocks.specs.Laws.{AreGiven, IsGiven, StandsSomehow, stands_in_blocks}
use Rattle.cil_blocks.proofs.Keeping.{conditional_keeps, optional_keeps}
use Rattle.cil_blocks.proofs.ProgramLemmas.{in_number, kept_at, stands_under}

-- ---- no block, macro or blockinherit is in an optional or in a branch

both_left : (a b : Bool) → (a && b) ≡ true → a ≡ true
both_left true b e = refl
both_left false b e = absurd (let f : false ≡ true = e in cc)

allowed_there : (k : Keyword) (c : Context) → stands_in_blocks k ≡ true → may_stand c (entry_of k) ≡ true → allows c.nesting nestings.InBlock ≡ true
unfolding entry_of
allowed_there keywords.Block c e may = both_left (allows c.nesting nestings.InBlock) true may
allowed_there keywords.Macro c e may = both_left (allows c.nesting nestings.InBlock) true may
allowed_there keywords.BlockInherit c e may = both_left (allows c.nesting nestings.InBlock) true may
allowed_there k c e may = absurd (let f : false ≡ true = e in cc)

inside_kept : (k : Keyword) (here : Nesting) → keeps_place k ≡ true → allows (nesting_within (entry_of k).body here) nestings.InBlock ≡ false
unfolding entry_of
inside_kept keywords.Optional here e = refl
inside_kept keywords.BooleanIf here e = refl
inside_kept k here e = absurd (let f : false ≡ true = e in cc)

block_stands : (k : Keyword) → is_block k ≡ true → stands_in_blocks k ≡ true
block_stands keywords.Block e = refl
block_stands k e = absurd (let f : false ≡ true = e in cc)

inheriting_stands : (k : Keyword) → is_inheriting k ≡ true → stands_in_blocks k ≡ true
inheriting_stands keywords.BlockInherit e = refl
inheriting_stands k e = absurd (let f : false ≡ true = e in cc)

module _ (ss : List Statement) (nested : IsNested ss) where
  context_of : (w p : Written) → Contains (program_of ss) w → Contains (program_of ss) p → IsIn w p → w.context ≡ context_in (Some p)
  context_of w p c d i =
      let at = get_at (program_of ss) w c in
      let s = kept_at ss nested at.0 w at.2 in
      let k = in_number ss nested at.0 s.0 w p s.1 at.2 d i in
      let q = stands_under ss nested at.0 k.0 s.0 w s.1 at.2 k.1 in
      q.2 ∙ ap (λ x. context_in (Some x)) (some_same q.0 p (sym q.1 ∙ k.3))

  not_inside : (w p : Written) → Contains (program_of ss) w → Contains (program_of ss) p → IsIn w p → keeps_place p.statement.keyword ≡ true
      → stands_in_blocks w.statement.keyword ≡ true → ⊥
  not_inside w p c d i o e =
      let inside : allows w.context.nesting nestings.InBlock ≡ false =
      ap (λ (x : Context). allows x.nesting nestings.InBlock) (context_of w p c d i) ∙ inside_kept p.statement.keyword p.context.nesting o in
      let f : false ≡ true = sym inside ∙ allowed_there w.statement.keyword w.context e (nested.allowed w c) in
      cc

-- ---- bodies

module _ (ws : List Written) where
  standing_written : (s : Standing) → Stands ws s → Contains ws s.statement
  standing_written s (top w c u) = c
  standing_written s (in_block p w sp b a c u) = c
  standing_written s (in_optional p w sp o c u) = c
  standing_written s (in_branch p w sp o c u) = c
  standing_written s (inherited p b w sp i t c u) = c

  -- what stands in a namespace, and may stand in blocks alone, is given by a body
  module _ (none : (w p : Written) → Contains ws w → Contains ws p → IsIn w p → keeps_place p.statement.keyword ≡ true → stands_in_blocks w.statement.keyword ≡ true → ⊥) where
    given_by : (s : Standing) → Stands ws s → stands_in_blocks s.statement.statement.keyword ≡ true → IsGiven ws s.space s.statement
    given_by s (top w c u) k = (None, texts, u)
    given_by s (in_block p w sp b a c u) k =
        let r = given_by p sp (block_stands p.statement.statement.keyword b) in
        (Some p.statement, own p.space r.0 p.statement r.1 (standing_written p sp) b r.2 a, u)
    given_by s (in_optional p w sp o c u) k =
        absurd (none w p.statement c (standing_written p sp) u (optional_keeps p.statement.statement.keyword o) k)
    given_by s (in_branch p w sp o c u) k =
        absurd (none w p.statement c (standing_written p sp) u (conditional_keeps p.statement.statement.keyword o) k)
    given_by s (inherited p b w sp i t c u) k =
        let r = given_by p sp (inheriting_stands p.statement.statement.keyword i) in
        (Some b, handed p.space r.0 p.statement b r.1 (standing_written p sp) i r.2 t, u)

  -- what a body gives stands there
  stands_given : (n : Namespace) (body : Option Written) (w : Written) → Gives ws n body → Contains ws w → IsOf body w → StandsSomehow ws n w
  stands_given n body w texts c i = (standing_top w, top w c i, refl, refl)
  stands_given n body w (own k other b g d e j a) c i =
      let r = stands_given k other b g d j in (
        standing_in_block r.0 w,
        in_block r.0 w r.1 (subst (λ (x : Written). is_block x.statement.keyword ≡ true) (sym r.2) e) (subst (λ x. is_abstract ws x ≡ false) (sym r.2) a) c
            (subst (IsIn w) (sym r.2) i),
        refl,
        λ t. name_of (r.2 t) ∷ r.3 t,
      )
  stands_given n body w (handed k other v b g d e j t) c i =
      let r = stands_given k other v g d j in (
        standing_inherited r.0 b w,
        inherited r.0 b w r.1 (subst (λ (x : Written). is_inheriting x.statement.keyword ≡ true) (sym r.2) e) (subst (λ x. Target ws x b) (sym r.2) t) c i,
        refl,
        r.3,
      )

pub are_given : AreGiven
are_given ss n w nested c k =
    let ws = program_of ss in (
      (λ s. subst (λ x. IsGiven ws n x) s.2
          (subst (λ x. IsGiven ws x s.0.statement) s.3
          (given_by ws (not_inside ss nested) s.0 s.1 (subst (λ (x : Written). stands_in_blocks x.statement.keyword ≡ true) (sym s.2) k)))),
      (λ g. stands_given ws n g.0 w g.1 c g.2),
    )
