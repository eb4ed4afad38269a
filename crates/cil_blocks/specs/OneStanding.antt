-- A statement stands once through each chain of blockinherits: what it stands in, its scope, its optionals and its branch are
-- a function of its path.
use Rattle.std.proofs.Common.{◌≡◌, ◌⊎◌, Bool, true, false, ◌&&◌, List, [], ◌∷◌, ◌++◌, refl, sym, ◌∙◌, ap, subst, inl, inr}
use Rattle.std.specs.Prelude.{Contains, Option, Some, None}
use Rattle.std.specs.declared.cmp.Ordering.TheVariants.{Less}
use Rattle.cil_syntax.specs.declared.kind.Keyword.{Keyword}
use Rattle.cil_syntax.specs.declared.kind.Keyword.TheVariants as keywords
use Rattle.cil_blocks.specs.Contents.{is_block, is_conditional, is_inheriting, is_optional, IsIn, Target, Standing, path_of, standing_top, standing_in_block, standing_in_branch, standing_in_optional, standing_inherited, Stands, top, in_block, in_branch, in_optional, inherited}
use Rattle.cil_syntax.specs.Written.{Written, written_cmp, written_total}
use Rattle.cil_blocks.specs.Laws.{HasOneTarget}
use Rattle.cil_base.specs.Lists.{not_below_itself}
use Rattle.cil_base.specs.Places.{never_empty, same_ends, some_same}

pub first_of_three : (a b c : Bool) → (a && b && c) ≡ true → a ≡ true
first_of_three true b c e = refl
first_of_three false true c e = e
first_of_three false false c e = e

-- a block is no optional
no_block_optional : (k : Keyword) → is_block k ≡ true → is_optional k ≡ true → ⊥
no_block_optional keywords.Block b o = let f : false ≡ true = o in cc
no_block_optional k b o = let f : false ≡ true = b in cc

-- a booleanif is neither
no_block_conditional : (k : Keyword) → is_block k ≡ true → is_conditional k ≡ true → ⊥
no_block_conditional keywords.Block b c = let f : false ≡ true = c in cc
no_block_conditional k b c = let f : false ≡ true = b in cc

no_optional_conditional : (k : Keyword) → is_optional k ≡ true → is_conditional k ≡ true → ⊥
no_optional_conditional keywords.Optional o c = let f : false ≡ true = c in cc
no_optional_conditional k o c = let f : false ≡ true = o in cc

-- ---- written statements

-- no two stand at one place, and what stands in another stands behind where that begins
pub record AreApart (ws : List Written) : Type 0 where
  pub one : (v w : Written) → Contains ws v → Contains ws w → v.statement.at ≡ w.statement.at → v ≡ w
  pub deeper : (v w : Written) → Contains ws v → Contains ws w → IsIn v w → written_cmp w v ≡ Less

module _ (ws : List Written) (are_apart : AreApart ws) (one_target : HasOneTarget ws) where
  pub is_written : (s : Standing) → Stands ws s → Contains ws s.statement
  is_written s (top w c u) = c
  is_written s (in_block p w sp k a c u) = c
  is_written s (in_optional p w sp k c u) = c
  is_written s (in_branch p w sp k c u) = c
  is_written s (inherited p b w sp k t c u) = c

  -- two statements round one are one
  round_one : (w p q : Written) → Contains ws p → Contains ws q → IsIn w p → IsIn w q → p ≡ q
  round_one w p q cp cq u v = are_apart.one p q cp cq (some_same p.statement.at q.statement.at (sym u ∙ v))

  -- what came through blockinherits stands in the target of the last
  pub record IsEntered (s : Standing) : Type 0 where
    pub by : Standing
    pub target : Written
    pub stands : Stands ws by
    pub inherits : is_inheriting by.statement.statement.keyword ≡ true
    pub is_target : Target ws by.statement target
    pub chain : s.chain ≡ path_of by
    pub deeper : written_cmp target s.statement ≡ Less

  entered_further : (s t : Standing) → (s.chain ≡ []) ⊎ IsEntered s → t.chain ≡ s.chain → written_cmp s.statement t.statement ≡ Less
      → (t.chain ≡ []) ⊎ IsEntered t
  entered_further s t (inl e) c d = inl (c ∙ e)
  entered_further s t (inr e) c d =
      inr (record { by = e.by; target = e.target; stands = e.stands; inherits = e.inherits; is_target = e.is_target; chain = c ∙ e.chain; deeper = written_total.trans e.target s.statement t.statement e.deeper d })

  pub entered : (s : Standing) → Stands ws s → (s.chain ≡ []) ⊎ IsEntered s
  entered s (top w c u) = inl refl
  entered s (in_block p w sp k a c u) =
      entered_further p (standing_in_block p w) (entered p sp) refl (are_apart.deeper w p.statement c (is_written p sp) u)
  entered s (in_optional p w sp k c u) =
      entered_further p (standing_in_optional p w) (entered p sp) refl (are_apart.deeper w p.statement c (is_written p sp) u)
  entered s (in_branch p w sp k c u) =
      entered_further p (standing_in_branch p w) (entered p sp) refl (are_apart.deeper w p.statement c (is_written p sp) u)
  entered s (inherited p b w sp k t c u) =
      inr (record { by = p; target = b; stands = sp; inherits = k; is_target = t; chain = refl; deeper = are_apart.deeper w b c t.is_written u })

  pub empty_path : (s : Standing) → [] ≡ path_of s → ⊥
  empty_path s e = never_empty s.statement.statement.at s.statement.statement.at s.chain e

  -- a statement does not stand both in the target of a blockinherit and, through it, in a block that is this target
  not_both : (p t : Standing) (b : Written) → Stands ws p → Stands ws t → p.chain ≡ path_of t → Target ws t.statement b → p.statement ≡ b
      → (p.chain ≡ []) ⊎ IsEntered p → ⊥
  not_both p t b sp st chain target same (inl none) = empty_path t (sym none ∙ chain)
  not_both p t b sp st chain target same (inr e) =
      let ends = same_ends e.by.chain t.chain e.by.statement.statement.at t.statement.statement.at (sym e.chain ∙ chain) in
      let caller : e.by.statement ≡ t.statement = are_apart.one e.by.statement t.statement (is_written e.by e.stands) (is_written t st) ends.1 in
      let one : e.target ≡ b = one_target t.statement e.target b (subst (λ w. Target ws w e.target) caller e.is_target) target in
      not_below_itself written_cmp written_total p.statement (subst (λ w. written_cmp w p.statement ≡ Less) (one ∙ sym same) e.deeper)

  is_target_block : (w b : Written) → Target ws w b → is_block b.statement.keyword ≡ true
  is_target_block w b t = first_of_three _ _ _ t.named

  pub keyword_of : (p q : Written) → p ≡ q → (f : Keyword → Bool) → f p.statement.keyword ≡ true → f q.statement.keyword ≡ true
  keyword_of p q e f h = subst (λ (w : Written). f w.statement.keyword ≡ true) e h

  -- of two statements with one path: one chain, and one statement
  same_chain : (s t : Standing) → path_of s ≡ path_of t → s.chain ≡ t.chain
  same_chain s t e = (same_ends s.chain t.chain _ _ e).0

  same_statement : (s t : Standing) → Stands ws s → Stands ws t → path_of s ≡ path_of t → s.statement ≡ t.statement
  same_statement s t ss st e =
      are_apart.one s.statement t.statement (is_written s ss) (is_written t st) (same_ends s.chain t.chain s.statement.statement.at t.statement.statement.at e).1

  pub same_path : (s t : Standing) → s.chain ≡ t.chain → s.statement ≡ t.statement → path_of s ≡ path_of t
  same_path s t c e = λ i. c i ++ (e i).statement.at ∷ []

  pub none_some : {X : Type 0} (o : Option X) (x : X) → o ≡ None → o ≡ Some x → ⊥
  none_some o x e f = let g : None ≡ Some x = sym e ∙ f in cc

  same_under : (v w : Written) → v ≡ w → v.context.under ≡ w.context.under
  same_under v w e = ap (λ (z : Written). z.context.under) e

  -- two statements with one place, each in another: these are one
  pub round_same : (v w p q : Written) → v ≡ w → Contains ws p → Contains ws q → IsIn v p → IsIn w q → p ≡ q
  round_same v w p q e cp cq x y = round_one v p q cp cq x (same_under v w e ∙ y)

  -- of two statements that are one, none is a block while the other is an optional
  not_block_and_optional : (p q : Written) → p ≡ q → is_block p.statement.keyword ≡ true → is_optional q.statement.keyword ≡ true → ⊥
  not_block_and_optional p q e b o = no_block_optional q.statement.keyword (keyword_of p q e is_block b) o

  -- nor a booleanif, nor is one an optional and the other a booleanif
  pub not_block_and_conditional : (p q : Written) → p ≡ q → is_block p.statement.keyword ≡ true → is_conditional q.statement.keyword ≡ true → ⊥
  not_block_and_conditional p q e b o = no_block_conditional q.statement.keyword (keyword_of p q e is_block b) o

  pub not_optional_and_conditional : (p q : Written) → p ≡ q → is_optional p.statement.keyword ≡ true → is_conditional q.statement.keyword ≡ true → ⊥
  not_optional_and_conditional p q e b o = no_optional_conditional q.statement.keyword (keyword_of p q e is_optional b) o

  -- the law: one path, one standing
  pub one_standing : (s t : Standing) → Stands ws s → Stands ws t → path_of s ≡ path_of t → s ≡ t
  one_standing s t (top w c u) (top v d x) e = ap standing_top (same_statement s t (top w c u) (top v d x) e)
  one_standing s t (top w c u) (in_block q v sq l b d x) e =
      absurd (none_some _ _ u (same_under w v (same_statement s t (top w c u) (in_block q v sq l b d x) e) ∙ x))
  one_standing s t (top w c u) (in_optional q v sq l d x) e =
      absurd (none_some _ _ u (same_under w v (same_statement s t (top w c u) (in_optional q v sq l d x) e) ∙ x))
  one_standing s t (top w c u) (in_branch q v sq l d x) e =
      absurd (none_some _ _ u (same_under w v (same_statement s t (top w c u) (in_branch q v sq l d x) e) ∙ x))
  one_standing s t (top w c u) (inherited q b v sq l k d x) e =
      absurd (none_some _ _ u (same_under w v (same_statement s t (top w c u) (inherited q b v sq l k d x) e) ∙ x))
  one_standing s t (in_block p w sp k a c u) (top v d x) e =
      absurd (none_some _ _ x (same_under v w (sym (same_statement s t (in_block p w sp k a c u) (top v d x) e)) ∙ u))
  one_standing s t (in_optional p w sp k c u) (top v d x) e =
      absurd (none_some _ _ x (same_under v w (sym (same_statement s t (in_optional p w sp k c u) (top v d x) e)) ∙ u))
  one_standing s t (in_branch p w sp k c u) (top v d x) e =
      absurd (none_some _ _ x (same_under v w (sym (same_statement s t (in_branch p w sp k c u) (top v d x) e)) ∙ u))
  one_standing s t (inherited p b w sp k g c u) (top v d x) e =
      absurd (none_some _ _ x (same_under v w (sym (same_statement s t (inherited p b w sp k g c u) (top v d x) e)) ∙ u))
  one_standing s t (in_block p w sp k a c u) (in_block q v sq l b d x) e =
      let same = same_statement s t (in_block p w sp k a c u) (in_block q v sq l b d x) e in
      let round = round_same w v p.statement q.statement same (is_written p sp) (is_written q sq) u x in
      let one = one_standing p q sp sq (same_path p q (same_chain s t e) round) in
      λ i. standing_in_block (one i) (same i)
  one_standing s t (in_block p w sp k a c u) (in_optional q v sq l d x) e =
      let same = same_statement s t (in_block p w sp k a c u) (in_optional q v sq l d x) e in
      let round = round_same w v p.statement q.statement same (is_written p sp) (is_written q sq) u x in
      absurd (not_block_and_optional p.statement q.statement round k l)
  one_standing s t (in_optional p w sp k c u) (in_block q v sq l b d x) e =
      let same = same_statement s t (in_optional p w sp k c u) (in_block q v sq l b d x) e in
      let round = round_same w v p.statement q.statement same (is_written p sp) (is_written q sq) u x in
      absurd (not_block_and_optional q.statement p.statement (sym round) l k)
  one_standing s t (in_optional p w sp k c u) (in_optional q v sq l d x) e =
      let same = same_statement s t (in_optional p w sp k c u) (in_optional q v sq l d x) e in
      let round = round_same w v p.statement q.statement same (is_written p sp) (is_written q sq) u x in
      let one = one_standing p q sp sq (same_path p q (same_chain s t e) round) in
      λ i. standing_in_optional (one i) (same i)
  one_standing s t (in_block p w sp k a c u) (in_branch q v sq l d x) e =
      let same = same_statement s t (in_block p w sp k a c u) (in_branch q v sq l d x) e in
      let round = round_same w v p.statement q.statement same (is_written p sp) (is_written q sq) u x in
      absurd (not_block_and_conditional p.statement q.statement round k l)
  one_standing s t (in_branch p w sp k c u) (in_block q v sq l b d x) e =
      let same = same_statement s t (in_branch p w sp k c u) (in_block q v sq l b d x) e in
      let round = round_same w v p.statement q.statement same (is_written p sp) (is_written q sq) u x in
      absurd (not_block_and_conditional q.statement p.statement (sym round) l k)
  one_standing s t (in_optional p w sp k c u) (in_branch q v sq l d x) e =
      let same = same_statement s t (in_optional p w sp k c u) (in_branch q v sq l d x) e in
      let round = round_same w v p.statement q.statement same (is_written p sp) (is_written q sq) u x in
      absurd (not_optional_and_conditional p.statement q.statement round k l)
  one_standing s t (in_branch p w sp k c u) (in_optional q v sq l d x) e =
      let same = same_statement s t (in_branch p w sp k c u) (in_optional q v sq l d x) e in
      let round = round_same w v p.statement q.statement same (is_written p sp) (is_written q sq) u x in
      absurd (not_optional_and_conditional q.statement p.statement (sym round) l k)
  one_standing s t (in_branch p w sp k c u) (in_branch q v sq l d x) e =
      let same = same_statement s t (in_branch p w sp k c u) (in_branch q v sq l d x) e in
      let round = round_same w v p.statement q.statement same (is_written p sp) (is_written q sq) u x in
      let one = one_standing p q sp sq (same_path p q (same_chain s t e) round) in
      λ i. standing_in_branch (one i) (same i)
  one_standing s t (in_block p w sp k a c u) (inherited q b v sq l g d x) e =
      let same = same_statement s t (in_block p w sp k a c u) (inherited q b v sq l g d x) e in
      absurd (not_both p q b sp sq (same_chain s t e) g (round_same w v p.statement b same (is_written p sp) g.is_written u x) (entered p sp))
  one_standing s t (inherited p b w sp k g c u) (in_block q v sq l a d x) e =
      let same = same_statement s t (inherited p b w sp k g c u) (in_block q v sq l a d x) e in
      absurd (not_both q p b sq sp (sym (same_chain s t e)) g (sym (round_same w v b q.statement same g.is_written (is_written q sq) u x)) (entered q sq))
  one_standing s t (in_optional p w sp k c u) (inherited q b v sq l g d x) e =
      let same = same_statement s t (in_optional p w sp k c u) (inherited q b v sq l g d x) e in
      let round = round_same w v p.statement b same (is_written p sp) g.is_written u x in
      absurd (not_block_and_optional b p.statement (sym round) (is_target_block q.statement b g) k)
  one_standing s t (inherited p b w sp k g c u) (in_optional q v sq l d x) e =
      let same = same_statement s t (inherited p b w sp k g c u) (in_optional q v sq l d x) e in
      let round = round_same w v b q.statement same g.is_written (is_written q sq) u x in
      absurd (not_block_and_optional b q.statement round (is_target_block p.statement b g) l)
  one_standing s t (in_branch p w sp k c u) (inherited q b v sq l g d x) e =
      let same = same_statement s t (in_branch p w sp k c u) (inherited q b v sq l g d x) e in
      let round = round_same w v p.statement b same (is_written p sp) g.is_written u x in
      absurd (not_block_and_conditional b p.statement (sym round) (is_target_block q.statement b g) k)
  one_standing s t (inherited p b w sp k g c u) (in_branch q v sq l d x) e =
      let same = same_statement s t (inherited p b w sp k g c u) (in_branch q v sq l d x) e in
      let round = round_same w v b q.statement same g.is_written (is_written q sq) u x in
      absurd (not_block_and_conditional b q.statement round (is_target_block p.statement b g) l)
  one_standing s t (inherited p b w sp k g c u) (inherited q f v sq l h d x) e =
      let same = same_statement s t (inherited p b w sp k g c u) (inherited q f v sq l h d x) e in
      let body = round_same w v b f same g.is_written h.is_written u x in
      let one = one_standing p q sp sq (same_chain s t e) in
      λ i. standing_inherited (one i) (body i) (same i)
