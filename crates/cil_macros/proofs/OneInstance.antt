-- A statement is placed once through each chain of inheritances and calls.
use Rattle.std.proofs.Common.{◌≡◌, ◌⊎◌, true, List, [], refl, sym, ◌∙◌, ap, inl, inr}
use Rattle.std.specs.Prelude.{Contains, Some, None}
use Rattle.cil_blocks.specs.OneStanding.{AreApart, IsEntered, empty_path, entered, is_written as standing_written, keyword_of, not_optional_and_conditional, one_standing, round_same, same_path}
use Rattle.cil_base.specs.Places.{none_some, same_ends, some_same}
use Rattle.cil_syntax.specs.declared.kind.Keyword.{Keyword}
use Rattle.cil_syntax.specs.declared.kind.Keyword.TheVariants as keywords
use Rattle.cil_syntax.specs.Written.{Written, is_macro}
use Rattle.cil_blocks.specs.Contents.{IsIn, Standing, Stands, is_inheriting, keeps_place, path_of}
use Rattle.cil_blocks.specs.Laws.{HasOneTarget}
use Rattle.cil_macros.specs.Calls.{IsPlaced, Unfolded, called, in_branch, in_optional, is_call, placed_called, placed_in_branch, placed_in_optional, stands, unfolded}
use Rattle.cil_macros.specs.Placed.{Body, Placed, placed_standing}
use Rattle.cil_blocks.proofs.Keeping.{conditional_keeps, optional_keeps}
use Rattle.cil_macros.proofs.CalledMacros.{IsMacroCall, is_macro_call}

module _ (ws : List Written) (ss : List Standing) (are_apart : AreApart ws) (one_target : HasOneTarget ws)
    (each : (s : Standing) → Contains ss s → Stands ws s) where
  written_of : (p : Placed) → IsPlaced ws ss p → Contains ws p.standing.statement
  written_of p (stands s c) = standing_written ws are_apart one_target s (each s c)
  written_of p (called q u w ip e c i) = c
  written_of p (in_optional q b w ip e o c i) = c
  written_of p (in_branch q b w ip e o c i) = c

  -- ---- keywords that are not two

  call_not_inheriting : (k : Keyword) → is_call k ≡ true → is_inheriting k ≡ true → ⊥
  call_not_inheriting keywords.Call a b = cc
  call_not_inheriting k a b = cc

  macro_keeps_none : (k : Keyword) → is_macro k ≡ true → keeps_place k ≡ true → ⊥
  macro_keeps_none keywords.Macro a b = cc
  macro_keeps_none k a b = cc

  written_macro : (u : Unfolded) → Contains ss u.macro → Contains ws u.macro.statement
  written_macro u c = standing_written ws are_apart one_target u.macro (each u.macro c)

  same_statement : (p q : Placed) → IsPlaced ws ss p → IsPlaced ws ss q → path_of p.standing ≡ path_of q.standing → p.standing.statement ≡ q.standing.statement
  same_statement p q ip iq e =
      are_apart.one p.standing.statement q.standing.statement (written_of p ip) (written_of q iq)
      (same_ends p.standing.chain q.standing.chain p.standing.statement.statement.at q.standing.statement.statement.at e).1

  same_chain : (p q : Placed) → path_of p.standing ≡ path_of q.standing → p.standing.chain ≡ q.standing.chain
  same_chain p q e = (same_ends p.standing.chain q.standing.chain p.standing.statement.statement.at q.standing.statement.statement.at e).0

  -- a chain of blockinherits is not that of a call
  no_call_in_chain : (s : Standing) (q : Placed) → Contains ss s → IsPlaced ws ss q → is_call q.standing.statement.statement.keyword ≡ true
      → s.chain ≡ path_of q.standing → (s.chain ≡ []) ⊎ IsEntered ws are_apart one_target s → ⊥
  no_call_in_chain s q c iq k e (inl none) = empty_path ws are_apart one_target q.standing (sym none ∙ e)
  no_call_in_chain s q c iq k e (inr by) =
      let ends = same_ends by.by.chain q.standing.chain by.by.statement.statement.at q.standing.statement.statement.at (sym by.chain ∙ e) in
      let one = are_apart.one by.by.statement q.standing.statement (standing_written ws are_apart one_target by.by by.stands) (written_of q iq) ends.1 in
      call_not_inheriting q.standing.statement.statement.keyword k (keyword_of ws are_apart one_target by.by.statement q.standing.statement one is_inheriting by.inherits)

  -- the calls through which a placed statement came: in a body, a chain that ends with a call
  record IsCalled (p : Placed) : Type 0 where
    pub by : Placed
    pub placed : IsPlaced ws ss by
    pub call : is_call by.standing.statement.statement.keyword ≡ true
    pub chain : p.standing.chain ≡ path_of by.standing

  came_by : (p : Placed) → IsPlaced ws ss p → (Contains ss p.standing × (p.body ≡ None)) ⊎ IsCalled p
  came_by p (stands s c) = inl (c, refl)
  came_by p (called q u w iq e c i) = inr (record { by = q; placed = iq; call = (is_macro_call ws ss q u e).call; chain = refl })
  came_by p (in_optional q b w iq e o c i) = further (came_by q iq) where
    further : (Contains ss q.standing × (q.body ≡ None)) ⊎ IsCalled q → (Contains ss (placed_in_optional q w).standing × ((placed_in_optional q w).body ≡ None)) ⊎ IsCalled (placed_in_optional q w)
    further (inl x) = absurd (none_some b (sym x.1 ∙ e))
    further (inr x) = inr (record { by = x.by; placed = x.placed; call = x.call; chain = x.chain })
  came_by p (in_branch q b w iq e o c i) = further (came_by q iq) where
    further : (Contains ss q.standing × (q.body ≡ None)) ⊎ IsCalled q → (Contains ss (placed_in_branch ws q w).standing × ((placed_in_branch ws q w).body ≡ None)) ⊎ IsCalled (placed_in_branch ws q w)
    further (inl x) = absurd (none_some b (sym x.1 ∙ e))
    further (inr x) = inr (record { by = x.by; placed = x.placed; call = x.call; chain = x.chain })

  not_standing : (s : Standing) (q : Placed) → Contains ss s → IsPlaced ws ss q → path_of s ≡ path_of q.standing → IsCalled q → ⊥
  not_standing s q c iq e by =
      no_call_in_chain s by.by c by.placed by.call
      ((same_ends s.chain q.standing.chain s.statement.statement.at q.standing.statement.statement.at e).0 ∙ by.chain)
      (entered ws are_apart one_target s (each s c))

  by_calls : (q : Placed) (b : Body) → q.body ≡ Some b → (Contains ss q.standing × (q.body ≡ None)) ⊎ IsCalled q → IsCalled q
  by_calls q b f (inl x) = absurd (none_some b (sym x.1 ∙ f))
  by_calls q b f (inr x) = x

  in_body_not_standing : (s : Standing) (q : Placed) (b : Body) → Contains ss s → IsPlaced ws ss q → path_of s ≡ path_of q.standing → q.body ≡ Some b → ⊥
  in_body_not_standing s q b c iq e f = not_standing s q c iq e (by_calls q b f (came_by q iq))

  macro_and_kept : (u : Unfolded) (r t : Placed) (w x : Written) → IsMacroCall ws ss r u → Contains ws t.standing.statement → IsIn w u.macro.statement
      → IsIn x t.standing.statement → w ≡ x → keeps_place t.standing.statement.statement.keyword ≡ true → ⊥
  macro_and_kept u r t w x is_call c i j same o =
      let round = round_same ws are_apart one_target w x u.macro.statement t.standing.statement same (written_macro u is_call.is_standing) c i j in
      macro_keeps_none t.standing.statement.statement.keyword (keyword_of ws are_apart one_target u.macro.statement t.standing.statement round is_macro is_call.macro) o

  -- the law: one path, one instance
  pub one_instance : (p q : Placed) → IsPlaced ws ss p → IsPlaced ws ss q → path_of p.standing ≡ path_of q.standing → p ≡ q
  one_instance p q (stands s c) (stands t d) e =
      ap placed_standing (one_standing ws are_apart one_target s t (each s c) (each t d) e)
  one_instance p q (stands s c) (called r u w ir f d i) e =
      absurd (not_standing s (placed_called r u w) c (called r u w ir f d i) e (record { by = r; placed = ir; call = (is_macro_call ws ss r u f).call; chain = refl }))
  one_instance p q (stands s c) (in_optional r b w ir f o d i) e =
      absurd (in_body_not_standing s (placed_in_optional r w) b c (in_optional r b w ir f o d i) e f)
  one_instance p q (called r u w ir f d i) (stands s c) e =
      absurd (not_standing s (placed_called r u w) c (called r u w ir f d i) (sym e) (record { by = r; placed = ir; call = (is_macro_call ws ss r u f).call; chain = refl }))
  one_instance p q (in_optional r b w ir f o d i) (stands s c) e =
      absurd (in_body_not_standing s (placed_in_optional r w) b c (in_optional r b w ir f o d i) (sym e) f)
  one_instance p q (called r u w ir f d i) (called t v x it g c j) e =
      let same = same_statement p q (called r u w ir f d i) (called t v x it g c j) e in
      let one = one_instance r t ir it (same_chain p q e) in
      let opened : u ≡ v = some_same u v (sym f ∙ ap (unfolded ws ss) one ∙ g) in
      λ k. placed_called (one k) (opened k) (same k)
  one_instance p q (called r u w ir f d i) (in_optional t b x it g o c j) e =
      absurd (macro_and_kept u r t w x (is_macro_call ws ss r u f) (written_of t it) i j (same_statement p q (called r u w ir f d i) (in_optional t b x it g o c j) e)
      (optional_keeps t.standing.statement.statement.keyword o))
  one_instance p q (in_optional t b x it g o c j) (called r u w ir f d i) e =
      absurd (macro_and_kept u r t w x (is_macro_call ws ss r u f) (written_of t it) i j (sym (same_statement p q (in_optional t b x it g o c j) (called r u w ir f d i) e))
      (optional_keeps t.standing.statement.statement.keyword o))
  one_instance p q (in_optional r b w ir f o d i) (in_optional t g x it h l c j) e =
      let same = same_statement p q (in_optional r b w ir f o d i) (in_optional t g x it h l c j) e in
      let round = round_same ws are_apart one_target w x r.standing.statement t.standing.statement same (written_of r ir) (written_of t it) i j in
      let one = one_instance r t ir it (same_path ws are_apart one_target r.standing t.standing (same_chain p q e) round) in
      λ k. placed_in_optional (one k) (same k)
  one_instance p q (stands s c) (in_branch r b w ir f o d i) e =
      absurd (in_body_not_standing s (placed_in_branch ws r w) b c (in_branch r b w ir f o d i) e f)
  one_instance p q (in_branch r b w ir f o d i) (stands s c) e =
      absurd (in_body_not_standing s (placed_in_branch ws r w) b c (in_branch r b w ir f o d i) (sym e) f)
  one_instance p q (called r u w ir f d i) (in_branch t b x it g o c j) e =
      absurd (macro_and_kept u r t w x (is_macro_call ws ss r u f) (written_of t it) i j (same_statement p q (called r u w ir f d i) (in_branch t b x it g o c j) e)
      (conditional_keeps t.standing.statement.statement.keyword o))
  one_instance p q (in_branch t b x it g o c j) (called r u w ir f d i) e =
      absurd (macro_and_kept u r t w x (is_macro_call ws ss r u f) (written_of t it) i j (sym (same_statement p q (in_branch t b x it g o c j) (called r u w ir f d i) e))
      (conditional_keeps t.standing.statement.statement.keyword o))
  one_instance p q (in_optional r b w ir f o d i) (in_branch t g x it h l c j) e =
      let same = same_statement p q (in_optional r b w ir f o d i) (in_branch t g x it h l c j) e in
      let round = round_same ws are_apart one_target w x r.standing.statement t.standing.statement same (written_of r ir) (written_of t it) i j in
      absurd (not_optional_and_conditional ws are_apart one_target r.standing.statement t.standing.statement round o l)
  one_instance p q (in_branch r b w ir f o d i) (in_optional t g x it h l c j) e =
      let same = same_statement p q (in_branch r b w ir f o d i) (in_optional t g x it h l c j) e in
      let round = round_same ws are_apart one_target w x r.standing.statement t.standing.statement same (written_of r ir) (written_of t it) i j in
      absurd (not_optional_and_conditional ws are_apart one_target t.standing.statement r.standing.statement (sym round) l o)
  one_instance p q (in_branch r b w ir f o d i) (in_branch t g x it h l c j) e =
      let same = same_statement p q (in_branch r b w ir f o d i) (in_branch t g x it h l c j) e in
      let round = round_same ws are_apart one_target w x r.standing.statement t.standing.statement same (written_of r ir) (written_of t it) i j in
      let one = one_instance r t ir it (same_path ws are_apart one_target r.standing t.standing (same_chain p q e) round) in
      λ k. placed_in_branch ws (one k) (same k)
