-- No macro is in the body of a macro, so the home scope serves no word of a macro.
use Rattle.std.proofs.Common.{◌≡◌, ℕ, zero, suc, ◌<◌, Bool, true, false, ◌&&◌, ◌||◌, if◌then◌else◌, List, [], ◌∷◌, map, refl, sym, ◌∙◌, ap, subst, arith}
use Rattle.std.specs.Prelude.{Contains, Option, Some, None, slice_get}
use Rattle.std.specs.List.{list_any}
use Rattle.cil_base.specs.Lists.{contains_here, contains_later}
use Rattle.cil_base.specs.Places.{get_at, get_contains}
use Rattle.cil_syntax.specs.declared.kind.Keyword.{Keyword}
use Rattle.cil_syntax.specs.declared.kind.Keyword.TheVariants as keywords
use Rattle.cil_syntax.specs.declared.kind.Nesting.TheVariants as nestings
use Rattle.cil_syntax.specs.declared.kind.Sign.TheVariants as signs
use Rattle.cil_syntax.specs.declared.program.Statement.{Statement}
use Rattle.cil_syntax.specs.declared.term.Word.{Word}
use Rattle.cil_syntax.specs.Kinds.{is_wanted}
use Rattle.cil_syntax.specs.Program.{IsNested, program_of}
use Rattle.cil_syntax.specs.Scopes.{Scope}
use Rattle.cil_syntax.specs.Spelling.{same_bytes}
use Rattle.cil_syntax.specs.Table.{entry_of}
use Rattle.cil_syntax.specs.Written.{Context, Enclosing, Written, allows, is_macro, may_stand, nesting_within, parameters_of}
use Rattle.cil_blocks.specs.Contents.{name_of}
use Rattle.cil_blocks.proofs.ProgramLemmas.{kept_at, stands_on_top, stands_under}
use Rattle.cil_macros.specs.Laws.{HaveMacrosOfTheirPlace}
use Rattle.cil_macros.specs.Placed.{Body, declares, declares_name, is_in_body, scope_in}

-- ---- where a macro may stand

-- a place where what is directly in a block may stand is in no macro
abbrev IsInNoMacro : Context → Type 0
IsInNoMacro c = allows c.nesting nestings.InBlock ≡ true → c.macro ≡ None

both_left : (a b : Bool) → (a && b) ≡ true → a ≡ true
both_left true b e = refl
both_left false b e = absurd (let f : false ≡ true = e in cc)

-- the body of a statement is such a place, where the statement stands in such a place
inside_by : (k : Keyword) (c : Context) (own : Enclosing) → may_stand c (entry_of k) ≡ true → IsInNoMacro c
    → allows (nesting_within (entry_of k).body c.nesting) nestings.InBlock ≡ true → (if is_macro k then Some own else c.macro) ≡ None
unfolding entry_of
inside_by keywords.Block c own may so here = so (both_left (allows c.nesting nestings.InBlock) true may)
inside_by keywords.Macro c own may so here = absurd (let f : false ≡ true = here in cc)
inside_by keywords.Optional c own may so here = absurd (let f : false ≡ true = here in cc)
inside_by keywords.BooleanIf c own may so here = absurd (let f : false ≡ true = here in cc)
inside_by k c own may so here = so here

module _ (ss : List Statement) (nested : IsNested ss) where
  abbrev ws : List Written
  ws = program_of ss

  stands_so : (i : ℕ) → ((k : ℕ) (p : Written) → k < i → slice_get ws k ≡ Some p → IsInNoMacro p.context) → (s : Statement) (w : Written) (under : Option ℕ)
      → slice_get ss i ≡ Some s → slice_get ws i ≡ Some w → s.under ≡ under → IsInNoMacro w.context
  stands_so i again s w None e f u = subst IsInNoMacro (sym (stands_on_top ss nested i s w e f u)) (λ here. refl)
  stands_so i again s w (Some k) e f u =
      let p = stands_under ss nested i k s w e f u in
      let own : Enclosing = record { at = p.0.statement.at; parameters = map (λ n. n.name) (parameters_of p.0.statement.args) } in
      subst IsInNoMacro (sym p.2)
      (inside_by p.0.statement.keyword p.0.context own (nested.allowed p.0 (get_contains ws k p.0 p.1)) (again k p.0 (nested.earlier i k s e u) p.1))

  stands_below : (n i : ℕ) (w : Written) → i < n → slice_get ws i ≡ Some w → IsInNoMacro w.context
  stands_below zero i w h f = absurd (omega (arith, h))
  stands_below (suc n) i w h f =
      let s = kept_at ss nested i w f in
      stands_so i (λ k p g. stands_below n k p (omega (arith, g, h))) s.0 w s.0.under s.1 f refl

  in_no_macro : (w : Written) → Contains ws w → IsInNoMacro w.context
  in_no_macro w c = let i = get_at ws w c in stands_below (suc i.0) i.0 w (omega arith) i.2

-- ---- what a body declares

and_false : (a : Bool) → (a && false) ≡ false
and_false true = refl
and_false false = refl

-- a statement is no macro of a body
declares_none : (m : Written) (k : Keyword) (c : Context) (named : Bool) → may_stand c (entry_of k) ≡ true → IsInNoMacro c
    → (is_in_body m c.macro && (list_any (is_wanted signs.Macros) (entry_of k).declares && named)) ≡ false
unfolding entry_of
declares_none m keywords.Macro c named may so = ap (λ (o : Option Enclosing). is_in_body m o && named) (so (both_left (allows c.nesting nestings.InBlock) true may))
declares_none m k c named may so = and_false (is_in_body m c.macro)

none_declare : (m : Written) (bytes : List ℕ) (vs : List Written)
    → ((v : Written) → Contains vs v → (is_in_body m v.context.macro && declares_name bytes signs.Macros v) ≡ false)
    → list_any (λ v. is_in_body m v.context.macro && declares_name bytes signs.Macros v) vs ≡ false
none_declare m bytes [] each = refl
none_declare m bytes (v ∷ vs) each =
    ap (λ b. b || list_any (λ x. is_in_body m x.context.macro && declares_name bytes signs.Macros x) vs) (each v (contains_here v vs))
    ∙ none_declare m bytes vs (λ x c. each x (contains_later x v vs c))

module _ (ss : List Statement) (nested : IsNested ss) where
  no_declaration : (m : Written) (bytes : List ℕ) → declares (program_of ss) m bytes signs.Macros ≡ false
  unfolding declares
  no_declaration m bytes =
      none_declare m bytes (program_of ss)
      (λ v c. declares_none m v.statement.keyword v.context (same_bytes (name_of v) bytes) (nested.allowed v c) (in_no_macro ss nested v c))

  scope_by : (scope : Scope) (o : Option Body) (w : Word) → w.sign ≡ signs.Macros → scope_in (program_of ss) scope o w ≡ scope
  scope_by scope None w e = refl
  scope_by scope (Some b) w e =
      ap (λ c. if c then b.home else scope) (ap (declares (program_of ss) b.macro w.bytes) e ∙ no_declaration b.macro w.bytes)

pub have_macros_of_their_place : HaveMacrosOfTheirPlace
have_macros_of_their_place ss p w nested e = scope_by ss nested p.standing.scope p.body w e
