-- What bodies declare: the macro round a statement, one statement more, and what a word asks of the table.
use Rattle.std.proofs.Common.{◌≡◌, ℕ, suc, ◌+◌, ◌<◌, ◌≤◌, ◌==◌, ◌&&◌, ◌||◌, Bool, true, false, cond, if◌then◌else◌, List, [], ◌∷◌, length, get_or, map, take, drop, refl, sym, ◌∙◌, ap, arith, drop-cons}
use Rattle.std.specs.Prelude.{Contains, Option, Some, None, nat_eq, slice_get}
use Rattle.std.specs.List.{list_any}
use Rattle.std.proofs.lemmas.Bool.{eqb-true, and_parts}
use Rattle.std.proofs.lemmas.List.{drop_all, take_all, take_more}
use Rattle.std.proofs.lemmas.List.Folds.{list_any-append}
use Rattle.indexmap.specs.IndexSet.{contains}
use Rattle.cil_base.specs.MadeLists.{contains_map, from_map}
use Rattle.cil_base.specs.Places.{get_so, in_range, is_there}
use Rattle.cil_base.specs.Rising.{tied_places}
use Rattle.cil_base.specs.Searches.{any_from, any_map, any_true}
use Rattle.cil_syntax.specs.declared.kind.Kind.{Kind}
use Rattle.cil_syntax.specs.declared.kind.Sign.{Sign}
use Rattle.cil_syntax.specs.declared.program.Statement.{Statement}
use Rattle.cil_syntax.specs.Kinds.{is_wanted, kind_number, kinds_of}
use Rattle.cil_syntax.specs.Program.{IsNested, program_of}
use Rattle.cil_syntax.specs.Spelling.{same_bytes}
use Rattle.cil_syntax.specs.Table.{entry_of}
use Rattle.cil_syntax.specs.Written.{Context, Enclosing, Written, is_macro, macro_within, parameters_of, written_cmp, written_total}
use Rattle.cil_blocks.specs.Contents.{name_of, same_spot}
use Rattle.cil_blocks.specs.Entries.{nothing, statement_at}
use Rattle.cil_blocks.specs.Named.{rank}
use Rattle.cil_blocks.proofs.NameLemmas.{at_none}
use Rattle.cil_blocks.proofs.ProgramLemmas.{program_length, stands_on_top, stands_under, tied, written_at}
use Rattle.cil_blocks.proofs.StandingWalk.{same_spots, spots_same}
use Rattle.cil_macros.specs.declared.declared_names.Declared.{Declared}
use Rattle.cil_macros.specs.DeclaredInBodies.{AreDeclaredUpTo, AreInBodies, IsRound, Key, has_kind, is_declared_by, macro_in, same_key}
use Rattle.cil_macros.specs.Placed.{declares, declares_name, is_in_body}
use Rattle.cil_macros.proofs.WalkLemmas.{number_of_macro}

-- ---- truth values

both_ways : (a b : Bool) → (a ≡ true → b ≡ true) → (b ≡ true → a ≡ true) → a ≡ b
both_ways true b f g = sym (f refl)
both_ways false true f g = g refl
both_ways false false f g = refl

true_both : (a b : Bool) → a ≡ true → b ≡ true → (a && b) ≡ true
true_both true b e f = f
true_both false b e f = absurd (let g : false ≡ true = e in cc)

and_false : (a : Bool) → (a && false) ≡ false
and_false true = refl
and_false false = refl

joined : (a b c : Bool) → (a && (b && c)) ≡ ((a && b) && c)
joined true b c = refl
joined false b c = refl

or_false : (a : Bool) → (a || false) ≡ a
or_false true = refl
or_false false = refl

swapped : (a b : Bool) → (a || b) ≡ (b || a)
swapped true true = refl
swapped true false = refl
swapped false true = refl
swapped false false = refl

put_or : (b c : Bool) → cond b true c ≡ (b || c)
put_or true c = refl
put_or false c = refl

number_itself : (n : ℕ) → nat_eq n n ≡ true
number_itself n = grind arith

-- ---- the macro round a statement

module _ (ss : List Statement) (nested : IsNested ss) where
  abbrev ws : List Written
  ws = program_of ss

  round_by : (under : Option ℕ) (k : ℕ) (s : Statement) → slice_get ss k ≡ Some s → s.under ≡ under → macro_in ws under ≡ (statement_at ws k).context.macro
  round_by None k s e u =
      let at = is_there ws k nothing (in_range ws k _ (written_at ss nested k s e)) in
      sym (ap (λ (c : Context). c.macro) (stands_on_top ss nested k s (statement_at ws k) e at u))
  round_by (Some q) k s e u =
      let at = is_there ws k nothing (in_range ws k _ (written_at ss nested k s e)) in
      let p = stands_under ss nested k q s (statement_at ws k) e at u in
      let same : statement_at ws q ≡ p.0 = get_so ws q p.0 nothing p.1 in
      ap (λ (w : Written). macro_within w.statement w.context.macro) same ∙ sym (ap (λ (c : Context). c.macro) p.2)

  lower_by : (under : Option ℕ) (k : ℕ) (s : Statement) → slice_get ss k ≡ Some s → s.under ≡ under → rank under ≤ k
  lower_by None k s e u = omega arith
  lower_by (Some q) k s e u = let h = nested.earlier k q s e u in omega (arith, h)

  pub round_some : (k : ℕ) (s : Statement) → slice_get ss k ≡ Some s → macro_in ws s.under ≡ (statement_at ws k).context.macro
  round_some k s e = round_by s.under k s e refl

  pub round_none : (k : ℕ) → slice_get ss k ≡ None → None ≡ (statement_at ws k).context.macro
  round_none k e = sym (ap (λ (w : Written). w.context.macro) (at_none ss nested k e))

  pub lower_some : (k : ℕ) (s : Statement) → slice_get ss k ≡ Some s → rank s.under ≤ k
  lower_some k s e = lower_by s.under k s e refl

  number_same : (i j : ℕ) → i < length ws → j < length ws → (statement_at ws i).statement.at ≡ (statement_at ws j).statement.at → i ≡ j
  number_same i j h k e =
      tied_places written_cmp written_total ws i j (statement_at ws i) (statement_at ws j) nested.rising (is_there ws i nothing h) (is_there ws j nothing k)
      (tied (statement_at ws i) (statement_at ws j) e)

  -- a test of places is one of numbers
  numbers_as_places : (i j : ℕ) → i < length ws → j < length ws → same_spot (statement_at ws i).statement.at (statement_at ws j).statement.at ≡ (j == i)
  numbers_as_places i j h k =
      both_ways (same_spot (statement_at ws i).statement.at (statement_at ws j).statement.at) (j == i)
      (λ e. ap (λ n. n == i) (sym (number_same i j h k (same_spots (statement_at ws i).statement.at (statement_at ws j).statement.at e))) ∙ number_itself i)
      (λ e. spots_same (statement_at ws i).statement.at (statement_at ws j).statement.at (ap (λ n. (statement_at ws n).statement.at) (sym (eqb-true j i e))))

  -- ---- one statement more

  module _ (number : ℕ) (within : number < length ss) (old : Declared) (before : AreDeclaredUpTo ws number old) where
    abbrev v : Written
    v = statement_at ws number

    there : number < length ws
    there = let l = program_length ss in omega (arith, within, l)

    more : (k : Key) → list_any (is_declared_by ws k) (take (number + 1) ws) ≡ (is_declared_by ws k v || list_any (is_declared_by ws k) (take number ws))
    more k =
        ap (list_any (is_declared_by ws k)) (take_more ws number nothing there)
        ∙ list_any-append (is_declared_by ws k) (take number ws) (v ∷ [])
        ∙ ap (λ b. list_any (is_declared_by ws k) (take number ws) || b) (or_false (is_declared_by ws k v))
        ∙ swapped (list_any (is_declared_by ws k) (take number ws)) (is_declared_by ws k v)

    -- nothing more is declared
    still : ((k : Key) → is_declared_by ws k v ≡ false) → AreDeclaredUpTo ws (number + 1) old
    still none k h = before k h ∙ ap (λ b. b || list_any (is_declared_by ws k) (take number ws)) (sym (none k)) ∙ sym (more k)

    pub no_kind : (entry_of v.statement.keyword).declares ≡ [] → AreDeclaredUpTo ws (number + 1) old
    no_kind e = still
        (λ k. ap (λ (ks : List Kind). is_in_body (statement_at ws k.0) v.context.macro && (list_any (λ kind. nat_eq (kind_number kind) k.1) ks && same_bytes (name_of v) k.2.now)) e
        ∙ and_false (is_in_body (statement_at ws k.0) v.context.macro))

    pub no_round : v.context.macro ≡ None → AreDeclaredUpTo ws (number + 1) old
    no_round e = still
        (λ k. ap (λ (o : Option Enclosing). is_in_body (statement_at ws k.0) o && (list_any (λ kind. nat_eq (kind_number kind) k.1) (entry_of v.statement.keyword).declares && same_bytes (name_of v) k.2.now)) e)

    -- the statement declares a name in a body
    module _ (kind : Kind) (declared : (entry_of v.statement.keyword).declares ≡ kind ∷ []) (key : Key) (is_round : IsRound ws number key.0)
        (is_kind : key.1 ≡ kind_number kind) (is_name : key.2.now ≡ name_of v) where
      in_body : (k : Key) → k.0 < length ws → is_in_body (statement_at ws k.0) v.context.macro ≡ (key.0 == k.0)
      in_body k h =
          ap (is_in_body (statement_at ws k.0)) is_round.is_macro
          ∙ ap (same_spot (statement_at ws k.0).statement.at) is_round.at
          ∙ numbers_as_places k.0 key.0 h is_round.within

      by_key : (k : Key) → k.0 < length ws → is_declared_by ws k v ≡ same_key key k
      by_key k h =
          ap (λ b. b && (list_any (λ x. nat_eq (kind_number x) k.1) (entry_of v.statement.keyword).declares && same_bytes (name_of v) k.2.now)) (in_body k h)
          ∙ ap (λ (ks : List Kind). (key.0 == k.0) && (list_any (λ x. nat_eq (kind_number x) k.1) ks && same_bytes (name_of v) k.2.now)) declared
          ∙ ap (λ b. (key.0 == k.0) && (b && same_bytes (name_of v) k.2.now)) (or_false (nat_eq (kind_number kind) k.1))
          ∙ ap (λ n. (key.0 == k.0) && (nat_eq n k.1 && same_bytes (name_of v) k.2.now)) (sym is_kind)
          ∙ ap (λ x. (key.0 == k.0) && (nat_eq key.1 k.1 && same_bytes x k.2.now)) (sym is_name)
          ∙ joined (key.0 == k.0) (nat_eq key.1 k.1) (same_bytes key.2.now k.2.now)

      pub one_more : (new : Declared) → ((k : Key) → contains same_key new.keys k ≡ cond (same_key key k) true (contains same_key old.keys k))
          → AreDeclaredUpTo ws (number + 1) new
      one_more new put k h =
          put k ∙ put_or (same_key key k) (contains same_key old.keys k)
          ∙ ap (λ b. same_key key k || b) (before k h)
          ∙ ap (λ b. b || list_any (is_declared_by ws k) (take number ws)) (sym (by_key k h))
          ∙ sym (more k)

-- the macro that was reached is the one round the statement
module _ (ws : List Written) where
  macro_here : (w : Written) → is_macro w.statement.keyword ≡ true
      → macro_within w.statement w.context.macro ≡ Some (record { at = w.statement.at; parameters = map (λ p. p.name) (parameters_of w.statement.args) })
  macro_here w e = ap (λ b. if b then Some (record { at = w.statement.at; parameters = map (λ p. p.name) (parameters_of w.statement.args) }) else w.context.macro) e

  macro_above : (w : Written) → is_macro w.statement.keyword ≡ false → macro_within w.statement w.context.macro ≡ w.context.macro
  macro_above w e = ap (λ b. if b then Some (record { at = w.statement.at; parameters = map (λ p. p.name) (parameters_of w.statement.args) }) else w.context.macro) e

  pub round_here : (number k : ℕ) → is_macro (statement_at ws k).statement.keyword ≡ true → macro_in ws (Some k) ≡ (statement_at ws number).context.macro
      → IsRound ws number k
  round_here number k e so = record {
    within = number_of_macro ws k e;
    macro = record { at = (statement_at ws k).statement.at; parameters = map (λ p. p.name) (parameters_of (statement_at ws k).statement.args) };
    is_macro = sym so ∙ macro_here (statement_at ws k) e;
    at = refl;
  }

  pub round_above : (number k : ℕ) (o : Option ℕ) → is_macro (statement_at ws k).statement.keyword ≡ false → macro_in ws o ≡ (statement_at ws k).context.macro
      → macro_in ws (Some k) ≡ (statement_at ws number).context.macro → macro_in ws o ≡ (statement_at ws number).context.macro
  round_above number k o e f so = f ∙ sym (macro_above (statement_at ws k) e) ∙ so

-- ---- what a word asks

module _ (ws : List Written) (d : Declared) (are : AreInBodies ws d) (number : ℕ) (within : number < length ws) (name : denote.Ref.Bor (List ℕ)) (sign : Sign) where
  abbrev has : ℕ → Bool
  has = has_kind d number name.now

  abbrev wanted : List ℕ
  wanted = map kind_number (kinds_of sign)

  one_kind : (v : Written) (kind : ℕ) → Contains wanted kind → is_declared_by ws (number, kind, name) v ≡ true
      → (is_in_body (statement_at ws number) v.context.macro && declares_name name.now sign v) ≡ true
  one_kind v kind c e =
      let t = and_parts (is_in_body (statement_at ws number) v.context.macro) (list_any (λ x. nat_eq (kind_number x) kind) (entry_of v.statement.keyword).declares && same_bytes (name_of v) name.now) e in
      let u = and_parts (list_any (λ x. nat_eq (kind_number x) kind) (entry_of v.statement.keyword).declares) (same_bytes (name_of v) name.now) t.1 in
      let x = any_true (λ y. nat_eq (kind_number y) kind) (entry_of v.statement.keyword).declares u.0 in
      let q = from_map kind_number (kinds_of sign) kind c in
      true_both (is_in_body (statement_at ws number) v.context.macro) (declares_name name.now sign v) t.0
      (true_both (list_any (is_wanted sign) (entry_of v.statement.keyword).declares) (same_bytes (name_of v) name.now)
      (any_from (is_wanted sign) (entry_of v.statement.keyword).declares x.0 x.1
      (any_from (λ y. nat_eq (kind_number y) (kind_number x.0)) (kinds_of sign) q.0 q.1
      (ap (λ n. nat_eq n (kind_number x.0)) (q.2 ∙ sym (eqb-true (kind_number x.0) kind x.2)) ∙ number_itself (kind_number x.0))))
      u.1)

  some_kind : (v : Written) → (is_in_body (statement_at ws number) v.context.macro && declares_name name.now sign v) ≡ true
      → (kind : ℕ) × Contains wanted kind × (is_declared_by ws (number, kind, name) v ≡ true)
  some_kind v e =
      let t = and_parts (is_in_body (statement_at ws number) v.context.macro) (declares_name name.now sign v) e in
      let u = and_parts (list_any (is_wanted sign) (entry_of v.statement.keyword).declares) (same_bytes (name_of v) name.now) t.1 in
      let x = any_true (is_wanted sign) (entry_of v.statement.keyword).declares u.0 in
      let q = any_true (λ y. nat_eq (kind_number y) (kind_number x.0)) (kinds_of sign) x.2 in (
        kind_number q.0,
        contains_map kind_number (kinds_of sign) q.0 q.1,
        true_both (is_in_body (statement_at ws number) v.context.macro) (list_any (λ y. nat_eq (kind_number y) (kind_number q.0)) (entry_of v.statement.keyword).declares && same_bytes (name_of v) name.now) t.0
            (true_both (list_any (λ y. nat_eq (kind_number y) (kind_number q.0)) (entry_of v.statement.keyword).declares) (same_bytes (name_of v) name.now)
            (any_from (λ y. nat_eq (kind_number y) (kind_number q.0)) (entry_of v.statement.keyword).declares x.0 x.1
            (ap (λ n. nat_eq n (kind_number q.0)) (sym (eqb-true (kind_number q.0) (kind_number x.0) q.2)) ∙ number_itself (kind_number q.0)))
            u.1),
      )

  -- the table has the name in some wanted kind exactly where the body declares it
  asked_so : list_any has wanted ≡ declares ws (statement_at ws number) name.now sign
  unfolding declares
  asked_so =
      both_ways (list_any has wanted) (list_any (λ v. is_in_body (statement_at ws number) v.context.macro && declares_name name.now sign v) ws)
      (λ e.
      let kind = any_true has wanted e in
      let v = any_true (is_declared_by ws (number, kind.0, name)) ws (sym (are (number, kind.0, name) within) ∙ kind.2) in
      any_from (λ x. is_in_body (statement_at ws number) x.context.macro && declares_name name.now sign x) ws v.0 v.1 (one_kind v.0 kind.0 kind.1 v.2))
      (λ e.
      let v = any_true (λ x. is_in_body (statement_at ws number) x.context.macro && declares_name name.now sign x) ws e in
      let kind = some_kind v.0 v.2 in
      any_from has wanted kind.0 kind.1
      (are (number, kind.0, name) within ∙ any_from (is_declared_by ws (number, kind.0, name)) ws v.0 v.1 kind.2))

  pub asked_in_kinds : list_any (λ kind. has (kind_number kind)) (kinds_of sign) ≡ declares ws (statement_at ws number) name.now sign
  asked_in_kinds = sym (any_map kind_number has (kinds_of sign)) ∙ asked_so

-- a step over the kinds
module _ (f : Kind → Bool) (ks : List Kind) (i : ℕ) (k d : Kind) (within : i < length ks) (is : k ≡ get_or ks i d) where
  next_kind : drop i ks ≡ k ∷ drop (i + 1) ks
  next_kind = drop-cons ks i d within ∙ ap (λ y. y ∷ drop (suc i) ks) (sym is) ∙ ap (λ n. k ∷ drop n ks) (let e : suc i ≡ i + 1 = omega arith in e)

  pub kind_here : list_any f (drop i ks) ≡ list_any f ks → true ≡ f k → true ≡ list_any f ks
  kind_here so e = ap (λ b. b || list_any f (drop (i + 1) ks)) e ∙ ap (list_any f) (sym next_kind) ∙ so

  pub kind_later : list_any f (drop i ks) ≡ list_any f ks → false ≡ f k → list_any f (drop (i + 1) ks) ≡ list_any f ks
  kind_later so e = ap (λ b. b || list_any f (drop (i + 1) ks)) e ∙ ap (list_any f) (sym next_kind) ∙ so

pub no_kind_left : (f : Kind → Bool) (ks : List Kind) (i : ℕ) → length ks ≤ i → list_any f (drop i ks) ≡ list_any f ks → false ≡ list_any f ks
no_kind_left f ks i over so = ap (list_any f) (sym (drop_all i ks over)) ∙ so

-- all statements are taken
pub all_taken : (ss : List Statement) (d : Declared) (n : ℕ) → length ss ≤ n → AreDeclaredUpTo (program_of ss) n d → AreInBodies (program_of ss) d
all_taken ss d n over so k h =
    so k h ∙ ap (list_any (is_declared_by (program_of ss) k)) (take_all n (program_of ss) (let l = program_length ss in omega (arith, over, l)))
