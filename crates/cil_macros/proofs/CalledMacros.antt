-- What a call names, and what is unfolded: a call, of a macro that stands.
use Rattle.std.proofs.Common.{◌≡◌, ℕ, Bool, true, false, if◌then◌else◌, List, [], ◌∷◌, refl, ap, subst}
use Rattle.std.specs.Prelude.{Contains, Option, Some, None, filter, find}
use Rattle.std.specs.Option.{option_or, option_map}
use Rattle.std.specs.declared.cmp.Ordering.{Ordering}
use Rattle.std.specs.declared.cmp.Ordering.TheVariants.{Less, Equal, Greater}
use Rattle.cil_blocks.specs.OneStanding.{first_of_three}
use Rattle.cil_base.specs.Places.{none_some, some_same}
use Rattle.cil_base.specs.Searches.{kept_is}
use Rattle.cil_base.specs.Lists.{contains_here, contains_later}
use Rattle.cil_syntax.specs.declared.kind.Keyword.{Keyword}
use Rattle.cil_syntax.specs.declared.kind.Keyword.TheVariants as keywords
use Rattle.cil_syntax.specs.declared.term.Word.{Word}
use Rattle.cil_faults.specs.Namespaces.{Namespace}
use Rattle.cil_syntax.specs.Scopes.{asked, spaces_asked}
use Rattle.cil_syntax.specs.Written.{Written, is_macro}
use Rattle.cil_blocks.specs.Contents.{Standing, first_word, keeps_place, path_cmp, path_of}
use Rattle.cil_macros.specs.Calls.{Unfolded, bounds_of_call, called_macro, has_macro, is_call, is_macro_named, is_repeated, macro_in, macro_in_scope, macro_of_word, nearer_of, nearest, unfolded, unfolded_by, unfolded_with}
use Rattle.cil_macros.specs.Placed.{Bound, Placed}

-- the nearest is one of them
nearer_is : (o : Ordering) (s t : Standing) (ss : List Standing) → Contains ss t → Contains (s ∷ ss) (nearer_of o s t)
nearer_is Less s t ss c = contains_here s ss
nearer_is Equal s t ss c = contains_here s ss
nearer_is Greater s t ss c = contains_later t s ss c

nearest_of : (s m : Standing) (ss : List Standing) (o : Option Standing) → ((t : Standing) → o ≡ Some t → Contains ss t)
    → option_or (option_map (λ t. nearer_of (path_cmp (path_of s) (path_of t)) s t) o) (Some s) ≡ Some m → Contains (s ∷ ss) m
nearest_of s m ss None rest e = subst (Contains (s ∷ ss)) (some_same s m e) (contains_here s ss)
nearest_of s m ss (Some t) rest e =
    subst (Contains (s ∷ ss)) (some_same (nearer_of (path_cmp (path_of s) (path_of t)) s t) m e) (nearer_is (path_cmp (path_of s) (path_of t)) s t ss (rest t refl))

nearest_is : (ss : List Standing) (m : Standing) → nearest ss ≡ Some m → Contains ss m
unfolding nearest
nearest_is [] m e = absurd (none_some m e)
nearest_is (s ∷ ss) m e = nearest_of s m ss (nearest ss) (nearest_is ss) e

-- ---- what a call names

kept_no_call : (k : Keyword) → keeps_place k ≡ true → is_call k ≡ false
kept_no_call keywords.Call e = absurd (let f : false ≡ true = e in cc)
kept_no_call k e = refl

call_names : (b : Bool) (o : Option Standing) (m : Standing) → (if b then o else None) ≡ Some m → (b ≡ true) × (o ≡ Some m)
call_names true o m e = (refl, e)
call_names false o m e = absurd (none_some m e)

with_bounds : (m : Standing) (o : Option (List Bound)) (u : Unfolded) → unfolded_with m o ≡ Some u → m ≡ u.macro
with_bounds m None u e = absurd (none_some u e)
with_bounds m (Some bs) u e = let f = some_same _ u e in ap (λ (x : Unfolded). x.macro) f

not_repeated : (b : Bool) (m : Standing) (o : Option (List Bound)) (u : Unfolded) → (if b then None else unfolded_with m o) ≡ Some u → m ≡ u.macro
not_repeated true m o u e = absurd (none_some u e)
not_repeated false m o u e = with_bounds m o u e

module _ (ws : List Written) (ss : List Standing) where
  -- ---- what is unfolded is a call, of a macro that stands

  pub record IsMacroCall (p : Placed) (u : Unfolded) : Type 0 where
    pub call : is_call p.standing.statement.statement.keyword ≡ true
    pub is_standing : Contains ss u.macro
    pub macro : is_macro u.macro.statement.statement.keyword ≡ true

  found_macro : (name : List ℕ) (o : Option Namespace) (m : Standing) → macro_in ss name o ≡ Some m
      → Contains ss m × (is_macro m.statement.statement.keyword ≡ true)
  found_macro name None m e = absurd (none_some m e)
  found_macro name (Some n) m e =
      let f = kept_is (is_macro_named name n) ss m (nearest_is (filter (is_macro_named name n) ss) m e) in (f.0, first_of_three _ _ _ f.1)

  word_names : (p : Placed) (o : Option Word) (m : Standing) → macro_of_word ss p o ≡ Some m
      → Contains ss m × (is_macro m.statement.statement.keyword ≡ true)
  unfolding macro_in_scope
  word_names p None m e = absurd (none_some m e)
  word_names p (Some w) m e =
      found_macro (asked w.bytes).name (find (has_macro ss (asked w.bytes).name) (spaces_asked (asked w.bytes) p.standing.scope)) m e

  -- what a call names is a macro that stands
  pub names_macro : (p : Placed) (m : Standing) → called_macro ss p ≡ Some m
      → (is_call p.standing.statement.statement.keyword ≡ true) × Contains ss m × (is_macro m.statement.statement.keyword ≡ true)
  unfolding called_macro
  names_macro p m e =
      let named = call_names (is_call p.standing.statement.statement.keyword) (macro_of_word ss p (first_word p.standing.statement.statement.args)) m e in
      let macro = word_names p (first_word p.standing.statement.statement.args) m named.1 in
      (named.0, macro.0, macro.1)

  pub unfolded_of : (p : Placed) (o : Option Standing) (u : Unfolded) → unfolded_by ws p o ≡ Some u → o ≡ Some u.macro
  unfolded_of p None u e = absurd (none_some u e)
  unfolded_of p (Some m) u e = ap Some (not_repeated (is_repeated p m) m (bounds_of_call ws p m) u e)

  pub is_macro_call : (p : Placed) (u : Unfolded) → unfolded ws ss p ≡ Some u → IsMacroCall p u
  unfolding unfolded
  is_macro_call p u e =
      let named = names_macro p u.macro (unfolded_of p (called_macro ss p) u e) in
      record { call = named.0; is_standing = named.1; macro = named.2 }

  -- an optional or a booleanif is no call
  pub kept_opens_none : (p : Placed) → keeps_place p.standing.statement.statement.keyword ≡ true → unfolded ws ss p ≡ None
  unfolding unfolded called_macro
  kept_opens_none p e =
      ap (λ b. unfolded_by ws p (if b then macro_of_word ss p (first_word p.standing.statement.statement.args) else None))
      (kept_no_call p.standing.statement.statement.keyword e)
