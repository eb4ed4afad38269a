-- What the statement at a place is, where it is, and which arguments it has.
use Rattle.std.proofs.Common.{◌≡◌, ℕ, ◌+◌, ◌<◌, Bool, true, false, if◌then◌else◌, List, length, refl, sym, ◌∙◌, ap, subst, arith}
use Rattle.std.specs.Prelude.{Contains, Option, Some, None, is_some, slice_get}
use Rattle.cil_base.specs.Places.{in_range, some_at, some_same}
use Rattle.cil_syntax.specs.declared.program.Statement.{Statement}
use Rattle.cil_syntax.specs.Program.{statement_of}
use Rattle.cil_syntax.specs.Said.{args_of}
use Rattle.cil_faults.specs.Namespaces.{Namespace}
use Rattle.cil_syntax.specs.Written as written
use Rattle.cil_syntax.specs.Written.{Written, is_macro}
use Rattle.cil_blocks.specs.declared.entry.Entry.{Entry}
use Rattle.cil_blocks.specs.Contents.{Standing}
use Rattle.cil_blocks.specs.Entries.{nothing, standings_of, statement_at}
use Rattle.cil_blocks.specs.Namespaces.{IsNumber}
use Rattle.cil_blocks.specs.Places.{Standings, entries_in, spaces_in}
use Rattle.cil_blocks.proofs.EntryLemmas.{standings_length}
use Rattle.cil_macros.specs.declared.entry.Body.{Body}
use Rattle.cil_macros.specs.declared.entry.Called.{Called}
use Rattle.cil_macros.specs.Calls.{Unfolded, bounds_of_call, called_macro, is_call, is_repeated, unfolded, unfolded_by, unfolded_with}
use Rattle.cil_macros.specs.Entries.{AreBodySpaces, IsBodyAt, placed_of}
use Rattle.cil_macros.specs.Fits.{fits, fits_when}
use Rattle.cil_macros.specs.Macros.{IsMacroAt, all_standing}
use Rattle.cil_macros.specs.Parameters.{call_arguments, macro_parameters}
use Rattle.cil_macros.specs.Placed.{Bound, Placed, placed_standing}
use Rattle.cil_macros.specs.Walks.{IsUnfoldedAt, SaysMeant, SaysUnfolded, placed_in, written_in}
use Rattle.cil_macros.proofs.BodyLemmas.{standing_at}
use Rattle.cil_macros.proofs.CalledMacros.{names_macro}
use Rattle.cil_macros.proofs.EntryLemmas.{placed_length}

module _ (s : Standings) where
  -- something stands at each rank, and its place is kept
  pub rank_there : (i : ℕ) → i < length (entries_in s) → (m : Standing) × (slice_get (all_standing s) i ≡ Some m)
  rank_there i h =
      let l = standings_length (written_in s) (entries_in s) in
      some_at (all_standing s) i (omega (arith, h, l))

  pub unfolded_below : (p : Placed) (i : ℕ) → IsUnfoldedAt (written_in s) (all_standing s) p i → i < length (entries_in s)
  unfolded_below p i u =
      let h = in_range (all_standing s) i u.opened.macro u.at in
      let l = standings_length (written_in s) (entries_in s) in
      omega (arith, h, l)

module _ (s : Standings) (cs : List Called) where
  -- something is placed at each place
  pub placed_there : (at : ℕ) → at < length (entries_in s) + length cs → (p : Placed) × (slice_get (placed_in s cs) at ≡ Some p)
  placed_there at h =
      let l = placed_length (written_in s) (all_standing s) cs in
      let m = standings_length (written_in s) (entries_in s) in
      some_at (placed_in s cs) at (omega (arith, h, l, m))

  -- what is a rank of a macro is one of an entry
  pub macro_below : (o : Option Standing) (i : ℕ) → IsMacroAt (all_standing s) o i → i < length (entries_in s)
  macro_below o i m =
      let h = in_range (all_standing s) i m.called m.at in
      let l = standings_length (written_in s) (entries_in s) in
      omega (arith, h, l)

  -- its statement, by the number of it
  pub stated_by : (es : List Entry) (xs : List Called) (at n : ℕ) → es ≡ entries_in s → xs ≡ cs
      → ((ws : List Written) (p : Placed) → slice_get (placed_of ws (standings_of ws es) xs) at ≡ Some p → p.standing.statement ≡ statement_at ws n)
      → (p : Placed) → slice_get (placed_in s cs) at ≡ Some p → p.standing.statement ≡ statement_at (written_in s) n
  stated_by es xs at n e f so p g =
      so (written_in s) p (ap (λ zs. slice_get (placed_of (written_in s) (standings_of (written_in s) zs) xs) at) e ∙ ap (λ zs. slice_get (placed_in s zs) at) f ∙ g)

  pub stands_by : (es : List Entry) (i n : ℕ) → es ≡ entries_in s
      → ((ws : List Written) (m : Standing) → slice_get (standings_of ws es) i ≡ Some m → m.statement ≡ statement_at ws n)
      → (m : Standing) → slice_get (all_standing s) i ≡ Some m → m.statement ≡ statement_at (written_in s) n
  stands_by es i n e so m g = so (written_in s) m (ap (λ zs. slice_get (standings_of (written_in s) zs) i) e ∙ g)

  -- what is placed where something stands is that
  pub stood_at : (at : ℕ) → at < length (entries_in s) → (p : Placed) → slice_get (placed_in s cs) at ≡ Some p
      → (m : Standing) × (slice_get (all_standing s) at ≡ Some m) × (p ≡ placed_standing m)
  stood_at at h p e =
      let m = rank_there s at h in
      (m.0, m.1, some_same p (placed_standing m.0) (sym e ∙ standing_at (written_in s) (all_standing s) cs at m.0 m.1))

  -- the namespace of what a call brought
  pub brought_to : (bs : List Body) → AreBodySpaces (written_in s) (all_standing s) (spaces_in s) cs bs → (at : ℕ) (b : Body) → Contains bs b
      → IsBodyAt (written_in s) (all_standing s) cs at b → (p : Placed) → slice_get (placed_in s cs) at ≡ Some p → IsNumber (spaces_in s) p.standing.space b.space
  brought_to bs are at b c x p e =
      let same = ap (λ (q : Placed). q.standing.space) (some_same p x.there (sym e ∙ x.placed)) ∙ x.is.space in
      subst (λ (n : Namespace). IsNumber (spaces_in s) n b.space) (sym same) (are b x.so.call c x.so.is_call)

-- ---- arguments

module _ (ws : List Written) (standings : List Standing) (p : Placed) (m : Standing) (called : called_macro standings p ≡ Some m) where
  -- the statements of both are there
  pub call_there : p.standing.statement ≡ nothing → ⊥
  call_there e = let f : false ≡ true = ap (λ (w : Written). is_call w.statement.keyword) (sym e) ∙ (names_macro ws standings p m called).0 in cc

  pub macro_there : m.statement ≡ nothing → ⊥
  macro_there e = let f : false ≡ true = ap (λ (w : Written). is_macro w.statement.keyword) (sym e) ∙ (names_macro ws standings p m called).2 in cc

pub fits_bound : (ws : List Written) (p : Placed) (m : Standing) (call macro : Statement) (b : Bool) → p.standing.statement.statement ≡ statement_of call
    → m.statement.statement ≡ statement_of macro → b ≡ fits (macro_parameters (args_of macro)) (call_arguments (args_of call)) → b ≡ is_some (bounds_of_call ws p m)
fits_bound ws p m call macro b e f g =
    g
    ∙ ap (λ (s : written.Statement). fits (macro_parameters s.args) (call_arguments (args_of call))) (sym f)
    ∙ ap (λ (s : written.Statement). fits (macro_parameters m.statement.statement.args) (call_arguments s.args)) (sym e)
    ∙ fits_when ws p (macro_parameters m.statement.statement.args) (call_arguments p.standing.statement.statement.args)

-- ---- whether a call is unfolded

module _ (ws : List Written) (ss : List Standing) (p : Placed) where
  pub uncalled : called_macro ss p ≡ None → unfolded ws ss p ≡ None
  unfolding unfolded
  uncalled e = ap (unfolded_by ws p) e

  either_none : (b : Bool) (m : Standing) (o : Option (List Bound)) → is_some o ≡ false → (if b then None else unfolded_with m o) ≡ None
  either_none true m o e = refl
  either_none false m None e = refl
  either_none false m (Some bs) e = cc

  pub again : (m : Standing) → called_macro ss p ≡ Some m → true ≡ is_repeated p m → unfolded ws ss p ≡ None
  unfolding unfolded
  again m e f = ap (unfolded_by ws p) e ∙ ap (λ b. if b then None else unfolded_with m (bounds_of_call ws p m)) (sym f)

  pub unfit : (m : Standing) → called_macro ss p ≡ Some m → false ≡ is_some (bounds_of_call ws p m) → unfolded ws ss p ≡ None
  unfolding unfolded
  unfit m e f = ap (unfolded_by ws p) e ∙ either_none (is_repeated p m) m (bounds_of_call ws p m) (sym f)

  with_some : (m : Standing) (o : Option (List Bound)) → is_some o ≡ true → (u : Unfolded) × (unfolded_with m o ≡ Some u) × (u.macro ≡ m)
  with_some m None e = cc
  with_some m (Some bs) e = (record { macro = m; bounds = bs }, refl, refl)

  pub is_unfolded : (m : Standing) (i : ℕ) → IsMacroAt ss (called_macro ss p) i → called_macro ss p ≡ Some m → false ≡ is_repeated p m → true ≡ is_some (bounds_of_call ws p m) → IsUnfoldedAt ws ss p i
  unfolding unfolded
  is_unfolded m i at e f g =
      let u = with_some m (bounds_of_call ws p m) (sym g) in
      record {
        opened = u.0;
        is = ap (unfolded_by ws p) e ∙ ap (λ b. if b then None else unfolded_with m (bounds_of_call ws p m)) (sym f) ∙ u.1;
        at = at.at ∙ ap Some (some_same at.called m (sym at.is ∙ e) ∙ sym u.2);
      }

-- ---- what was told of a call

module _ (s : Standings) (cs : List Called) (at : ℕ) where
  pub not_meant : (o : Option ℕ) → o ≡ None → SaysMeant s cs at o → SaysMeant s cs at None
  not_meant o e so = subst (SaysMeant s cs at) e so

  pub is_meant : (o : Option ℕ) (k : ℕ) → o ≡ Some k → SaysMeant s cs at o → SaysMeant s cs at (Some k)
  is_meant o k e so = subst (SaysMeant s cs at) e so

  pub not_unfolded : (o : Option ℕ) → o ≡ None → SaysUnfolded s cs at o → SaysUnfolded s cs at None
  not_unfolded o e so = subst (SaysUnfolded s cs at) e so

  pub unfolded_is : (o : Option ℕ) (k : ℕ) → o ≡ Some k → SaysUnfolded s cs at o → SaysUnfolded s cs at (Some k)
  unfolded_is o k e so = subst (SaysUnfolded s cs at) e so
