-- Whether the arguments of a call fit the parameters of a macro: this depends on what is written alone, and not on where the
-- call is placed.
use Rattle.std.specs.Prelude.{◌≡◌, ℕ, Bool, true, false, ◌&&◌, not, List, [], ◌∷◌, Option, Some, None, is_some}
use Rattle.std.proofs.Common.{refl, sym, ◌∙◌, ap}
use Rattle.cil_syntax.specs.declared.kind.Sign.{Sign}
use Rattle.cil_syntax.specs.declared.term.Op.{Op}
use Rattle.cil_syntax.specs.declared.term.Word.{Word}
use Rattle.cil_syntax.specs.Readings.{read_row}
use Rattle.cil_syntax.specs.Shapes.{Row, Shape}
use Rattle.cil_syntax.specs.Words.{is_spelled}
use Rattle.cil_syntax.specs.Spelling.{is_reserved}
use Rattle.cil_syntax.specs.Terms.{Term, Terms, nil, cons}
use Rattle.cil_syntax.specs.Written.{Written}
use Rattle.cil_macros.specs.Calls.{bound, bound_more, filled_by}
use Rattle.cil_macros.specs.Parameters.{Parameter, argument_kind, argument_of, cell_in, cells_in, read_argument, sound}
use Rattle.cil_macros.specs.Placed.{Bound, Placed}

-- a term that was kept, read by a shape without a fault
abbrev pub read_as : Shape → Term Word → Option (Term Word)
read_as shape t = sound ((cell_in t).read shape)

-- items that were kept, read by a row without a fault
abbrev pub all_read_as : Row → Terms Word → Option (Terms Word)
all_read_as row ts = sound (read_row row (cells_in ts))

-- they read so
abbrev pub is_read_as : Shape → Term Word → Bool
is_read_as shape t = is_some (read_as shape t)

abbrev pub are_read_as : Row → Terms Word → Bool
are_read_as row ts = is_some (all_read_as row ts)

-- an argument has the form of a kind
abbrev pub is_of_kind : Op → Term Word → Bool
is_of_kind kind t = is_some (read_argument (argument_kind kind) (cell_in t))

-- a word has the spelling that a sign wants, and is not reserved
abbrev pub is_sound_word : Sign → List ℕ → Bool
is_sound_word sign bytes = not (is_reserved bytes) && is_spelled sign bytes

-- the arguments are as many as the parameters, and each has the form of its parameter's kind
abbrev pub fits : List Parameter → Terms Word → Bool
fits [] nil = true
fits [] (cons t ts) = false
fits (x ∷ xs) nil = false
fits (x ∷ xs) (cons t ts) = is_some (argument_of x t) && fits xs ts

-- ---- arguments that fit are those that can be put in

module _ (ws : List Written) (p : Placed) where
  one_more : (x : Parameter) (t : Option (Term Word)) (bs : Option (List Bound)) → (is_some t && is_some bs) ≡ is_some (bound_more x (filled_by ws p t) bs)
  one_more x None bs = refl
  one_more x (Some t) None = refl
  one_more x (Some t) (Some bs) = refl

  pub fits_when : (xs : List Parameter) (ts : Terms Word) → fits xs ts ≡ is_some (bound ws p xs ts)
  unfolding bound
  fits_when [] nil = refl
  fits_when [] (cons t ts) = refl
  fits_when (x ∷ xs) nil = refl
  fits_when (x ∷ xs) (cons t ts) = ap (λ b. is_some (argument_of x t) && b) (fits_when xs ts) ∙ one_more x (argument_of x t) (bound ws p xs ts)

  some_bounds : (o : Option (List Bound)) → is_some o ≡ true → (bs : List Bound) × (o ≡ Some bs)
  some_bounds None e = cc
  some_bounds (Some bs) e = (bs, refl)

  none_bound : (o : Option (List Bound)) → is_some o ≡ false → o ≡ None
  none_bound None e = refl
  none_bound (Some bs) e = cc

  -- those that fit can be put in
  pub fitting_bound : (xs : List Parameter) (ts : Terms Word) → fits xs ts ≡ true → (bs : List Bound) × (bound ws p xs ts ≡ Some bs)
  fitting_bound xs ts e = some_bounds (bound ws p xs ts) (sym (fits_when xs ts) ∙ e)

  -- others cannot
  pub unfitting_unbound : (xs : List Parameter) (ts : Terms Word) → fits xs ts ≡ false → bound ws p xs ts ≡ None
  unfitting_unbound xs ts e = none_bound (bound ws p xs ts) (sym (fits_when xs ts) ∙ e)

  -- those that can be put in fit
  pub bound_fitting : (xs : List Parameter) (ts : Terms Word) (bs : List Bound) → bound ws p xs ts ≡ Some bs → fits xs ts ≡ true
  bound_fitting xs ts bs e = fits_when xs ts ∙ ap is_some e

  -- those that cannot do not
  pub unbound_unfitting : (xs : List Parameter) (ts : Terms Word) → bound ws p xs ts ≡ None → fits xs ts ≡ false
  unbound_unfitting xs ts e = fits_when xs ts ∙ ap is_some e
