-- What words mean where they are placed is made of words that are written: a property of what statements say is one of what
-- their words mean, through calls of calls too.
use Rattle.std.specs.Prelude.{◌≡◌, ℕ, Bool, true, false, if◌then◌else◌, cond, List, [], ◌∷◌, Contains, Option, Some, None, find, refl}
use Rattle.std.proofs.Common.{◌+◌, ◌-◌, take, drop, slice_range, sym, ap, subst, arith}
use Rattle.cil_syntax.specs.modset.Modules.{module_of}
use Rattle.cil_syntax.specs.declared.kind.Sign.{Sign}
use Rattle.cil_syntax.specs.declared.kind.Sign.TheVariants as signs
use Rattle.cil_syntax.specs.declared.term.Op.{Op}
use Rattle.cil_syntax.specs.declared.term.Op.TheVariants as ops
use Rattle.cil_faults.specs.declared.spot.Spot.{Spot}
use Rattle.cil_syntax.specs.declared.term.Word.{Word}
use Rattle.cil_syntax.specs.Scopes.{ScopedWord}
use Rattle.cil_syntax.specs.Shapes.{Inner, Reading, Shape, a_list}
use Rattle.cil_syntax.specs.Readings.{head_word, read_list}
use Rattle.cil_syntax.specs.Slices.{AreWritten, EachText, EachTextIn}
use Rattle.cil_syntax.specs.Terms.{Term, Leaf, Name, Form, Terms, nil, cons}
use Rattle.cil_syntax.specs.Written.{Written}
use Rattle.cil_syntax.proofs.SliceLemmas.{IsPlain, Whole, WholeIn, FrontText, Has, EachCell, word_has, string_has, list_has, written_whole}
use Rattle.cil_blocks.specs.Contents.{Standing, Stands}
use Rattle.cil_macros.specs.Calls.{Unfolded, IsPlaced, stands, called, in_branch, in_optional, bound, bound_more, bounds_of_call, called_macro, filled_by, is_repeated, unfolded, unfolded_by, unfolded_with}
use Rattle.cil_macros.specs.Laws.{HaveWordsOfTexts}
use Rattle.cil_macros.specs.Parameters.{ArgumentKind, Parameter, argument_kind, argument_of, call_arguments, cell_in, cells_in, faultless, is_text, macro_parameters, read_argument, sound, text_cell}
use Rattle.cil_macros.specs.Placed.{Bound, Placed, filled, all_filled, is_served, meaning, meant_by, of_plain_class, put, put_list}
use Rattle.cil_macros.proofs.WrittenLemmas.{stands_written}

never : false ≡ true → ⊥
never e = cc

-- the form of a string that was kept
text_op : (op : Op) → is_text op ≡ true → op ≡ ops.UnreadText
text_op ops.UnreadText e = refl
text_op op e = absurd (never e)

-- no argument is asked for as a list
abbrev IsPlainKind : Option ArgumentKind → Type 0
IsPlainKind None = Unit {0}
IsPlainKind (Some k) = IsPlain k.shape

plain_of_kind : (op : Op) → IsPlainKind (argument_kind op)
plain_of_kind ops.ClassPermissionKind = (tt, ((λ e. cc), (tt, (tt, tt))))
plain_of_kind ops.LevelKind = (tt, ((λ e. cc), ((tt, tt), (tt, (tt, tt)))))
plain_of_kind ops.LevelRangeKind = (tt, ((λ e. cc), ((tt, ((λ e. cc), ((tt, tt), (tt, (tt, tt))))), ((tt, ((λ e. cc), ((tt, tt), (tt, (tt, tt))))), tt))))
plain_of_kind op = tt

module _ (P : Spot → List ℕ → Type 0) (empty : (at : Spot) → P at []) where
  -- each word, name and string of what a word means has the property
  abbrev pub OfMeant : Term ScopedWord → Type 0
  OfMeant t = EachText (λ (w : ScopedWord). P w.at w.bytes) P t

  -- the arguments of parameters have it
  abbrev EachBound : List Bound → Type 0
  EachBound [] = Unit {0}
  EachBound (b ∷ bs) = OfMeant b.value × EachBound bs

  abbrev IfTerm : Option (Term Word) → Type 0
  IfTerm None = Unit {0}
  IfTerm (Some t) = Whole P t

  abbrev IfMeant : Option (Term ScopedWord) → Type 0
  IfMeant None = Unit {0}
  IfMeant (Some t) = OfMeant t

  abbrev IfBound : Option Bound → Type 0
  IfBound None = Unit {0}
  IfBound (Some b) = OfMeant b.value

  abbrev IfBounds : Option (List Bound) → Type 0
  IfBounds None = Unit {0}
  IfBounds (Some bs) = EachBound bs

  abbrev IfUnfolded : Option Unfolded → Type 0
  IfUnfolded None = Unit {0}
  IfUnfolded (Some u) = EachBound u.bounds

  -- ---- arguments that were kept

  text_has : (at : Spot) (parts : Terms Word) → FrontText P at parts → (shape : Shape) → Has P ((text_cell at parts).read shape)
  text_has at nil h shape = string_has P at [] (empty at) shape
  text_has at (cons (Leaf w) ts) h shape = string_has P at [] (empty at) shape
  text_has at (cons (Name bt bytes) ts) h shape = string_has P at bytes h shape
  text_has at (cons (Form bt op parts) ts) h shape = string_has P at [] (empty at) shape

  form_has : (at : Spot) (parts : Terms Word) (b : Bool) → (b ≡ true → FrontText P at parts) → EachCell P (cells_in parts) → (shape : Shape) → IsPlain shape
      → Has P ((if b then text_cell at parts else record { at = at; face = a_list (head_word (cells_in parts)); read = read_list at (cells_in parts) }).read shape)
  form_has at parts true h e shape p = text_has at parts (h refl) shape
  form_has at parts false h e shape p = list_has P at (cells_in parts) e shape p

  mutual
    unfolding cell_in cells_in

    cell_has : (t : Term Word) → Whole P t → (shape : Shape) → IsPlain shape → Has P ((cell_in t).read shape)
    cell_has (Leaf w) h shape p = word_has P w.at w.bytes h shape
    cell_has (Name at bytes) h shape p = string_has P at bytes h shape
    cell_has (Form at op parts) h shape p = form_has at parts (is_text op) (λ e. h.0 (text_op op e)) (cells_have parts h.1) shape p

    cells_have : (ts : Terms Word) → WholeIn P ts → EachCell P (cells_in ts)
    cells_have nil h = tt
    cells_have (cons t ts) h = (cell_has t h.0, cells_have ts h.1)

  faultless_has : (t : Term Word) (fs : List Inner) → Whole P t → IfTerm (faultless t fs)
  faultless_has t [] h = h
  faultless_has t (f ∷ fs) h = tt

  sound_has : (r : Option (Reading (Term Word))) → Has P r → IfTerm (sound r)
  sound_has None h = tt
  sound_has (Some r) h = faultless_has r.value r.faults h

  read_has : (k : Option ArgumentKind) → IsPlainKind k → (t : Term Word) → Whole P t → IfTerm (read_argument k (cell_in t))
  read_has None p t h = tt
  read_has (Some k) p t h = sound_has ((cell_in t).read k.shape) (cell_has t h k.shape p)

  argument_has : (x : Parameter) (t : Term Word) → Whole P t → IfTerm (argument_of x t)
  unfolding argument_of
  argument_has x t h = read_has (argument_kind x.kind) (plain_of_kind x.kind) t h

  arguments_have : (ts : Terms Word) → WholeIn P ts → WholeIn P (call_arguments ts)
  arguments_have nil h = tt
  arguments_have (cons t nil) h = tt
  arguments_have (cons t (cons (Leaf w) ts)) h = tt
  arguments_have (cons t (cons (Name at name) ts)) h = tt
  arguments_have (cons t (cons (Form at op parts) ts)) h = h.1.0.1

  -- ---- what a word means

  one_bound : (b : Bool) (x y : Option Bound) → IfBound x → IfBound y → IfBound (cond b x y)
  one_bound true x y h k = h
  one_bound false x y h k = k

  found_has : (w : Word) (bs : List Bound) → EachBound bs → IfBound (find (is_served w) bs)
  found_has w [] h = tt
  found_has w (b ∷ bs) h = one_bound (is_served w b) (Some b) (find (is_served w) bs) h.0 (found_has w bs h.1)

  plain_has : (ts : Terms ScopedWord) → EachTextIn (λ (w : ScopedWord). P w.at w.bytes) P ts → EachTextIn (λ (w : ScopedWord). P w.at w.bytes) P (of_plain_class ts)
  plain_has nil h = h
  plain_has (cons (Leaf w) ts) h = h
  plain_has (cons (Name at name) ts) h = h
  plain_has (cons (Form at op parts) ts) h = h

  list_put : (sign : Sign) (at : Spot) (op : Op) (parts : Terms ScopedWord) → OfMeant (Form at op parts) → OfMeant (put_list sign at op parts)
  list_put signs.MappedPermissions at op parts h = plain_has parts h
  list_put sign at op parts h = h

  put_has : (sign : Sign) (t : Term ScopedWord) → OfMeant t → OfMeant (put sign t)
  put_has sign (Leaf w) h = h
  put_has sign (Name at name) h = h
  put_has sign (Form at op parts) h = list_put sign at op parts h

  module _ (ws : List Written) (p : Placed) (bounds : EachBound p.bounds) where
    meant_has : (w : Word) → P w.at w.bytes → (o : Option Bound) → IfBound o → OfMeant (meant_by ws p w o)
    meant_has w h None b = h
    meant_has w h (Some x) b = put_has w.sign x.value b

    meaning_has : (w : Word) → P w.at w.bytes → OfMeant (meaning ws p w)
    unfolding meaning
    meaning_has w h = meant_has w h (find (is_served w) p.bounds) (found_has w p.bounds bounds)

    mutual
      unfolding filled all_filled

      filled_has : (t : Term Word) → Whole P t → OfMeant (filled (meaning ws p) t)
      filled_has (Leaf w) h = meaning_has w h
      filled_has (Name at name) h = h
      filled_has (Form at op parts) h = all_filled_have parts h.1

      all_filled_have : (ts : Terms Word) → WholeIn P ts → EachTextIn (λ (w : ScopedWord). P w.at w.bytes) P (all_filled (meaning ws p) ts)
      all_filled_have nil h = tt
      all_filled_have (cons t ts) h = (filled_has t h.0, all_filled_have ts h.1)

    mutual
      meant_in : (t : Term Word) → Whole P t → EachText (λ (w : Word). OfMeant (meaning ws p w)) P t
      meant_in (Leaf w) h = meaning_has w h
      meant_in (Name at name) h = h
      meant_in (Form at op parts) h = all_meant_in parts h.1

      all_meant_in : (ts : Terms Word) → WholeIn P ts → EachTextIn (λ (w : Word). OfMeant (meaning ws p w)) P ts
      all_meant_in nil h = tt
      all_meant_in (cons t ts) h = (meant_in t h.0, all_meant_in ts h.1)

    -- ---- the arguments of a call

    filled_by_has : (o : Option (Term Word)) → IfTerm o → IfMeant (filled_by ws p o)
    filled_by_has None h = tt
    filled_by_has (Some t) h = filled_has t h

    more_has : (x : Parameter) (t : Option (Term ScopedWord)) (r : Option (List Bound)) → IfMeant t → IfBounds r → IfBounds (bound_more x t r)
    more_has x None r h k = tt
    more_has x (Some t) None h k = tt
    more_has x (Some t) (Some bs) h k = (h, k)

    bound_has : (xs : List Parameter) (ts : Terms Word) → WholeIn P ts → IfBounds (bound ws p xs ts)
    unfolding bound
    bound_has [] nil h = tt
    bound_has [] (cons t ts) h = tt
    bound_has (x ∷ xs) nil h = tt
    bound_has (x ∷ xs) (cons t ts) h =
        more_has x (filled_by ws p (argument_of x t)) (bound ws p xs ts) (filled_by_has (argument_of x t) (argument_has x t h.0)) (bound_has xs ts h.1)

    one_unfolded : (b : Bool) (x y : Option Unfolded) → IfUnfolded x → IfUnfolded y → IfUnfolded (if b then x else y)
    one_unfolded true x y h k = h
    one_unfolded false x y h k = k

    with_has : (m : Standing) (o : Option (List Bound)) → IfBounds o → IfUnfolded (unfolded_with m o)
    with_has m None h = tt
    with_has m (Some bs) h = h

    by_has : (args : WholeIn P p.standing.statement.statement.args) (o : Option Standing) → IfUnfolded (unfolded_by ws p o)
    by_has args None = tt
    by_has args (Some m) =
        one_unfolded (is_repeated p m) None (unfolded_with m (bounds_of_call ws p m)) tt
        (with_has m (bounds_of_call ws p m)
        (bound_has (macro_parameters m.statement.statement.args) (call_arguments p.standing.statement.statement.args) (arguments_have p.standing.statement.statement.args args)))

    unfolded_has : (ss : List Standing) → WholeIn P p.standing.statement.statement.args → IfUnfolded (unfolded ws ss p)
    unfolding unfolded
    unfolded_has ss args = by_has args (called_macro ss p)

  -- ---- all that is placed

  module _ (ws : List Written) (ss : List Standing) (stand : (s : Standing) → Contains ss s → Stands ws s)
      (said : (w : Written) → Contains ws w → WholeIn P w.statement.args) where
    placed_has : (p : Placed) → IsPlaced ws ss p → EachBound p.bounds × WholeIn P p.standing.statement.statement.args
    placed_has p (stands s c) = (tt, said s.statement (stands_written ws s (stand s c)))
    placed_has p (called q u w placed e c i) =
        let before = placed_has q placed in (subst IfUnfolded e (unfolded_has ws q before.0 ss before.1), said w c)
    placed_has p (in_optional q b w placed e o c i) = ((placed_has q placed).0, said w c)
    placed_has p (in_branch q b w placed e o c i) = ((placed_has q placed).0, said w c)

    placed_mean : (p : Placed) → IsPlaced ws ss p → EachTextIn (λ (w : Word). OfMeant (meaning ws p w)) P p.standing.statement.statement.args
    placed_mean p placed =
        let known = placed_has p placed in all_meant_in ws p known.0 p.standing.statement.statement.args known.1

-- no bytes are written anywhere
nothing_written : (modules : List (List ℕ)) (at : Spot) → AreWritten modules at []
nothing_written modules at =
    let none : (at.at + 0) - at.at ≡ 0 = omega arith in
    let part : slice_range (module_of modules at.«module») at.at (at.at + 0) ≡ [] =
    ap (λ n. take n (drop at.at (module_of modules at.«module»))) none in
    sym part

pub words_of_texts : HaveWordsOfTexts
words_of_texts modules ws ss wrote stand p placed =
    placed_mean (AreWritten modules) (nothing_written modules) ws ss stand (λ w c. written_whole modules w (wrote w c)) p placed
