-- What a word means in a body: its argument, or itself in the scope of the outermost call, or in that of its place.
use Rattle.std.proofs.Common.{◌≡◌, ℕ, zero, suc, ◌<◌, Bool, true, false, if◌then◌else◌, List, [], ◌∷◌, length, refl, sym, ◌∙◌, ap, subst, arith}
use Rattle.std.specs.Prelude.{Option, Some, None, find, slice_get}
use Rattle.std.specs.Option.{option_map}
use Rattle.cil_base.specs.Places.{none_some, some_same}
use Rattle.cil_syntax.specs.declared.kind.Sign.{Sign}
use Rattle.cil_syntax.specs.declared.kind.Sign.TheVariants as signs
use Rattle.cil_syntax.specs.declared.term.Op.{Op}
use Rattle.cil_syntax.specs.declared.term.Op.TheVariants as ops
use Rattle.cil_faults.specs.declared.spot.Spot.{Spot}
use Rattle.cil_syntax.specs.declared.term.Word.{Word}
use Rattle.cil_syntax.specs.Terms.{Name, Form, nil, cons}
use Rattle.cil_macros.specs.declared.meant.Argument.{Argument}
use Rattle.cil_macros.specs.declared.meant.Argument.TheVariants as arguments
use Rattle.cil_macros.specs.declared.meant.Meant.{Meant}
use Rattle.cil_macros.specs.Meant.{AreArguments, AreWhole, IsWhole, bounds_by, first_for, is_for, kind_sign, meant_in, meant_term, put_there, value_there}
use Rattle.cil_macros.specs.Parameters.{Parameter}
use Rattle.cil_macros.specs.Placed.{Bound, Placed, is_served, put, put_list}
use Rattle.cil_macros.specs.Scene.{IsArgument}

module _ (ps : List Placed) where
  text_put : (sign : Sign) (at bt : Spot) (op : Op) (bytes : List ℕ) → put_list sign at op (cons (Name bt bytes) nil) ≡ Form at op (cons (Name bt bytes) nil)
  text_put signs.MappedPermissions at bt op bytes = refl
  text_put sign at bt op bytes = refl

  put_in : (sign s : Sign) (at : Spot) (bytes : List ℕ) (scope : Option ℕ) → put sign (meant_in ps s at bytes scope) ≡ meant_in ps sign at bytes scope
  put_in sign s at bytes None = text_put sign at at ops.UnreadText bytes
  put_in sign s at bytes (Some k) = refl

  put_meant : (sign s : Sign) (m : Meant) → put sign (meant_term ps s m) ≡ meant_term ps sign m
  put_meant sign s m = put_in sign s m.at m.bytes m.scope

  put_argument : (sign : Sign) (kind : Op) (m : Argument) → put sign (value_there ps kind m) ≡ put_there ps sign m
  put_argument sign kind (arguments.Plain m) = put_meant sign (kind_sign kind) m
  put_argument sign kind (arguments.List l) = refl

  one_whole : (ms : List Argument) (k : ℕ) (m : Argument) → AreWhole ps ms → slice_get ms k ≡ Some m → IsWhole ps m
  one_whole [] k m are e = absurd (none_some m e)
  one_whole (n ∷ ms) zero m are e = subst (IsWhole ps) (some_same n m e) are.0
  one_whole (n ∷ ms) (suc k) m are e = one_whole ms k m are.1 e

  module _ (w : Word) where
    abbrev bound_by : Parameter → Argument → Bound
    bound_by x m = record { parameter = x; value = value_there ps x.kind m }

    -- the argument for which the word stands, and what it says there
    record IsServed (bs : List Bound) (m : Argument) : Type 0 where
      bound : Bound
      is : find (is_served w) bs ≡ Some bound
      put_so : put w.sign bound.value ≡ put_there ps w.sign m

    passed : (x : Parameter) (m : Argument) (bs : List Bound) (b : Bool) → is_for w x ≡ b → find (is_served w) (bound_by x m ∷ bs) ≡ (if b then Some (bound_by x m) else find (is_served w) bs)
    passed x m bs b e = ap (λ c. if c then Some (bound_by x m) else find (is_served w) bs) e

    counted_by : (x : Parameter) (xs : List Parameter) (b : Bool) → is_for w x ≡ b → first_for w (x ∷ xs) ≡ (if b then Some 0 else option_map (λ k. suc k) (first_for w xs))
    counted_by x xs b e = ap (λ c. if c then Some 0 else option_map (λ k. suc k) (first_for w xs)) e

    no_more : (o : Option ℕ) → option_map (λ k. suc k) o ≡ None → o ≡ None
    no_more None e = refl
    no_more (Some k) e = cc

    one_less : (o : Option ℕ) (k : ℕ) → option_map (λ j. suc j) o ≡ Some k → (j : ℕ) × (o ≡ Some j) × (k ≡ suc j)
    one_less None k e = cc
    one_less (Some j) k e = (j, refl, sym (some_same (suc j) k e))

    none_served : (xs : List Parameter) (ms : List Argument) → first_for w xs ≡ None → find (is_served w) (bounds_by ps xs ms) ≡ None
    none_served [] ms e = refl
    none_served (x ∷ xs) [] e = refl
    none_served (x ∷ xs) (m ∷ ms) e = by (is_for w x) refl (none_served xs ms)
      where
        by : (b : Bool) → is_for w x ≡ b → (first_for w xs ≡ None → find (is_served w) (bounds_by ps xs ms) ≡ None)
            → find (is_served w) (bounds_by ps (x ∷ xs) (m ∷ ms)) ≡ None
        by true f more = let g = sym (counted_by x xs true f) ∙ e in cc
        by false f more = passed x m (bounds_by ps xs ms) false f ∙ more (no_more (first_for w xs) (sym (counted_by x xs false f) ∙ e))

    served : (xs : List Parameter) (ms : List Argument) (k : ℕ) (m : Argument) → first_for w xs ≡ Some k → slice_get ms k ≡ Some m → IsServed (bounds_by ps xs ms) m
    served [] ms k m e f = cc
    served (x ∷ xs) [] k m e f = absurd (none_some m f)
    served (x ∷ xs) (n ∷ ms) k m e f = by (is_for w x) refl (λ j. served xs ms j m)
      where
        by : (b : Bool) → is_for w x ≡ b → ((j : ℕ) → first_for w xs ≡ Some j → slice_get ms j ≡ Some m → IsServed (bounds_by ps xs ms) m)
            → IsServed (bounds_by ps (x ∷ xs) (n ∷ ms)) m
        by true g more =
            let first : 0 ≡ k = some_same 0 k (sym (counted_by x xs true g) ∙ e) in
            let same : n ≡ m = some_same n m (ap (slice_get (n ∷ ms)) first ∙ f) in
            record {
              bound = bound_by x n;
              is = passed x n (bounds_by ps xs ms) true g;
              put_so = put_argument w.sign x.kind n ∙ ap (put_there ps w.sign) same;
            }
        by false g more =
            let less = one_less (first_for w xs) k (sym (counted_by x xs false g) ∙ e) in
            let rest = more less.0 less.1 (ap (slice_get (n ∷ ms)) (sym less.2) ∙ f) in
            record { bound = rest.bound; is = passed x n (bounds_by ps xs ms) false g ∙ rest.is; put_so = rest.put_so }

    within : (xs : List Parameter) (k : ℕ) → first_for w xs ≡ Some k → k < length xs
    within [] k e = cc
    within (x ∷ xs) k e = by (is_for w x) refl (within xs)
      where
        by : (b : Bool) → is_for w x ≡ b → ((j : ℕ) → first_for w xs ≡ Some j → j < length xs) → k < length (x ∷ xs)
        by true g shorter = let first : 0 ≡ k = some_same 0 k (sym (counted_by x xs true g) ∙ e) in omega (arith, first)
        by false g shorter =
            let less = one_less (first_for w xs) k (sym (counted_by x xs false g) ∙ e) in
            let rest = shorter less.0 less.1 in
            let more = less.2 in
            omega (arith, rest, more)

    -- ---- with the arguments of a call

    module _ (xs : List Parameter) (bs : List Bound) (ms : List Argument) (are : AreArguments ps xs bs ms) where
      pub for_none : None ≡ first_for w xs → find (is_served w) bs ≡ None
      for_none e = ap (find (is_served w)) are.so ∙ none_served xs ms (sym e)

      pub for_one : (k : ℕ) (m : Argument) → Some k ≡ first_for w xs → slice_get ms k ≡ Some m → IsArgument ps w bs m
      for_one k m e f =
          let x = served xs ms k m (sym e) f in
          record { bound = x.bound; is = ap (find (is_served w)) are.so ∙ x.is; put_so = x.put_so; whole = one_whole ms k m are.whole f }

      pub for_missing : (k : ℕ) → Some k ≡ first_for w xs → slice_get ms k ≡ None → ⊥
      for_missing k e f =
          let h = within xs k (sym e) in
          let many = are.many in
          none_there ms k f (omega (arith, h, many))
        where
          none_there : (ys : List Argument) (k : ℕ) → slice_get ys k ≡ None → k < length ys → ⊥
          none_there [] k f h = omega (arith, h)
          none_there (y ∷ ys) zero f h = cc
          none_there (y ∷ ys) (suc k) f h = none_there ys k f (omega (arith, h))
