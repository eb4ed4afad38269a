-- What the arguments of a call mean, parameter by parameter.
use Rattle.std.proofs.Common.{◌≡◌, ℕ, ◌+◌, ◌<◌, ◌≤◌, List, [], ◌∷◌, ◌++◌, length, get_or, drop, refl, sym, ◌∙◌, ap, subst, arith, append_assoc}
use Rattle.std.specs.Prelude.{Option, Some, None}
use Rattle.std.proofs.lemmas.List.{append-nil, drop_all, length-append}
use Rattle.cil_base.specs.Places.{some_same}
use Rattle.cil_syntax.specs.declared.term.Op.{Op}
use Rattle.cil_syntax.specs.declared.term.Term as rust
use Rattle.cil_syntax.specs.declared.term.Word.{Word}
use Rattle.cil_syntax.specs.Forms.{parameter_form}
use Rattle.cil_syntax.specs.Said.{all_said, said_of}
use Rattle.cil_syntax.specs.Terms.{Term, Terms, nil, cons}
use Rattle.cil_syntax.specs.Written.{Named, Written}
use Rattle.cil_macros.specs.declared.meant.Argument.{Argument}
use Rattle.cil_macros.specs.Calls.{bound, bound_more, filled_by}
use Rattle.cil_macros.specs.Meant.{AreArguments, AreWhole, IsWhole, bounds_by, value_there}
use Rattle.cil_macros.specs.Parameters.{Parameter, argument_of, parameters_in}
use Rattle.cil_macros.specs.Placed.{Bound, Placed, filled, meaning}
use Rattle.cil_macros.proofs.ArgumentLemmas.{first_left, one_parameter}
use Rattle.cil_macros.proofs.ServingLemmas.{no_parameter}

whole_more : (ps : List Placed) (ms : List Argument) (x : Argument) → AreWhole ps ms → IsWhole ps x → AreWhole ps (ms ++ x ∷ [])
whole_more ps [] x are is = (is, tt)
whole_more ps (m ∷ ms) x are is = (are.0, whole_more ps ms x are.1 is)

module _ (ws : List Written) (p : Placed) where
  -- a parameter that is bound, and the others
  pub record OneBound (x : Parameter) (t : Term Word) (xs : List Parameter) (ts : Terms Word) (bs : List Bound) : Type 0 where
    pub value : Term Word
    pub is : argument_of x t ≡ Some value
    pub others : List Bound
    pub bound_so : bound ws p xs ts ≡ Some others
    pub all : bs ≡ (record { parameter = x; value = filled (meaning ws p) value }) ∷ others

  more_bound : (x : Parameter) (a : Option (Term Word)) (o : Option (List Bound)) (bs : List Bound) → bound_more x (filled_by ws p a) o ≡ Some bs
      → (value : Term Word) × (a ≡ Some value) × (others : List Bound) × (o ≡ Some others) × (bs ≡ (record { parameter = x; value = filled (meaning ws p) value }) ∷ others)
  more_bound x None o bs e = cc
  more_bound x (Some t) None bs e = cc
  more_bound x (Some t) (Some others) bs e = (t, refl, others, refl, sym (some_same ((record { parameter = x; value = filled (meaning ws p) t }) ∷ others) bs e))

  pub one_bound : (x : Parameter) (t : Term Word) (xs : List Parameter) (ts : Terms Word) (bs : List Bound) → bound ws p (x ∷ xs) (cons t ts) ≡ Some bs → OneBound x t xs ts bs
  unfolding bound
  one_bound x t xs ts bs e =
      let b = more_bound x (argument_of x t) (bound ws p xs ts) bs e in
      record { value = b.0; is = b.1; others = b.2; bound_so = b.3; all = b.4 }

  pub not_bound : (x : Parameter) (xs : List Parameter) (bs : List Bound) → bound ws p (x ∷ xs) nil ≡ Some bs → ⊥
  unfolding bound
  not_bound x xs bs e = cc

  nothing_bound : (ts : Terms Word) (bs : List Bound) → bound ws p [] ts ≡ Some bs → bs ≡ []
  unfolding bound
  nothing_bound nil bs e = sym (some_same [] bs e)
  nothing_bound (cons t ts) bs e = cc

  module _ (ps : List Placed) (m n : ℕ) (terms arguments : List rust.Term) (bs : List Bound) where
    abbrev left : ℕ → List Parameter
    left i = parameters_in (all_said m (drop i terms))

    -- so far: what is left to bind, and that all is bound where the rest is
    pub record IsPut (i : ℕ) (ms : List Argument) : Type 0 where
      pub rest : List Bound
      pub is : bound ws p (left i) (all_said n (drop (length ms) arguments)) ≡ Some rest
      pub so : (more : List Argument) → rest ≡ bounds_by ps (left i) more → bs ≡ bounds_by ps (parameters_in (all_said m terms)) (ms ++ more)
      pub many : length ms + length (left i) ≡ length (parameters_in (all_said m terms))
      pub whole : AreWhole ps ms

    pub put_first : (ms : List Argument) → ms ≡ [] → bound ws p (parameters_in (all_said m terms)) (all_said n arguments) ≡ Some bs → IsPut 0 ms
    put_first ms e f =
        subst (IsPut 0) (sym e)
        (record { rest = bs; is = f; so = λ more g. g; many = omega arith; whole = tt })

    module _ (i : ℕ) (ms : List Argument) (t : rust.Term) (within : i < length terms) (is : t ≡ get_or terms i t) (so : IsPut i ms) where
      here : left i ≡ parameters_in (cons (said_of m t) (all_said m (drop (i + 1) terms)))
      here = ap parameters_in (first_left m terms i t within is)

      pub put_over : parameter_form (said_of m t) ≡ None → IsPut (i + 1) ms
      put_over e = record {
        rest = so.rest;
        is = ap (λ xs. bound ws p xs (all_said n (drop (length ms) arguments))) (sym same) ∙ so.is;
        so = λ more f. so.so more (f ∙ ap (λ xs. bounds_by ps xs more) (sym same));
        many = ap (λ xs. length ms + length xs) (sym same) ∙ so.many;
        whole = so.whole;
      }
        where
          same : left i ≡ left (i + 1)
          same = here ∙ no_parameter (said_of m t) (all_said m (drop (i + 1) terms)) e

      module _ (kind : Op) (name : Named) (e : parameter_form (said_of m t) ≡ Some (kind, name)) where
        abbrev its : Parameter
        its = record { kind = kind; name = name }

        one_here : left i ≡ its ∷ left (i + 1)
        one_here = here ∙ one_parameter (said_of m t) kind name (all_said m (drop (i + 1) terms)) e

        pub put_none : drop (length ms) arguments ≡ [] → ⊥
        put_none f =
            not_bound its (left (i + 1)) so.rest
            (sym (λ j. bound ws p (one_here j) (all_said n (f j))) ∙ so.is)

        module _ (a : rust.Term) (there : length ms < length arguments) (at : a ≡ get_or arguments (length ms) a) where
          pub bound_here : OneBound its (said_of n a) (left (i + 1)) (all_said n (drop (length ms + 1) arguments)) so.rest
          bound_here =
              one_bound its (said_of n a) (left (i + 1)) (all_said n (drop (length ms + 1) arguments)) so.rest
              (sym (λ j. bound ws p (one_here j) (first_left n arguments (length ms) a there at j)) ∙ so.is)

          pub put_one : (x : Argument) (new : List Argument) → new ≡ ms ++ x ∷ []
              → ((value : Term Word) → argument_of its (said_of n a) ≡ Some value → (value_there ps kind x ≡ filled (meaning ws p) value) × IsWhole ps x) → IsPut (i + 1) new
          put_one x new f means =
              subst (IsPut (i + 1)) (sym f)
              (record {
                rest = bound_here.others;
                is = ap (λ k. bound ws p (left (i + 1)) (all_said n (drop k arguments))) (length-append ms (x ∷ [])) ∙ bound_here.bound_so;
                so = λ more g. so.so (x ∷ more) (bound_here.all ∙ (λ j. (record { parameter = its; value = sym (means bound_here.value bound_here.is).0 j }) ∷ g j) ∙ ap (λ xs. bounds_by ps xs (x ∷ more)) (sym one_here))
                    ∙ ap (bounds_by ps (parameters_in (all_said m terms))) (sym (append_assoc ms (x ∷ []) more));
                many =
                    let l = length-append ms (x ∷ []) in
                    let k = so.many in
                    let h = ap length one_here in
                    omega (arith, l, k, h);
                whole = whole_more ps ms x so.whole (means bound_here.value bound_here.is).1;
              })

    pub put_all : (i : ℕ) (ms : List Argument) → length terms ≤ i → IsPut i ms → AreArguments ps (parameters_in (all_said m terms)) bs ms
    put_all i ms over so = record {
      many = let k = so.many in let h = ap length none in omega (arith, k, h);
      so = so.so [] (nothing_bound (all_said n (drop (length ms) arguments)) so.rest (ap (λ xs. bound ws p xs (all_said n (drop (length ms) arguments))) (sym none) ∙ so.is)
          ∙ ap (λ xs. bounds_by ps xs []) (sym none))
          ∙ ap (bounds_by ps (parameters_in (all_said m terms))) (append-nil ms);
      whole = so.whole;
    }
      where
        none : left i ≡ []
        none = ap (λ ts. parameters_in (all_said m ts)) (drop_all i terms over)
