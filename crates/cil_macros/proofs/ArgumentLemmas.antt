-- Arguments and their forms, by the terms of Rust.
use Rattle.std.specs.Prelude.{Bool, true, false, ◌&&◌, not, if◌then◌else◌, Some, is_some}
use Rattle.std.specs.declared.alloc.Global.{Global}
use Rattle.std.specs.declared.vec.Vec.{Vec}
use Rattle.std.proofs.Common.{◌≡◌, ◌≤◌, ◌<◌, ◌+◌, ℕ, zero, suc, List, [], ◌∷◌, ◌++◌, length, get_or, drop, refl, sym, ◌∙◌, ap, rules}
use Rattle.std.proofs.Math.Dec.{leb, leb-zero, leb-suc-zero, leb-suc-suc}
use Rattle.std.proofs.lemmas.List.{at_drop_more, drop_all}
use Rattle.cil_syntax.specs.declared.kind.Sign.{Sign}
use Rattle.cil_syntax.specs.declared.term.LookedUp.{LookedUp}
use Rattle.cil_syntax.specs.declared.term.Op.{Op}
use Rattle.cil_faults.specs.declared.spot.Spot.{Spot}
use Rattle.cil_syntax.specs.declared.term.Term as rust
use Rattle.cil_syntax.specs.declared.term.Term.{the_lemmas}
use Rattle.cil_syntax.specs.declared.term.Term.TheVariants as variants
use Rattle.cil_syntax.specs.declared.term.Word.{Word}
use Rattle.cil_syntax.specs.Forms.{kind_and_name, parameter_form}
use Rattle.cil_syntax.specs.Said.{all_said, said_of, word_in}
use Rattle.cil_syntax.specs.Shapes.{Cell, Inner, a_list, any_text, looked_up}
use Rattle.cil_syntax.specs.Readings.{head_word, read_list}
use Rattle.cil_syntax.specs.Words.{is_spelled, read_string, read_word}
use Rattle.cil_syntax.specs.Spelling.{is_reserved}
use Rattle.cil_syntax.specs.Terms.{Term, Leaf, Name, Form, Terms, nil, cons}
use Rattle.cil_faults.specs.Spots.{spot_at}
use Rattle.cil_syntax.specs.Written.{Named}
use Rattle.cil_macros.specs.Fits.{fits, is_of_kind, is_read_as, is_sound_word}
use Rattle.cil_macros.specs.Parameters.{Parameter, argument_of, call_arguments, cell_in, cells_in, faultless, is_text, macro_parameters, parameter_in, parameters_in, sound, text_cell}

-- ---- what a term reads as

no_fault : (t : Term Word) (reserved spelled : Bool) (f g : Inner)
    → is_some (faultless t (if reserved then f ∷ [] else (if spelled then [] else g ∷ []))) ≡ (not reserved && spelled)
no_fault t true spelled f g = refl
no_fault t false true f g = refl
no_fault t false false f g = refl

pub leaf_word : (sign : Sign) (w : Word) → is_read_as (looked_up sign) (Leaf w) ≡ is_sound_word sign w.bytes
unfolding cell_in read_word
leaf_word sign w = no_fault _ (is_reserved w.bytes) (is_spelled sign w.bytes) _ _

leaf_text : (w : Word) → is_read_as any_text (Leaf w) ≡ true
unfolding cell_in read_word
leaf_text w = refl

-- a list that was kept
abbrev list_cell : Spot → Terms Word → Cell
list_cell at parts = record { at = at; face = a_list (head_word (cells_in parts)); read = read_list at (cells_in parts) }

module _ (at : Spot) (parts : Terms Word) where
  list_or_text_word : (sign : Sign) (text : Bool) → is_some (sound ((if text then text_cell at parts else list_cell at parts).read (looked_up sign))) ≡ false
  unfolding read_string read_list
  list_or_text_word sign true = text_word parts
    where
      text_word : (ts : Terms Word) → is_some (sound ((text_cell at ts).read (looked_up sign))) ≡ false
      text_word nil = refl
      text_word (cons (Leaf w) ts) = refl
      text_word (cons (Name bt bytes) ts) = refl
      text_word (cons (Form bt op more) ts) = refl
  list_or_text_word sign false = refl

  list_or_text : (text : Bool) → is_some (sound ((if text then text_cell at parts else list_cell at parts).read any_text)) ≡ text
  unfolding read_string read_list
  list_or_text true = kept_text parts
    where
      kept_text : (ts : Terms Word) → is_some (sound ((text_cell at ts).read any_text)) ≡ true
      kept_text nil = refl
      kept_text (cons (Leaf w) ts) = refl
      kept_text (cons (Name bt bytes) ts) = refl
      kept_text (cons (Form bt op more) ts) = refl
  list_or_text false = refl

form_word : (sign : Sign) (at : Spot) (op : Op) (parts : Terms Word) → is_read_as (looked_up sign) (Form at op parts) ≡ false
unfolding cell_in
form_word sign at op parts = list_or_text_word at parts sign (is_text op)

form_text : (at : Spot) (op : Op) (parts : Terms Word) → is_read_as any_text (Form at op parts) ≡ is_text op
unfolding cell_in
form_text at op parts = list_or_text at parts (is_text op)

name_word : (sign : Sign) (at : Spot) (bytes : List ℕ) → is_read_as (looked_up sign) (Name at bytes) ≡ false
unfolding cell_in read_string
name_word sign at bytes = refl

name_text : (at : Spot) (bytes : List ℕ) → is_read_as any_text (Name at bytes) ≡ true
unfolding cell_in read_string
name_text at bytes = refl

-- ---- the same of the terms of Rust

module _ (n : ℕ) (t : rust.Term) where
  pub word_read : (sign : Sign) (w : LookedUp) (bytes : List ℕ) (sound : Bool) → t ≡ variants.Leaf w → bytes ≡ w.bytes → sound ≡ is_sound_word sign bytes
      → sound ≡ is_read_as (looked_up sign) (said_of n t)
  word_read sign w bytes sound is same judged =
      let view : said_of n (variants.Leaf w) ≡ Leaf (word_in n w) = search (rules, the_lemmas) in
      judged ∙ ap (is_sound_word sign) same ∙ sym (leaf_word sign (word_in n w)) ∙ ap (is_read_as (looked_up sign)) (sym (ap (said_of n) is ∙ view))

  pub word_is_text : (w : LookedUp) → t ≡ variants.Leaf w → true ≡ is_read_as any_text (said_of n t)
  word_is_text w is =
      let view : said_of n (variants.Leaf w) ≡ Leaf (word_in n w) = search (rules, the_lemmas) in
      sym (leaf_text (word_in n w)) ∙ ap (is_read_as any_text) (sym (ap (said_of n) is ∙ view))

  pub name_no_word : (sign : Sign) (at : ℕ) (bytes : List ℕ) → t ≡ variants.Name at bytes → false ≡ is_read_as (looked_up sign) (said_of n t)
  name_no_word sign at bytes is =
      let view : said_of n (variants.Name at bytes) ≡ Name (spot_at n at) bytes = search (rules, the_lemmas) in
      sym (name_word sign (spot_at n at) bytes) ∙ ap (is_read_as (looked_up sign)) (sym (ap (said_of n) is ∙ view))

  pub name_is_text : (at : ℕ) (bytes : List ℕ) → t ≡ variants.Name at bytes → true ≡ is_read_as any_text (said_of n t)
  name_is_text at bytes is =
      let view : said_of n (variants.Name at bytes) ≡ Name (spot_at n at) bytes = search (rules, the_lemmas) in
      sym (name_text (spot_at n at) bytes) ∙ ap (is_read_as any_text) (sym (ap (said_of n) is ∙ view))

  pub form_no_word : (sign : Sign) (at : ℕ) (op : Op) (parts : Vec rust.Term Global) → t ≡ variants.Form op at parts
      → false ≡ is_read_as (looked_up sign) (said_of n t)
  form_no_word sign at op parts is =
      let view : said_of n (variants.Form op at parts) ≡ Form (spot_at n at) op (all_said n parts.items) = search (rules, the_lemmas) in
      sym (form_word sign (spot_at n at) op (all_said n parts.items)) ∙ ap (is_read_as (looked_up sign)) (sym (ap (said_of n) is ∙ view))

  pub form_as_text : (at : ℕ) (op : Op) (parts : Vec rust.Term Global) (text : Bool) → t ≡ variants.Form op at parts → text ≡ is_text op
      → text ≡ is_read_as any_text (said_of n t)
  form_as_text at op parts text is judged =
      let view : said_of n (variants.Form op at parts) ≡ Form (spot_at n at) op (all_said n parts.items) = search (rules, the_lemmas) in
      judged ∙ sym (form_text (spot_at n at) op (all_said n parts.items)) ∙ ap (is_read_as any_text) (sym (ap (said_of n) is ∙ view))

-- ---- one parameter, and its argument

one_pair : (p q : Op × Named) → Some p ≡ Some q → p ≡ q
one_pair p q e = cc

a_parameter : (ts : Terms Word) (kind : Op) (name : Named) → kind_and_name ts ≡ Some (kind, name) → parameter_in ts ≡ record { kind = kind; name = name } ∷ []
a_parameter nil kind name e = cc
a_parameter (cons (Leaf w) ts) kind name e = cc
a_parameter (cons (Name at bytes) ts) kind name e = cc
a_parameter (cons (Form at op parts) nil) kind name e = cc
a_parameter (cons (Form at op parts) (cons (Leaf w) ts)) kind name e = cc
a_parameter (cons (Form at op parts) (cons (Name bt bytes) ts)) kind name e = ap (λ (p : Op × Named). record { kind = p.0; name = p.1 } ∷ []) (one_pair (op, record { at = bt; name = bytes }) (kind, name) e)
a_parameter (cons (Form at op parts) (cons (Form bt other more) ts)) kind name e = cc

pub one_parameter : (t : Term Word) (kind : Op) (name : Named) (more : Terms Word) → parameter_form t ≡ Some (kind, name)
    → parameters_in (cons t more) ≡ record { kind = kind; name = name } ∷ parameters_in more
one_parameter (Leaf w) kind name more e = cc
one_parameter (Name at bytes) kind name more e = cc
one_parameter (Form at op parts) kind name more e = ap (λ xs. xs ++ parameters_in more) (a_parameter parts kind name e)

judged_by_kind : (x : Parameter) (t : Term Word) → is_some (argument_of x t) ≡ is_of_kind x.kind t
unfolding argument_of
judged_by_kind x t = refl

-- the first of the arguments that are left
pub first_left : (n : ℕ) (arguments : List rust.Term) (k : ℕ) (t : rust.Term) → k < length arguments → t ≡ get_or arguments k t
    → all_said n (drop k arguments) ≡ cons (said_of n t) (all_said n (drop (k + 1) arguments))
first_left n arguments k t within is =
    at_drop_more (all_said n) arguments k t within ∙ ap (λ x. cons (said_of n x) (all_said n (drop (k + 1) arguments))) (sym is)

module _ (m n : ℕ) (p : rust.Term) (more : Terms Word) (kind : Op) (name : Named) (e : parameter_form (said_of m p) ≡ Some (kind, name)) where
  pub argument_judged : (arguments : List rust.Term) (k : ℕ) (t : rust.Term) (form : Bool) → k < length arguments → t ≡ get_or arguments k t
      → form ≡ is_of_kind kind (said_of n t)
      → fits (parameters_in (cons (said_of m p) more)) (all_said n (drop k arguments))
      ≡ (form && fits (parameters_in more) (all_said n (drop (k + 1) arguments)))
  argument_judged arguments k t form within is judged =
      (λ i. fits (one_parameter (said_of m p) kind name more e i) (first_left n arguments k t within is i))
      ∙ ap (λ b. b && fits (parameters_in more) (all_said n (drop (k + 1) arguments)))
      (judged_by_kind record { kind = kind; name = name } (said_of n t) ∙ sym judged)

-- ---- all parameters

module _ (m n : ℕ) (parameters arguments : List rust.Term) where
  -- whether all fit is whether those fit that are left
  abbrev pub IsLeft : ℕ → ℕ → Type 0
  IsLeft i k = fits (parameters_in (all_said m parameters)) (all_said n arguments)
      ≡ fits (parameters_in (all_said m (drop i parameters))) (all_said n (drop k arguments))

  pub here_left : (i k : ℕ) (t : rust.Term) → i < length parameters → t ≡ get_or parameters i t → IsLeft i k
      → fits (parameters_in (all_said m parameters)) (all_said n arguments)
      ≡ fits (parameters_in (cons (said_of m t) (all_said m (drop (i + 1) parameters)))) (all_said n (drop k arguments))
  here_left i k t within is left = left ∙ ap (λ ts. fits (parameters_in ts) (all_said n (drop k arguments))) (first_left m parameters i t within is)

  pub none_left : (i k : ℕ) → length parameters ≤ i → IsLeft i k → fits (parameters_in (all_said m parameters)) (all_said n arguments) ≡ leb (length arguments) k
  none_left i k over left =
      left ∙ ap (λ ps. fits (parameters_in (all_said m ps)) (all_said n (drop k arguments))) (drop_all i parameters over) ∙ all_taken arguments k
    where
      all_taken : (ts : List rust.Term) (k : ℕ) → fits [] (all_said n (drop k ts)) ≡ leb (length ts) k
      all_taken [] zero = sym (leb-zero zero)
      all_taken [] (suc k) = sym (leb-zero (suc k))
      all_taken (t ∷ ts) zero = sym (leb-suc-zero (length ts))
      all_taken (t ∷ ts) (suc k) = all_taken ts k ∙ sym (leb-suc-suc (length ts) k)

-- ---- the lists of a macro and a call

pub parameters_listed : (args : Terms Word) → macro_parameters args ≡ parameters_in (call_arguments args)
parameters_listed nil = refl
parameters_listed (cons t nil) = refl
parameters_listed (cons t (cons (Leaf w) ts)) = refl
parameters_listed (cons t (cons (Name at bytes) ts)) = refl
parameters_listed (cons t (cons (Form at op parts) ts)) = refl
