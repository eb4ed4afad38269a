-- Where no argument is a list, each word says a word.
use Rattle.std.specs.Prelude.{◌≡◌, Bool, true, false, ◌&&◌, not, cond, List, [], ◌∷◌, ◌++◌, Option, Some, None, find, refl, IsTrue}
use Rattle.std.proofs.Common.{ℕ, ◌∙◌, ap}
use Rattle.std.specs.List.{list_any}
use Rattle.cil_syntax.specs.declared.kind.Sign.{Sign}
use Rattle.cil_syntax.specs.declared.kind.Sign.TheVariants as signs
use Rattle.cil_syntax.specs.declared.term.Op.{Op}
use Rattle.cil_faults.specs.declared.spot.Spot.{Spot}
use Rattle.cil_syntax.specs.declared.term.Word.{Word}
use Rattle.cil_syntax.specs.Scopes.{ScopedWord}
use Rattle.cil_syntax.specs.Terms.{Term, Leaf, Name, Form, Terms}
use Rattle.cil_syntax.specs.Written.{Written}
use Rattle.cil_macros.specs.Calls.{Unfolded}
use Rattle.cil_macros.specs.Items.{argument_words, as_word, is_text as is_text_sign, is_text_value, joined_as, leaves, listed_unless, put_unless, said_as, said_by, unfolded_values, unfolded_words, values_of, word_in_argument, word_of}
use Rattle.cil_macros.specs.declared.meant.Argument.{Argument}
use Rattle.cil_macros.specs.declared.meant.Argument.TheVariants as arguments
use Rattle.cil_macros.specs.Meant.{bounds_by, is_list, kind_sign, meant_in}
use Rattle.cil_macros.specs.Parameters.{Parameter, is_text}
use Rattle.cil_macros.specs.Placed.{Bound, Placed, is_misplaced, is_served, meaning, meant_by, put, put_list, takes_lists}

pub not_true : (b : Bool) → IsTrue (not b) → b ≡ false
not_true true h = cc
not_true false h = refl

-- ---- what is no list

-- a word, a name or a text
abbrev pub IsNoList : {L : Type 0} → Term L → Type 0
IsNoList (Leaf w) = Unit {0}
IsNoList (Name at name) = Unit {0}
IsNoList (Form at op parts) = is_text op ≡ true

abbrev pub AreNoLists : List Bound → Type 0
AreNoLists [] = Unit {0}
AreNoLists (b ∷ bs) = IsNoList b.value × AreNoLists bs

abbrev IfNoList : Option Bound → Type 0
IfNoList None = Unit {0}
IfNoList (Some b) = IsNoList b.value

abbrev pub IfUnfolded : Option Unfolded → Type 0
IfUnfolded None = Unit {0}
IfUnfolded (Some u) = AreNoLists u.bounds

-- it is said as a word
said_so : (w : Word) (t : Term ScopedWord) → IsNoList t → said_as w t ≡ Leaf (as_word w t)
said_so w (Leaf v) h = refl
said_so w (Name at name) h = refl
said_so w (Form at op parts) h = ap (λ b. joined_as b w (Form at op parts)) h

listed_put : (sign : Sign) (at : Spot) (op : Op) (parts : Terms ScopedWord) → is_text op ≡ true → IsNoList (put_list sign at op parts)
listed_put signs.MappedPermissions at op parts h = h
listed_put sign at op parts h = h

put_so : (sign : Sign) (t : Term ScopedWord) → IsNoList t → IsNoList (put sign t)
put_so sign (Leaf w) h = tt
put_so sign (Name at name) h = tt
put_so sign (Form at op parts) h = listed_put sign at op parts h

-- ---- arguments

module _ (ps : List Placed) where
  plain_meant : (sign : Sign) (at : Spot) (bytes : List ℕ) (o : Option ℕ) → IsNoList (meant_in ps sign at bytes o)
  plain_meant sign at bytes None = refl
  plain_meant sign at bytes (Some k) = tt

  -- arguments of which none is a list
  pub plain_bounds : (xs : List Parameter) (ms : List Argument) → list_any is_list ms ≡ false → AreNoLists (bounds_by ps xs ms)
  plain_bounds [] ms e = tt
  plain_bounds (x ∷ xs) [] e = tt
  plain_bounds (x ∷ xs) (arguments.Plain m ∷ ms) e = (plain_meant (kind_sign x.kind) m.at m.bytes m.scope, plain_bounds xs ms e)
  plain_bounds (x ∷ xs) (arguments.List l ∷ ms) e = let f : true ≡ false = e in cc

one_bound : (b : Bool) (x y : Option Bound) → IfNoList x → IfNoList y → IfNoList (cond b x y)
one_bound true x y h k = h
one_bound false x y h k = k

found_so : (w : Word) (bs : List Bound) → AreNoLists bs → IfNoList (find (is_served w) bs)
found_so w [] h = tt
found_so w (b ∷ bs) h = one_bound (is_served w b) (Some b) (find (is_served w) bs) h.0 (found_so w bs h.1)

module _ (ws : List Written) (p : Placed) (bounds : AreNoLists p.bounds) where
  meant_so : (w : Word) (o : Option Bound) → IfNoList o → IsNoList (meant_by ws p w o)
  meant_so w None h = tt
  meant_so w (Some b) h = put_so w.sign b.value h

  pub meaning_so : (w : Word) → IsNoList (meaning ws p w)
  unfolding meaning
  meaning_so w = meant_so w (find (is_served w) p.bounds) (found_so w p.bounds bounds)

  pub says_a_word : (w : Word) → said_by ws p w ≡ Leaf (word_of ws p w)
  unfolding said_by word_of
  says_a_word w = said_so w (meaning ws p w) (meaning_so w)

-- ---- what is no list may be put where only a name stands

pub no_list_right : (sign : Sign) (t : Term ScopedWord) → IsNoList t → is_misplaced sign t ≡ false
no_list_right sign (Leaf w) h = refl
no_list_right sign (Name at name) h = refl
no_list_right sign (Form at op parts) h = ap (λ b. not b && not (takes_lists sign)) h

-- ---- the values of a call

word_put : (b : Bool) (w : ScopedWord) (xs : List ScopedWord) → put_unless b (Leaf w) (leaves xs) ≡ leaves (listed_unless b w ++ xs)
unfolding leaves
word_put true w xs = refl
word_put false w xs = refl

value_put : (t : Term ScopedWord) → IsNoList t → (xs : List ScopedWord) → put_unless (is_text_value t) t (leaves xs) ≡ leaves (word_in_argument t ++ xs)
value_put (Leaf w) h xs = word_put (is_text_sign w.sign) w xs
value_put (Name at name) h xs = refl
value_put (Form at op parts) h xs = ap (λ b. put_unless b (Form at op parts) (leaves xs)) h

pub values_are_words : (bs : List Bound) → AreNoLists bs → values_of bs ≡ leaves (argument_words bs)
unfolding values_of leaves
values_are_words [] h = refl
values_are_words (b ∷ bs) h = ap (put_unless (is_text_value b.value) b.value) (values_are_words bs h.1) ∙ value_put b.value h.0 (argument_words bs)

pub unfolded_are_words : (o : Option Unfolded) → IfUnfolded o → unfolded_values o ≡ leaves (unfolded_words o)
unfolding leaves
unfolded_are_words None h = refl
unfolded_are_words (Some u) h = values_are_words u.bounds h
