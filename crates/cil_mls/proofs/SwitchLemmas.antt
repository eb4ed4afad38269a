-- What mls statements say, by their terms.
use Rattle.std.specs.Prelude.{Contains, take}
use Rattle.std.proofs.Common.{◌≡◌, ℕ, ◌+◌, ◌≤◌, Bool, true, false, ◌&&◌, List, [], ◌∷◌, ◌++◌, length, refl, sym, ◌∙◌, ap, subst, inl, inr, arith}
use Rattle.std.proofs.lemmas.Bool.{and_from, and_parts, true≢false}
use Rattle.std.proofs.lemmas.List.{take_all}
use Rattle.std.specs.declared.alloc.Global.{Global}
use Rattle.std.specs.declared.vec.Vec.{Vec}
use Rattle.cil_base.specs.Lists.{contains_none}
use Rattle.cil_faults.specs.declared.spot.Spot.{Spot}
use Rattle.cil_syntax.specs.declared.kind.Keyword.{Keyword}
use Rattle.cil_syntax.specs.declared.kind.Keyword.TheVariants as keywords
use Rattle.cil_syntax.specs.declared.term.Op.{Op}
use Rattle.cil_syntax.specs.declared.term.Op.TheVariants as ops
use Rattle.cil_syntax.specs.declared.term.Term as rust
use Rattle.cil_syntax.specs.declared.term.Term.TheVariants as variants
use Rattle.cil_syntax.specs.Said.{all_said, said_of}
use Rattle.cil_syntax.proofs.SaidLemmas.{form_said}
use Rattle.cil_syntax.specs.Terms.{Leaf, Name, Form, Terms, nil, cons}
use Rattle.cil_attrs.specs.macros.Item.{Item, OptSet, all_replaced, is_enabled}
use Rattle.cil_attrs.specs.macros.Items.{may_say_lists, says_as_written}
use Rattle.cil_mls.specs.OrderFaults.{Switches, switch_word}
use Rattle.cil_mls.specs.Switch.{is_bare, is_mls, is_switch, is_switch_term, is_switch_word, switches}
use Rattle.cil_mls.proofs.PairLemmas.{taken_more}

-- ---- terms

module _ (m : ℕ) (on : Bool) where
  pub not_one : (ts : List rust.Term) → (length ts ≡ 1 → ⊥) → is_switch on (all_said m ts) ≡ false
  not_one [] none = refl
  not_one (t ∷ []) none = absurd (none refl)
  not_one (t ∷ u ∷ ts) none = refl

  pub form_is : (t : rust.Term) (op : Op) (at : ℕ) (terms : Vec rust.Term Global) → t ≡ variants.Form op at terms
      → is_switch_term on (said_of m t) ≡ (is_bare (all_said m terms.items) && is_switch_word on op)
  form_is t op at terms is = ap (is_switch_term on) (ap (said_of m) is ∙ form_said m at op terms)

  pub some_parts : (ts : List rust.Term) → 1 ≤ length ts → is_bare (all_said m ts) ≡ false
  some_parts [] some = absurd (omega (arith, some))
  some_parts (t ∷ ts) some = refl

-- what words say has no part in it
pub switch_replaced : {L M : Type 0} (g : Spot → Spot) (f : L → M) (on : Bool) (ts : Terms L) → is_switch on (all_replaced g f ts) ≡ is_switch on ts
unfolding all_replaced
switch_replaced g f on nil = refl
switch_replaced g f on (cons (Leaf w) nil) = refl
switch_replaced g f on (cons (Name at bytes) nil) = refl
switch_replaced g f on (cons (Form at op nil) nil) = refl
switch_replaced g f on (cons (Form at op (cons t ts)) nil) = refl
switch_replaced g f on (cons t (cons u ts)) = refl

-- ---- the tests tell

mls_is : (k : Keyword) → is_mls k ≡ true → k ≡ keywords.Mls
mls_is keywords.Mls e = refl
mls_is k e = absurd (true≢false (sym e))

pub mls_as_written : (k : Keyword) → is_mls k ≡ true → says_as_written k ≡ true
mls_as_written keywords.Mls e = refl
mls_as_written k e = absurd (true≢false (sym e))

pub mls_named : (k : Keyword) → is_mls k ≡ true → may_say_lists k ≡ false
mls_named keywords.Mls e = refl
mls_named k e = absurd (true≢false (sym e))

word_is : (on : Bool) (op : Op) → is_switch_word on op ≡ true → op ≡ switch_word on
word_is true ops.Yes e = refl
word_is true ops.No e = absurd (true≢false (sym e))
word_is true op e = absurd (true≢false (sym e))
word_is false ops.Yes e = absurd (true≢false (sym e))
word_is false ops.No e = refl
word_is false op e = absurd (true≢false (sym e))

is_word : (on : Bool) → is_switch_word on (switch_word on) ≡ true
is_word true = refl
is_word false = refl

switch_is : {L : Type 0} (on : Bool) (ts : Terms L) → is_switch on ts ≡ true → (at : Spot) × (ts ≡ cons (Form at (switch_word on) nil) nil)
switch_is on nil e = absurd (true≢false (sym e))
switch_is on (cons (Leaf w) nil) e = absurd (true≢false (sym e))
switch_is on (cons (Name at bytes) nil) e = absurd (true≢false (sym e))
switch_is on (cons (Form at op nil) nil) e = (at, λ i. cons (Form at (word_is on op e i) nil) nil)
switch_is on (cons (Form at op (cons t ts)) nil) e = absurd (true≢false (sym e))
switch_is on (cons t (cons u ts)) e = absurd (true≢false (sym e))

-- the parts of the test
pub no_switch : (mls enabled says : Bool) → enabled ≡ false → (mls && (enabled && says)) ≡ false
no_switch true enabled says e = ap (λ b. b && says) e
no_switch false enabled says e = refl

pub switches_so : (mls enabled says : Bool) → mls ≡ true → enabled ≡ true → (mls && (enabled && says)) ≡ says
switches_so mls enabled says m e = ap (λ b. b && (enabled && says)) m ∙ ap (λ b. b && says) e

-- a statement for which the test says yes turns levels on, or off
pub switched : (xs : List Item) (s : OptSet) (on : Bool) (x : Item) → Contains xs x → switches s on x ≡ true → Switches xs s on
switched xs s on x is e =
    let (mls, rest) = and_parts (is_mls x.keyword) (is_enabled s x && is_switch on x.args) e in
    let (enabled, says) = and_parts (is_enabled s x) (is_switch on x.args) rest in
    let (at, args) = switch_is on x.args says in
    (at, record { item = x; is_item = is; enabled = enabled; is_keyword = mls_is x.keyword mls; says = args })

-- and each such statement is one for which it says yes
said_so : (xs : List Item) (s : OptSet) (on : Bool) (w : Switches xs s on) → switches s on w.1.item ≡ true
said_so xs s on (at, w) =
    and_from (is_mls w.item.keyword) (is_enabled s w.item && is_switch on w.item.args) (ap is_mls w.is_keyword)
    (and_from (is_enabled s w.item) (is_switch on w.item.args) w.enabled (ap (is_switch on) w.says ∙ is_word on))

-- ---- all statements

-- none of these does
abbrev pub NoneSwitches : OptSet → Bool → List Item → Type 0
NoneSwitches s on xs = (x : Item) → Contains xs x → switches s on x ≡ false

pub none_at_first : (s : OptSet) (on : Bool) (xs : List Item) → NoneSwitches s on (take 0 xs)
none_at_first s on [] x c = absurd (contains_none x c)
none_at_first s on (y ∷ ys) x c = absurd (contains_none x c)

pub one_more : (s : OptSet) (on : Bool) (xs : List Item) (i : ℕ) (x : Item) → take (i + 1) xs ≡ take i xs ++ x ∷ [] → NoneSwitches s on (take i xs) → switches s on x ≡ false → NoneSwitches s on (take (i + 1) xs)
one_more s on xs i x more none not y c = elim ((taken_more xs i x more y).0 c) [
  | inl d ↦ none y d
  | inr e ↦ subst (λ (z : Item). switches s on z ≡ false) e not
]

pub none_switches : (s : OptSet) (on : Bool) (xs : List Item) (i : ℕ) → length xs ≤ i → NoneSwitches s on (take i xs) → Switches xs s on → ⊥
none_switches s on xs i over none w =
    true≢false (sym (said_so xs s on w) ∙ subst (NoneSwitches s on) (take_all i xs over) none w.1.item w.1.is_item)
