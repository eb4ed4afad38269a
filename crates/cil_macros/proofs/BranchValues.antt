-- The value of the branch in which something is, term by term.
use Rattle.std.proofs.Common.{◌≡◌, ℕ, ◌+◌, ◌<◌, ◌≤◌, Bool, true, false, List, length, get_or, drop, refl, sym, ◌∙◌, ap, rules}
use Rattle.std.specs.Prelude.{not, nat_le, if◌then◌else◌}
use Rattle.std.specs.declared.alloc.Global.{Global}
use Rattle.std.specs.declared.vec.Vec.{Vec}
use Rattle.std.proofs.lemmas.Bool.{le-leb, lt-leb}
use Rattle.std.proofs.lemmas.List.{drop_all}
use Rattle.cil_faults.specs.declared.spot.Spot.{Spot}
use Rattle.cil_faults.specs.Spots.{spot_at}
use Rattle.cil_syntax.specs.declared.term.LookedUp.{LookedUp}
use Rattle.cil_syntax.specs.declared.term.Op.{Op}
use Rattle.cil_syntax.specs.declared.term.Term as rust
use Rattle.cil_syntax.specs.declared.term.Term.{the_lemmas}
use Rattle.cil_syntax.specs.declared.term.Term.TheVariants as variants
use Rattle.cil_syntax.specs.declared.term.Word.{Word}
use Rattle.cil_syntax.specs.Said.{all_said, said_of, word_in}
use Rattle.cil_syntax.specs.Terms.{Leaf, Name, Form, Terms, cons}
use Rattle.cil_blocks.specs.Branches.{last_value, value_by}
use Rattle.cil_macros.proofs.ArgumentLemmas.{first_left}

chosen : (other : Bool) (ts : Terms Word) (at : Spot) (b : Bool) (op : Op) → last_value (if not b then value_by op other else other) ts at
    ≡ last_value (if b then other else value_by op other) ts at
chosen other ts at true op = refl
chosen other ts at false op = refl

module _ (m : ℕ) (t : rust.Term) (ts : Terms Word) (at : Spot) (before : Bool) where
  pub behind_word : (w : LookedUp) → t ≡ variants.Leaf w → last_value before (cons (said_of m t) ts) at ≡ last_value before ts at
  unfolding last_value
  behind_word w is =
      let view : said_of m (variants.Leaf w) ≡ Leaf (word_in m w) = search (rules, the_lemmas) in
      ap (λ x. last_value before (cons x ts) at) (ap (said_of m) is ∙ view)

  pub behind_name : (from : ℕ) (bytes : List ℕ) → t ≡ variants.Name from bytes → last_value before (cons (said_of m t) ts) at ≡ last_value before ts at
  unfolding last_value
  behind_name from bytes is =
      let view : said_of m (variants.Name from bytes) ≡ Name (spot_at m from) bytes = search (rules, the_lemmas) in
      ap (λ x. last_value before (cons x ts) at) (ap (said_of m) is ∙ view)

  module _ (from : ℕ) (op : Op) (parts : Vec rust.Term Global) (is : t ≡ variants.Form op from parts) where
    behind_form : last_value before (cons (said_of m t) ts) at ≡ last_value (if nat_le at.at from then before else value_by op before) ts at
    unfolding last_value
    behind_form =
        let view : said_of m (variants.Form op from parts) ≡ Form (spot_at m from) op (all_said m parts.items) = search (rules, the_lemmas) in
        ap (λ x. last_value before (cons x ts) at) (ap (said_of m) is ∙ view) ∙ chosen before ts at (nat_le at.at from) op

    pub behind_later : at.at ≤ from → last_value before (cons (said_of m t) ts) at ≡ last_value before ts at
    behind_later h = behind_form ∙ ap (λ b. last_value (if b then before else value_by op before) ts at) (le-leb at.at from h)

    pub behind_earlier : from < at.at → (value : Bool) → value ≡ value_by op before → last_value before (cons (said_of m t) ts) at ≡ last_value value ts at
    behind_earlier h value e =
        behind_form
        ∙ ap (λ b. last_value (if b then before else value_by op before) ts at) (lt-leb at.at from h)
        ∙ ap (λ b. last_value b ts at) (sym e)

-- ---- one term after another

pub one_behind : (m i : ℕ) (terms : List rust.Term) (t : rust.Term) (at : Spot) (old new all : Bool) → i < length terms → t ≡ get_or terms i t
    → ((n : ℕ) (ts : Terms Word) → last_value old (cons (said_of n t) ts) at ≡ last_value new ts at)
    → last_value old (all_said m (drop i terms)) at ≡ all → last_value new (all_said m (drop (i + 1) terms)) at ≡ all
one_behind m i terms t at old new all within is step so =
    sym (step m (all_said m (drop (i + 1) terms)))
    ∙ ap (λ ts. last_value old ts at) (sym (first_left m terms i t within is))
    ∙ so

pub all_behind : (m i : ℕ) (terms : List rust.Term) (at : Spot) (value all : Bool) → length terms ≤ i → last_value value (all_said m (drop i terms)) at ≡ all → value ≡ all
unfolding last_value
all_behind m i terms at value all over so = ap (λ ts. last_value value (all_said m ts) at) (sym (drop_all i terms over)) ∙ so
