-- What an argument is where it is read as its kind asks: a word, a string, or a list.
use Rattle.std.proofs.Common.{◌≡◌, ℕ, List, [], refl, sym, ◌∙◌, ap}
use Rattle.std.specs.Prelude.{Bool, true, false, ◌&&◌, if◌then◌else◌, Some, None, codes, slice_get}
use Rattle.cil_syntax.specs.declared.term.Op.{Op}
use Rattle.cil_syntax.specs.declared.term.Op.TheVariants as ops
use Rattle.cil_faults.specs.declared.spot.Spot.{Spot}
use Rattle.cil_syntax.specs.declared.term.Term as rust
use Rattle.cil_syntax.specs.declared.term.Word.{Word}
use Rattle.cil_syntax.specs.Said.{all_said}
use Rattle.cil_syntax.specs.Spelling.{same_bytes}
use Rattle.cil_syntax.specs.Terms.{Term, Leaf, Name, Form, Terms, nil}
use Rattle.cil_syntax.specs.Words.{read_string, read_word}
use Rattle.cil_syntax.specs.declared.kind.Sign.TheVariants as signs
use Rattle.cil_macros.specs.declared.listed.Listed.{Listed}
use Rattle.cil_macros.specs.declared.meant.Argument.{Argument}
use Rattle.cil_macros.specs.declared.meant.Argument.TheVariants as arguments
use Rattle.cil_macros.specs.declared.meant.Meant.{Meant}
use Rattle.cil_macros.specs.declared.scene.Scene.{Scene}
use Rattle.cil_macros.specs.Meant.{IsWhole, kind_sign, meant_term, put_there, value_there}
use Rattle.cil_macros.specs.Parameters.{Parameter, argument_kind, argument_of, cell_in, is_text, may_be_list, read_argument, string_in, text_cell}
use Rattle.cil_macros.specs.Placed.{Placed, all_filled, filled, meaning}
use Rattle.cil_macros.specs.Puts.{SaysList, is_of_sets, list_cell}
use Rattle.cil_macros.specs.Scene.{SaysValue, placed_of_scene}
use Rattle.cil_macros.specs.Walks.{written_in}
use Rattle.cil_macros.proofs.PartLemmas.{says_terms, whole_so}
use Rattle.cil_macros.proofs.AskLemmas.{class_word_read, filled_form, filled_leaf, level_word_read, range_word_read, set_word_read, some_form, word_value}
use Rattle.cil_macros.proofs.PutLemmas.{no_parts}
use Rattle.cil_macros.proofs.ValueLemmas.{form_value, kept_text, leaf_value, name_value, put_by_kind, string_cell, string_filled, text_is_string}

-- what is an argument of a parameter is one of its kind
pub value_of_kind : (x : Parameter) (t : Term Word) (v : Term Word) → argument_of x t ≡ Some v → read_argument (argument_kind x.kind) (cell_in t) ≡ Some v
unfolding argument_of
value_of_kind x t v e = e

-- ---- words

-- the set of everything
pub every_value : (kind : Op) (w : Word) (v : Term Word) → true ≡ (is_of_sets kind && same_bytes w.bytes (codes "all")) → read_argument (argument_kind kind) (cell_in (Leaf w)) ≡ Some v
    → v ≡ Form w.at ops.All nil
every_value ops.CategorySetKind w v e f = some_form w.at ops.All v (sym (set_word_read signs.CategorySets w true e) ∙ f)
every_value kind w v e f = cc

-- any other word
pub leaf_of_kind : (kind : Op) (w : Word) (v : Term Word) → false ≡ (is_of_sets kind && same_bytes w.bytes (codes "all")) → read_argument (argument_kind kind) (cell_in (Leaf w)) ≡ Some v
    → v ≡ Leaf record { at = w.at; bytes = w.bytes; sign = kind_sign kind }
unfolding cell_in read_word
leaf_of_kind ops.CategorySetKind w v e f = word_value signs.CategorySets w v (sym (set_word_read signs.CategorySets w false e) ∙ f)
leaf_of_kind ops.LevelKind w v e f = word_value signs.Levels w v (sym (level_word_read w) ∙ f)
leaf_of_kind ops.LevelRangeKind w v e f = word_value signs.LevelRanges w v (sym (range_word_read w) ∙ f)
leaf_of_kind ops.ClassPermissionKind w v e f = word_value signs.ClassPermissions w v (sym (class_word_read w) ∙ f)
leaf_of_kind kind w v e f = leaf_value kind refl w v f

-- ---- strings and lists

list_no_string : (kind : Op) (at : Spot) (bytes : List ℕ) (v : Term Word) → true ≡ may_be_list kind → read_argument (argument_kind kind) (string_cell at bytes) ≡ Some v → ⊥
unfolding read_string
list_no_string ops.ClassPermissionKind at bytes v e f = cc
list_no_string ops.CategorySetKind at bytes v e f = cc
list_no_string ops.LevelKind at bytes v e f = cc
list_no_string ops.LevelRangeKind at bytes v e f = cc
list_no_string kind at bytes v e f = cc

pub name_of_kind : (kind : Op) (at : Spot) (bytes : List ℕ) (v : Term Word) → read_argument (argument_kind kind) (cell_in (Name at bytes)) ≡ Some v → v ≡ kept_text at bytes
unfolding cell_in
name_of_kind kind at bytes v e = by (may_be_list kind) refl
  where
    by : (b : Bool) → b ≡ may_be_list kind → v ≡ kept_text at bytes
    by true f = absurd (list_no_string kind at bytes v f e)
    by false f = name_value kind (sym f) at bytes v e

-- of a kind with lists what joins some parts is a list
pub list_of_kind : (n : ℕ) (kind : Op) (at : Spot) (op : Op) (items : List rust.Term) (v : Term Word) → true ≡ may_be_list kind
    → read_argument (argument_kind kind) (cell_in (Form at op (all_said n items))) ≡ Some v → read_argument (argument_kind kind) (list_cell n at items) ≡ Some v
unfolding cell_in
list_of_kind n kind at op items v e f = by (is_text op) refl
  where
    by : (b : Bool) → b ≡ is_text op → read_argument (argument_kind kind) (list_cell n at items) ≡ Some v
    by true g =
        absurd (list_no_string kind at (string_in (all_said n items)) v e
        (ap (read_argument (argument_kind kind)) (sym (text_is_string at (all_said n items)))
        ∙ ap (λ x. read_argument (argument_kind kind) (if x then text_cell at (all_said n items) else list_cell n at items)) g ∙ f))
    by false g = ap (λ x. read_argument (argument_kind kind) (if x then text_cell at (all_said n items) else list_cell n at items)) g ∙ f

-- ---- what they are

module _ (s : Scene) (at : ℕ) (kind : Op) where
  pub every_says : (w : Word) → true ≡ (is_of_sets kind && same_bytes w.bytes (codes "all")) → (l : Listed) → l.at ≡ w.at → l.op ≡ ops.All → l.parts.items ≡ []
      → SaysValue s at kind (Leaf w) (arguments.List l)
  every_says w every l at_so op_so none = λ p v here e.
      let f = meaning (written_in s.spaces.now) p in
      let ps = placed_of_scene s in
      let is = every_value kind w v every e in
      let parts = no_parts ps l none f in (
        (λ i. Form (at_so i) (op_so i) (says_terms ps l (all_filled f nil) parts i)) ∙ sym (filled_form f w.at ops.All nil) ∙ ap (filled f) (sym is),
        whole_so ps l (all_filled f nil) parts,
      )

  pub word_says : (w own : Word) → false ≡ (is_of_sets kind && same_bytes w.bytes (codes "all")) → own.at ≡ w.at → own.bytes ≡ w.bytes → own.sign ≡ kind_sign kind → (m : Argument)
      → ((p : Placed) → slice_get (placed_of_scene s) at ≡ Some p → put_there (placed_of_scene s) own.sign m ≡ meaning (written_in s.spaces.now) p own) → IsWhole (placed_of_scene s) m
      → SaysValue s at kind (Leaf w) m
  word_says w own other at_so bytes_so sign_so m says whole = λ p v here e.
      let f = meaning (written_in s.spaces.now) p in
      let ps = placed_of_scene s in
      let is = leaf_of_kind kind w v other e in
      let one : own ≡ record { at = w.at; bytes = w.bytes; sign = kind_sign kind } = λ i. record { at = at_so i; bytes = bytes_so i; sign = sign_so i } in (
        sym (put_by_kind ps kind m) ∙ ap (λ g. put_there ps g m) (sym sign_so) ∙ says p here ∙ ap f one
            ∙ sym (filled_leaf f (record { at = w.at; bytes = w.bytes; sign = kind_sign kind })) ∙ ap (filled f) (sym is),
        whole,
      )

  -- a string
  text_says : (p : Placed) (bt : Spot) (bytes : List ℕ) (v : Term Word) → v ≡ kept_text bt bytes → (m : Meant) → m.at ≡ bt → m.bytes ≡ bytes → m.scope ≡ None
      → value_there (placed_of_scene s) kind (arguments.Plain m) ≡ filled (meaning (written_in s.spaces.now) p) v
  text_says p bt bytes v is m f g h =
      let one : m ≡ record { at = bt; bytes = bytes; scope = None } = λ i. record { at = f i; bytes = g i; scope = h i } in
      ap (meant_term (placed_of_scene s) (kind_sign kind)) one ∙ sym (string_filled (meaning (written_in s.spaces.now) p) bt bytes) ∙ ap (filled (meaning (written_in s.spaces.now) p)) (sym is)

  pub name_says : (bt : Spot) (bytes : List ℕ) (m : Meant) → m.at ≡ bt → m.bytes ≡ bytes → m.scope ≡ None → SaysValue s at kind (Name bt bytes) (arguments.Plain m)
  name_says bt bytes m f g h = λ p v here e. (text_says p bt bytes v (name_of_kind kind bt bytes v e) m f g h, tt)

  pub form_says : (bt : Spot) (op : Op) (parts : Terms Word) (m : Meant) → false ≡ may_be_list kind → m.at ≡ bt → m.bytes ≡ string_in parts → m.scope ≡ None
      → SaysValue s at kind (Form bt op parts) (arguments.Plain m)
  form_says bt op parts m plain f g h = λ p v here e.
      (text_says p bt (string_in parts) v (form_value kind (sym plain) bt op parts v e) m f g h, tt)

  pub list_value_says : (n : ℕ) (bt : Spot) (op : Op) (items : List rust.Term) (l : Listed) → true ≡ may_be_list kind
      → SaysList s at (read_argument (argument_kind kind) (list_cell n bt items)) l → SaysValue s at kind (Form bt op (all_said n items)) (arguments.List l)
  list_value_says n bt op items l lists says = λ p v here e. says p v here (list_of_kind n kind bt op items v lists e)
