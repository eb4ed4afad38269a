-- Arguments that may be lists, as they are read by their shapes without a fault.
use Rattle.std.specs.Prelude.{Bool, true, false, ◌&&◌, ◌||◌, cond, find, if◌then◌else◌, Option, Some, None, is_some, codes}
use Rattle.std.specs.declared.alloc.Global.{Global}
use Rattle.std.specs.declared.vec.Vec.{Vec}
use Rattle.std.proofs.Common.{◌≡◌, ◌≤◌, ◌<◌, ◌+◌, ℕ, suc, List, [], ◌∷◌, ◌++◌, length, get_or, drop, refl, sym, ◌∙◌, ap, subst, arith}
use Rattle.std.proofs.lemmas.Bool.{eq-eqb, ne_eqb}
use Rattle.std.proofs.lemmas.List.{drop_all}
use Rattle.cil_syntax.specs.declared.kind.Language.TheVariants as languages
use Rattle.cil_syntax.specs.declared.kind.Sign.{Sign}
use Rattle.cil_syntax.specs.declared.kind.Sign.TheVariants as signs
use Rattle.cil_syntax.specs.declared.term.LookedUp.{LookedUp}
use Rattle.cil_syntax.specs.declared.term.Op.{Op}
use Rattle.cil_syntax.specs.declared.term.Op.TheVariants as ops
use Rattle.cil_faults.specs.declared.spot.Spot.{Spot}
use Rattle.cil_syntax.specs.declared.term.Term as rust
use Rattle.cil_syntax.specs.declared.term.Term.TheVariants as variants
use Rattle.cil_syntax.specs.declared.term.Word.{Word}
use Rattle.cil_syntax.specs.Heads.{Head, begins_with, first_words, has_ranges, head_in, head_of, heads, one_operand, two_operands, word_before}
use Rattle.cil_syntax.specs.Readings.{formed, head_word, joined, read_by_head, read_expression, read_list, read_row, refused_head}
use Rattle.cil_syntax.specs.Said.{all_said, said_of, word_in}
use Rattle.cil_syntax.specs.Shapes.{Cell, Inner, Reading, Row, Shape, a_list, close, counted, item, looked_up, many, set_of}
use Rattle.cil_syntax.specs.Spelling.{same_bytes}
use Rattle.cil_syntax.specs.Table.{class_permission, level, range}
use Rattle.cil_syntax.specs.Terms.{Term, Leaf, Name, Form, Terms, nil, cons}
use Rattle.cil_syntax.specs.Words.{read_string, read_word}
use Rattle.cil_syntax.proofs.SaidLemmas.{form_said, leaf_said, name_said}
use Rattle.cil_faults.specs.Spots.{spot_at}
use Rattle.cil_macros.specs.declared.list_arguments.SetHead.{SetHead}
use Rattle.cil_macros.specs.declared.list_arguments.SetHead.TheVariants as set_heads
use Rattle.cil_macros.specs.Fits.{are_read_as, is_read_as, is_sound_word}
use Rattle.cil_macros.specs.ListForms.{HasRow, SaysHead, StartsWith, head_code, kept_cells, two_categories}
use Rattle.cil_macros.specs.Parameters.{cell_in, cells_in, faultless, is_text, sound, string_in, text_cell}
use Rattle.cil_macros.proofs.ArgumentLemmas.{first_left, leaf_word}
use Rattle.cil_macros.proofs.ValueLemmas.{text_is_string}

-- ---- what is read without a fault

same_faultless : {S T : Type 0} (s : S) (t : T) (fs : List Inner) → is_some (faultless s fs) ≡ is_some (faultless t fs)
same_faultless s t [] = refl
same_faultless s t (f ∷ fs) = refl

never_both : (b : Bool) → false ≡ (b && false)
never_both true = refl
never_both false = refl

both_faultless : (t : Term Word) (ts : Terms Word) (all : Terms Word) (fs gs : List Inner) → is_some (faultless all (fs ++ gs)) ≡ (is_some (faultless t fs) && is_some (faultless ts gs))
both_faultless t ts all [] gs = same_faultless all ts gs
both_faultless t ts all (f ∷ fs) gs = refl

-- of an item and the rest, each is
joined_sound : (x : Option (Reading (Term Word))) (y : Option (Reading (Terms Word))) → is_some (sound (joined x y)) ≡ (is_some (sound x) && is_some (sound y))
joined_sound None y = refl
joined_sound (Some r) None = never_both (is_some (faultless r.value r.faults))
joined_sound (Some r) (Some s) = both_faultless r.value s.value (cons r.value s.value) r.faults s.faults

-- what is joined to one term is what its items are
formed_sound : (at : Spot) (op : Op) (o : Option (Reading (Terms Word))) → is_some (sound (formed at op [] o)) ≡ is_some (sound o)
formed_sound at op None = refl
formed_sound at op (Some r) = same_faultless (Form at op r.value) r.value r.faults

-- ---- rows

module _ (s : Shape) where
  abbrev pub are_many : List Cell → Bool
  are_many cells = is_some (sound (read_row (many s) cells))

  pub many_more : (c : Cell) (cs : List Cell) → are_many (c ∷ cs) ≡ (is_some (sound (c.read s)) && are_many cs)
  unfolding read_row
  many_more c cs = joined_sound (c.read s) (read_row (many s) cs)

  pub many_none : are_many [] ≡ true
  unfolding read_row
  many_none = refl

  -- one item
  pub one_read : (cells : List Cell) → length cells ≡ 1 → is_some (sound (read_row (item s close) cells)) ≡ are_many cells
  unfolding read_row
  one_read [] e = absurd (omega (arith, e))
  one_read (c ∷ []) e = refl
  one_read (c ∷ d ∷ cs) e = absurd (omega (arith, e))

  pub not_one : (cells : List Cell) → (length cells ≡ 1 → ⊥) → is_some (sound (read_row (item s close) cells)) ≡ false
  unfolding read_row
  not_one [] never = refl
  not_one (c ∷ []) never = absurd (never refl)
  not_one (c ∷ d ∷ cs) never = joined_sound (c.read s) None ∙ sym (never_both (is_some (sound (c.read s))))

  -- two items
  pub two_read : (cells : List Cell) → length cells ≡ 2 → is_some (sound (read_row (item s (item s close)) cells)) ≡ are_many cells
  unfolding read_row
  two_read [] e = absurd (omega (arith, e))
  two_read (c ∷ []) e = absurd (omega (arith, e))
  two_read (c ∷ d ∷ []) e = refl
  two_read (c ∷ d ∷ f ∷ cs) e = absurd (omega (arith, e))

  module _ (t : Shape) where
    pub not_two : (cells : List Cell) → (length cells ≡ 2 → ⊥) → is_some (sound (read_row (item s (item t close)) cells)) ≡ false
    unfolding read_row
    not_two [] never = refl
    not_two (c ∷ []) never = joined_sound (c.read s) None ∙ sym (never_both (is_some (sound (c.read s))))
    not_two (c ∷ d ∷ []) never = absurd (never refl)
    not_two (c ∷ d ∷ f ∷ cs) never =
        joined_sound (c.read s) (joined (d.read t) None)
        ∙ ap (λ b. is_some (sound (c.read s)) && b) (joined_sound (d.read t) None ∙ sym (never_both (is_some (sound (d.read t)))))
        ∙ sym (never_both (is_some (sound (c.read s))))

    last_read : (x : Option (Reading (Term Word))) → is_some (sound (joined x (read_row close []))) ≡ is_some (sound x)
    unfolding read_row
    last_read x = joined_sound x (Some record { value = nil; faults = [] }) ∙ with_true (is_some (sound x))
      where
        with_true : (b : Bool) → (b && true) ≡ b
        with_true true = refl
        with_true false = refl

    -- a first and a second item
    pub pair_read : (c d : Cell) → is_some (sound (read_row (item s (item t close)) (c ∷ d ∷ []))) ≡ (is_some (sound (c.read s)) && is_some (sound (d.read t)))
    unfolding read_row
    pair_read c d = joined_sound (c.read s) (joined (d.read t) (read_row close [])) ∙ ap (λ b. is_some (sound (c.read s)) && b) (last_read (d.read t))

-- ---- items that were kept

module _ (n : ℕ) where
  pub cells_counted : (ts : List rust.Term) → length (kept_cells n ts) ≡ length ts
  unfolding cells_in
  cells_counted [] = refl
  cells_counted (t ∷ ts) = ap suc (cells_counted ts)

  one_cell : (t : rust.Term) (ts : Terms Word) → cells_in (cons (said_of n t) ts) ≡ cell_in (said_of n t) ∷ cells_in ts
  unfolding cells_in
  one_cell t ts = refl

  module _ (s : Shape) (ts : List rust.Term) where
    abbrev pub among : ℕ → Bool
    among i = are_read_as (many s) (all_said n (drop i ts))

    module _ (i : ℕ) (t : rust.Term) (within : i < length ts) (is : t ≡ get_or ts i t) where
      here : among i ≡ (is_read_as s (said_of n t) && among (i + 1))
      here =
          ap (λ us. are_many s (cells_in us)) (first_left n ts i t within is)
          ∙ ap (are_many s) (one_cell t (all_said n (drop (i + 1) ts)))
          ∙ many_more s (cell_in (said_of n t)) (kept_cells n (drop (i + 1) ts))

      pub one_more : (b : Bool) → b ≡ is_read_as s (said_of n t) → b ≡ true → among i ≡ among (i + 1)
      one_more b e f = here ∙ ap (λ c. c && among (i + 1)) (sym e ∙ f)

      pub one_unread : (b : Bool) → b ≡ is_read_as s (said_of n t) → b ≡ false → false ≡ among i
      one_unread b e f = sym (here ∙ ap (λ c. c && among (i + 1)) (sym e ∙ f))

    pub all_among : (i : ℕ) → length ts ≤ i → true ≡ among i
    unfolding cells_in
    all_among i over = sym (ap (λ us. are_read_as (many s) (all_said n us)) (drop_all i ts over) ∙ many_none s)

-- ---- lists and texts

module _ (s : Shape) (no_string : (at : Spot) (bytes : List ℕ) → read_string at bytes s ≡ None) where
  text_unread : (at : Spot) (parts : Terms Word) → is_some (sound ((text_cell at parts).read s)) ≡ false
  text_unread at parts = ap (λ (c : Cell). is_some (sound (c.read s))) (text_is_string at parts) ∙ ap (λ r. is_some (sound r)) (no_string at (string_in parts))

  module _ (at : Spot) (op : Op) (parts : Terms Word) where
    abbrev cell : Bool → Cell
    cell text = if text then text_cell at parts else record { at = at; face = a_list (head_word (cells_in parts)); read = read_list at (cells_in parts) }

    form_cell : (b : Bool) → b ≡ is_text op → is_read_as s (Form at op parts) ≡ is_some (sound ((cell b).read s))
    unfolding cell_in
    form_cell b e = ap (λ c. is_some (sound ((cell c).read s))) (sym e)

    text_form : true ≡ is_text op → is_read_as s (Form at op parts) ≡ false
    text_form e = form_cell true e ∙ text_unread at parts

    list_form : false ≡ is_text op → is_read_as s (Form at op parts) ≡ is_some (sound (read_list at (cells_in parts) s))
    list_form e = form_cell false e

  module _ (n : ℕ) (t : rust.Term) (at : ℕ) (op : Op) (items : Vec rust.Term Global) (is : t ≡ variants.Form op at items) (b : Bool) (e : b ≡ is_text op) where
    there : is_read_as s (said_of n t) ≡ is_read_as s (Form (spot_at n at) op (all_said n items.items))
    there = ap (is_read_as s) (ap (said_of n) is ∙ form_said n at op items)

    -- a text is none
    pub text_unread_so : b ≡ true → false ≡ is_read_as s (said_of n t)
    text_unread_so f = sym (there ∙ text_form (spot_at n at) op (all_said n items.items) (sym f ∙ e))

    -- what joins others and is no text is read as a list
    pub list_read_so : b ≡ false → (list : Bool) → list ≡ is_some (sound (read_list (spot_at n at) (kept_cells n items.items) s)) → list ≡ is_read_as s (said_of n t)
    list_read_so f list g = g ∙ sym (there ∙ list_form (spot_at n at) op (all_said n items.items) (sym f ∙ e))

  pub name_unread : (n : ℕ) (t : rust.Term) (at : ℕ) (bytes : List ℕ) → t ≡ variants.Name at bytes → false ≡ is_read_as s (said_of n t)
  unfolding cell_in
  name_unread n t at bytes is = sym (ap (is_read_as s) (ap (said_of n) is ∙ name_said n at bytes) ∙ ap (λ r. is_some (sound r)) (no_string (spot_at n at) bytes))

pub word_read_so : (s : Shape) (n : ℕ) (t : rust.Term) (w : LookedUp) → t ≡ variants.Leaf w → (b : Bool) → b ≡ is_read_as s (Leaf (word_in n w)) → b ≡ is_read_as s (said_of n t)
word_read_so s n t w is b e = e ∙ ap (is_read_as s) (sym (ap (said_of n) is ∙ leaf_said n w))

-- ---- the shapes

module _ (at : Spot) (bytes : List ℕ) where
  pub no_set : (sign : Sign) → read_string at bytes (set_of sign) ≡ None
  unfolding read_string
  no_set sign = refl

  pub no_class_permission : read_string at bytes class_permission ≡ None
  unfolding read_string
  no_class_permission = refl

  pub no_level : read_string at bytes level ≡ None
  unfolding read_string
  no_level = refl

  pub no_range : read_string at bytes range ≡ None
  unfolding read_string
  no_range = refl

module _ (w : Word) where
  all_or_sound : (b : Bool) (t u : Term Word) (fs : List Inner) → is_some (sound (if b then Some record { value = t; faults = [] } else Some record { value = u; faults = fs }))
      ≡ (b || is_some (faultless u fs))
  all_or_sound true t u fs = refl
  all_or_sound false t u fs = refl

  pub set_word : (sign : Sign) → is_read_as (set_of sign) (Leaf w) ≡ (same_bytes w.bytes (codes "all") || is_sound_word sign w.bytes)
  unfolding cell_in read_word
  set_word sign = all_or_sound (same_bytes w.bytes (codes "all")) _ _ _ ∙ ap (λ b. same_bytes w.bytes (codes "all") || b) (leaf_word sign w)

  pub permission_word : is_read_as class_permission (Leaf w) ≡ is_sound_word signs.ClassPermissions w.bytes
  unfolding cell_in read_word
  permission_word = leaf_word signs.ClassPermissions w

  pub level_word : is_read_as level (Leaf w) ≡ is_sound_word signs.Levels w.bytes
  unfolding cell_in read_word
  level_word = leaf_word signs.Levels w

  pub range_word : is_read_as range (Leaf w) ≡ is_sound_word signs.LevelRanges w.bytes
  unfolding cell_in read_word
  range_word = leaf_word signs.LevelRanges w

module _ (at : Spot) (cells : List Cell) where
  pub set_listed : (sign : Sign) → read_list at cells (set_of sign) ≡ read_expression at (languages.Sets sign) cells
  unfolding read_list
  set_listed sign = refl

  pub class_listed : is_some (sound (read_list at cells class_permission)) ≡ is_some (sound (read_row (item (looked_up signs.Classes) (item (set_of signs.Permission) close)) cells))
  unfolding read_list
  class_listed = formed_sound at ops.ClassPermissions (read_row (item (looked_up signs.Classes) (item (set_of signs.Permission) close)) cells)

  pub level_listed : is_some (sound (read_list at cells level))
      ≡ is_some (sound (read_row (counted 1 (item (looked_up signs.Sensitivities) close) (item (looked_up signs.Sensitivities) (item (set_of signs.CategorySets) close))) cells))
  unfolding read_list
  level_listed =
      formed_sound at ops.Level
      (read_row (counted 1 (item (looked_up signs.Sensitivities) close) (item (looked_up signs.Sensitivities) (item (set_of signs.CategorySets) close))) cells)

  pub range_listed : is_some (sound (read_list at cells range)) ≡ is_some (sound (read_row (item level (item level close)) cells))
  unfolding read_list
  range_listed = formed_sound at ops.LevelRange (read_row (item level (item level close)) cells)

-- ---- what joins others, by its items

abbrev pub class_items : Row
class_items = item (looked_up signs.Classes) (item (set_of signs.Permission) close)

abbrev pub sensitivity_items : Row
sensitivity_items = item (looked_up signs.Sensitivities) (item (set_of signs.CategorySets) close)

abbrev pub level_items : Row
level_items = counted 1 (item (looked_up signs.Sensitivities) close) sensitivity_items

abbrev pub range_items : Row
range_items = item level (item level close)

module _ (n : ℕ) (t : rust.Term) (at : ℕ) (op : Op) (items : Vec rust.Term Global) (is : t ≡ variants.Form op at items) (b : Bool) (e : b ≡ is_text op) (f : b ≡ false)
    (slice : List rust.Term) (same : slice ≡ items.items) (list : Bool) where
  pub class_read : list ≡ are_read_as class_items (all_said n slice) → list ≡ is_read_as class_permission (said_of n t)
  class_read g =
      list_read_so class_permission no_class_permission n t at op items is b e f list
      (g ∙ ap (λ ts. are_read_as class_items (all_said n ts)) same ∙ sym (class_listed (spot_at n at) (kept_cells n items.items)))

  pub level_read : list ≡ are_read_as level_items (all_said n slice) → list ≡ is_read_as level (said_of n t)
  level_read g =
      list_read_so level no_level n t at op items is b e f list (g ∙ ap (λ ts. are_read_as level_items (all_said n ts)) same ∙ sym (level_listed (spot_at n at) (kept_cells n items.items)))

  pub levels_read : list ≡ are_read_as range_items (all_said n slice) → list ≡ is_read_as range (said_of n t)
  levels_read g =
      list_read_so range no_range n t at op items is b e f list (g ∙ ap (λ ts. are_read_as range_items (all_said n ts)) same ∙ sym (range_listed (spot_at n at) (kept_cells n items.items)))

  pub set_read : (sign : Sign) → list ≡ is_some (sound (read_expression (spot_at n at) (languages.Sets sign) (kept_cells n slice))) → list ≡ is_read_as (set_of sign) (said_of n t)
  set_read sign g =
      list_read_so (set_of sign) (λ bt bytes. no_set bt bytes sign) n t at op items is b e f list
      (g ∙ ap (λ ts. is_some (sound (read_expression (spot_at n at) (languages.Sets sign) (kept_cells n ts)))) same
      ∙ sym (ap (λ r. is_some (sound r)) (set_listed (spot_at n at) (kept_cells n items.items) sign)))

-- ---- the heads of sets

pub coded_one : (n t r : Bool) → n ≡ true → set_heads.One ≡ head_code n t r
coded_one n t r e = ap (λ b. head_code b t r) (sym e)

pub coded_two : (n t r : Bool) → n ≡ false → t ≡ true → set_heads.Two ≡ head_code n t r
coded_two n t r e f = λ i. head_code (sym e i) (sym f i) r

pub coded_range : (n t r : Bool) → n ≡ false → t ≡ false → r ≡ true → set_heads.Range ≡ head_code n t r
coded_range n t r e f g = λ i. head_code (sym e i) (sym f i) (sym g i)

pub coded_union : (n t r : Bool) → n ≡ false → t ≡ false → r ≡ false → set_heads.Union ≡ head_code n t r
coded_union n t r e f g = λ i. head_code (sym e i) (sym f i) (sym g i)

module _ (sign : Sign) where
  abbrev pub operator : List ℕ → Op → Row → Head
  operator word op row = record { words = word ∷ []; op = op; taken = true; row = row }

  abbrev one : Row
  one = one_operand (languages.Sets sign)

  abbrev two : Row
  two = two_operands (languages.Sets sign)

  abbrev pub range_head : Head
  range_head = head_of (codes "range" ∷ []) ops.Range two_categories

  no_range_head : (b : Bool) → find (λ (h : Head). begins_with h.words []) (if b then range_head ∷ [] else []) ≡ None
  unfolding begins_with
  no_range_head true = refl
  no_range_head false = refl

  -- no list without a word in front has a head
  pub no_head : head_in (languages.Sets sign) [] ≡ None
  unfolding heads begins_with
  no_head = no_range_head (has_ranges sign)

  module _ (w : List ℕ) (ws : List (List ℕ)) where
    abbrev pub decided : (n a o x b r : Bool) → Option Head
    decided n a o x b r =
        cond (n && true) (Some (operator (codes "not") ops.Not one))
        (cond (a && true) (Some (operator (codes "and") ops.And two))
        (cond (o && true) (Some (operator (codes "or") ops.Or two))
        (cond (x && true) (Some (operator (codes "xor") ops.Xor two)) (if b then cond (r && true) (Some range_head) None else None))))

    ranged : (b : Bool) → find (λ (h : Head). begins_with h.words (w ∷ ws)) (if b then range_head ∷ [] else []) ≡ (if b then cond (same_bytes w (codes "range") && true) (Some range_head) None else None)
    unfolding begins_with
    ranged true = refl
    ranged false = refl

    pub found : head_in (languages.Sets sign) (w ∷ ws)
        ≡ decided (same_bytes w (codes "not")) (same_bytes w (codes "and")) (same_bytes w (codes "or")) (same_bytes w (codes "xor")) (has_ranges sign) (same_bytes w (codes "range"))
    unfolding heads begins_with
    found =
        ap (λ z. cond (same_bytes w (codes "not") && true) (Some (operator (codes "not") ops.Not one))
        (cond (same_bytes w (codes "and") && true) (Some (operator (codes "and") ops.And two))
        (cond (same_bytes w (codes "or") && true) (Some (operator (codes "or") ops.Or two))
        (cond (same_bytes w (codes "xor") && true) (Some (operator (codes "xor") ops.Xor two)) z))))
        (ranged (has_ranges sign))

    decides : (n a o x b r : Bool) → SaysHead sign (decided n a o x b r) (head_code n ((a || o) || x) (b && r))
    decides true a o x b r = record { head = operator (codes "not") ops.Not one; is = refl; taken = refl; so = refl }
    decides false true o x b r = record { head = operator (codes "and") ops.And two; is = refl; taken = refl; so = refl }
    decides false false true x b r = record { head = operator (codes "or") ops.Or two; is = refl; taken = refl; so = refl }
    decides false false false true b r = record { head = operator (codes "xor") ops.Xor two; is = refl; taken = refl; so = refl }
    decides false false false false true true = record { head = range_head; is = refl; taken = refl; so = refl }
    decides false false false false true false = refl
    decides false false false false false r = refl

    pub says_head : SaysHead sign (head_in (languages.Sets sign) (w ∷ ws))
        (head_code (same_bytes w (codes "not")) ((same_bytes w (codes "and") || same_bytes w (codes "or")) || same_bytes w (codes "xor")) (has_ranges sign && same_bytes w (codes "range")))
    says_head =
        rw found
        (decides (same_bytes w (codes "not")) (same_bytes w (codes "and")) (same_bytes w (codes "or")) (same_bytes w (codes "xor")) (has_ranges sign) (same_bytes w (codes "range")))

-- ---- lists of sets

module _ (sign : Sign) (at : Spot) where
  abbrev reads_so : List Cell → Bool
  reads_so cells = is_some (sound (read_expression at (languages.Sets sign) cells))

  by_head : (cells : List Cell) (o : Option Head) → head_in (languages.Sets sign) (first_words cells) ≡ o → reads_so cells ≡ is_some (sound (read_by_head at (languages.Sets sign) cells o))
  by_head cells o e = ap (λ h. is_some (sound (read_by_head at (languages.Sets sign) cells h))) e

  pub union_read : (cells : List Cell) → head_in (languages.Sets sign) (first_words cells) ≡ None → reads_so cells ≡ are_many (set_of sign) cells
  union_read cells e = by_head cells None e ∙ formed_sound at ops.Union (read_row (many (set_of sign)) cells)

  pub headed_read : (c : Cell) (cs : List Cell) (row : Row) → HasRow (head_in (languages.Sets sign) (first_words (c ∷ cs))) row → reads_so (c ∷ cs) ≡ is_some (sound (read_row row cs))
  headed_read c cs row has =
      by_head (c ∷ cs) (Some has.head) has.is
      ∙ ap (λ b. is_some (sound (formed at has.head.op (refused_head b (c ∷ cs)) (read_row has.head.row cs)))) has.taken
      ∙ formed_sound at has.head.op (read_row has.head.row cs)
      ∙ ap (λ r. is_some (sound (read_row r cs))) has.so

module _ (n : ℕ) (sign : Sign) (at : Spot) where
  abbrev list_so : List rust.Term → Bool
  list_so items = reads_so sign at (kept_cells n items)

  -- where no word is in front
  pub unheaded : (items : List rust.Term) → first_words (kept_cells n items) ≡ [] → list_so items ≡ are_read_as (many (set_of sign)) (all_said n items)
  unheaded items e = union_read sign at (kept_cells n items) (ap (head_in (languages.Sets sign)) e ∙ no_head sign)

  module _ (w : List ℕ) (code : SetHead)
      (coded : code ≡ head_code (same_bytes w (codes "not")) ((same_bytes w (codes "and") || same_bytes w (codes "or")) || same_bytes w (codes "xor")) (has_ranges sign && same_bytes w (codes "range"))) where
    says : (words : List (List ℕ)) → StartsWith w words → SaysHead sign (head_in (languages.Sets sign) words) code
    says words starts = rw coded (rw starts.1 (says_head sign w starts.0))

    pub united : (items : List rust.Term) → StartsWith w (first_words (kept_cells n items)) → code ≡ set_heads.Union → list_so items ≡ are_read_as (many (set_of sign)) (all_said n items)
    united items starts is = union_read sign at (kept_cells n items) (subst (SaysHead sign (head_in (languages.Sets sign) (first_words (kept_cells n items)))) is (says (first_words (kept_cells n items)) starts))

    module _ (row : Row) (has : (words : List (List ℕ)) → StartsWith w words → HasRow (head_in (languages.Sets sign) words) row) where
      behind_head : (items : List rust.Term) → StartsWith w (first_words (kept_cells n items)) → list_so items ≡ is_some (sound (read_row row (kept_cells n (drop 1 items))))
      unfolding cells_in first_words
      behind_head [] starts = let e : [] ≡ w ∷ starts.0 = starts.1 in cc
      behind_head (t ∷ ts) starts = headed_read sign at (cell_in (said_of n t)) (kept_cells n ts) row (has (first_words (kept_cells n (t ∷ ts))) starts)

    less_one : (items : List rust.Term) (k : ℕ) → length items ≡ suc k → length (kept_cells n (drop 1 items)) ≡ k
    less_one [] k e = absurd (omega (arith, e))
    less_one (t ∷ ts) k e = cells_counted n ts ∙ (let f : length ts ≡ k = omega (arith, e) in f)

    one_less : (items : List rust.Term) (k : ℕ) → StartsWith w (first_words (kept_cells n items)) → (length items ≡ suc k → ⊥) → length (kept_cells n (drop 1 items)) ≡ k → ⊥
    unfolding cells_in first_words
    one_less [] k starts never e = let f : [] ≡ w ∷ starts.0 = starts.1 in cc
    one_less (t ∷ ts) k starts never e = let c = cells_counted n ts in never (omega (arith, e, c))

    module _ (items : List rust.Term) (starts : StartsWith w (first_words (kept_cells n items))) where
      pub one_operand_read : code ≡ set_heads.One → length items ≡ 2 → list_so items ≡ are_read_as (many (set_of sign)) (all_said n (drop 1 items))
      one_operand_read is e =
          behind_head (one_operand (languages.Sets sign)) (λ words s. subst (SaysHead sign (head_in (languages.Sets sign) words)) is (says words s)) items starts ∙ one_read (set_of sign) (kept_cells n (drop 1 items)) (less_one items 1 e)

      pub not_one_operand : code ≡ set_heads.One → (length items ≡ 2 → ⊥) → false ≡ list_so items
      not_one_operand is never =
          sym (behind_head (one_operand (languages.Sets sign)) (λ words s. subst (SaysHead sign (head_in (languages.Sets sign) words)) is (says words s)) items starts ∙ not_one (set_of sign) (kept_cells n (drop 1 items)) (one_less items 1 starts never))

      pub two_operands_read : code ≡ set_heads.Two → length items ≡ 3 → list_so items ≡ are_read_as (many (set_of sign)) (all_said n (drop 1 items))
      two_operands_read is e =
          behind_head (two_operands (languages.Sets sign)) (λ words s. subst (SaysHead sign (head_in (languages.Sets sign) words)) is (says words s)) items starts ∙ two_read (set_of sign) (kept_cells n (drop 1 items)) (less_one items 2 e)

      pub not_two_operands : code ≡ set_heads.Two → (length items ≡ 3 → ⊥) → false ≡ list_so items
      not_two_operands is never =
          sym (behind_head (two_operands (languages.Sets sign)) (λ words s. subst (SaysHead sign (head_in (languages.Sets sign) words)) is (says words s)) items starts
          ∙ not_two (set_of sign) (set_of sign) (kept_cells n (drop 1 items)) (one_less items 2 starts never))

      pub range_read : code ≡ set_heads.Range → length items ≡ 3 → list_so items ≡ are_read_as (many (looked_up signs.Categories)) (all_said n (drop 1 items))
      range_read is e =
          behind_head two_categories (λ words s. subst (SaysHead sign (head_in (languages.Sets sign) words)) is (says words s)) items starts ∙ two_read (looked_up signs.Categories) (kept_cells n (drop 1 items)) (less_one items 2 e)

      pub not_range : code ≡ set_heads.Range → (length items ≡ 3 → ⊥) → false ≡ list_so items
      not_range is never =
          sym (behind_head two_categories (λ words s. subst (SaysHead sign (head_in (languages.Sets sign) words)) is (says words s)) items starts
          ∙ not_two (looked_up signs.Categories) (looked_up signs.Categories) (kept_cells n (drop 1 items)) (one_less items 2 starts never))

-- ---- the word in front

front_of : (n : ℕ) (t : rust.Term) (ts : List rust.Term) → 1 ≤ length ts → t ≡ get_or ts 0 t → first_words (kept_cells n ts) ≡ word_before (cell_in (said_of n t)).face (first_words (kept_cells n (drop 1 ts)))
unfolding cells_in first_words
front_of n t [] some is = absurd (omega (arith, some))
front_of n t (x ∷ xs) some is = ap (λ y. word_before (cell_in (said_of n y)).face (first_words (kept_cells n xs))) (sym is)

pub none_in_front : (n : ℕ) (ts : List rust.Term) → length ts ≡ 0 → first_words (kept_cells n ts) ≡ []
unfolding cells_in first_words
none_in_front n [] e = refl
none_in_front n (t ∷ ts) e = absurd (omega (arith, e))

-- a string or a list is no word
no_text_before : (at : Spot) (parts : Terms Word) (words : List (List ℕ)) → word_before (text_cell at parts).face words ≡ []
no_text_before at nil words = refl
no_text_before at (cons (Leaf w) ts) words = refl
no_text_before at (cons (Name bt bytes) ts) words = refl
no_text_before at (cons (Form bt op more) ts) words = refl

no_form_before : (at : Spot) (parts : Terms Word) (words : List (List ℕ)) (b : Bool)
    → word_before (if b then text_cell at parts else record { at = at; face = a_list (head_word (cells_in parts)); read = read_list at (cells_in parts) }).face words ≡ []
no_form_before at parts words true = no_text_before at parts words
no_form_before at parts words false = refl

no_word_before : (at : Spot) (op : Op) (parts : Terms Word) (words : List (List ℕ)) → word_before (cell_in (Form at op parts)).face words ≡ []
unfolding cell_in
no_word_before at op parts words = no_form_before at parts words (is_text op)

module _ (n : ℕ) (ts : List rust.Term) (t : rust.Term) (some : 1 ≤ length ts) (is : t ≡ get_or ts 0 t) where
  abbrev rest : List (List ℕ)
  rest = first_words (kept_cells n (drop 1 ts))

  in_front : first_words (kept_cells n ts) ≡ word_before (cell_in (said_of n t)).face rest
  in_front = front_of n t ts some is

  pub leaf_in_front : (w : LookedUp) → t ≡ variants.Leaf w → (bytes : List ℕ) → bytes ≡ w.bytes → StartsWith bytes (first_words (kept_cells n ts))
  unfolding cell_in
  leaf_in_front w e bytes same =
      (rest, in_front ∙ ap (λ u. word_before (cell_in u).face rest) (ap (said_of n) e ∙ leaf_said n w) ∙ ap (λ b. b ∷ rest) (sym same))

  pub name_in_front : (at : ℕ) (bytes : List ℕ) → t ≡ variants.Name at bytes → first_words (kept_cells n ts) ≡ []
  unfolding cell_in
  name_in_front at bytes e = in_front ∙ ap (λ u. word_before (cell_in u).face rest) (ap (said_of n) e ∙ name_said n at bytes)

  pub form_in_front : (at : ℕ) (op : Op) (parts : Vec rust.Term Global) → t ≡ variants.Form op at parts → first_words (kept_cells n ts) ≡ []
  form_in_front at op parts e =
      in_front ∙ ap (λ u. word_before (cell_in u).face rest) (ap (said_of n) e ∙ form_said n at op parts) ∙ no_word_before (spot_at n at) op (all_said n parts.items) rest

-- ---- two items

pub two_kept : (n : ℕ) (a b : rust.Term) (xs : List rust.Term) → length xs ≡ 2 → a ≡ get_or xs 0 a → b ≡ get_or xs 1 b → kept_cells n xs ≡ cell_in (said_of n a) ∷ cell_in (said_of n b) ∷ []
unfolding cells_in
two_kept n a b [] h p q = absurd (omega (arith, h))
two_kept n a b (x ∷ []) h p q = absurd (omega (arith, h))
two_kept n a b (x ∷ y ∷ []) h p q = λ i. cell_in (said_of n (sym p i)) ∷ cell_in (said_of n (sym q i)) ∷ []
two_kept n a b (x ∷ y ∷ z ∷ xs) h p q = absurd (omega (arith, h))

pub sole_kept : (n : ℕ) (a : rust.Term) (xs : List rust.Term) → length xs ≡ 1 → a ≡ get_or xs 0 a → kept_cells n xs ≡ cell_in (said_of n a) ∷ []
unfolding cells_in
sole_kept n a [] h p = absurd (omega (arith, h))
sole_kept n a (x ∷ []) h p = ap (λ y. cell_in (said_of n y) ∷ []) (sym p)
sole_kept n a (x ∷ y ∷ xs) h p = absurd (omega (arith, h))

sole_read : (s : Shape) (c : Cell) → is_some (sound (read_row (item s close) (c ∷ []))) ≡ is_some (sound (c.read s))
unfolding read_row
sole_read s c = last_read s s (c.read s)

first_kept : (n : ℕ) (a : rust.Term) (xs : List rust.Term) → length xs ≡ 2 → a ≡ get_or xs 0 a → (b : rust.Term) × (kept_cells n xs ≡ cell_in (said_of n a) ∷ cell_in (said_of n b) ∷ [])
unfolding cells_in
first_kept n a [] h p = absurd (omega (arith, h))
first_kept n a (x ∷ []) h p = absurd (omega (arith, h))
first_kept n a (x ∷ y ∷ []) h p = (y, λ i. cell_in (said_of n (sym p i)) ∷ cell_in (said_of n y) ∷ [])
first_kept n a (x ∷ y ∷ z ∷ xs) h p = absurd (omega (arith, h))

module _ (n : ℕ) (s t : Shape) (items : List rust.Term) where
  abbrev pair_so : Bool
  pair_so = is_some (sound (read_row (item s (item t close)) (kept_cells n items)))

  pub no_pair : (length items ≡ 2 → ⊥) → false ≡ pair_so
  no_pair never = sym (not_two s t (kept_cells n items) (λ e. never (sym (cells_counted n items) ∙ e)))

  two_cells : (a b : rust.Term) → length items ≡ 2 → a ≡ get_or items 0 a → b ≡ get_or items 1 b → kept_cells n items ≡ cell_in (said_of n a) ∷ cell_in (said_of n b) ∷ []
  two_cells a b e f g = two_kept n a b items e f g

  module _ (a b : rust.Term) (two : length items ≡ 2) (first : a ≡ get_or items 0 a) (second : b ≡ get_or items 1 b) where
    both : pair_so ≡ (is_read_as s (said_of n a) && is_read_as t (said_of n b))
    both = ap (λ cells. is_some (sound (read_row (item s (item t close)) cells))) (two_cells a b two first second) ∙ pair_read s t (cell_in (said_of n a)) (cell_in (said_of n b))

    pub pair_as_second : (x y : Bool) → x ≡ is_read_as s (said_of n a) → x ≡ true → y ≡ is_read_as t (said_of n b) → y ≡ pair_so
    pair_as_second x y e f g = g ∙ sym (both ∙ ap (λ c. c && is_read_as t (said_of n b)) (sym e ∙ f))

  pub first_unread : (a : rust.Term) → length items ≡ 2 → a ≡ get_or items 0 a → (x : Bool) → x ≡ is_read_as s (said_of n a) → x ≡ false → false ≡ pair_so
  first_unread a two first x e f =
      let (b, cells) = first_kept n a items two first in
      sym (ap (λ cs. is_some (sound (read_row (item s (item t close)) cs))) cells ∙ pair_read s t (cell_in (said_of n a)) (cell_in (said_of n b))
      ∙ ap (λ c. c && is_read_as t (said_of n b)) (sym e ∙ f))

-- ---- levels

module _ (cells : List Cell) (first second : Row) (k : ℕ) where
  pub as_many : length cells ≡ k → read_row (counted k first second) cells ≡ read_row first cells
  unfolding read_row
  as_many e = ap (λ b. if b then read_row first cells else read_row second cells) (eq-eqb (length cells) k e)

  pub not_as_many : (length cells ≡ k → ⊥) → read_row (counted k first second) cells ≡ read_row second cells
  unfolding read_row
  not_as_many h = ap (λ b. if b then read_row first cells else read_row second cells) (ne_eqb (length cells) k h)

module _ (n : ℕ) (items : List rust.Term) where
  abbrev level_so : Bool
  level_so = are_read_as level_items (all_said n items)

  no_more : (never : length items ≡ 1 → ⊥) → level_so ≡ are_read_as sensitivity_items (all_said n items)
  no_more never =
      ap (λ r. is_some (sound r))
      (not_as_many (kept_cells n items) (item (looked_up signs.Sensitivities) close) sensitivity_items 1 (λ e. never (sym (cells_counted n items) ∙ e)))

  pub sole_level : (t : rust.Term) → length items ≡ 1 → t ≡ get_or items 0 t → (x : Bool) → x ≡ is_read_as (looked_up signs.Sensitivities) (said_of n t) → x ≡ level_so
  sole_level t one first x e =
      e
      ∙ sym (ap (λ r. is_some (sound r)) (as_many (kept_cells n items) (item (looked_up signs.Sensitivities) close) sensitivity_items 1 (cells_counted n items ∙ one))
      ∙ ap (λ cs. is_some (sound (read_row (item (looked_up signs.Sensitivities) close) cs))) (sole_kept n t items one first)
      ∙ sole_read (looked_up signs.Sensitivities) (cell_in (said_of n t)))

  pub no_level_items : (length items ≡ 1 → ⊥) → (length items ≡ 2 → ⊥) → false ≡ level_so
  no_level_items never other = no_pair n (looked_up signs.Sensitivities) (set_of signs.CategorySets) items other ∙ sym (no_more never)

  pub no_sensitivity : (length items ≡ 1 → ⊥) → (t : rust.Term) → length items ≡ 2 → t ≡ get_or items 0 t → (x : Bool) → x ≡ is_read_as (looked_up signs.Sensitivities) (said_of n t)
      → x ≡ false → false ≡ level_so
  no_sensitivity never t two first x e f =
      first_unread n (looked_up signs.Sensitivities) (set_of signs.CategorySets) items t two first x e f ∙ sym (no_more never)

  pub level_with_categories : (length items ≡ 1 → ⊥) → (a b : rust.Term) → length items ≡ 2 → a ≡ get_or items 0 a → b ≡ get_or items 1 b → (x y : Bool)
      → x ≡ is_read_as (looked_up signs.Sensitivities) (said_of n a) → x ≡ true → y ≡ is_read_as (set_of signs.CategorySets) (said_of n b) → y ≡ level_so
  level_with_categories never a b two first second x y e f g =
      pair_as_second n (looked_up signs.Sensitivities) (set_of signs.CategorySets) items a b two first second x y e f g ∙ sym (no_more never)
