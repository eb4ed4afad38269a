-- What is read part by part, as it is written.
use Rattle.std.specs.Prelude.{Bool, true, false, ◌&&◌, ◌||◌, if◌then◌else◌, Option, Some, None, is_some, codes}
use Rattle.std.specs.declared.alloc.Global.{Global}
use Rattle.std.specs.declared.vec.Vec.{Vec}
use Rattle.std.proofs.Common.{◌≡◌, ◌≤◌, ◌<◌, ◌+◌, ℕ, List, [], ◌∷◌, ◌++◌, length, get_or, drop, refl, sym, ◌∙◌, ap, append_assoc}
use Rattle.std.proofs.lemmas.List.{append-nil, drop_all}
use Rattle.cil_syntax.specs.declared.kind.Language.TheVariants as languages
use Rattle.cil_syntax.specs.declared.kind.Sign.{Sign}
use Rattle.cil_syntax.specs.declared.kind.Sign.TheVariants as signs
use Rattle.cil_syntax.specs.declared.term.LookedUp.{LookedUp}
use Rattle.cil_syntax.specs.declared.term.Op.{Op}
use Rattle.cil_syntax.specs.declared.term.Op.TheVariants as ops
use Rattle.cil_faults.specs.declared.spot.Spot.{Spot}
use Rattle.cil_syntax.specs.declared.term.Term as rust
use Rattle.cil_syntax.specs.declared.term.Term.TheVariants as variants
use Rattle.cil_syntax.specs.declared.term.Word.{Word}
use Rattle.cil_syntax.specs.Heads.{first_words, has_ranges, head_in, one_operand, two_operands}
use Rattle.cil_syntax.specs.Readings.{formed, read_expression, read_list, read_row}
use Rattle.cil_syntax.specs.Said.{all_said, said_of, word_in}
use Rattle.cil_syntax.specs.Scopes.{ScopedWord}
use Rattle.cil_syntax.specs.Shapes.{Cell, Reading, Row, Shape, close, item, looked_up, many, set_of}
use Rattle.cil_syntax.specs.Spelling.{same_bytes}
use Rattle.cil_syntax.specs.Table.{class_permission, level, range}
use Rattle.cil_syntax.specs.Terms.{Term, Leaf, Name, Form, Terms, nil, cons}
use Rattle.cil_syntax.specs.Words.{is_spelled, read_looked_up, read_string, read_word, reads, word_faults}
use Rattle.cil_syntax.proofs.SaidLemmas.{form_said, leaf_said, name_said}
use Rattle.cil_faults.specs.Spots.{spot_at}
use Rattle.cil_macros.specs.declared.list_arguments.SetHead.{SetHead}
use Rattle.cil_macros.specs.declared.list_arguments.SetHead.TheVariants as set_heads
use Rattle.cil_macros.specs.declared.listed.Part.{Part}
use Rattle.cil_macros.specs.declared.listed.Part.TheVariants as kept_parts
use Rattle.cil_macros.specs.declared.placed_word.PlacedWord.{PlacedWord}
use Rattle.cil_macros.specs.Fits.{all_read_as, read_as}
use Rattle.cil_macros.specs.ListForms.{HeadIs, StartsWith, head_code, kept_cells, two_categories, two_code}
use Rattle.cil_macros.specs.Listed.{all_parts_of, parts_of, scoped_by, word as part_word}
use Rattle.cil_macros.specs.Parameters.{cell_in, cells_in, is_text, argument_kind, read_argument, sound, string_in, text_cell}
use Rattle.cil_macros.specs.Placed.{all_filled, filled}
use Rattle.cil_macros.specs.Puts.{AsksInside, AsksTerm, AsksTerms, IsJoinedBy, WritesTerm, WritesTerms, bare, bare_parts, inside, list_cell}
use Rattle.cil_macros.proofs.ArgumentLemmas.{first_left}
use Rattle.cil_macros.proofs.ListLemmas.{as_many, cells_counted, class_items, level_items, no_level, no_set, not_as_many, range_items, sensitivity_items, set_listed, sole_kept, two_kept}
use Rattle.cil_macros.proofs.PartLemmas.{behind_there, between}
use Rattle.cil_macros.proofs.ReadLemmas.{formed_value, headed_value, many_none, many_value, none_so, one_of_many, pair_value, says_one, says_range, says_two, sole_value, two_of_many, unheaded_none, union_value}
use Rattle.cil_macros.proofs.ValueLemmas.{one_faultless, text_is_string}

-- ---- terms that are filled

module _ (f : Word → Term ScopedWord) where
  pub filled_leaf : (w : Word) → filled f (Leaf w) ≡ f w
  unfolding filled
  filled_leaf w = refl

  pub filled_name : (at : Spot) (bytes : List ℕ) → filled f (Name at bytes) ≡ Name at bytes
  unfolding filled
  filled_name at bytes = refl

  pub filled_form : (at : Spot) (op : Op) (ts : Terms Word) → filled f (Form at op ts) ≡ Form at op (all_filled f ts)
  unfolding filled
  filled_form at op ts = refl

  pub parts_more : (t : Term Word) (ts : Terms Word) → all_parts_of (all_filled f (cons t ts)) ≡ parts_of (filled f t) ++ all_parts_of (all_filled f ts)
  unfolding filled parts_of
  parts_more t ts = refl

  pub parts_none : all_parts_of (all_filled f nil) ≡ []
  unfolding filled parts_of
  parts_none = refl

no_value : {T : Type 0} (o : Option T) → false ≡ is_some o → (t : T) → o ≡ Some t → ⊥
no_value None e t f = cc
no_value (Some x) e t f = cc

-- ---- words

pub word_value : (sign : Sign) (w : Word) (v : Term Word) → read_as (looked_up sign) (Leaf w) ≡ Some v → v ≡ Leaf record { at = w.at; bytes = w.bytes; sign = sign }
unfolding cell_in read_word
word_value sign w v e = one_faultless (Leaf record { at = w.at; bytes = w.bytes; sign = sign }) (word_faults w.at (is_spelled sign w.bytes) w.bytes) v e

sound_either : (b : Bool) (x y : Option (Reading (Term Word))) → sound (if b then x else y) ≡ (if b then sound x else sound y)
sound_either true x y = refl
sound_either false x y = refl

pub set_word_read : (sign : Sign) (w : Word) (b : Bool) → b ≡ same_bytes w.bytes (codes "all")
    → read_as (set_of sign) (Leaf w) ≡ (if b then Some (Form w.at ops.All nil) else read_as (looked_up sign) (Leaf w))
unfolding cell_in read_word
set_word_read sign w b e =
    ap (λ c. sound (if c then reads (Form w.at ops.All nil) [] else read_looked_up w.at sign w.bytes)) (sym e)
    ∙ sound_either b (reads (Form w.at ops.All nil) []) (read_looked_up w.at sign w.bytes)

pub some_form : (at : Spot) (op : Op) (v : Term Word) → Some (Form at op nil) ≡ Some v → v ≡ Form at op nil
some_form at op v e = cc

-- ---- forms

module _ (shape : Shape) (no_string : (at : Spot) (bytes : List ℕ) → read_string at bytes shape ≡ None) (n : ℕ) (t : rust.Term) (at : ℕ) (op : Op) (items : Vec rust.Term Global)
    (is : t ≡ variants.Form op at items) where
  cell_here : (b : Bool) → b ≡ is_text op → read_as shape (said_of n t) ≡ sound ((if b then text_cell (spot_at n at) (all_said n items.items) else list_cell n (spot_at n at) items.items).read shape)
  unfolding cell_in
  cell_here b e =
      ap (read_as shape) (ap (said_of n) is ∙ form_said n at op items)
      ∙ ap (λ c. sound ((if c then text_cell (spot_at n at) (all_said n items.items) else list_cell n (spot_at n at) items.items).read shape)) (sym e)

  no_text : sound ((text_cell (spot_at n at) (all_said n items.items)).read shape) ≡ None
  no_text =
      ap (λ (c : Cell). sound (c.read shape)) (text_is_string (spot_at n at) (all_said n items.items)) ∙ ap sound (no_string (spot_at n at) (string_in (all_said n items.items)))

  -- what was read of it was read of a list
  pub read_as_list : (v : Term Word) → read_as shape (said_of n t) ≡ Some v → sound (read_list (spot_at n at) (kept_cells n items.items) shape) ≡ Some v
  read_as_list v e = by (is_text op) refl
    where
      by : (b : Bool) → b ≡ is_text op → sound (read_list (spot_at n at) (kept_cells n items.items) shape) ≡ Some v
      by true f = let g : None ≡ Some v = sym (cell_here true f ∙ no_text) ∙ e in cc
      by false f = sym (cell_here false f) ∙ e

-- ---- what is put

-- nothing was read
pub term_unread : (o : Option (Term Word)) → false ≡ is_some o → (old new : List Part) → AsksTerm o old new
term_unread o e old new = λ t is. absurd (no_value o e t is)

pub terms_unread : (o : Option (Terms Word)) → false ≡ is_some o → (old new : List Part) → AsksTerms o old new
terms_unread o e old new = λ ts is. absurd (no_value o e ts is)

-- ---- words

pub puts_word : (sign : Sign) (n : ℕ) (t : rust.Term) (w : LookedUp) → t ≡ variants.Leaf w → (v : PlacedWord)
    → v ≡ record { word = record { at = spot_at n w.at; bytes = w.bytes; sign = sign }; scope = None } → (old new : List Part) → new ≡ old ++ kept_parts.Word v ∷ []
    → AsksTerm (read_as (looked_up sign) (said_of n t)) old new
unfolding parts_of
puts_word sign n t w is v so old new more = λ u e.
    let value = word_value sign (word_in n w) u (ap (read_as (looked_up sign)) (sym (ap (said_of n) is ∙ leaf_said n w)) ∙ e) in
    behind_there [] old (kept_parts.Word v ∷ []) new more
    ∙ ap (λ (x : PlacedWord). bare_parts old ++ part_word (scoped_by [] x) ∷ []) so
    ∙ ap (λ x. bare_parts old ++ parts_of x) (sym (filled_leaf bare (record { at = spot_at n w.at; bytes = w.bytes; sign = sign })) ∙ ap (filled bare) (sym value))

pub puts_all : (sign : Sign) (n : ℕ) (t : rust.Term) (w : LookedUp) → t ≡ variants.Leaf w → true ≡ same_bytes w.bytes (codes "all")
    → (old first new : List Part) → first ≡ old ++ kept_parts.Opens (spot_at n w.at) ops.All ∷ [] → new ≡ first ++ kept_parts.Closes ∷ []
    → AsksTerm (read_as (set_of sign) (said_of n t)) old new
puts_all sign n t w is every old first new f g = λ v e.
    let value = some_form (spot_at n w.at) ops.All v (sym (ap (read_as (set_of sign)) (ap (said_of n) is ∙ leaf_said n w) ∙ set_word_read sign (word_in n w) true every) ∙ e) in
    between [] (spot_at n w.at) ops.All old first first new (all_filled bare nil) f
    (sym (ap (λ xs. bare_parts first ++ xs) (parts_none bare) ∙ append-nil (bare_parts first))) g
    ∙ ap (λ u. bare_parts old ++ parts_of u) (sym (filled_form bare (spot_at n w.at) ops.All nil) ∙ ap (filled bare) (sym value))

pub puts_set_word : (sign : Sign) (n : ℕ) (t : rust.Term) (w : LookedUp) → t ≡ variants.Leaf w → false ≡ same_bytes w.bytes (codes "all")
    → (old new : List Part) → AsksTerm (read_as (looked_up sign) (said_of n t)) old new → AsksTerm (read_as (set_of sign) (said_of n t)) old new
puts_set_word sign n t w is other old new puts = λ v e.
    let leaf = ap (said_of n) is ∙ leaf_said n w in
    puts v (ap (read_as (looked_up sign)) leaf ∙ sym (ap (read_as (set_of sign)) leaf ∙ set_word_read sign (word_in n w) false other) ∙ e)

-- ---- what joins others

-- between the signs that it begins and ends
pub puts_joined : (o : Option (Term Word)) (bt : Spot) (op : Op) → IsJoinedBy bt o op → (old first more new : List Part) → first ≡ old ++ kept_parts.Opens bt op ∷ []
    → AsksInside o first more → new ≡ more ++ kept_parts.Closes ∷ [] → AsksTerm o old new
puts_joined o bt op joined old first more new f puts g = λ v e.
    between [] bt op old first more new (all_filled bare (inside v)) f (puts v e) g
    ∙ ap (λ u. bare_parts old ++ parts_of u) (sym (filled_form bare bt op (inside v)) ∙ ap (filled bare) (sym (joined v e)))

-- a set that is a list
pub puts_set_form : (sign : Sign) (n : ℕ) (t : rust.Term) (bt : ℕ) (kept op : Op) (items : Vec rust.Term Global) → t ≡ variants.Form kept bt items → (slice : List rust.Term) → slice ≡ items.items
    → IsJoinedBy (spot_at n bt) (sound (read_expression (spot_at n bt) (languages.Sets sign) (kept_cells n slice))) op
    → (old first more new : List Part) → first ≡ old ++ kept_parts.Opens (spot_at n bt) op ∷ []
    → AsksInside (sound (read_expression (spot_at n bt) (languages.Sets sign) (kept_cells n slice))) first more → new ≡ more ++ kept_parts.Closes ∷ []
    → AsksTerm (read_as (set_of sign) (said_of n t)) old new
puts_set_form sign n t bt kept op items is slice same joined old first more new f puts g = λ v e.
    puts_joined (sound (read_expression (spot_at n bt) (languages.Sets sign) (kept_cells n slice))) (spot_at n bt) op joined old first more new f puts g v
    (ap (λ ts. sound (read_expression (spot_at n bt) (languages.Sets sign) (kept_cells n ts))) same
    ∙ ap sound (sym (set_listed (spot_at n bt) (kept_cells n items.items) sign))
    ∙ read_as_list (set_of sign) (λ ct bytes. no_set ct bytes sign) n t bt kept items is v e)

module _ (bt : Spot) (op : Op) (o : Option (Reading (Terms Word))) where
  pub formed_joined : IsJoinedBy bt (sound (formed bt op [] o)) op
  formed_joined v e = let f = formed_value bt op o v e in f.so ∙ ap (Form bt op) (sym (ap inside f.so))

  pub formed_inside : (old new : List Part) → AsksTerms (sound o) old new → AsksInside (sound (formed bt op [] o)) old new
  formed_inside old new puts = λ v e.
      let f = formed_value bt op o v e in
      puts f.parts f.read ∙ ap (λ ts. bare_parts old ++ all_parts_of (all_filled bare ts)) (sym (ap inside f.so))

-- ---- one item after another

module _ (shape : Shape) (n : ℕ) (items : List rust.Term) (skipped : ℕ) (old : List Part) where
  abbrev left : ℕ → Option (Terms Word)
  left i = all_read_as (many shape) (all_said n (drop i items))

  -- so far: with the parts of the rest they are those of all
  pub record IsRest (ts : Terms Word) (i : ℕ) (now : List Part) : Type 0 where
    pub rest : Terms Word
    pub read : left i ≡ Some rest
    pub so : bare_parts now ++ all_parts_of (all_filled bare rest) ≡ bare_parts old ++ all_parts_of (all_filled bare ts)

  abbrev pub ArePut : ℕ → List Part → Type 0
  ArePut i now = (ts : Terms Word) → left skipped ≡ Some ts → IsRest ts i now

  pub none_put : ArePut skipped old
  none_put = λ ts e. record { rest = ts; read = e; so = refl }

  pub one_put : (i : ℕ) (now new : List Part) (t : rust.Term) → i < length items → t ≡ get_or items i t → AsksTerm (read_as shape (said_of n t)) now new → ArePut i now → ArePut (i + 1) new
  unfolding cells_in
  one_put i now new t within is puts so = λ ts e.
      let r = so ts e in
      let j = many_value shape (cell_in (said_of n t)) (kept_cells n (drop (i + 1) items)) r.rest
      (ap (all_read_as (many shape)) (sym (first_left n items i t within is)) ∙ r.read) in
      record {
        rest = j.rest;
        read = j.rest_read;
        so = ap (λ xs. xs ++ all_parts_of (all_filled bare j.rest)) (puts j.first j.first_read)
            ∙ append_assoc (bare_parts now) (parts_of (filled bare j.first)) (all_parts_of (all_filled bare j.rest))
            ∙ ap (λ xs. bare_parts now ++ xs) (sym (parts_more bare j.first j.rest) ∙ ap (λ us. all_parts_of (all_filled bare us)) (sym j.so))
            ∙ r.so;
      }

  pub all_put : (i : ℕ) (now : List Part) → length items ≤ i → ArePut i now → AsksTerms (left skipped) old now
  unfolding cells_in
  all_put i now over so = λ ts e.
      let r = so ts e in
      let none = many_none shape r.rest (ap (λ us. all_read_as (many shape) (all_said n us)) (sym (drop_all i items over)) ∙ r.read) in
      sym (append-nil (bare_parts now))
      ∙ ap (λ xs. bare_parts now ++ xs) (sym (parts_none bare) ∙ ap (λ us. all_parts_of (all_filled bare us)) (sym none))
      ∙ r.so

pub terms_as : (x y : Option (Terms Word)) → x ≡ y → (old new : List Part) → AsksTerms y old new → AsksTerms x old new
terms_as x y same old new puts = λ v e. puts v (sym same ∙ e)

-- ---- two items

module _ (n : ℕ) (items : List rust.Term) where
  pub puts_pair : (x y : Shape) (a b : rust.Term) → length items ≡ 2 → a ≡ get_or items 0 a → b ≡ get_or items 1 b → (old mid new : List Part)
      → AsksTerm (read_as x (said_of n a)) old mid → AsksTerm (read_as y (said_of n b)) mid new
      → AsksTerms (all_read_as (item x (item y close)) (all_said n items)) old new
  puts_pair x y a b two first second old mid new f g = λ ts e.
      let v = pair_value x y (cell_in (said_of n a)) (cell_in (said_of n b)) ts (ap (λ cs. sound (read_row (item x (item y close)) cs)) (sym (two_kept n a b items two first second)) ∙ e) in
      let one = parts_of (filled bare v.0) in
      let other = parts_of (filled bare v.1) in
      g v.1 v.3
      ∙ ap (λ xs. xs ++ other) (f v.0 v.2)
      ∙ append_assoc (bare_parts old) one other
      ∙ ap (λ xs. bare_parts old ++ (one ++ xs)) (sym (parts_more bare v.1 nil ∙ ap (λ xs. other ++ xs) (parts_none bare) ∙ append-nil other))
      ∙ ap (λ xs. bare_parts old ++ xs) (sym (parts_more bare v.0 (cons v.1 nil)))
      ∙ ap (λ us. bare_parts old ++ all_parts_of (all_filled bare us)) (sym v.4)

  pub puts_sole : (x : Shape) (a : rust.Term) → length items ≡ 1 → a ≡ get_or items 0 a → (old new : List Part) → AsksTerm (read_as x (said_of n a)) old new
      → AsksTerms (all_read_as (item x close) (all_said n items)) old new
  puts_sole x a one first old new f = λ ts e.
      let v = sole_value x (cell_in (said_of n a)) ts (ap (λ cs. sound (read_row (item x close) cs)) (sym (sole_kept n a items one first)) ∙ e) in
      f v.0 v.1
      ∙ ap (λ xs. bare_parts old ++ xs) (sym (parts_more bare v.0 nil ∙ ap (λ xs. parts_of (filled bare v.0) ++ xs) (parts_none bare) ∙ append-nil (parts_of (filled bare v.0))))
      ∙ ap (λ us. bare_parts old ++ all_parts_of (all_filled bare us)) (sym v.2)

  -- ---- lists of sets

  module _ (sign : Sign) (bt : Spot) where
    abbrev read_here : List rust.Term → Option (Term Word)
    read_here ts = sound (read_expression bt (languages.Sets sign) (kept_cells n ts))

    -- a union
    union_puts : head_in (languages.Sets sign) (first_words (kept_cells n items)) ≡ None → (old new : List Part)
        → AsksTerms (all_read_as (many (set_of sign)) (all_said n items)) old new → AsksInside (read_here items) old new
    union_puts none old new puts = λ v e.
        let f = union_value sign bt v (kept_cells n items) none e in
        puts f.parts f.read ∙ ap (λ ts. bare_parts old ++ all_parts_of (all_filled bare ts)) (sym (ap inside f.so))

    pub unheaded_puts : first_words (kept_cells n items) ≡ [] → (old new : List Part) → AsksTerms (all_read_as (many (set_of sign)) (all_said n items)) old new
        → AsksInside (read_here items) old new
    unheaded_puts e = union_puts (unheaded_none n items sign e)

    module _ (w : List ℕ) (code : SetHead)
        (coded : code ≡ head_code (same_bytes w (codes "not")) ((same_bytes w (codes "and") || same_bytes w (codes "or")) || same_bytes w (codes "xor")) (has_ranges sign && same_bytes w (codes "range"))) where
      headed_puts : (op : Op) (row : Row) → ((words : List (List ℕ)) → StartsWith w words → HeadIs (head_in (languages.Sets sign) words) op row)
          → (x : Shape) → ((cells : List Cell) (v : Terms Word) → sound (read_row row cells) ≡ Some v → sound (read_row (many x) cells) ≡ Some v)
          → (ts : List rust.Term) → StartsWith w (first_words (kept_cells n ts)) → (old new : List Part)
          → AsksTerms (all_read_as (many x) (all_said n (drop 1 ts))) old new → AsksInside (read_here ts) old new
      unfolding cells_in first_words
      headed_puts op row has x some [] starts old new puts = let e : [] ≡ w ∷ starts.0 = starts.1 in cc
      headed_puts op row has x some (t ∷ ts) starts old new puts = λ v e.
          let f = headed_value sign bt v (cell_in (said_of n t)) (kept_cells n ts) op row (has (first_words (kept_cells n (t ∷ ts))) starts) e in
          puts f.parts (some (kept_cells n ts) f.parts f.read) ∙ ap (λ us. bare_parts old ++ all_parts_of (all_filled bare us)) (sym (ap inside f.so))

      module _ (starts : StartsWith w (first_words (kept_cells n items))) where
        pub union_puts_so : code ≡ set_heads.Union → (old new : List Part) → AsksTerms (all_read_as (many (set_of sign)) (all_said n items)) old new → AsksInside (read_here items) old new
        union_puts_so is = union_puts (none_so n items sign w code coded starts is)

        pub one_puts : code ≡ set_heads.One → (old new : List Part) → AsksTerms (all_read_as (many (set_of sign)) (all_said n (drop 1 items))) old new → AsksInside (read_here items) old new
        one_puts is = headed_puts ops.Not (one_operand (languages.Sets sign)) (says_one sign w code coded is) (set_of sign) (one_of_many (set_of sign)) items starts

        pub two_puts : code ≡ set_heads.Two → (old new : List Part) → AsksTerms (all_read_as (many (set_of sign)) (all_said n (drop 1 items))) old new → AsksInside (read_here items) old new
        two_puts is =
            headed_puts (two_code (same_bytes w (codes "and")) (same_bytes w (codes "or"))) (two_operands (languages.Sets sign)) (says_two sign w code coded is)
            (set_of sign) (two_of_many (set_of sign)) items starts

        pub range_puts : code ≡ set_heads.Range → (old new : List Part) → AsksTerms (all_read_as (many (looked_up signs.Categories)) (all_said n (drop 1 items))) old new
            → AsksInside (read_here items) old new
        range_puts is = headed_puts ops.Range two_categories (says_range sign w code coded is) (looked_up signs.Categories) (two_of_many (looked_up signs.Categories)) items starts

-- ---- levels, and lists of each kind

pub level_word_read : (w : Word) → read_as level (Leaf w) ≡ read_as (looked_up signs.Levels) (Leaf w)
unfolding cell_in read_word
level_word_read w = refl

pub class_word_read : (w : Word) → read_as class_permission (Leaf w) ≡ read_as (looked_up signs.ClassPermissions) (Leaf w)
unfolding cell_in read_word
class_word_read w = refl

pub range_word_read : (w : Word) → read_as range (Leaf w) ≡ read_as (looked_up signs.LevelRanges) (Leaf w)
unfolding cell_in read_word
range_word_read w = refl

module _ (bt : Spot) (cells : List Cell) where
  level_list_read : read_list bt cells level ≡ formed bt ops.Level [] (read_row level_items cells)
  unfolding read_list
  level_list_read = refl

  range_list_read : read_list bt cells range ≡ formed bt ops.LevelRange [] (read_row range_items cells)
  unfolding read_list
  range_list_read = refl

  class_list_read : read_list bt cells class_permission ≡ formed bt ops.ClassPermissions [] (read_row class_items cells)
  unfolding read_list
  class_list_read = refl

-- a list of another kind is no argument
pub other_kind : (n : ℕ) (bt : Spot) (items : List rust.Term) (kind : Op) → (kind ≡ ops.ClassPermissionKind → ⊥) → (kind ≡ ops.CategorySetKind → ⊥) → (kind ≡ ops.LevelKind → ⊥)
    → (kind ≡ ops.LevelRangeKind → ⊥) → (v : Term Word) → read_argument (argument_kind kind) (list_cell n bt items) ≡ Some v → ⊥
unfolding read_list
other_kind n bt items ops.ClassPermissionKind a b c d v e = a refl
other_kind n bt items ops.CategorySetKind a b c d v e = b refl
other_kind n bt items ops.LevelKind a b c d v e = c refl
other_kind n bt items ops.LevelRangeKind a b c d v e = d refl
other_kind n bt items ops.TypeKind a b c d v e = cc
other_kind n bt items kind a b c d v e = cc

module _ (n : ℕ) where
  pub puts_level_word : (t : rust.Term) (w : LookedUp) → t ≡ variants.Leaf w → (old new : List Part) → AsksTerm (read_as (looked_up signs.Levels) (said_of n t)) old new
      → AsksTerm (read_as level (said_of n t)) old new
  puts_level_word t w is old new puts = λ v e.
      let leaf = ap (said_of n) is ∙ leaf_said n w in
      puts v (ap (read_as (looked_up signs.Levels)) leaf ∙ sym (ap (read_as level) leaf ∙ level_word_read (word_in n w)) ∙ e)

  pub puts_level_form : (t : rust.Term) (bt : ℕ) (kept : Op) (items : Vec rust.Term Global) → t ≡ variants.Form kept bt items → (slice : List rust.Term) → slice ≡ items.items
      → (old first more new : List Part) → first ≡ old ++ kept_parts.Opens (spot_at n bt) ops.Level ∷ [] → AsksTerms (all_read_as level_items (all_said n slice)) first more
      → new ≡ more ++ kept_parts.Closes ∷ [] → AsksTerm (read_as level (said_of n t)) old new
  puts_level_form t bt kept items is slice same old first more new f puts g = λ v e.
      let o = read_row level_items (kept_cells n slice) in
      puts_joined (sound (formed (spot_at n bt) ops.Level [] o)) (spot_at n bt) ops.Level (formed_joined (spot_at n bt) ops.Level o) old first more new f
      (formed_inside (spot_at n bt) ops.Level o first more puts) g v
      (ap (λ ts. sound (formed (spot_at n bt) ops.Level [] (read_row level_items (kept_cells n ts)))) same
      ∙ ap sound (sym (level_list_read (spot_at n bt) (kept_cells n items.items)))
      ∙ read_as_list level no_level n t bt kept items is v e)

  module _ (items : List rust.Term) where
    pub puts_sensitivity : (a : rust.Term) → length items ≡ 1 → a ≡ get_or items 0 a → (old new : List Part) → AsksTerm (read_as (looked_up signs.Sensitivities) (said_of n a)) old new
        → AsksTerms (all_read_as level_items (all_said n items)) old new
    puts_sensitivity a one first old new puts =
        terms_as (all_read_as level_items (all_said n items)) (all_read_as (item (looked_up signs.Sensitivities) close) (all_said n items))
        (ap sound (as_many (kept_cells n items) (item (looked_up signs.Sensitivities) close) sensitivity_items 1 (cells_counted n items ∙ one))) old new
        (puts_sole n items (looked_up signs.Sensitivities) a one first old new puts)

    pub puts_sensitivity_items : (length items ≡ 1 → ⊥) → (old new : List Part) → AsksTerms (all_read_as sensitivity_items (all_said n items)) old new
        → AsksTerms (all_read_as level_items (all_said n items)) old new
    puts_sensitivity_items never old new puts =
        terms_as (all_read_as level_items (all_said n items)) (all_read_as sensitivity_items (all_said n items))
        (ap sound (not_as_many (kept_cells n items) (item (looked_up signs.Sensitivities) close) sensitivity_items 1 (λ e. never (sym (cells_counted n items) ∙ e)))) old new puts

    -- ---- what a list of each kind joins

    module _ (bt : Spot) (kind : Op) where
      abbrev argument : Option (Term Word)
      argument = read_argument (argument_kind kind) (list_cell n bt items)

      class_argument : kind ≡ ops.ClassPermissionKind → argument ≡ sound (formed bt ops.ClassPermissions [] (read_row class_items (kept_cells n items)))
      class_argument is = ap (λ k. read_argument (argument_kind k) (list_cell n bt items)) is ∙ ap sound (class_list_read bt (kept_cells n items))

      level_argument : kind ≡ ops.LevelKind → argument ≡ sound (formed bt ops.Level [] (read_row level_items (kept_cells n items)))
      level_argument is = ap (λ k. read_argument (argument_kind k) (list_cell n bt items)) is ∙ ap sound (level_list_read bt (kept_cells n items))

      range_argument : kind ≡ ops.LevelRangeKind → argument ≡ sound (formed bt ops.LevelRange [] (read_row range_items (kept_cells n items)))
      range_argument is = ap (λ k. read_argument (argument_kind k) (list_cell n bt items)) is ∙ ap sound (range_list_read bt (kept_cells n items))

      set_argument : kind ≡ ops.CategorySetKind → argument ≡ sound (read_expression bt (languages.Sets signs.CategorySets) (kept_cells n items))
      set_argument is = ap (λ k. read_argument (argument_kind k) (list_cell n bt items)) is ∙ ap sound (set_listed bt (kept_cells n items) signs.CategorySets)

      -- by one equation
      pub joined_by : (op : Op) (y : Option (Term Word)) → argument ≡ y → IsJoinedBy bt y op → IsJoinedBy bt argument op
      joined_by op y same joined = λ v e. joined v (sym same ∙ e)

      pub inside_by : (y : Option (Term Word)) → argument ≡ y → (old new : List Part) → AsksInside y old new → AsksInside argument old new
      inside_by y same old new puts = λ v e. puts v (sym same ∙ e)

      pub class_joined : kind ≡ ops.ClassPermissionKind → IsJoinedBy bt argument ops.ClassPermissions
      class_joined is = joined_by ops.ClassPermissions _ (class_argument is) (formed_joined bt ops.ClassPermissions (read_row class_items (kept_cells n items)))

      pub class_inside : kind ≡ ops.ClassPermissionKind → (old new : List Part) → AsksTerms (all_read_as class_items (all_said n items)) old new → AsksInside argument old new
      class_inside is old new puts = inside_by _ (class_argument is) old new (formed_inside bt ops.ClassPermissions (read_row class_items (kept_cells n items)) old new puts)

      pub level_joined : kind ≡ ops.LevelKind → IsJoinedBy bt argument ops.Level
      level_joined is = joined_by ops.Level _ (level_argument is) (formed_joined bt ops.Level (read_row level_items (kept_cells n items)))

      pub level_inside : kind ≡ ops.LevelKind → (old new : List Part) → AsksTerms (all_read_as level_items (all_said n items)) old new → AsksInside argument old new
      level_inside is old new puts = inside_by _ (level_argument is) old new (formed_inside bt ops.Level (read_row level_items (kept_cells n items)) old new puts)

      pub range_joined_by : kind ≡ ops.LevelRangeKind → IsJoinedBy bt argument ops.LevelRange
      range_joined_by is = joined_by ops.LevelRange _ (range_argument is) (formed_joined bt ops.LevelRange (read_row range_items (kept_cells n items)))

      pub range_inside : kind ≡ ops.LevelRangeKind → (old new : List Part) → AsksTerms (all_read_as range_items (all_said n items)) old new → AsksInside argument old new
      range_inside is old new puts = inside_by _ (range_argument is) old new (formed_inside bt ops.LevelRange (read_row range_items (kept_cells n items)) old new puts)

      pub set_joined : kind ≡ ops.CategorySetKind → (op : Op) → IsJoinedBy bt (sound (read_expression bt (languages.Sets signs.CategorySets) (kept_cells n items))) op → IsJoinedBy bt argument op
      set_joined is op joined = joined_by op _ (set_argument is) joined

      pub set_inside : kind ≡ ops.CategorySetKind → (old new : List Part) → AsksInside (sound (read_expression bt (languages.Sets signs.CategorySets) (kept_cells n items))) old new
          → AsksInside argument old new
      set_inside is old new puts = inside_by _ (set_argument is) old new puts

-- ---- terms of a statement

module _ (n : ℕ) (t : rust.Term) (old new : List Part) where
  pub writes_leaf : (w : LookedUp) → t ≡ variants.Leaf w → (v : PlacedWord) → v ≡ record { word = word_in n w; scope = None } → new ≡ old ++ kept_parts.Word v ∷ []
      → WritesTerm (said_of n t) old new
  unfolding parts_of filled
  writes_leaf w is v so e =
      behind_there [] old (kept_parts.Word v ∷ []) new e
      ∙ ap (λ (x : PlacedWord). bare_parts old ++ part_word (scoped_by [] x) ∷ []) so
      ∙ ap (λ x. bare_parts old ++ parts_of (filled bare x)) (sym (ap (said_of n) is ∙ leaf_said n w))

  pub writes_name : (bt : ℕ) (bytes : List ℕ) → t ≡ variants.Name bt bytes → (at_so : Spot) (bytes_so : List ℕ) → at_so ≡ spot_at n bt → bytes_so ≡ bytes
      → new ≡ old ++ kept_parts.Text at_so bytes_so ∷ [] → WritesTerm (said_of n t) old new
  unfolding parts_of filled
  writes_name bt bytes is at_so bytes_so f g e =
      behind_there [] old (kept_parts.Text at_so bytes_so ∷ []) new e
      ∙ (λ i. bare_parts old ++ parts_of (filled bare (Name (f i) (g i))))
      ∙ ap (λ x. bare_parts old ++ parts_of (filled bare x)) (sym (ap (said_of n) is ∙ name_said n bt bytes))

  pub writes_form : (bt : ℕ) (op : Op) (items : Vec rust.Term Global) → t ≡ variants.Form op bt items → (slice : List rust.Term) → slice ≡ items.items
      → (first more : List Part) → first ≡ old ++ kept_parts.Opens (spot_at n bt) op ∷ [] → WritesTerms (all_said n slice) first more → new ≡ more ++ kept_parts.Closes ∷ []
      → WritesTerm (said_of n t) old new
  writes_form bt op items is slice same first more e writes g =
      between [] (spot_at n bt) op old first more new (all_filled bare (all_said n items.items)) e
      (writes ∙ ap (λ ts. bare_parts first ++ all_parts_of (all_filled bare (all_said n ts))) same) g
      ∙ ap (λ u. bare_parts old ++ parts_of u) (sym (filled_form bare (spot_at n bt) op (all_said n items.items)))
      ∙ ap (λ u. bare_parts old ++ parts_of (filled bare u)) (sym (ap (said_of n) is ∙ form_said n bt op items))

module _ (n : ℕ) (terms : List rust.Term) (old : List Part) where
  -- so far: with the parts of the rest they are those of all
  abbrev pub AreWritten : ℕ → List Part → Type 0
  AreWritten i now = bare_parts now ++ all_parts_of (all_filled bare (all_said n (drop i terms))) ≡ bare_parts old ++ all_parts_of (all_filled bare (all_said n terms))

  pub one_written : (i : ℕ) (now new : List Part) (t : rust.Term) → i < length terms → t ≡ get_or terms i t → WritesTerm (said_of n t) now new → AreWritten i now → AreWritten (i + 1) new
  one_written i now new t within is writes so =
      let rest = all_parts_of (all_filled bare (all_said n (drop (i + 1) terms))) in
      ap (λ xs. xs ++ rest) writes
      ∙ append_assoc (bare_parts now) (parts_of (filled bare (said_of n t))) rest
      ∙ ap (λ xs. bare_parts now ++ xs)
      (sym (parts_more bare (said_of n t) (all_said n (drop (i + 1) terms))) ∙ ap (λ ts. all_parts_of (all_filled bare ts)) (sym (first_left n terms i t within is)))
      ∙ so

  pub all_written : (i : ℕ) (now : List Part) → length terms ≤ i → AreWritten i now → WritesTerms (all_said n terms) old now
  all_written i now over so =
      sym (append-nil (bare_parts now))
      ∙ ap (λ xs. bare_parts now ++ xs) (sym (parts_none bare) ∙ ap (λ ts. all_parts_of (all_filled bare (all_said n ts))) (sym (drop_all i terms over)))
      ∙ so
