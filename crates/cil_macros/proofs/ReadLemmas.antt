-- What was read without a fault, taken apart: the terms that it joins.
use Rattle.std.specs.Prelude.{Bool, true, false, ◌&&◌, ◌||◌, Option, Some, None, codes}
use Rattle.std.proofs.Common.{◌≡◌, ℕ, List, [], ◌∷◌, ◌++◌, refl, sym, ◌∙◌, ap, subst}
use Rattle.cil_base.specs.Places.{some_same}
use Rattle.cil_syntax.specs.declared.kind.Language.TheVariants as languages
use Rattle.cil_syntax.specs.declared.kind.Sign.{Sign}
use Rattle.cil_syntax.specs.declared.term.Op.{Op}
use Rattle.cil_syntax.specs.declared.term.Op.TheVariants as ops
use Rattle.cil_faults.specs.declared.spot.Spot.{Spot}
use Rattle.cil_syntax.specs.declared.term.Term as rust
use Rattle.cil_syntax.specs.declared.term.Word.{Word}
use Rattle.cil_syntax.specs.Said.{said_of}
use Rattle.cil_syntax.specs.Heads.{Head, first_words, has_ranges, head_in, one_operand, two_operands}
use Rattle.cil_syntax.specs.Readings.{formed, joined, read_by_head, read_expression, read_row, refused_head}
use Rattle.cil_syntax.specs.Shapes.{Cell, Inner, Reading, Row, Shape, close, item, many, set_of}
use Rattle.cil_syntax.specs.Spelling.{same_bytes}
use Rattle.cil_syntax.specs.Terms.{Term, Form, Terms, nil, cons}
use Rattle.cil_macros.specs.declared.list_arguments.SetHead.{SetHead}
use Rattle.cil_macros.specs.declared.list_arguments.SetHead.TheVariants as set_heads
use Rattle.cil_macros.specs.ListForms.{HeadIs, SaysOp, StartsWith, head_code, kept_cells, two_categories, two_code}
use Rattle.cil_macros.specs.Parameters.{cell_in, cells_in, faultless, sound}
use Rattle.cil_macros.specs.Puts.{IsJoinedBy, inside}
use Rattle.cil_macros.proofs.ListLemmas.{decided, found, no_head, operator, range_head}

-- ---- what joins others

-- an item and the rest
pub record AreJoined (x : Option (Reading (Term Word))) (y : Option (Reading (Terms Word))) (v : Terms Word) : Type 0 where
  pub first : Term Word
  pub rest : Terms Word
  pub first_read : sound x ≡ Some first
  pub rest_read : sound y ≡ Some rest
  pub so : v ≡ cons first rest

parted : (t : Term Word) (ts : Terms Word) (fs gs : List Inner) (v : Terms Word) → faultless (cons t ts) (fs ++ gs) ≡ Some v
    → AreJoined (Some record { value = t; faults = fs }) (Some record { value = ts; faults = gs }) v
parted t ts [] [] v e = record { first = t; rest = ts; first_read = refl; rest_read = refl; so = sym (some_same (cons t ts) v e) }
parted t ts [] (g ∷ gs) v e = cc
parted t ts (f ∷ fs) gs v e = cc

pub joined_value : (x : Option (Reading (Term Word))) (y : Option (Reading (Terms Word))) (v : Terms Word) → sound (joined x y) ≡ Some v → AreJoined x y v
joined_value None y v e = cc
joined_value (Some r) None v e = cc
joined_value (Some r) (Some s) v e = parted r.value s.value r.faults s.faults v e

-- one term that joins some
pub record IsFormed (o : Option (Reading (Terms Word))) (at : Spot) (op : Op) (v : Term Word) : Type 0 where
  pub parts : Terms Word
  pub read : sound o ≡ Some parts
  pub so : v ≡ Form at op parts

formed_by : (at : Spot) (op : Op) (ts : Terms Word) (fs : List Inner) (v : Term Word) → faultless (Form at op ts) fs ≡ Some v
    → IsFormed (Some record { value = ts; faults = fs }) at op v
formed_by at op ts [] v e = record { parts = ts; read = refl; so = sym (some_same (Form at op ts) v e) }
formed_by at op ts (f ∷ fs) v e = cc

pub formed_value : (at : Spot) (op : Op) (o : Option (Reading (Terms Word))) (v : Term Word) → sound (formed at op [] o) ≡ Some v → IsFormed o at op v
formed_value at op None v e = cc
formed_value at op (Some r) v e = formed_by at op r.value r.faults v e

-- ---- rows

none_read : (v : Terms Word) → sound (read_row close []) ≡ Some v → v ≡ nil
unfolding read_row
none_read v e = sym (some_same nil v e)

module _ (s : Shape) where
  pub many_none : (v : Terms Word) → sound (read_row (many s) []) ≡ Some v → v ≡ nil
  unfolding read_row
  many_none v e = sym (some_same nil v e)

  pub many_value : (c : Cell) (cs : List Cell) (v : Terms Word) → sound (read_row (many s) (c ∷ cs)) ≡ Some v → AreJoined (c.read s) (read_row (many s) cs) v
  unfolding read_row
  many_value c cs v e = joined_value (c.read s) (read_row (many s) cs) v e

  -- just so many are some of them
  pub one_of_many : (cells : List Cell) (v : Terms Word) → sound (read_row (item s close) cells) ≡ Some v → sound (read_row (many s) cells) ≡ Some v
  unfolding read_row
  one_of_many [] v e = cc
  one_of_many (c ∷ []) v e = e
  one_of_many (c ∷ d ∷ cs) v e = let j = joined_value (c.read s) None v e in let f = j.rest_read in cc

  pub two_of_many : (cells : List Cell) (v : Terms Word) → sound (read_row (item s (item s close)) cells) ≡ Some v → sound (read_row (many s) cells) ≡ Some v
  unfolding read_row
  two_of_many [] v e = cc
  two_of_many (c ∷ []) v e = let j = joined_value (c.read s) None v e in let f = j.rest_read in cc
  two_of_many (c ∷ d ∷ []) v e = e
  two_of_many (c ∷ d ∷ f ∷ cs) v e =
      let j = joined_value (c.read s) (joined (d.read s) None) v e in
      let k = joined_value (d.read s) None j.rest j.rest_read in
      let g = k.rest_read in
      cc

  -- the only item
  pub sole_value : (c : Cell) (v : Terms Word) → sound (read_row (item s close) (c ∷ [])) ≡ Some v → (t : Term Word) × (sound (c.read s) ≡ Some t) × (v ≡ cons t nil)
  unfolding read_row
  sole_value c v e =
      let j = joined_value (c.read s) (read_row close []) v e in
      (j.first, j.first_read, j.so ∙ ap (cons j.first) (none_read j.rest j.rest_read))

  -- a first and a second item
  pub pair_value : (t : Shape) (c d : Cell) (v : Terms Word) → sound (read_row (item s (item t close)) (c ∷ d ∷ [])) ≡ Some v
      → (a : Term Word) × (b : Term Word) × (sound (c.read s) ≡ Some a) × (sound (d.read t) ≡ Some b) × (v ≡ cons a (cons b nil))
  unfolding read_row
  pair_value t c d v e =
      let j = joined_value (c.read s) (joined (d.read t) (read_row close [])) v e in
      let k = joined_value (d.read t) (read_row close []) j.rest j.rest_read in
      (j.first, k.first, j.first_read, k.first_read, j.so ∙ ap (cons j.first) (k.so ∙ ap (cons k.first) (none_read k.rest k.rest_read)))

-- ---- the heads of sets

module _ (sign : Sign) where
  module _ (w : List ℕ) (ws : List (List ℕ)) where
    decides : (n a o x b r : Bool) → SaysOp sign (decided sign w ws n a o x b r) (two_code a o) (head_code n ((a || o) || x) (b && r))
    decides true a o x b r = record { head = operator sign (codes "not") ops.Not (one_operand (languages.Sets sign)); is = refl; taken = refl; op_so = refl; row_so = refl }
    decides false true o x b r = record { head = operator sign (codes "and") ops.And (two_operands (languages.Sets sign)); is = refl; taken = refl; op_so = refl; row_so = refl }
    decides false false true x b r = record { head = operator sign (codes "or") ops.Or (two_operands (languages.Sets sign)); is = refl; taken = refl; op_so = refl; row_so = refl }
    decides false false false true b r = record { head = operator sign (codes "xor") ops.Xor (two_operands (languages.Sets sign)); is = refl; taken = refl; op_so = refl; row_so = refl }
    decides false false false false true true = record { head = range_head sign; is = refl; taken = refl; op_so = refl; row_so = refl }
    decides false false false false true false = refl
    decides false false false false false r = refl

    pub says_op : SaysOp sign (head_in (languages.Sets sign) (w ∷ ws)) (two_code (same_bytes w (codes "and")) (same_bytes w (codes "or")))
        (head_code (same_bytes w (codes "not")) ((same_bytes w (codes "and") || same_bytes w (codes "or")) || same_bytes w (codes "xor")) (has_ranges sign && same_bytes w (codes "range")))
    says_op =
        rw (found sign w ws)
        (decides (same_bytes w (codes "not")) (same_bytes w (codes "and")) (same_bytes w (codes "or")) (same_bytes w (codes "xor")) (has_ranges sign) (same_bytes w (codes "range")))

  -- ---- lists of sets

  module _ (at : Spot) (v : Term Word) where
    by_head : (cells : List Cell) (o : Option Head) → head_in (languages.Sets sign) (first_words cells) ≡ o → sound (read_expression at (languages.Sets sign) cells) ≡ Some v
        → sound (read_by_head at (languages.Sets sign) cells o) ≡ Some v
    by_head cells o e f = ap (λ h. sound (read_by_head at (languages.Sets sign) cells h)) (sym e) ∙ f

    -- a union
    pub union_value : (cells : List Cell) → head_in (languages.Sets sign) (first_words cells) ≡ None → sound (read_expression at (languages.Sets sign) cells) ≡ Some v
        → IsFormed (read_row (many (set_of sign)) cells) at ops.Union v
    union_value cells e f = formed_value at ops.Union (read_row (many (set_of sign)) cells) v (by_head cells None e f)

    -- a list with a head
    pub headed_value : (c : Cell) (cs : List Cell) (op : Op) (row : Row) → HeadIs (head_in (languages.Sets sign) (first_words (c ∷ cs))) op row
        → sound (read_expression at (languages.Sets sign) (c ∷ cs)) ≡ Some v → IsFormed (read_row row cs) at op v
    headed_value c cs op row has f =
        subst (λ o. IsFormed (read_row row cs) at o v) has.op_so
        (subst (λ r. IsFormed (read_row r cs) at has.head.op v) has.row_so
        (formed_value at has.head.op (read_row has.head.row cs) v
        (ap (λ b. sound (formed at has.head.op (refused_head b (c ∷ cs)) (read_row has.head.row cs))) (sym has.taken) ∙ by_head (c ∷ cs) (Some has.head) has.is f)))

-- what the words at the head of a list say, by the first of them
module _ (sign : Sign) (w : List ℕ) (code : SetHead)
    (coded : code ≡ head_code (same_bytes w (codes "not")) ((same_bytes w (codes "and") || same_bytes w (codes "or")) || same_bytes w (codes "xor")) (has_ranges sign && same_bytes w (codes "range"))) where
  abbrev two_here : Op
  two_here = two_code (same_bytes w (codes "and")) (same_bytes w (codes "or"))

  says : (words : List (List ℕ)) → StartsWith w words → SaysOp sign (head_in (languages.Sets sign) words) two_here code
  says words starts = rw coded (rw starts.1 (says_op sign w starts.0))

  says_as : (words : List (List ℕ)) → StartsWith w words → (c : SetHead) → code ≡ c → SaysOp sign (head_in (languages.Sets sign) words) two_here c
  says_as words starts c is = subst (SaysOp sign (head_in (languages.Sets sign) words) two_here) is (says words starts)

  pub says_one : code ≡ set_heads.One → (words : List (List ℕ)) → StartsWith w words → HeadIs (head_in (languages.Sets sign) words) ops.Not (one_operand (languages.Sets sign))
  says_one is words starts = says_as words starts set_heads.One is

  pub says_two : code ≡ set_heads.Two → (words : List (List ℕ)) → StartsWith w words → HeadIs (head_in (languages.Sets sign) words) two_here (two_operands (languages.Sets sign))
  says_two is words starts = says_as words starts set_heads.Two is

  pub says_range : code ≡ set_heads.Range → (words : List (List ℕ)) → StartsWith w words → HeadIs (head_in (languages.Sets sign) words) ops.Range two_categories
  says_range is words starts = says_as words starts set_heads.Range is

  pub says_union : code ≡ set_heads.Union → (words : List (List ℕ)) → StartsWith w words → head_in (languages.Sets sign) words ≡ None
  says_union is words starts = says_as words starts set_heads.Union is

-- what joins the items of a set
module _ (n : ℕ) (items : List rust.Term) (sign : Sign) where
  pub unheaded_none : first_words (kept_cells n items) ≡ [] → head_in (languages.Sets sign) (first_words (kept_cells n items)) ≡ None
  unheaded_none e = ap (head_in (languages.Sets sign)) e ∙ no_head sign

  module _ (bt : Spot) where
    abbrev read_here : List rust.Term → Option (Term Word)
    read_here ts = sound (read_expression bt (languages.Sets sign) (kept_cells n ts))

    union_joined : head_in (languages.Sets sign) (first_words (kept_cells n items)) ≡ None → IsJoinedBy bt (read_here items) ops.Union
    union_joined none = λ v e. let f = union_value sign bt v (kept_cells n items) none e in f.so ∙ ap (Form bt ops.Union) (sym (ap inside f.so))

    pub unheaded_joined : first_words (kept_cells n items) ≡ [] → IsJoinedBy bt (read_here items) ops.Union
    unheaded_joined e = union_joined (unheaded_none e)

  module _ (w : List ℕ) (code : SetHead)
      (coded : code ≡ head_code (same_bytes w (codes "not")) ((same_bytes w (codes "and") || same_bytes w (codes "or")) || same_bytes w (codes "xor")) (has_ranges sign && same_bytes w (codes "range"))) where
    headed_joined : (bt : Spot) (op : Op) (row : Row) → ((words : List (List ℕ)) → StartsWith w words → HeadIs (head_in (languages.Sets sign) words) op row)
        → (ts : List rust.Term) → StartsWith w (first_words (kept_cells n ts)) → IsJoinedBy bt (read_here bt ts) op
    unfolding cells_in first_words
    headed_joined bt op row has [] starts = let e : [] ≡ w ∷ starts.0 = starts.1 in cc
    headed_joined bt op row has (t ∷ ts) starts = λ v e.
        let f = headed_value sign bt v (cell_in (said_of n t)) (kept_cells n ts) op row (has (first_words (kept_cells n (t ∷ ts))) starts) e in
        f.so ∙ ap (Form bt op) (sym (ap inside f.so))

    module _ (starts : StartsWith w (first_words (kept_cells n items))) where
      pub none_so : code ≡ set_heads.Union → head_in (languages.Sets sign) (first_words (kept_cells n items)) ≡ None
      none_so is = says_union sign w code coded is (first_words (kept_cells n items)) starts

      pub union_joined_so : (bt : Spot) → code ≡ set_heads.Union → IsJoinedBy bt (read_here bt items) ops.Union
      union_joined_so bt is = union_joined bt (none_so is)

      pub one_joined : (bt : Spot) → code ≡ set_heads.One → IsJoinedBy bt (read_here bt items) ops.Not
      one_joined bt is = headed_joined bt ops.Not (one_operand (languages.Sets sign)) (says_one sign w code coded is) items starts

      pub two_joined : (bt : Spot) → code ≡ set_heads.Two → IsJoinedBy bt (read_here bt items) (two_code (same_bytes w (codes "and")) (same_bytes w (codes "or")))
      two_joined bt is = headed_joined bt (two_code (same_bytes w (codes "and")) (same_bytes w (codes "or"))) (two_operands (languages.Sets sign)) (says_two sign w code coded is) items starts

      pub range_joined : (bt : Spot) → code ≡ set_heads.Range → IsJoinedBy bt (read_here bt items) ops.Range
      range_joined bt is = headed_joined bt ops.Range two_categories (says_range sign w code coded is) items starts
