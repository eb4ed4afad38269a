-- What is read of some cells is made of their bytes: a property of what nodes hold is one of each word that is read of them.
use Rattle.std.specs.Prelude.{◌≡◌, ◌≢◌, ◌++◌, cond, map, ℕ, zero, suc, ◌+◌, ◌-◌, ◌≤◌, ◌==◌, length, Bool, true, false, if◌then◌else◌, List, [], ◌∷◌, codes, Option, Some, None, slice_range}
use Rattle.std.proofs.Common.{refl, sym, ◌∙◌, ap, subst, arith, take, drop}
use Rattle.std.proofs.lemmas.List.{length-drop, length-take-le}
use Rattle.std.specs.Prelude.{◌&&◌, find}
use Rattle.std.specs.List.{list_all}
use Rattle.cil_sexpr.specs.Text.{IsText, IsNode, AreNodes}
use Rattle.cil_sexpr.specs.Tree.{Node, Word as TextWord, Quoted, Branch, Nodes, none, next, span_of, inner_of}
use Rattle.cil_modset.specs.Modules.{module_of}
use Rattle.cil_syntax.specs.declared.kind.Language.{Language}
use Rattle.cil_syntax.specs.declared.kind.Language.TheVariants as languages
use Rattle.cil_syntax.specs.declared.kind.Sign.{Sign}
use Rattle.cil_syntax.specs.declared.term.Op.{Op}
use Rattle.cil_syntax.specs.declared.term.Op.TheVariants as ops
use Rattle.cil_faults.specs.declared.spot.Spot.{Spot}
use Rattle.cil_syntax.specs.declared.term.Word.{Word}
use Rattle.cil_syntax.specs.Shapes.{Inner, Reading, Shape, declared_name, looked_up, expression, fixed, left_out, any_left_out, either, list_of, tagged, unread, any_text, object_name, Row, close, item, many, counted, led, statements, anything, Face, a_word, a_string, a_list, Cell, is_meant, is_this_word, is_of_sets, word_sign}
use Rattle.cil_syntax.specs.Readings.{all_lists, is_led, joined, formed, head_word, refused_head, read_behind, read_by_head, read_expression, read_tagged, read_list, read_row, cell_of, cells_of}
use Rattle.cil_syntax.specs.Heads.{Head, heads, has_ranges, begins_with, first_words, head_in, one_operand, other_op, other_row}
use Rattle.cil_syntax.specs.Words.{read_sole, read_word, read_string}
use Rattle.cil_syntax.specs.Slices.{AreWritten, EachText, EachTextIn, WordsAreSlices}
use Rattle.cil_syntax.specs.Spelling.{same_bytes}
use Rattle.cil_syntax.specs.Table.{Body, plain, behind, branched, Entry, entry_of, effective, entry_named, named_in, rules, containers, types, classes, levels, set_aside, set_aside_words, table}
use Rattle.cil_syntax.specs.Terms.{Term, Leaf, Name, Form, Terms, nil, cons, spot_of}
use Rattle.cil_syntax.specs.Written.{Context, Verdict, Refused, Shaped, by_reading, by_entry, by_head, by_items, may_stand, names_its_block, verdict_of, IsItem, first, later, skipped, beside, all_behind_first, within, body_of, FoundIn, top, inside, Written, IsWritten, written}

-- ---- rows in which no list is a kept string

abbrev mutual
  pub IsPlain : Shape → Type 0
  IsPlain declared_name = Unit {0}
  IsPlain (looked_up sign) = Unit {0}
  IsPlain (expression language) = Unit {0}
  IsPlain (fixed word op) = Unit {0}
  IsPlain (left_out word) = Unit {0}
  IsPlain any_left_out = Unit {0}
  IsPlain (either a b) = IsPlain a × IsPlain b
  IsPlain (list_of op row) = (op ≢ ops.UnreadText) × IsPlainRow row
  IsPlain (tagged word op row) = (op ≢ ops.UnreadText) × IsPlainRow row
  IsPlain unread = Unit {0}
  IsPlain any_text = Unit {0}
  IsPlain object_name = Unit {0}

  pub IsPlainRow : Row → Type 0
  IsPlainRow close = Unit {0}
  IsPlainRow (item shape row) = IsPlain shape × IsPlainRow row
  IsPlainRow (many shape) = IsPlain shape
  IsPlainRow (counted count a b) = IsPlainRow a × IsPlainRow b
  IsPlainRow (led shape a b) = IsPlainRow a × IsPlainRow b
  IsPlainRow statements = Unit {0}
  IsPlainRow anything = Unit {0}

abbrev ArePlain : List Entry → Type 0
ArePlain [] = Unit {0}
ArePlain (e ∷ es) = IsPlainRow e.row × ArePlain es

abbrev IsPlainEntry : Option Entry → Type 0
IsPlainEntry None = Unit {0}
IsPlainEntry (Some e) = IsPlainRow e.row

one_plain : (b : Bool) (x y : Option Entry) → IsPlainEntry x → IsPlainEntry y → IsPlainEntry (cond b x y)
one_plain true x y h k = h
one_plain false x y h k = k

found_plain : (es : List Entry) (word : List ℕ) → ArePlain es → IsPlainEntry (named_in es word)
found_plain [] word h = tt
found_plain (e ∷ es) word h = one_plain (same_bytes word e.word) (Some e) (named_in es word) h.0 (found_plain es word h.1)

aside_plain : (words : List (List ℕ)) → ArePlain (map set_aside words)
aside_plain [] = tt
aside_plain (w ∷ ws) = (tt, aside_plain ws)

both_plain : (xs ys : List Entry) → ArePlain xs → ArePlain ys → ArePlain (xs ++ ys)
both_plain [] ys h k = k
both_plain (x ∷ xs) ys h k = (h.0, both_plain xs ys h.1 k)

-- ---- that it is so is decided by computing

abbrev not_text : Op → Bool
not_text ops.UnreadText = false
not_text op = true

text_apart : (op : Op) → not_text op ≡ true → op ≢ ops.UnreadText
text_apart op h e = let f : true ≡ false = sym h ∙ ap not_text e in cc

abbrev mutual
  is_plain : Shape → Bool
  is_plain declared_name = true
  is_plain (looked_up sign) = true
  is_plain (expression language) = true
  is_plain (fixed word op) = true
  is_plain (left_out word) = true
  is_plain any_left_out = true
  is_plain (either a b) = is_plain a && is_plain b
  is_plain (list_of op row) = not_text op && is_plain_row row
  is_plain (tagged word op row) = not_text op && is_plain_row row
  is_plain unread = true
  is_plain any_text = true
  is_plain object_name = true

  is_plain_row : Row → Bool
  is_plain_row close = true
  is_plain_row (item shape row) = is_plain shape && is_plain_row row
  is_plain_row (many shape) = is_plain shape
  is_plain_row (counted count a b) = is_plain_row a && is_plain_row b
  is_plain_row (led shape a b) = is_plain_row a && is_plain_row b
  is_plain_row statements = true
  is_plain_row anything = true

both_true : (a b : Bool) → (a && b) ≡ true → (a ≡ true) × (b ≡ true)
both_true true b h = (refl, h)
both_true false b h = absurd (let f : false ≡ true = h in cc)

mutual
  plain_so : (shape : Shape) → is_plain shape ≡ true → IsPlain shape
  plain_so declared_name h = tt
  plain_so (looked_up sign) h = tt
  plain_so (expression language) h = tt
  plain_so (fixed word op) h = tt
  plain_so (left_out word) h = tt
  plain_so any_left_out h = tt
  plain_so (either a b) h = (plain_so a (both_true (is_plain a) (is_plain b) h).0, plain_so b (both_true (is_plain a) (is_plain b) h).1)
  plain_so (list_of op row) h = (text_apart op (both_true (not_text op) (is_plain_row row) h).0, row_so row (both_true (not_text op) (is_plain_row row) h).1)
  plain_so (tagged word op row) h = (text_apart op (both_true (not_text op) (is_plain_row row) h).0, row_so row (both_true (not_text op) (is_plain_row row) h).1)
  plain_so unread h = tt
  plain_so any_text h = tt
  plain_so object_name h = tt

  row_so : (row : Row) → is_plain_row row ≡ true → IsPlainRow row
  row_so close h = tt
  row_so (item shape row) h = (plain_so shape (both_true (is_plain shape) (is_plain_row row) h).0, row_so row (both_true (is_plain shape) (is_plain_row row) h).1)
  row_so (many shape) h = plain_so shape h
  row_so (counted count a b) h = (row_so a (both_true (is_plain_row a) (is_plain_row b) h).0, row_so b (both_true (is_plain_row a) (is_plain_row b) h).1)
  row_so (led shape a b) h = (row_so a (both_true (is_plain_row a) (is_plain_row b) h).0, row_so b (both_true (is_plain_row a) (is_plain_row b) h).1)
  row_so statements h = tt
  row_so anything h = tt

abbrev has_plain_row : Entry → Bool
has_plain_row e = is_plain_row e.row

entries_so : (es : List Entry) → list_all has_plain_row es ≡ true → ArePlain es
entries_so [] h = tt
entries_so (e ∷ es) h = (row_so e.row (both_true (has_plain_row e) (list_all has_plain_row es) h).0, entries_so es (both_true (has_plain_row e) (list_all has_plain_row es) h).1)

effective_plain : ArePlain effective
unfolding rules containers types classes levels entry_of
effective_plain = entries_so effective refl

table_plain : ArePlain table
table_plain = both_plain effective (map set_aside set_aside_words) effective_plain (aside_plain set_aside_words)

-- ---- heads

abbrev IsPlainHead : Option Head → Type 0
IsPlainHead None = Unit {0}
IsPlainHead (Some h) = (h.op ≢ ops.UnreadText) × IsPlainRow h.row

abbrev ArePlainHeads : List Head → Type 0
ArePlainHeads [] = Unit {0}
ArePlainHeads (h ∷ hs) = IsPlainHead (Some h) × ArePlainHeads hs

abbrev is_plain_head : Head → Bool
is_plain_head h = not_text h.op && is_plain_row h.row

heads_so : (hs : List Head) → list_all is_plain_head hs ≡ true → ArePlainHeads hs
heads_so [] e = tt
heads_so (h ∷ hs) e =
    let one = both_true (not_text h.op) (is_plain_row h.row) (both_true (is_plain_head h) (list_all is_plain_head hs) e).0 in
    ((text_apart h.op one.0, row_so h.row one.1), heads_so hs (both_true (is_plain_head h) (list_all is_plain_head hs) e).1)

range_plain : (b : Bool) (hs : List Head) → list_all is_plain_head hs ≡ true → list_all is_plain_head (if b then hs else []) ≡ true
range_plain true hs e = e
range_plain false hs e = refl

heads_plain : (language : Language) → ArePlainHeads (heads language)
unfolding heads
heads_plain (languages.Sets sign) = heads_so (heads (languages.Sets sign)) (range_plain (has_ranges sign) _ refl)
heads_plain languages.Conditions = heads_so (heads languages.Conditions) refl
heads_plain languages.Constraints = heads_so (heads languages.Constraints) refl
heads_plain languages.LevelConstraints = heads_so (heads languages.LevelConstraints) refl

one_head : (b : Bool) (x y : Option Head) → IsPlainHead x → IsPlainHead y → IsPlainHead (cond b x y)
one_head true x y h k = h
one_head false x y h k = k

head_plain : (there : List (List ℕ)) (hs : List Head) → ArePlainHeads hs → IsPlainHead (find (λ h. begins_with h.words there) hs)
head_plain there [] e = tt
head_plain there (h ∷ hs) e =
    one_head (begins_with h.words there) (Some h) (find (λ (k : Head). begins_with k.words there) hs) e.0 (head_plain there hs e.1)

other_plain : (b : Bool) → (if b then ops.Union else ops.Group) ≢ ops.UnreadText
other_plain true e = cc
other_plain false e = cc

one_row : (b : Bool) (x y : Row) → IsPlainRow x → IsPlainRow y → IsPlainRow (if b then x else y)
one_row true x y h k = h
one_row false x y h k = k

module _ (P : Spot → List ℕ → Type 0) where
  -- the string of a kept string has the property at the place of its form
  abbrev pub FrontText : Spot → Terms Word → Type 0
  FrontText at nil = Unit {0}
  FrontText at (cons (Leaf w) ts) = Unit {0}
  FrontText at (cons (Name bt bytes) ts) = P at bytes
  FrontText at (cons (Form bt op parts) ts) = Unit {0}

  abbrev mutual
    -- each word, name and string of a term has the property
    pub Whole : Term Word → Type 0
    Whole (Leaf w) = P w.at w.bytes
    Whole (Name at bytes) = P at bytes
    Whole (Form at op parts) = (op ≡ ops.UnreadText → FrontText at parts) × WholeIn parts

    pub WholeIn : Terms Word → Type 0
    WholeIn nil = Unit {0}
    WholeIn (cons t ts) = Whole t × WholeIn ts

  mutual
    each_text : (t : Term Word) → Whole t → EachText (λ (w : Word). P w.at w.bytes) P t
    each_text (Leaf w) h = h
    each_text (Name at bytes) h = h
    each_text (Form at op parts) h = each_text_in parts h.1

    pub each_text_in : (ts : Terms Word) → WholeIn ts → EachTextIn (λ (w : Word). P w.at w.bytes) P ts
    each_text_in nil h = tt
    each_text_in (cons t ts) h = (each_text t h.0, each_text_in ts h.1)

  -- what was read, if anything was, has it
  abbrev pub Has : Option (Reading (Term Word)) → Type 0
  Has None = Unit {0}
  Has (Some r) = Whole r.value

  abbrev pub Have : Option (Reading (Terms Word)) → Type 0
  Have None = Unit {0}
  Have (Some r) = WholeIn r.value

  -- each cell has it, by whatever plain shape it is read
  abbrev pub EachCell : List Cell → Type 0
  EachCell [] = Unit {0}
  EachCell (c ∷ cs) = ((shape : Shape) → IsPlain shape → Has (c.read shape)) × EachCell cs

  one_has : (b : Bool) (x y : Option (Reading (Term Word))) → Has x → Has y → Has (if b then x else y)
  one_has true x y h k = h
  one_has false x y h k = k

  one_have : (b : Bool) (x y : Option (Reading (Terms Word))) → Have x → Have y → Have (if b then x else y)
  one_have true x y h k = h
  one_have false x y h k = k

  -- ---- words and strings

  sole_has : (at : Spot) (bytes : List ℕ) → P at bytes → (o : Option Sign) (every : Bool) → Has (read_sole at o every bytes)
  sole_has at bytes p None every = tt
  sole_has at bytes p (Some sign) true = ((λ e. tt), tt)
  sole_has at bytes p (Some sign) false = p

  pub word_has : (at : Spot) (bytes : List ℕ) → P at bytes → (shape : Shape) → Has (read_word at bytes shape)
  unfolding read_word
  word_has at bytes p declared_name = p
  word_has at bytes p (looked_up sign) = p
  word_has at bytes p (expression language) =
      sole_has at bytes p (word_sign language) (is_of_sets language && same_bytes bytes (codes "all"))
  word_has at bytes p (fixed word op) = one_has (same_bytes bytes word) _ _ ((λ e. tt), tt) tt
  word_has at bytes p (left_out word) = one_has (same_bytes bytes word) _ _ ((λ e. tt), tt) tt
  word_has at bytes p any_left_out = ((λ e. tt), tt)
  word_has at bytes p (either a b) = one_has (is_meant a (a_word bytes)) _ _ (word_has at bytes p a) (word_has at bytes p b)
  word_has at bytes p (list_of op row) = tt
  word_has at bytes p (tagged word op row) = tt
  word_has at bytes p unread = p
  word_has at bytes p any_text = p
  word_has at bytes p object_name = ((λ e. p), (p, tt))

  pub string_has : (at : Spot) (bytes : List ℕ) → P at bytes → (shape : Shape) → Has (read_string at bytes shape)
  unfolding read_string
  string_has at bytes p declared_name = tt
  string_has at bytes p (looked_up sign) = tt
  string_has at bytes p (expression language) = tt
  string_has at bytes p (fixed word op) = tt
  string_has at bytes p (left_out word) = tt
  string_has at bytes p any_left_out = tt
  string_has at bytes p (either a b) = one_has (is_meant a a_string) _ _ (string_has at bytes p a) (string_has at bytes p b)
  string_has at bytes p (list_of op row) = tt
  string_has at bytes p (tagged word op row) = tt
  string_has at bytes p unread = ((λ e. p), (p, tt))
  string_has at bytes p any_text = ((λ e. p), (p, tt))
  string_has at bytes p object_name = ((λ e. p), (p, tt))

  -- ---- lists

  joined_have : (a : Option (Reading (Term Word))) (b : Option (Reading (Terms Word))) → Has a → Have b → Have (joined a b)
  joined_have None b h k = tt
  joined_have (Some r) None h k = tt
  joined_have (Some r) (Some s) h k = (h, k)

  formed_has : (at : Spot) (op : Op) (faults : List Inner) (r : Option (Reading (Terms Word))) → op ≢ ops.UnreadText → Have r → Has (formed at op faults r)
  formed_has at op faults None f h = tt
  formed_has at op faults (Some r) f h = ((λ e. absurd (f e)), h)

  pub row_has : (row : Row) (cs : List Cell) → IsPlainRow row → EachCell cs → Have (read_row row cs)
  unfolding read_row
  row_has close [] p e = tt
  row_has close (c ∷ cs) p e = tt
  row_has (item shape row) [] p e = tt
  row_has (item shape row) (c ∷ cs) p e = joined_have (c.read shape) (read_row row cs) (e.0 shape p.0) (row_has row cs p.1 e.1)
  row_has (many shape) [] p e = tt
  row_has (many shape) (c ∷ cs) p e = joined_have (c.read shape) (read_row (many shape) cs) (e.0 shape p) (row_has (many shape) cs p e.1)
  row_has (counted count a b) cs p e = one_have (length cs == count) _ _ (row_has a cs p.0 e) (row_has b cs p.1 e)
  row_has (led shape a b) cs p e = one_have (is_led shape cs) _ _ (row_has a cs p.0 e) (row_has b cs p.1 e)
  row_has statements cs p e = one_have (all_lists cs) _ _ tt tt
  row_has anything cs p e = tt

  behind_has : (row : Row) (cs : List Cell) → IsPlainRow row → EachCell cs → Have (read_behind row cs)
  behind_has row [] p e = tt
  behind_has row (c ∷ cs) p e = row_has row cs p e.1

  headed_has : (at : Spot) (language : Language) (cs : List Cell) → EachCell cs → (o : Option Head) → IsPlainHead o → Has (read_by_head at language cs o)
  headed_has at language cs e None f =
      formed_has at (other_op language) [] _ (other_plain (is_of_sets language))
      (row_has (other_row language) cs (one_row (is_of_sets language) (many (expression language)) (one_operand language) tt (tt, tt)) e)
  headed_has at language cs e (Some h) f = formed_has at h.op (refused_head h.taken cs) _ f.0 (behind_has h.row cs f.1 e)

  expression_has : (at : Spot) (language : Language) (cs : List Cell) → EachCell cs → Has (read_expression at language cs)
  expression_has at language cs e =
      headed_has at language cs e (head_in language (first_words cs)) (head_plain (first_words cs) (heads language) (heads_plain language))

  tagged_has : (at : Spot) (word : List ℕ) (op : Op) (row : Row) (cs : List Cell) → op ≢ ops.UnreadText → IsPlainRow row → EachCell cs
      → Has (read_tagged at word op row cs)
  tagged_has at word op row [] f p e = tt
  tagged_has at word op row (c ∷ cs) f p e = one_has (is_this_word word c.face) _ _ (formed_has at op [] _ f (row_has row cs p e.1)) tt

  pub list_has : (at : Spot) (cs : List Cell) → EachCell cs → (shape : Shape) → IsPlain shape → Has (read_list at cs shape)
  unfolding read_list
  list_has at cs e declared_name p = tt
  list_has at cs e (looked_up sign) p = tt
  list_has at cs e (expression language) p = expression_has at language cs e
  list_has at cs e (fixed word op) p = tt
  list_has at cs e (left_out word) p = tt
  list_has at cs e any_left_out p = tt
  list_has at cs e (either a b) p = one_has (is_meant a (a_list (head_word cs))) _ _ (list_has at cs e a p.0) (list_has at cs e b p.1)
  list_has at cs e (list_of op row) p = formed_has at op [] _ p.0 (row_has row cs p.1 e)
  list_has at cs e (tagged word op row) p = tagged_has at word op row cs p.0 p.1 e
  list_has at cs e unread p = formed_has at ops.UnreadList [] _ (λ e. cc) (row_has (many unread) cs tt e)
  list_has at cs e any_text p = tt
  list_has at cs e object_name p = tt

  -- ---- nodes

  module _ (m : ℕ) where
    abbrev mutual
      -- each word and each string of a node of a module has the property
      NodeHas : Node → Type 0
      NodeHas (TextWord place bytes) = P (spot_of m place) bytes
      NodeHas (Quoted place bytes) = P (spot_of m place) bytes
      NodeHas (Branch place inner) = NodesHave inner

      NodesHave : Nodes → Type 0
      NodesHave none = Unit {0}
      NodesHave (next n ns) = NodeHas n × NodesHave ns

    mutual
      unfolding cell_of cells_of

      cell_has : (n : Node) → NodeHas n → (shape : Shape) → IsPlain shape → Has ((cell_of m n).read shape)
      cell_has (TextWord place bytes) h shape p = word_has (spot_of m place) bytes h shape
      cell_has (Quoted place bytes) h shape p = string_has (spot_of m place) bytes h shape
      cell_has (Branch place inner) h shape p = list_has (spot_of m place) (cells_of m inner) (cells_have inner h) shape p

      cells_have : (ns : Nodes) → NodesHave ns → EachCell (cells_of m ns)
      cells_have none h = tt
      cells_have (next n ns) h = (cell_has n h.0, cells_have ns h.1)

    -- ---- statements

    -- a node that is a statement has it in all that it says
    abbrev VerdictHas : Verdict → Type 0
    VerdictHas (Refused i) = Unit {0}
    VerdictHas (Shaped s faults) = WholeIn s.args

    one_verdict : (b : Bool) (x y : Verdict) → VerdictHas x → VerdictHas y → VerdictHas (if b then x else y)
    one_verdict true x y h k = h
    one_verdict false x y h k = k

    reading_has : (context : Context) (at : Spot) (entry : Entry) (r : Option (Reading (Terms Word))) → Have r → VerdictHas (by_reading context at entry r)
    reading_has context at entry None h = tt
    reading_has context at entry (Some r) h = one_verdict (names_its_block context entry.keyword r.value) _ _ h tt

    entry_has : (context : Context) (at : Spot) (word : List ℕ) (cs : List Cell) → EachCell cs → (o : Option Entry) → IsPlainEntry o
        → VerdictHas (by_entry context at word cs o)
    entry_has context at word cs e None p = tt
    entry_has context at word cs e (Some entry) p =
        one_verdict (may_stand context entry) _ _ (reading_has context at entry (read_row entry.row cs) (row_has entry.row cs p e)) tt

    head_has : (context : Context) (at : Spot) (face : Face) (cs : List Cell) → EachCell cs → VerdictHas (by_head context at face cs)
    head_has context at (a_word word) cs e =
        entry_has context at word cs e (entry_named word) (found_plain table word table_plain)
    head_has context at a_string cs e = tt
    head_has context at (a_list head) cs e = tt

    items_have : (context : Context) (at : Spot) (cs : List Cell) → EachCell cs → VerdictHas (by_items context at cs)
    items_have context at [] e = tt
    items_have context at (c ∷ cs) e = head_has context at c.face cs e.1

    inner_has : (n : Node) → NodeHas n → NodesHave (inner_of n)
    inner_has (TextWord place bytes) h = tt
    inner_has (Quoted place bytes) h = tt
    inner_has (Branch place inner) h = h

    verdict_has : (context : Context) (n : Node) → NodeHas n → VerdictHas (verdict_of m context n)
    unfolding verdict_of
    verdict_has context n h =
        items_have context (spot_of m (span_of n)) (cells_of m (inner_of n)) (cells_have (inner_of n) (inner_has n h))

    -- ---- where statements stand

    item_has : (n : Node) (ns : Nodes) → IsItem n ns → NodesHave ns → NodeHas n
    item_has n none i h = elim i [ ]
    item_has n (next k ns) first h = h.0
    item_has n (next k ns) (later i) h = item_has n ns i h.1

    skipped_have : (k : ℕ) (ns : Nodes) → NodesHave ns → NodesHave (skipped k ns)
    unfolding skipped
    skipped_have k none h = tt
    skipped_have zero (next n ns) h = h
    skipped_have (suc k) (next n ns) h = skipped_have k ns h.1

    beside_have : (ns ms : Nodes) → NodesHave ns → NodesHave ms → NodesHave (beside ns ms)
    unfolding beside
    beside_have none ms h k = k
    beside_have (next n ns) ms h k = (h.0, beside_have ns ms h.1 k)

    behind_first_have : (ns : Nodes) → NodesHave ns → NodesHave (all_behind_first ns)
    unfolding all_behind_first
    behind_first_have none h = tt
    behind_first_have (next n ns) h =
        beside_have (skipped 1 (inner_of n)) (all_behind_first ns) (skipped_have 1 (inner_of n) (inner_has n h.0)) (behind_first_have ns h.1)

    within_have : (body : Body) (ns : Nodes) → NodesHave ns → NodesHave (within body ns)
    within_have plain ns h = tt
    within_have (behind k nesting) ns h = skipped_have k ns h
    within_have (branched k) ns h = behind_first_have (skipped k ns) (skipped_have k ns h)

    found_has : (modules : List (List ℕ)) → ((tree : Nodes) → IsText (module_of modules m) tree → NodesHave tree)
        → (context : Context) (n : Node) → FoundIn modules m context n → NodeHas n
    found_has modules have context n (top tree k below text i) = item_has n tree i (have tree text)
    found_has modules have context n (inside d p k s faults f v i) =
        item_has n (body_of s p) i (within_have (entry_of s.keyword).body (inner_of p) (inner_has p (found_has modules have d p f)))

-- ---- the texts

-- how long a part of a text is
range_length : (text : List ℕ) (start end : ℕ) → start ≤ end → end ≤ length text → start + length (slice_range text start end) ≡ end
range_length text start end some inside_text =
    let dropped : length (drop start text) ≡ length text - start = length-drop start text in
    let taken : length (take (end - start) (drop start text)) ≡ end - start = length-take-le (end - start) (drop start text) (omega (arith, dropped, some, inside_text)) in
    omega (arith, taken, some)

-- a part of a text, by its length
by_length : (text bytes : List ℕ) (start end : ℕ) → start ≤ end → end ≤ length text → bytes ≡ slice_range text start end
    → bytes ≡ slice_range text start (start + length bytes)
by_length text bytes start end some inside_text is =
    let last : start + length bytes ≡ end = ap (λ (xs : List ℕ). start + length xs) is ∙ range_length text start end some inside_text in
    is ∙ ap (λ e. slice_range text start e) (sym last)

module _ (modules : List (List ℕ)) (m : ℕ) where
  mutual
    node_written : (depth : ℕ) (n : Node) → IsNode (module_of modules m) depth n → NodeHas (AreWritten modules) m n
    node_written depth (TextWord place bytes) is =
        let w = is.1 in by_length (module_of modules m) bytes place.start place.end (omega (arith, w.some)) w.within is.2
    node_written depth (Quoted place bytes) is =
        let w = is.1 in
        by_length (module_of modules m) bytes place.start place.end (omega (arith, w.ends, w.after)) (omega (arith, w.ends, w.closes.0)) is.2
    node_written depth (Branch place inner) is =
        nodes_written (depth + 1) (place.start + 1) is.2 inner is.5

    nodes_written : (depth from to : ℕ) (ns : Nodes) → AreNodes (module_of modules m) depth from to ns → NodesHave (AreWritten modules) m ns
    nodes_written depth from to none is = tt
    nodes_written depth from to (next n ns) is = (node_written depth n is.1, nodes_written depth (span_of n).end to ns is.2)

  text_written : (tree : Nodes) → IsText (module_of modules m) tree → NodesHave (AreWritten modules) m tree
  text_written tree is = nodes_written 0 0 (length (module_of modules m)) tree is.whole

-- what a written statement says is written so in the modules, and a kept string where its form begins
pub written_whole : (modules : List (List ℕ)) (w : Written) → IsWritten modules w → WholeIn (AreWritten modules) w.statement.args
written_whole modules w (written m context n s faults f v) =
    let node = found_has (AreWritten modules) m modules (text_written modules m) context n f in
    subst (VerdictHas (AreWritten modules) m) v (verdict_has (AreWritten modules) m context n node)

pub words_are_slices : WordsAreSlices
words_are_slices modules w is = each_text_in (AreWritten modules) w.statement.args (written_whole modules w is)
