-- The heads of languages, and nodes that begin with their words.
use Rattle.std.proofs.Common.{◌≡◌, ℕ, ◌+◌, ◌<◌, ◌≤◌, Bool, true, false, ◌&&◌, List, [], ◌∷◌, length, get_or, map, drop, refl, sym, ◌∙◌, ap, Bor, arith, rules}
use Rattle.std.specs.Prelude.{Option, Some, None, find, if◌then◌else◌, ◌++◌}
use Rattle.std.proofs.lemmas.List.Folds.{find-append}
use Rattle.std.specs.Option.{option_or}
use Rattle.std.proofs.lemmas.List.{append-nil, drop_all, get_or_default, length-drop}
use Rattle.cil_sexpr.specs.declared.node.Node as nodes
use Rattle.cil_base.specs.Places.{drop_at}
use Rattle.cil_sexpr.specs.View.{node_of, nodes_of}
use Rattle.cil_syntax.specs.declared.kind.Language.{Language}
use Rattle.cil_syntax.specs.declared.kind.Language.TheVariants as languages
use Rattle.cil_syntax.specs.declared.kind.Sign.{Sign}
use Rattle.cil_syntax.specs.declared.head.Head as rust
use Rattle.cil_syntax.specs.declared.head.Part as parts
use Rattle.cil_syntax.specs.declared.head.Part.{the_lemmas}
use Rattle.cil_syntax.specs.declared.term.Op.{Op}
use Rattle.cil_syntax.specs.Shapes.{Face, a_word, a_string, a_list, fixed, either, looked_up, is_this_word}
use Rattle.cil_syntax.specs.Heads.{names, begins_with, constraint_heads, heads, level_heads, operators, word_before, first_words, Head}
use Rattle.cil_syntax.specs.Readings.{cell_of, cells_of}
use Rattle.cil_syntax.specs.Spoken.{HasHead, HasHeadOf, head_seen, part_of, words_seen}
use Rattle.cil_syntax.proofs.ItemsRead.{cells_more, no_cells}

-- ---- how each part of Rust is seen

pub fixed_seen : (b : Bor (List ℕ)) (op : Op) → part_of (parts.Fixed b op) ≡ fixed b.now op
fixed_seen b op = search (rules, the_lemmas)

pub looked_up_seen : (sign : Sign) → part_of (parts.LookedUp sign) ≡ looked_up sign
looked_up_seen sign = search (rules, the_lemmas)

pub names_seen : (sign : Sign) → part_of (parts.Names sign) ≡ names sign
names_seen sign = search (rules, the_lemmas)

pub or_seen : (b : Bor (List ℕ)) (op : Op) (p : Bor parts.Part) → part_of (parts.Or b op p) ≡ either (fixed b.now op) (part_of p.now)
or_seen b op p = search (rules, the_lemmas)

pub ruleset the_parts = (fixed_seen, looked_up_seen, names_seen, or_seen)

-- ---- nodes that begin with some words

begins_step : (w : List ℕ) (ws : List (List ℕ)) (f : Face) (vs : List (List ℕ)) → begins_with (w ∷ ws) (word_before f vs) ≡ (is_this_word w f && begins_with ws vs)
unfolding begins_with
begins_step w ws (a_word bytes) vs = refl
begins_step w ws a_string vs = refl
begins_step w ws (a_list head) vs = refl

none_begin : (w : List ℕ) (ws : List (List ℕ)) → begins_with (w ∷ ws) [] ≡ false
unfolding begins_with
none_begin w ws = refl

some_begin : (words : List (Bor (List ℕ))) → 0 < length words → begins_with (words_seen words) [] ≡ false
some_begin [] h = absurd (omega (arith, h))
some_begin (w ∷ ws) h = none_begin w.now (words_seen ws)

module _ (text : List ℕ) (ns : List nodes.Node) (words : List (Bor (List ℕ))) where
  abbrev pub begins_from : ℕ → ℕ → Bool
  begins_from m i = begins_with (words_seen (drop i words)) (first_words (cells_of m (nodes_of text (drop i ns))))

  words_more : (i : ℕ) (w : Bor (List ℕ)) → i < length words → w ≡ get_or words i w → words_seen (drop i words) ≡ w.now ∷ words_seen (drop (i + 1) words)
  words_more i w within is = ap words_seen (drop_at words i w w within is)

  pub begins_more : (m i : ℕ) (n : nodes.Node) (w : Bor (List ℕ)) → i < length ns → n ≡ get_or ns i n → i < length words → w ≡ get_or words i w
      → begins_from m i ≡ (is_this_word w.now (cell_of m (node_of text n)).face && begins_from m (i + 1))
  unfolding first_words
  begins_more m i n w within is inside same =
      ap (λ ws. begins_with ws (first_words (cells_of m (nodes_of text (drop i ns))))) (words_more i w inside same)
      ∙ ap (λ cs. begins_with (w.now ∷ words_seen (drop (i + 1) words)) (first_words cs)) (cells_more m text ns i n within is)
      ∙ begins_step w.now (words_seen (drop (i + 1) words)) (cell_of m (node_of text n)).face (first_words (cells_of m (nodes_of text (drop (i + 1) ns))))

  pub begins_all : (m i : ℕ) → length words ≤ i → begins_from m i ≡ true
  unfolding begins_with
  begins_all m i over = ap (λ ws. begins_with (words_seen ws) (first_words (cells_of m (nodes_of text (drop i ns))))) (drop_all i words over)

  -- the same where the word is read with some default
  pub begins_next : (m i : ℕ) (n : nodes.Node) (d : Bor (List ℕ)) (b : Bool) → i < length ns → n ≡ get_or ns i n → i < length words
      → b ≡ is_this_word (get_or words i d).now (cell_of m (node_of text n)).face → begins_from m i ≡ (b && begins_from m (i + 1))
  begins_next m i n d b within is inside same =
      begins_more m i n (get_or words i d) within is inside (get_or_default words i d (get_or words i d) inside)
      ∙ ap (λ (c : Bool). c && begins_from m (i + 1)) (sym same)

  pub begins_short : (m i : ℕ) → length ns ≤ i → i < length words → begins_from m i ≡ false
  unfolding first_words
  begins_short m i over inside =
      ap (λ cs. begins_with (words_seen (drop i words)) (first_words cs)) (no_cells m text ns i over)
      ∙ some_begin (drop i words) (let h = length-drop i words in omega (arith, h, inside))

-- ---- the first head whose words nodes begin with

module _ (language : Language) (text : List ℕ) (ns : List nodes.Node) (hs : List rust.Head) where
  abbrev pub found_from : ℕ → ℕ → Option Head
  found_from m i = find (λ (h : Head). begins_with h.words (first_words (cells_of m (nodes_of text ns)))) (map (head_seen language) (drop i hs))

  pub found_more : (m i : ℕ) (h : rust.Head) (b : Bool) → i < length hs → h ≡ get_or hs i h
      → b ≡ begins_with (words_seen h.words.now) (first_words (cells_of m (nodes_of text ns)))
      → found_from m i ≡ (if b then Some (head_seen language h) else found_from m (i + 1))
  found_more m i h b within is same =
      ap (λ xs. find (λ (x : Head). begins_with x.words (first_words (cells_of m (nodes_of text ns)))) (map (head_seen language) xs)) (drop_at hs i h h within is)
      ∙ ap (λ (c : Bool). if c then Some (head_seen language h) else found_from m (i + 1)) (sym same)

  pub found_none : (m i : ℕ) → length hs ≤ i → found_from m i ≡ None
  found_none m i over = ap (λ xs. find (λ (x : Head). begins_with x.words (first_words (cells_of m (nodes_of text ns)))) (map (head_seen language) xs)) (drop_all i hs over)

  pub found_next : (m i : ℕ) (d : rust.Head) (b : Bool) → i < length hs
      → b ≡ begins_with (words_seen (get_or hs i d).words.now) (first_words (cells_of m (nodes_of text ns)))
      → found_from m i ≡ (if b then Some (head_seen language (get_or hs i d)) else found_from m (i + 1))
  found_next m i d b within same = found_more m i (get_or hs i d) b within (get_or_default hs i d (get_or hs i d) within) same

-- ---- the heads of constraints, and those of levels behind them

pub without_levels : (hs : List Head) → hs ≡ operators languages.Constraints true ++ constraint_heads → heads languages.Constraints ≡ hs ++ []
unfolding heads
without_levels hs same = sym (append-nil hs ∙ same)

pub with_levels : (hs : List Head) → hs ≡ operators languages.LevelConstraints true ++ constraint_heads → heads languages.LevelConstraints ≡ hs ++ level_heads
unfolding heads
with_levels hs same = sym (ap (λ xs. xs ++ level_heads) same)

-- ---- a head of the first of two lists, or else of the second

module _ (language : Language) (text : List ℕ) (ns : List nodes.Node) (hs more : List Head) (all : heads language ≡ hs ++ more) where
  abbrev found_in : ℕ → List Head → Option Head
  found_in m xs = find (λ (h : Head). begins_with h.words (first_words (cells_of m (nodes_of text ns)))) xs

  parted : (m : ℕ) → found_in m (heads language) ≡ option_or (found_in m hs) (found_in m more)
  parted m = ap (found_in m) all ∙ find-append (λ (h : Head). begins_with h.words (first_words (cells_of m (nodes_of text ns)))) hs more

  pub has_first : (h : Bor rust.Head) → HasHeadOf language hs text ns (Some h) → HasHead language text ns (Some h)
  has_first h has m = parted m ∙ ap (λ o. option_or o (found_in m more)) (has m)

  pub has_second : (r : Option (Bor rust.Head)) → HasHeadOf language hs text ns None → HasHeadOf language more text ns r → HasHead language text ns r
  has_second None none has = λ m. parted m ∙ ap (λ o. option_or o (found_in m more)) (none m) ∙ has m
  has_second (Some h) none has = λ m. parted m ∙ ap (λ o. option_or o (found_in m more)) (none m) ∙ has m
