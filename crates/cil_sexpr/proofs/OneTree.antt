-- A text has at most one tree: each part of it has one end, and its first byte tells its kind.
use Rattle.std.specs.Prelude.{◌≡◌, ◌≢◌, ℕ, ◌+◌, ◌-◌, ◌<◌, ◌⊎◌, List, length, slice_index, slice_range}
use Rattle.std.proofs.Common.{refl, sym, subst, inl, inr, arith}
use Rattle.cil_sexpr.specs.declared.node.Span.{Span}
use Rattle.cil_sexpr.specs.Bytes.{left_bracket, right_bracket, double_quote, semicolon, newline, IsBlank, IsWordByte, HasByte}
use Rattle.cil_sexpr.specs.Laws.{HasOneTree}
use Rattle.cil_sexpr.specs.Text.{IsWord, IsString, IsComment, IsSkipped, nothing, blank, comment, IsNode, AreNodes}
use Rattle.cil_sexpr.specs.Tree.{Node, Word, Quoted, Branch, Nodes, none, next, span_of}

below_or_above : (i j : ℕ) → (i < j) ⊎ ((i ≡ j) ⊎ (j < i))
below_or_above i j = grind arith

module _ (text : List ℕ) where
  -- what ends a run of nodes: the end of the text, or a right bracket
  abbrev Ends : ℕ → Type 0
  Ends k = k < length text → slice_index text k ≡ right_bracket

  -- what ends a run of blanks and comments: the end of the text, or another byte
  abbrev Stops : ℕ → Type 0
  Stops k = k < length text → (IsBlank (slice_index text k) → ⊥) × (slice_index text k ≢ semicolon)

  -- a word, a string or a list may begin here
  abbrev Begins : ℕ → Type 0
  Begins k = (k < length text)
      × (IsWordByte (slice_index text k) ⊎ ((slice_index text k ≡ double_quote) ⊎ (slice_index text k ≡ left_bracket)))

  ends_stops : (k : ℕ) → Ends k → Stops k
  ends_stops k e = λ h. let f : slice_index text k ≡ 41 = e h in grind arith

  begins_stops : (k : ℕ) → Begins k → Stops k
  begins_stops k b = λ h. grind arith

  begins_no_end : (k : ℕ) → Begins k → Ends k → ⊥
  begins_no_end k b e = let f : slice_index text k ≡ 41 = e b.0 in grind arith

  -- a word has one end
  word_one : (start i j : ℕ) → IsWord text start i → IsWord text start j → i ≡ j
  word_one start i j a b =
      elim (below_or_above i j) [
        | inl h ↦ absurd (a.longest (omega arith) (b.inside i (omega arith) h))
        | inr d ↦ elim d [ inl e ↦ e | inr h ↦ absurd (b.longest (omega arith) (a.inside j (omega arith) h)) ]
      ]

  -- a string has one end
  string_one : (start i j : ℕ) → IsString text start i → IsString text start j → i ≡ j
  string_one start i j a b =
      elim (below_or_above a.last b.last) [
        | inl h ↦ absurd ((b.inside a.last a.after h).0 a.closes.1)
        | inr d ↦ elim d [ inl e ↦ omega arith | inr h ↦ absurd ((a.inside b.last b.after h).0 b.closes.1) ]
      ]

  comment_within : (start i j k : ℕ) → IsComment text start i → IsComment text start j → k + 1 ≡ i → i < j → ⊥
  comment_within start i j k a b e h =
      elim (below_or_above start k) [
        | inl l ↦ b.inside k l (omega arith) (a.ends k e (omega arith))
        | inr d ↦ elim d [
          | inl s ↦ let f : slice_index text k ≡ newline = a.ends k e (omega arith) in
              let g : slice_index text start ≡ semicolon = a.opens.1 in
              let same : slice_index text start ≡ newline = rw s f in omega arith
          | inr l ↦ omega arith
        ]
      ]

  -- a comment has one end
  comment_one : (start i j : ℕ) → IsComment text start i → IsComment text start j → i ≡ j
  comment_one start i j a b =
      elim (below_or_above i j) [
        | inl h ↦ absurd (comment_within start i j (i - 1) a b (omega arith) h)
        | inr d ↦ elim d [ inl e ↦ e | inr h ↦ absurd (comment_within start j i (j - 1) b a (omega arith) h) ]
      ]

  -- from one place blanks and comments go on to one stop
  skip_one : (k i j : ℕ) → Stops i → Stops j → IsSkipped text k i → IsSkipped text k j → i ≡ j
  skip_one k i j si sj nothing nothing = refl
  skip_one k i j si sj nothing (blank h b r) = absurd ((si h).0 b)
  skip_one k i j si sj nothing (comment c r) = absurd ((si c.opens.0).1 c.opens.1)
  skip_one k i j si sj (blank h b r) nothing = absurd ((sj h).0 b)
  skip_one k i j si sj (blank h b r) (blank g d q) = skip_one (k + 1) i j si sj r q
  skip_one k i j si sj (blank h b r) (comment c q) = let e : slice_index text k ≡ 59 = c.opens.1 in absurd (grind arith)
  skip_one k i j si sj (comment c r) nothing = absurd ((sj c.opens.0).1 c.opens.1)
  skip_one k i j si sj (comment c r) (blank h b q) = let e : slice_index text k ≡ 59 = c.opens.1 in absurd (grind arith)
  skip_one k i j si sj (comment {stop = s} c r) (comment {stop = t} d q) =
      skip_one s i j si sj r (subst (λ x. IsSkipped text x j) (sym (comment_one k s t c d)) q)

  -- the first byte of a node
  node_begins : (depth : ℕ) (n : Node) → IsNode text depth n → Begins (span_of n).start
  node_begins depth (Word place bytes) h =
      let w : IsWord text place.start place.end = h.1 in (omega arith, inl (w.inside place.start (omega arith) w.some))
  node_begins depth (Quoted place bytes) h = let s : IsString text place.start place.end = h.1 in (s.opens.0, inr (inl s.opens.1))
  node_begins depth (Branch place inner) h = (h.1.0, inr (inr h.1.1))

  word_no_string : (i j e f : ℕ) → i ≡ j → IsWord text i e → IsString text j f → ⊥
  word_no_string i j e f s a b =
      let w : IsWordByte (slice_index text i) = a.inside i (omega arith) a.some in
      let g : slice_index text i ≡ double_quote = rw s b.opens.1 in grind arith

  word_no_list : (i j e : ℕ) → i ≡ j → IsWord text i e → HasByte text j left_bracket → ⊥
  word_no_list i j e s a b =
      let w : IsWordByte (slice_index text i) = a.inside i (omega arith) a.some in
      let g : slice_index text i ≡ left_bracket = rw s b.1 in grind arith

  string_no_list : (i j e : ℕ) → i ≡ j → IsString text i e → HasByte text j left_bracket → ⊥
  string_no_list i j e s a b =
      let f : slice_index text i ≡ double_quote = a.opens.1 in
      let g : slice_index text i ≡ left_bracket = rw s b.1 in omega arith

  same_place : (a b : Span) → a.start ≡ b.start → a.end ≡ b.end → a ≡ b
  same_place a b s e = λ i. record { start = s i; end = e i }

  same_branch : (p q : Span) (is js : Nodes) (i j : ℕ)
      → p.start ≡ q.start → p.end ≡ i + 1 → q.end ≡ j + 1 → (is ≡ js) × (i ≡ j) → Branch p is ≡ Branch q js
  same_branch p q is js i j s e f both =
      let same : p ≡ q = same_place p q s (omega arith) in
      let inner : is ≡ js = both.0 in cc

  same_list : (n m : Node) (ns ms : Nodes) → n ≡ m → ns ≡ ms → next n ns ≡ next m ms
  same_list n m ns ms e f = cc

  -- where a run of nodes ends, no node begins
  no_more : (depth from i : ℕ) (m : Node) → Ends i → IsSkipped text from i → IsSkipped text from (span_of m).start → IsNode text depth m → ⊥
  no_more depth from i m e x y b =
      let begins : Begins (span_of m).start = node_begins depth m b in
      let same : i ≡ (span_of m).start = skip_one from i _ (ends_stops i e) (begins_stops _ begins) x y in
      begins_no_end _ begins (rw same at e)

  -- the first nodes behind one place begin at one place
  same_start : (depth from : ℕ) (n m : Node) → IsSkipped text from (span_of n).start → IsSkipped text from (span_of m).start
      → IsNode text depth n → IsNode text depth m → (span_of n).start ≡ (span_of m).start
  same_start depth from n m x y a b =
      skip_one from _ _ (begins_stops _ (node_begins depth n a)) (begins_stops _ (node_begins depth m b)) x y

  mutual
    -- two nodes that begin at one place are the same
    node_one : (depth : ℕ) (n m : Node) → (span_of n).start ≡ (span_of m).start → IsNode text depth n → IsNode text depth m → n ≡ m
    node_one depth (Word p x) (Word q y) s a b =
        let w : IsWord text p.start q.end = rw s b.1 in
        let same : p ≡ q = same_place p q s (word_one p.start p.end q.end a.1 w) in
        let f : x ≡ slice_range text p.start p.end = a.2 in
        let g : y ≡ slice_range text q.start q.end = b.2 in cc
    node_one depth (Quoted p x) (Quoted q y) s a b =
        let w : IsString text p.start q.end = rw s b.1 in
        let same : p ≡ q = same_place p q s (string_one p.start p.end q.end a.1 w) in
        let f : x ≡ slice_range text p.start p.end = a.2 in
        let g : y ≡ slice_range text q.start q.end = b.2 in cc
    node_one depth (Branch p is) (Branch q js) s a b =
        let there : AreNodes text (depth + 1) (p.start + 1) b.2 js = rw s b.5 in
        same_branch p q is js a.2 b.2 s a.3 b.3
        (are_one (depth + 1) (p.start + 1) a.2 b.2 is js (λ h. a.4.1) (λ h. b.4.1) a.5 there)
    node_one depth (Word p x) (Quoted q y) s a b = absurd (word_no_string p.start q.start p.end q.end s a.1 b.1)
    node_one depth (Quoted p x) (Word q y) s a b = absurd (word_no_string q.start p.start q.end p.end (sym s) b.1 a.1)
    node_one depth (Word p x) (Branch q js) s a b = absurd (word_no_list p.start q.start p.end s a.1 b.1)
    node_one depth (Branch p is) (Word q y) s a b = absurd (word_no_list q.start p.start q.end (sym s) b.1 a.1)
    node_one depth (Quoted p x) (Branch q js) s a b = absurd (string_no_list p.start q.start p.end s a.1 b.1)
    node_one depth (Branch p is) (Quoted q y) s a b = absurd (string_no_list q.start p.start q.end (sym s) b.1 a.1)

    -- nodes that stand from one place on are the same, and end at one place
    are_one : (depth from i j : ℕ) (a b : Nodes) → Ends i → Ends j → AreNodes text depth from i a → AreNodes text depth from j b
        → (a ≡ b) × (i ≡ j)
    are_one depth from i j none none ei ej x y = (refl, skip_one from i j (ends_stops i ei) (ends_stops j ej) x y)
    are_one depth from i j none (next m ms) ei ej x y = absurd (no_more depth from i m ei x y.0 y.1)
    are_one depth from i j (next n ns) none ei ej x y = absurd (no_more depth from j n ej y x.0 x.1)
    are_one depth from i j (next n ns) (next m ms) ei ej x y =
        let first : n ≡ m = node_one depth n m (same_start depth from n m x.0 y.0 x.1 y.1) x.1 y.1 in
        let there : AreNodes text depth (span_of n).end j ms = subst (λ k. AreNodes text depth (span_of k).end j ms) (sym first) y.2 in
        let both : (ns ≡ ms) × (i ≡ j) = are_one depth (span_of n).end i j ns ms ei ej x.2 there in
        (same_list n m ns ms first both.0, both.1)

pub has_one_tree : HasOneTree
has_one_tree text a b x y =
    let ends : (length text < length text) → slice_index text (length text) ≡ right_bracket = λ h. absurd (omega arith) in
    (are_one text 0 0 (length text) (length text) a b ends ends x.whole y.whole).0
