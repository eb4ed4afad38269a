-- Expressions: words by themselves, and lists by the words at their heads.
use Rattle.std.proofs.Common.{◌≡◌, ◌≢◌, ℕ, ◌+◌, ◌<◌, Bool, true, false, ◌&&◌, if◌then◌else◌, List, [], ◌∷◌, ◌++◌, length, drop, refl, sym, ◌∙◌, ap, subst, Bor, arith}
use Rattle.std.specs.Prelude.{◌==◌, Option, Some, None, Result, Ok, Err, IsErrAnd, codes, slice_get, slice_range}
use Rattle.std.specs.declared.vec.Vec.{Vec}
use Rattle.std.specs.declared.alloc.Global.{Global}
use Rattle.std.proofs.lemmas.List.{append-nil, length-drop}
use Rattle.cil_sexpr.specs.declared.node.Node as nodes
use Rattle.cil_sexpr.specs.declared.node.Span.{Span}
use Rattle.cil_sexpr.specs.Tree.{Node, Word as TextWord, Quoted, Branch, span_of}
use Rattle.cil_sexpr.specs.View.{node_of, nodes_of}
use Rattle.cil_faults.specs.declared.code.FaultCode.TheVariants as causes
use Rattle.cil_faults.specs.declared.fault.Fault.{Fault}
use Rattle.cil_syntax.specs.declared.kind.Language.{Language}
use Rattle.cil_syntax.specs.declared.kind.Sign.{Sign}
use Rattle.cil_syntax.specs.declared.head.Head as rust_head
use Rattle.cil_syntax.specs.declared.head.Part as parts
use Rattle.cil_syntax.specs.declared.stop.Stop.{Stop}
use Rattle.cil_syntax.specs.declared.stop.Stop.TheVariants.{OtherShape}
use Rattle.cil_syntax.specs.declared.term.Op.{Op}
use Rattle.cil_syntax.specs.declared.term.Op.TheVariants as ops
use Rattle.cil_faults.specs.declared.spot.Spot.{Spot}
use Rattle.cil_syntax.specs.declared.term.Term as rust
use Rattle.cil_syntax.specs.declared.term.Term.TheVariants as variants
use Rattle.cil_syntax.specs.declared.term.Word.{Word}
use Rattle.cil_syntax.specs.Words.{inner_at, reads, read_sole, read_word}
use Rattle.cil_syntax.specs.Shapes.{Inner, Reading, Row, Shape, expression, fixed, is_this_word, item, list_of, looked_up, many, is_of_sets, tagged, word_of, word_sign, Cell}
use Rattle.cil_syntax.specs.Readings.{formed, head_word, read_behind, read_by_head, read_expression, read_list, read_row, read_tagged, refused_head, cell_of, cells_of}
use Rattle.cil_syntax.specs.Heads.{one_operand, other_op, other_row}
use Rattle.cil_syntax.specs.Spelling.{same_bytes}
use Rattle.cil_syntax.specs.Spoken.{HasHead, behind_seen, part_of}
use Rattle.cil_syntax.specs.Terms.{Term, Terms, nil, spot_of}
use Rattle.cil_faults.specs.Spots.{spot_at}
use Rattle.cil_syntax.specs.Told.{told, IsTold, AreTold, Tells, TellAll}
use Rattle.cil_syntax.proofs.Heads.{word_read, list_read}
use Rattle.std.proofs.lemmas.Bool.{eqb-true, eqb-false}
use Rattle.cil_syntax.proofs.ItemsRead.{length-cells}
use Rattle.cil_syntax.proofs.Laid.{either_read}
use Rattle.cil_syntax.proofs.Languages.{or_seen}
use Rattle.cil_syntax.proofs.Operands.{faulted_so, formed_told, operands_counted, some_of, stop_formed, wrong_operands}

-- ---- words

module _ (text : List ℕ) (m : ℕ) (space : List ℕ) (n : nodes.Node) (place : Span) (language : Language) (is : n ≡ nodes.Word place) where
  abbrev bytes : List ℕ
  bytes = slice_range text place.start place.end

  abbrev every : Bool
  every = is_of_sets language && same_bytes bytes (codes "all")

  alone_read : (o : Option Sign) (b : Bool) → word_sign language ≡ o → every ≡ b → (cell_of m (node_of text n)).read (expression language) ≡ read_sole (spot_of m place) o b bytes
  unfolding read_word
  alone_read o b e f =
      word_read text m n place bytes (expression language) is refl ∙ ap (λ x. read_sole (spot_of m place) x every bytes) e ∙ ap (λ x. read_sole (spot_of m place) o x bytes) f

  pub unworded_told : (old : List Fault) → word_sign language ≡ None → Tells m space ((cell_of m (node_of text n)).read (expression language)) old old (Err OtherShape)
  unworded_told old e = subst (λ w. Tells m space w old old (Err OtherShape)) (sym (alone_read None every e refl)) ([], sym (append-nil old))

  pub every_told : (sign : Sign) (old : List Fault) (v : Vec rust.Term Global) → word_sign language ≡ Some sign → every ≡ true → v.items ≡ []
      → Tells m space ((cell_of m (node_of text n)).read (expression language)) old old (Ok (variants.Form ops.All place.start v))
  every_told sign old v e f empty =
      subst (λ w. Tells m space w old old (Ok (variants.Form ops.All place.start v))) (sym (alone_read (Some sign) true e f))
      (formed_told m space place.start ops.All (reads nil []) old old v (rw empty refl, sym (append-nil old)))

  pub sole_told : (sign : Sign) (r : Result rust.Term Stop) (old new : List Fault) → word_sign language ≡ Some sign → every ≡ false
      → Tells m space ((cell_of m (node_of text n)).read (looked_up sign)) old new r → Tells m space ((cell_of m (node_of text n)).read (expression language)) old new r
  unfolding read_word
  sole_told sign r old new e f told =
      subst (λ w. Tells m space w old new r) (word_read text m n place bytes (looked_up sign) is refl ∙ sym (alone_read (Some sign) false e f)) told

-- ---- lists

pub listed_told : (text : List ℕ) (m : ℕ) (space : List ℕ) (n : nodes.Node) (place : Span) (language : Language) (r : Result rust.Term Stop) (items : Vec nodes.Node Global)
    (inner : List nodes.Node) (old new : List Fault) → n ≡ nodes.List place items → inner ≡ items.items
    → Tells m space (read_expression (spot_of m place) language (cells_of m (nodes_of text inner))) old new r
    → Tells m space ((cell_of m (node_of text n)).read (expression language)) old new r
unfolding read_list
listed_told text m space n place language r items inner old new is same told =
    subst (λ w. Tells m space w old new r) (sym (list_read text m n place items inner (expression language) is same)) told

module _ (m : ℕ) (space : List ℕ) (text : List ℕ) (n : nodes.Node) (place : Span) (items : Vec nodes.Node Global) (inner : List nodes.Node) (is : n ≡ nodes.List place items)
    (same : inner ≡ items.items) (op : Op) (row : Row) (old new : List Fault) where
  abbrev row_reading : Option (Reading (Terms Word))
  row_reading = read_row row (cells_of m (nodes_of text inner))

  list_formed : (cell_of m (node_of text n)).read (list_of op row) ≡ formed (spot_of m place) op [] row_reading
  unfolding read_list
  list_formed = list_read text m n place items inner (list_of op row) is same

  pub list_told : (parts : Vec rust.Term Global) → AreTold m space row_reading old new (Some parts)
      → IsTold m space ((cell_of m (node_of text n)).read (list_of op row)) old new (Some (variants.Form op place.start parts))
  list_told parts so =
      subst (λ w. IsTold m space w old new (Some (variants.Form op place.start parts))) (sym list_formed) (formed_told m space place.start op row_reading old new parts so)

  pub list_stops : (e : Stop) (r : Result rust.Term Stop) → TellAll m space row_reading old new (Err e) → IsErrAnd r (λ x. x ≡ e)
      → Tells m space ((cell_of m (node_of text n)).read (list_of op row)) old new r
  list_stops e r so handed = subst (λ w. Tells m space w old new r) (sym list_formed) (stop_formed m space (spot_of m place) op row_reading old new e r so handed)

module _ (m : ℕ) (space : List ℕ) (at : ℕ) (language : Language) (text : List ℕ) (ns : List nodes.Node) where
  abbrev there : List Cell
  there = cells_of m (nodes_of text ns)

  abbrev whole : Option (Reading (Term Word))
  whole = read_expression (spot_at m at) language there

  headless_read : HasHead language text ns None → whole ≡ formed (spot_at m at) (other_op language) [] (read_row (other_row language) there)
  headless_read h = ap (read_by_head (spot_at m at) language there) (h m)

  pub others_told : (op : Op) (old new : List Fault) (v : Vec rust.Term Global) → HasHead language text ns None → op ≡ other_op language
      → AreTold m space (read_row (other_row language) there) old new (Some v) → IsTold m space whole old new (Some (variants.Form op at v))
  others_told op old new v h e told =
      subst (λ w. IsTold m space w old new (Some (variants.Form op at v))) (sym (headless_read h))
      (subst (λ o. IsTold m space (formed (spot_at m at) o [] (read_row (other_row language) there)) old new (Some (variants.Form op at v))) e
      (formed_told m space at op (read_row (other_row language) there) old new v told))

  pub others_stop : (old new : List Fault) (e : Stop) (r : Result rust.Term Stop) → HasHead language text ns None
      → TellAll m space (read_row (other_row language) there) old new (Err e) → IsErrAnd r (λ x. x ≡ e) → Tells m space whole old new r
  others_stop old new e r h told handed =
      subst (λ w. Tells m space w old new r) (sym (headless_read h))
      (stop_formed m space (spot_at m at) (other_op language) (read_row (other_row language) there) old new e r told handed)

  module _ (h : Bor rust_head.Head) (has : HasHead language text ns (Some h)) (old mid : List Fault) (reported : mid ≡ old ++ told m space (refused_head h.now.taken there)) where
    headed_read : whole ≡ formed (spot_at m at) h.now.op (refused_head h.now.taken there) (read_behind (behind_seen language h.now.behind) there)
    headed_read = ap (read_by_head (spot_at m at) language there) (has m)

    pub behind_told : (new : List Fault) (v : Vec rust.Term Global) → AreTold m space (read_behind (behind_seen language h.now.behind) there) mid new (Some v)
        → IsTold m space whole old new (Some (variants.Form h.now.op at v))
    behind_told new v told =
        subst (λ w. Tells m space w old new (Ok (variants.Form h.now.op at v))) (sym headed_read)
        (faulted_so m space (spot_at m at) h.now.op (refused_head h.now.taken there) (read_behind (behind_seen language h.now.behind) there) old mid new (Ok (variants.Form h.now.op at v)) reported
        (formed_told m space at h.now.op (read_behind (behind_seen language h.now.behind) there) mid new v told))

    pub behind_stops : (new : List Fault) (e : Stop) (r : Result rust.Term Stop) → TellAll m space (read_behind (behind_seen language h.now.behind) there) mid new (Err e)
        → IsErrAnd r (λ x. x ≡ e) → Tells m space whole old new r
    behind_stops new e r told handed =
        subst (λ w. Tells m space w old new r) (sym headed_read)
        (faulted_so m space (spot_at m at) h.now.op (refused_head h.now.taken there) (read_behind (behind_seen language h.now.behind) there) old mid new r reported
        (stop_formed m space (spot_at m at) h.now.op (read_behind (behind_seen language h.now.behind) there) mid new e r told handed))

-- ---- what is behind a head

module _ (m : ℕ) (space : List ℕ) (language : Language) (text : List ℕ) (ns : List nodes.Node) (row : Row) where
  pub nothing_behind : (old : List Fault) → length ns ≡ 0 → AreTold m space (read_behind row (cells_of m (nodes_of text ns))) old old None
  unfolding cells_of
  nothing_behind old e = empty ns e where
    empty : (ks : List nodes.Node) → length ks ≡ 0 → AreTold m space (read_behind row (cells_of m (nodes_of text ks))) old old None
    empty [] e = ([], sym (append-nil old))
    empty (k ∷ ks) e = absurd (omega (arith, e))

  behind_read : 0 < length ns → read_behind row (cells_of m (nodes_of text ns)) ≡ read_row row (cells_of m (nodes_of text (drop 1 ns)))
  unfolding cells_of
  behind_read = some ns where
    some : (ks : List nodes.Node) → 0 < length ks → read_behind row (cells_of m (nodes_of text ks)) ≡ read_row row (cells_of m (nodes_of text (drop 1 ks)))
    some [] h = absurd (omega (arith, h))
    some (k ∷ ks) h = refl

  pub row_behind : (r : Result (Vec rust.Term Global) Stop) (old new : List Fault) → 0 < length ns
      → TellAll m space (read_row row (cells_of m (nodes_of text (drop 1 ns)))) old new r → TellAll m space (read_behind row (cells_of m (nodes_of text ns))) old new r
  row_behind r old new some told = subst (λ w. TellAll m space w old new r) (sym (behind_read some)) told

module _ (m : ℕ) (space : List ℕ) (language : Language) (text : List ℕ) (ns : List nodes.Node) (single : Bool) where
  less : (n : ℕ) → length (drop 1 ns) ≡ n → 0 < n → length ns ≡ n + 1
  less n h some = let e = length-drop 1 ns in omega (arith, e, h, some)

  more : (n : ℕ) → length ns ≡ n + 1 → length (drop 1 ns) ≡ n
  more n h = let e = length-drop 1 ns in omega (arith, e, h)

  some_counted : (b : Bool) → 0 < (if b then 1 else 2)
  some_counted true = omega arith
  some_counted false = omega arith

  pub operands_wrong : (old : List Fault) → 0 < length ns → length ns ≢ (if single then 1 else 2) + 1
      → AreTold m space (read_behind (some_of (expression language) single) (cells_of m (nodes_of text ns))) old old None
  operands_wrong old some h =
      row_behind m space language text ns (some_of (expression language) single) (Err OtherShape) old old some
      (wrong_operands m space text (drop 1 ns) (expression language) single old (λ e. h (less (if single then 1 else 2) e (some_counted single))))

  pub operands_told : (r : Result (Vec rust.Term Global) Stop) (old new : List Fault) → length ns ≡ (if single then 1 else 2) + 1
      → TellAll m space (read_row (many (expression language)) (cells_of m (nodes_of text (drop 1 ns)))) old new r
      → TellAll m space (read_behind (some_of (expression language) single) (cells_of m (nodes_of text ns))) old new r
  operands_told r old new long told =
      row_behind m space language text ns (some_of (expression language) single) r old new (let s = some_counted single in omega (arith, long, s))
      (operands_counted m space text (drop 1 ns) (expression language) single r old new (more (if single then 1 else 2) long) told)

-- ---- what a list has that begins with no head

module _ (m : ℕ) (space : List ℕ) (language : Language) (text : List ℕ) (ns : List nodes.Node) where
  other_so : (b : Bool) → b ≡ is_of_sets language → other_row language ≡ (if b then many (expression language) else one_operand language)
  other_so b e = ap (λ c. if c then many (expression language) else one_operand language) (sym e)

  pub others_wrong : (old : List Fault) (b : Bool) → b ≡ is_of_sets language → b ≡ false → length ns ≢ 1 → AreTold m space (read_row (other_row language) (cells_of m (nodes_of text ns))) old old None
  others_wrong old b e other h =
      subst (λ r. AreTold m space (read_row r (cells_of m (nodes_of text ns))) old old None) (sym (other_so false (sym other ∙ e)))
      (wrong_operands m space text ns (expression language) true old h)

  pub one_other : (r : Result (Vec rust.Term Global) Stop) (old new : List Fault) (b : Bool) → b ≡ is_of_sets language → b ≡ false → length ns ≡ 1
      → TellAll m space (read_row (many (expression language)) (cells_of m (nodes_of text ns))) old new r
      → TellAll m space (read_row (other_row language) (cells_of m (nodes_of text ns))) old new r
  one_other r old new b e other long told =
      subst (λ w. TellAll m space (read_row w (cells_of m (nodes_of text ns))) old new r) (sym (other_so false (sym other ∙ e)))
      (operands_counted m space text ns (expression language) true r old new long told)

  pub sets_other : (r : Result (Vec rust.Term Global) Stop) (old new : List Fault) (b : Bool) → b ≡ is_of_sets language → b ≡ true
      → TellAll m space (read_row (many (expression language)) (cells_of m (nodes_of text ns))) old new r
      → TellAll m space (read_row (other_row language) (cells_of m (nodes_of text ns))) old new r
  sets_other r old new b e sets told =
      subst (λ w. TellAll m space (read_row w (cells_of m (nodes_of text ns))) old new r) (sym (other_so true (sym sets ∙ e))) told

-- ---- a head that is not taken

module _ (m : ℕ) (space : List ℕ) (text : List ℕ) (ns : List nodes.Node) where
  -- nothing is told of one that is taken
  pub taken_told : (taken : Bool) (old : List Fault) → taken ≡ true → old ≡ old ++ told m space (refused_head taken (cells_of m (nodes_of text ns)))
  taken_told taken old e =
      subst (λ b. old ≡ old ++ told m space (refused_head b (cells_of m (nodes_of text ns)))) (sym e) (nothing (cells_of m (nodes_of text ns))) where
        nothing : (cs : List Cell) → old ≡ old ++ told m space (refused_head true cs)
        nothing [] = sym (append-nil old)
        nothing (c ∷ cs) = sym (append-nil old)

  pub empty_told : (taken : Bool) (old : List Fault) → None ≡ slice_get ns 0 → old ≡ old ++ told m space (refused_head taken (cells_of m (nodes_of text ns)))
  unfolding cells_of
  empty_told taken old e = empty ns e where
    empty : (ks : List nodes.Node) → None ≡ slice_get ks 0 → old ≡ old ++ told m space (refused_head taken (cells_of m (nodes_of text ks)))
    empty [] e = sym (append-nil old)
    empty (k ∷ ks) e = absurd cc

  pub refused_told : (taken : Bool) (old new : List Fault) (n : nodes.Node) (at : ℕ) (word : List ℕ) → taken ≡ false → Some n ≡ slice_get ns 0
      → at ≡ (span_of (node_of text n)).start → word ≡ head_word (cells_of m (nodes_of text ns))
      → new ≡ old ++ told m space (inner_at (spot_at m at) causes.Unsupported word ∷ []) → new ≡ old ++ told m space (refused_head taken (cells_of m (nodes_of text ns)))
  unfolding cells_of cell_of
  refused_told taken old new n at word e first begins heads so =
      so ∙ ap (λ (is : List Inner). old ++ told m space is) (some ns first heads ∙ ap (λ b. refused_head b (cells_of m (nodes_of text ns))) (sym e)) where
        placed : (k : Node) → (cell_of m k).at ≡ spot_at m (span_of k).start
        placed (TextWord place bytes) = refl
        placed (Quoted place bytes) = refl
        placed (Branch place inner) = refl

        some : (ks : List nodes.Node) → Some n ≡ slice_get ks 0 → word ≡ head_word (cells_of m (nodes_of text ks))
            → inner_at (spot_at m at) causes.Unsupported word ∷ [] ≡ refused_head false (cells_of m (nodes_of text ks))
        some [] f h = absurd cc
        some (k ∷ ks) f h =
            let same : n ≡ k = cc in
            ap (λ w. inner_at (spot_at m at) causes.Unsupported w ∷ []) h
            ∙ ap (λ (p : Spot). inner_at p causes.Unsupported (word_of (cell_of m (node_of text k)).face) ∷ [])
            (ap (spot_at m) begins ∙ sym (placed (node_of text n)) ∙ ap (λ x. (cell_of m (node_of text x)).at) same)

-- ---- parts

pub empty_by : (n : ℕ) (b : Bool) → b ≡ (n == 0) → b ≡ true → n ≡ 0
empty_by n b e h = eqb-true n 0 (sym e ∙ h)

pub some_by : (n : ℕ) (b : Bool) → b ≡ (n == 0) → b ≡ false → 0 < n
some_by n b e h = let other = eqb-false n 0 (sym e ∙ h) in omega (arith, other)

module _ (m : ℕ) (space : List ℕ) (n : Node) (p : parts.Part) (word : Bor (List ℕ)) (op : Op) (other : Bor parts.Part) (is : p ≡ parts.Or word op other) (old new : List Fault)
    (r : Result rust.Term Stop) (b : Bool) (same : b ≡ is_this_word word.now (cell_of m n).face) where
  or_read : (c : Bool) → b ≡ c → (cell_of m n).read (part_of p) ≡ (if c then (cell_of m n).read (fixed word.now op) else (cell_of m n).read (part_of other.now))
  or_read c e =
      ap (λ x. (cell_of m n).read (part_of x)) is ∙ ap (cell_of m n).read (or_seen word op other) ∙ either_read m n (fixed word.now op) (part_of other.now)
      ∙ ap (λ x. if x then (cell_of m n).read (fixed word.now op) else (cell_of m n).read (part_of other.now)) (sym same ∙ e)

  pub this_told : b ≡ true → Tells m space ((cell_of m n).read (fixed word.now op)) old new r → Tells m space ((cell_of m n).read (part_of p)) old new r
  this_told e told = subst (λ w. Tells m space w old new r) (sym (or_read true e)) told

  pub other_told : b ≡ false → Tells m space ((cell_of m n).read (part_of other.now)) old new r → Tells m space ((cell_of m n).read (part_of p)) old new r
  other_told e told = subst (λ w. Tells m space w old new r) (sym (or_read false e)) told

-- ---- one word or more

module _ (m : ℕ) (space : List ℕ) (text : List ℕ) (ns : List nodes.Node) (shape : Shape) where
  some_read : (cs : List Cell) → 0 < length cs → read_row (item shape (many shape)) cs ≡ read_row (many shape) cs
  unfolding read_row
  some_read [] h = absurd (omega (arith, h))
  some_read (c ∷ cs) h = refl

  none_read : (cs : List Cell) → length cs ≡ 0 → read_row (item shape (many shape)) cs ≡ None
  unfolding read_row
  none_read [] h = refl
  none_read (c ∷ cs) h = absurd (omega (arith, h))

  pub none_told : (old : List Fault) → length ns ≡ 0 → AreTold m space (read_row (item shape (many shape)) (cells_of m (nodes_of text ns))) old old None
  none_told old h = subst (λ w. AreTold m space w old old None) (sym (none_read (cells_of m (nodes_of text ns)) (length-cells m text ns ∙ h))) ([], sym (append-nil old))

  pub some_told : (old new : List Fault) (r : Result (Vec rust.Term Global) Stop) → 0 < length ns
      → TellAll m space (read_row (many shape) (cells_of m (nodes_of text ns))) old new r → TellAll m space (read_row (item shape (many shape)) (cells_of m (nodes_of text ns))) old new r
  some_told old new r h told =
      subst (λ w. TellAll m space w old new r) (sym (some_read (cells_of m (nodes_of text ns)) (let l = length-cells m text ns in omega (arith, l, h)))) told

-- ---- a list that begins with a word

module _ (m : ℕ) (space : List ℕ) (text : List ℕ) (n : nodes.Node) (place : Span) (items : Vec nodes.Node Global) (inner : List nodes.Node) (is : n ≡ nodes.List place items)
    (same : inner ≡ items.items) (word : List ℕ) (op : Op) (row : Row) (f : nodes.Node) (first : Some f ≡ slice_get inner 0) (b : Bool)
    (tells : b ≡ is_this_word word (cell_of m (node_of text f)).face) where
  tagged_first : (ks : List nodes.Node) → Some f ≡ slice_get ks 0 → (c : Bool) → b ≡ c
      → read_tagged (spot_of m place) word op row (cells_of m (nodes_of text ks))
      ≡ (if c then formed (spot_of m place) op [] (read_row row (cells_of m (nodes_of text (drop 1 ks)))) else None)
  unfolding cells_of
  tagged_first [] e c is_b = absurd cc
  tagged_first (k ∷ ks) e c is_b =
      ap (λ x. if x then formed (spot_of m place) op [] (read_row row (cells_of m (nodes_of text ks))) else None)
      (ap (λ x. is_this_word word (cell_of m (node_of text x)).face) (let one : k ≡ f = cc in one) ∙ sym tells ∙ is_b)

  tagged_read : (c : Bool) → b ≡ c → (cell_of m (node_of text n)).read (tagged word op row)
      ≡ (if c then formed (spot_of m place) op [] (read_row row (cells_of m (nodes_of text (drop 1 inner)))) else None)
  unfolding read_list
  tagged_read c is_b = list_read text m n place items inner (tagged word op row) is same ∙ tagged_first inner first c is_b

  pub untagged_told : (old : List Fault) → b ≡ false → Tells m space ((cell_of m (node_of text n)).read (tagged word op row)) old old (Err OtherShape)
  untagged_told old e = subst (λ w. Tells m space w old old (Err OtherShape)) (sym (tagged_read false e)) ([], sym (append-nil old))

  pub tagged_told : (old new : List Fault) (v : Vec rust.Term Global) → b ≡ true → AreTold m space (read_row row (cells_of m (nodes_of text (drop 1 inner)))) old new (Some v)
      → Tells m space ((cell_of m (node_of text n)).read (tagged word op row)) old new (Ok (variants.Form op place.start v))
  tagged_told old new v e told =
      subst (λ w. Tells m space w old new (Ok (variants.Form op place.start v))) (sym (tagged_read true e))
      (formed_told m space place.start op (read_row row (cells_of m (nodes_of text (drop 1 inner)))) old new v told)

  pub tagged_stops : (old new : List Fault) (x : Stop) (r : Result rust.Term Stop) → b ≡ true → TellAll m space (read_row row (cells_of m (nodes_of text (drop 1 inner)))) old new (Err x)
      → IsErrAnd r (λ y. y ≡ x) → Tells m space ((cell_of m (node_of text n)).read (tagged word op row)) old new r
  tagged_stops old new x r e told handed =
      subst (λ w. Tells m space w old new r) (sym (tagged_read true e))
      (stop_formed m space (spot_of m place) op (read_row row (cells_of m (nodes_of text (drop 1 inner)))) old new x r told handed)
