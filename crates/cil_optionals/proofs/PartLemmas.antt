-- The tests over parts say what the definitions over items say.
use Rattle.std.specs.Prelude.{Option, Some, None, slice_get, not, map, ◌==◌}
use Rattle.std.specs.List.{list_all}
use Rattle.std.specs.Option.{option_map_or}
use Rattle.std.proofs.Common.{◌≡◌, ℕ, Bool, true, false, ◌&&◌, ◌||◌, List, [], ◌∷◌, refl, sym, ap, ◌∙◌, arith}
use Rattle.cil_base.specs.Places.{get_contains}
use Rattle.cil_base.specs.Among.{among, equal_number}
use Rattle.cil_blocks.specs.Contents.{is_optional}
use Rattle.cil_blocks.specs.declared.namespaces.Space.{Space}
use Rattle.cil_macros.specs.Item.{Item, OptSet, front, innermost}
use Rattle.cil_names.specs.declared.entry.Entry.{Entry}
use Rattle.cil_names.specs.Laws.{ResolvesByCandidates}
use Rattle.cil_names.specs.PermissionWords.{wanted_candidates}
use Rattle.cil_names.specs.Resolves.{Wanted, resolves, words_of}
use Rattle.cil_optionals.specs.declared.reason.Reason.{Reason}
use Rattle.cil_optionals.specs.declared.reason.Reason.TheVariants.{Missing, ParentOut}
use Rattle.cil_words.specs.Table.{asks}
use Rattle.cil_optionals.specs.Certificate.{left_out, all_but, Holds, parent_out, missing}
use Rattle.cil_optionals.specs.Greatest.{IsGood, is_optional_at}
use Rattle.cil_optionals.specs.Parts.{ArePartsOf, Part, holds_in, is_inside, is_optional_part, is_outside, is_well, is_well_inside, lacks, left_after, names_one, parent_is_out, part_of, word_is_missing}
use Rattle.cil_optionals.proofs.BoolLemmas.{all_at, all_of, and_left, and_of, and_right, implied, implies, map_from, map_or, map_to, not_true, test_of, tested, true_not}

-- the first of the optionals round a statement
front_of : (os : List ℕ) (o : ℕ) → front os ≡ Some o → (rest : List ℕ) × (os ≡ o ∷ rest)
front_of [] o e = absurd (let g : None ≡ Some o = e in cc)
front_of (q ∷ qs) o e = (qs, let g : Some q ≡ Some o = e in ap (λ x. x ∷ qs) (let same : q ≡ o = cc in same))

pub same_number : (n : ℕ) → (n == n) ≡ true
same_number n = grind arith

module _ (law : ResolvesByCandidates) (ss : List Space) (es : List Entry) (xs : List Item) (ps : List Part) (of : ArePartsOf ss es xs ps) where
  abbrev pub cand : Wanted → List ℕ
  cand = wanted_candidates ss es xs

  pub part_there : (o : ℕ) (x : Item) → slice_get xs o ≡ Some x → slice_get ps o ≡ Some (part_of ss es xs x)
  part_there o x e = ap (λ q. slice_get q o) of.parts ∙ map_to (part_of ss es xs) xs o x e

  pub item_there : (o : ℕ) (p : Part) → slice_get ps o ≡ Some p → (x : Item) × (slice_get xs o ≡ Some x) × (p ≡ part_of ss es xs x)
  item_there o p e = map_from (part_of ss es xs) xs o p (ap (λ q. slice_get q o) (sym of.parts) ∙ e)

  pub optional_same : (o : ℕ) → is_optional_part ps o ≡ is_optional_at xs o
  optional_same o = ap (λ q. is_optional_part q o) of.parts ∙ map_or (part_of ss es xs) (λ (p : Part). p.optional) xs o

  -- what is left after some reasons, where these are out
  pub left_is : (rs : List Reason) (out : List ℕ) → ((o : ℕ) → among out o ≡ among (map left_out rs) o) → left_after ps rs ≡ all_but xs out
  left_is rs out f = λ i o. (ap (λ b. b && not (among (map left_out rs) o)) (optional_same o) ∙ ap (λ b. is_optional_at xs o && not b) (sym (f o))) i

  pub names_is : (s : OptSet) (w : Wanted) → resolves xs s w ≡ names_one es s (cand w)
  names_is s w = law ss xs es s w of.namespaces of.entries

  -- the innermost optional round a statement is an optional
  round_there : (i : ℕ) (x : Item) (o : ℕ) → slice_get xs i ≡ Some x → innermost x ≡ Some o → is_optional_at xs o ≡ true
  round_there i x o e inside =
      let round = front_of x.round o inside in
      let there = of.nested x o round.0 (get_contains xs i x e) round.1 in
      test_of (λ y. is_optional y.keyword) (slice_get xs o) there.0 there.1 there.2

  gone : (out : List ℕ) (q : ℕ) → is_optional_at xs q ≡ true → all_but xs out q ≡ false → among out q ≡ true
  gone out q e f = by (is_optional_at xs q) (among out q) e f where
    by : (a b : Bool) → a ≡ true → (a && not b) ≡ false → b ≡ true
    by true true e f = refl
    by true false e f = absurd (let g : true ≡ false = f in cc)
    by false b e f = absurd (let g : false ≡ true = e in cc)

  left_not : (out : List ℕ) (q : ℕ) → among out q ≡ true → all_but xs out q ≡ false
  left_not out q e = by (is_optional_at xs q) (among out q) e where
    by : (a b : Bool) → b ≡ true → (a && not b) ≡ false
    by true true e = refl
    by true false e = absurd (let g : false ≡ true = e in cc)
    by false b e = refl

  -- ---- reasons

  parent_from : (out : List ℕ) (o : ℕ) (x : Item) → slice_get xs o ≡ Some x → is_outside (all_but xs out) (innermost x) ≡ true → Holds xs out (ParentOut o)
  parent_from out o x e h =
      let t = tested (λ p. not (all_but xs out p)) (innermost x) h in
      parent_out o t.0 (record { optional = x; is_there = e; inside = t.1 })
      (gone out t.0 (round_there o x t.0 e t.1) (not_true (all_but xs out t.0) t.2))

  word_from : (out : List ℕ) (o i j : ℕ) (x : Item) → slice_get xs i ≡ Some x
      → word_is_missing (names_one es (all_but xs out)) o j (part_of ss es xs x) ≡ true → Holds xs out (Missing o i j)
  word_from out o i j x e h =
      let s = all_but xs out in
      let a = and_left (is_inside o (innermost x)) (lacks (names_one es s) (asks ss es xs x) j) h in
      let b = and_right (is_inside o (innermost x)) (lacks (names_one es s) (asks ss es xs x) j) h in
      let q = tested (λ p. p == o) (innermost x) a in
      let own : innermost x ≡ Some o = q.1 ∙ ap Some (equal_number q.0 o q.2) in
      let ds = tested (λ ds. not (names_one es s ds)) (slice_get (asks ss es xs x) j) b in
      let w = map_from cand (words_of x) j ds.0 ds.1 in
      missing o i j w.0 (record { statement = x; is_there = e; own = own; word = w.1 })
      (names_is s w.0 ∙ ap (names_one es s) (sym w.2) ∙ not_true (names_one es s ds.0) ds.2)

  pub holds_from : (out : List ℕ) (r : Reason) → holds_in ps (all_but xs out) (names_one es (all_but xs out)) r ≡ true → Holds xs out r
  holds_from out (ParentOut o) h =
      let t = tested (parent_is_out (all_but xs out)) (slice_get ps o) h in
      let x = item_there o t.0 t.1 in
      parent_from out o x.0 x.1 (ap (parent_is_out (all_but xs out)) (sym x.2) ∙ t.2)
  holds_from out (Missing o i j) h =
      let t = tested (word_is_missing (names_one es (all_but xs out)) o j) (slice_get ps i) h in
      let x = item_there i t.0 t.1 in
      word_from out o i j x.0 x.1 (ap (word_is_missing (names_one es (all_but xs out)) o j) (sym x.2) ∙ t.2)

  pub holds_to : (out : List ℕ) (r : Reason) → Holds xs out r → holds_in ps (all_but xs out) (names_one es (all_but xs out)) r ≡ true
  holds_to out (ParentOut o) (parent_out q p parent there) =
      test_of (parent_is_out (all_but xs out)) (slice_get ps o) (part_of ss es xs parent.optional) (part_there o parent.optional parent.is_there)
      (test_of (λ p. not (all_but xs out p)) (innermost parent.optional) p parent.inside (true_not (all_but xs out p) (left_not out p there)))
  holds_to out (Missing o i j) (missing q k l w own fails) =
      let s = all_but xs out in
      let x = own.statement in
      test_of (word_is_missing (names_one es s) o j) (slice_get ps i) (part_of ss es xs x) (part_there i x own.is_there)
      (and_of (is_inside o (innermost x)) (lacks (names_one es s) (asks ss es xs x) j)
      (test_of (λ p. p == o) (innermost x) o own.own (same_number o))
      (test_of (λ ds. not (names_one es s ds)) (slice_get (asks ss es xs x) j) (cand w)
      (map_to cand (words_of x) j w own.word)
      (true_not (names_one es s (cand w)) (sym (names_is s w) ∙ fails))))

  -- ---- what is good

  abbrev AllWell : OptSet → Type 0
  AllWell s = (at : ℕ) (p : Part) → slice_get ps at ≡ Some p → is_well s (names_one es s) at p ≡ true

  well_inside : (s : OptSet) → AllWell s → (at : ℕ) (x : Item) (q : ℕ) → slice_get xs at ≡ Some x → innermost x ≡ Some q
      → is_well_inside s (names_one es s) at (asks ss es xs x) q ≡ true
  well_inside s well at x q e inside =
      ap (λ z. option_map_or (is_well_inside s (names_one es s) at (asks ss es xs x)) z true) (sym inside) ∙ well at (part_of ss es xs x) (part_there at x e)

  pub good_from : (s : OptSet) → ((o : ℕ) → s o ≡ true → is_optional_at xs o ≡ true) → AllWell s → IsGood xs s
  good_from s optionals well = record {
    optionals = optionals;
    parents = λ o p h parent.
        let w = well_inside s well o parent.optional p parent.is_there parent.inside in
        implied (s o) (s p) (and_left (not (s o) || s p) (not (s p) || list_all (names_one es s) (asks ss es xs parent.optional)) w) h;
    words = λ o i j w h own.
        let x = own.statement in
        let t = well_inside s well i x o own.is_there own.own in
        let all : list_all (names_one es s) (asks ss es xs x) ≡ true =
        implied (s o) _ (and_right (not (s i) || s o) (not (s o) || list_all (names_one es s) (asks ss es xs x)) t) h in
        names_is s w
        ∙ all_at (names_one es s) (asks ss es xs x) j (cand w) all (map_to cand (words_of x) j w own.word);
  }

  well_item : (s : OptSet) → IsGood xs s → (at : ℕ) (x : Item) → slice_get xs at ≡ Some x → (inside : Option ℕ) → innermost x ≡ inside
      → option_map_or (is_well_inside s (names_one es s) at (asks ss es xs x)) inside true ≡ true
  well_item s good at x e None same = refl
  well_item s good at x e (Some q) same =
      and_of (not (s at) || s q) (not (s q) || list_all (names_one es s) (asks ss es xs x))
      (implies (s at) (s q) (λ h. good.parents at q h (record { optional = x; is_there = e; inside = same })))
      (implies (s q) (list_all (names_one es s) (asks ss es xs x)) (λ h.
      all_of (names_one es s) (asks ss es xs x) (λ j ds there.
      let w = map_from cand (words_of x) j ds there in
      ap (names_one es s) w.2 ∙ sym (names_is s w.0) ∙ good.words q at j w.0 h (record { statement = x; is_there = e; own = same; word = w.1 }))))

  pub good_to : (s : OptSet) → IsGood xs s → AllWell s
  good_to s good at p e =
      let x = item_there at p e in
      ap (is_well s (names_one es s) at) x.2 ∙ well_item s good at x.0 x.1 (innermost x.0) refl
