-- How levels and ranges are read, term by term.
use Rattle.std.specs.Prelude.{MatchOption, Option, None, Some, drop, map, length}
use Rattle.std.proofs.Common.{◌≡◌, ℕ, ◌<◌, ◌≤◌, List, [], ◌∷◌, ◌++◌, get_or, true, false, refl, sym, ◌∙◌, ap, subst, inl, inr, arith}
use Rattle.std.proofs.lemmas.List.{map-append, append_assoc}
use Rattle.std.proofs.lemmas.Option.{none-some}
use Rattle.std.proofs.lemmas.Simd.{map-map}
use Rattle.std.specs.declared.alloc.Global.{Global}
use Rattle.std.specs.declared.vec.Vec.{Vec}
use Rattle.cil_base.specs.declared.bytes.Bytes.{Bytes}
use Rattle.cil_faults.specs.Spots.{spot_at}
use Rattle.cil_faults.specs.declared.spot.Spot.{Spot}
use Rattle.cil_syntax.specs.declared.term.LookedUp.{LookedUp}
use Rattle.cil_syntax.specs.declared.term.Op.{Op}
use Rattle.cil_syntax.specs.declared.term.Op.TheVariants as ops
use Rattle.cil_syntax.specs.declared.term.Term as rust
use Rattle.cil_syntax.specs.declared.term.Term.TheVariants as variants
use Rattle.cil_syntax.specs.declared.term.Word.{Word}
use Rattle.cil_syntax.specs.Said.{all_said, said_of, word_in}
use Rattle.cil_syntax.proofs.SaidLemmas.{first_said, form_said, leaf_said, name_said}
use Rattle.cil_syntax.specs.Scopes.{ScopedWord}
use Rattle.cil_syntax.specs.Terms.{Term, Leaf, Name, Form, Terms, nil, cons}
use Rattle.cil_macros.specs.Item.{all_replaced, all_words_in, replaced, words_in}
use Rattle.cil_macros.specs.ListTerms.{AreAlike, IsAlike}
use Rattle.cil_known.specs.declared.known.Known.{Known}
use Rattle.cil_known.specs.Known.{enabled_in, meant_in}
use Rattle.cil_mls.specs.declared.expression.Valued.{Valued}
use Rattle.cil_mls.specs.declared.level.Level.{Level}
use Rattle.cil_mls.specs.declared.level.Range.{Range}
use Rattle.cil_mls.specs.Bits.{in_words}
use Rattle.cil_mls.specs.Dominance.{has}
use Rattle.cil_mls.specs.Values.{IsValue}
use Rattle.cil_levels.specs.Values.{in_value}
use Rattle.cil_ranges.specs.declared.scale.Scale.{Scale}
use Rattle.cil_ranges.specs.Levels.{Ground, IsLevel, IsNamedLevel, IsNamedRange, IsRange, IsWrittenLevel, IsWrittenRange, SaysLevel, SaysRange, in_behind}
use Rattle.cil_ranges.specs.Reading.{AreRead, BeginsWithWord, HasLevels, HasRanges, IsRead, Measures, SaysNoLevel, is_word, meant}
use Rattle.cil_ranges.proofs.AlikeLemmas.{cons_alike, form_alike, leaf_alike, name_alike, none_alike, same_value, words_alike}

-- ---- what is answered, said of something else

pub match_as : {X A B : Type 0} {P Q : X → Type 0} → (o : Option X) → (A → B) → ((x : X) → P x → Q x) → MatchOption o A P → MatchOption o B Q
match_as None f g h = f h
match_as (Some x) f g h = g x h

-- ---- the words in front

pub first_means : (k : Known) (w : ScopedWord) (rest : Terms ScopedWord) (words more : List (Option ℕ)) → words ≡ map (meant_in k) (all_words_in (cons (Leaf w) rest)) ++ more
    → (get_or words 0 None ≡ meant_in k w) × (drop 1 words ≡ map (meant_in k) (all_words_in rest) ++ more)
unfolding words_in all_words_in
first_means k w rest words more e = (ap (λ r. get_or r 0 None) e, ap (drop 1) e)

one_means : (k : Known) (w : ScopedWord) (words more : List (Option ℕ)) → words ≡ map (meant_in k) (words_in (Leaf w)) ++ more → get_or words 0 None ≡ meant_in k w
unfolding words_in
one_means k w words more e = ap (λ r. get_or r 0 None) e

-- the words of the first of some terms, and those behind
pub words_apart : (k : Known) (u : Term ScopedWord) (vs : Terms ScopedWord) (words more : List (Option ℕ)) → words ≡ map (meant_in k) (all_words_in (cons u vs)) ++ more
    → words ≡ map (meant_in k) (words_in u) ++ (map (meant_in k) (all_words_in vs) ++ more)
unfolding all_words_in
words_apart k u vs words more e =
    e ∙ ap (λ ws. ws ++ more) (map-append (meant_in k) (words_in u) (all_words_in vs)) ∙ append_assoc (map (meant_in k) (words_in u)) (map (meant_in k) (all_words_in vs)) more

-- ---- terms as they are said

-- the first of some terms, and those behind it
pub first_read : (f : Word → ScopedWord) (m : ℕ) (terms : List rust.Term) (first : rust.Term) → 1 ≤ length terms → first ≡ get_or terms 0 first → (us : Terms ScopedWord) → AreAlike (all_replaced (λ at. at) f (all_said m terms)) us
    → (u : Term ScopedWord) × (vs : Terms ScopedWord) × (us ≡ cons u vs) × IsAlike (replaced (λ at. at) f (said_of m first)) u × AreAlike (all_replaced (λ at. at) f (all_said m (drop 1 terms))) vs
unfolding all_replaced
first_read f m terms first some is us same =
    cons_alike (replaced (λ at. at) f (said_of m first)) (all_replaced (λ at. at) f (all_said m (drop 1 terms))) us (subst (λ ts. AreAlike (all_replaced (λ at. at) f ts) us) (first_said m terms first some is) same)

pub none_read : (f : Word → ScopedWord) (m : ℕ) (terms : List rust.Term) → length terms < 1 → (us : Terms ScopedWord) → AreAlike (all_replaced (λ at. at) f (all_said m terms)) us → us ≡ nil
unfolding all_replaced
none_read f m [] l us same = none_alike us same
none_read f m (t ∷ ts) l us same = absurd (omega (arith, l))

-- a word is said as a word, and nothing else is
pub is_leaf_read : (f : Word → ScopedWord) (t : Term Word) (u : Term ScopedWord) → IsAlike (replaced (λ at. at) f t) u → is_word t ≡ is_word u
unfolding replaced
is_leaf_read f (Leaf w) u same = ap is_word (sym (leaf_alike (f w) u same))
is_leaf_read f (Name at bytes) u same = let (bt, is) = name_alike at bytes u same in ap is_word (sym is)
is_leaf_read f (Form at op ts) u same = let (bt, us, is, alike) = form_alike at op (all_replaced (λ at. at) f ts) u same in ap is_word (sym is)

pub the_word : (u : Term ScopedWord) → is_word u ≡ true → (w : ScopedWord) × (u ≡ Leaf w)
the_word (Leaf w) e = (w, refl)
the_word (Name at bytes) e = absurd (let f : false ≡ true = e in cc)
the_word (Form at op ts) e = absurd (let f : false ≡ true = e in cc)

-- ---- a word in front

module _ (f : Word → ScopedWord) (m : ℕ) (terms : List rust.Term) (us : Terms ScopedWord) (same : AreAlike (all_replaced (λ at. at) f (all_said m terms)) us) where
  pub nothing_in_front : length terms < 1 → (w : ScopedWord) (rest : Terms ScopedWord) → us ≡ cons (Leaf w) rest → ⊥
  nothing_in_front l w rest e = let none : nil ≡ cons (Leaf w) rest = sym (none_read f m terms l us same) ∙ e in cc

  pub no_word_in_front : (first : rust.Term) → 1 ≤ length terms → first ≡ get_or terms 0 first → is_word (said_of m first) ≡ false → (w : ScopedWord) (rest : Terms ScopedWord) → us ≡ cons (Leaf w) rest → ⊥
  no_word_in_front first some is isnt w rest e =
      let (u, vs, says, alike, behind) = first_read f m terms first some is us same in
      let front : cons u vs ≡ cons (Leaf w) rest = sym says ∙ e in
      let leaf : u ≡ Leaf w = cc in
      let is_so : false ≡ true = sym isnt ∙ is_leaf_read f (said_of m first) u alike ∙ ap is_word leaf in cc

  pub word_in_front : (first : rust.Term) → 1 ≤ length terms → first ≡ get_or terms 0 first → is_word (said_of m first) ≡ true → (behind : List rust.Term) → behind ≡ drop 1 terms → BeginsWithWord f m behind us
  word_in_front first some is is_so behind cut =
      let (u, vs, says, alike, rest) = first_read f m terms first some is us same in
      let (w, leaf) = the_word u (sym (is_leaf_read f (said_of m first) u alike) ∙ is_so) in
      record { word = w; rest = vs; says = says ∙ ap (λ t. cons t vs) leaf; alike = subst (λ ts. AreAlike (all_replaced (λ at. at) f (all_said m ts)) vs) (sym cut) rest }

-- ---- the value of an expression

-- what `value` answers of a term, said of what is read
module _ (k : Known) (by : Scale) (g : Ground) (measures : Measures k by g) (f : Word → ScopedWord) (m : ℕ) (t : rust.Term) (words : List (Option ℕ)) (r : Valued)
    (valued : (n : ℕ) (h : Word → Option ℕ) (more : List (Option ℕ)) → words ≡ map h (words_in (said_of n t)) ++ more → IsValue by.categories.held.now by.categories.count h more (said_of n t) r) where
  module _ (u : Term ScopedWord) (more : List (Option ℕ)) (read : IsRead k f m t u words more) where
    its_value : IsValue by.categories.held.now by.categories.count (λ w. meant_in k (f w)) more (said_of m t) r
    its_value =
        valued m (λ w. meant_in k (f w)) more
        (read.row ∙ ap (λ ws. map (meant_in k) ws ++ more) (words_alike f (said_of m t) u read.alike) ∙ ap (λ ws. ws ++ more) (map-map (meant_in k) f (words_in (said_of m t))))

    pub words_behind : r.rest.now ≡ more
    words_behind = its_value.rest

    pub value_read : (c : ℕ) → c < 1024 → in_words r.value.words c ≡ in_value g.categories g.values u c
    value_read c l = its_value.value c l ∙ same_value by.categories.held.now by.categories.count (meant_in k) c f (said_of m t) u read.alike ∙ measures.values u c l

-- ---- what stands behind a sensitivity

module _ (k : Known) (by : Scale) (g : Ground) (measures : Measures k by g) (f : Word → ScopedWord) (m : ℕ) (terms : List rust.Term) (us : Terms ScopedWord) (words more : List (Option ℕ)) (read : AreRead k f m terms us words more) where
  pub nothing_behind : length terms < 1 → (set : List ℕ) → ((c : ℕ) → in_words set c ≡ false) → (c : ℕ) → in_words set c ≡ in_behind (enabled_in k) g us c
  nothing_behind l set none c = none c ∙ ap (λ ts. in_behind (enabled_in k) g ts c) (sym (none_read f m terms l us read.alike))

  pub first_behind : (first : rust.Term) → 1 ≤ length terms → first ≡ get_or terms 0 first → (r : Valued)
      → ((n : ℕ) (h : Word → Option ℕ) (rest : List (Option ℕ)) → words ≡ map h (words_in (said_of n first)) ++ rest → IsValue by.categories.held.now by.categories.count h rest (said_of n first) r)
      → (c : ℕ) → c < 1024 → in_words r.value.words c ≡ in_behind (enabled_in k) g us c
  first_behind first some is r valued c l =
      let (u, vs, says, alike, rest) = first_read f m terms first some is us read.alike in
      let apart = words_apart k u vs words more (read.row ∙ ap (λ ts. map (meant_in k) (all_words_in ts) ++ more) says) in
      value_read k by g measures f m first words r valued u (map (meant_in k) (all_words_in vs) ++ more) (record { alike = alike; row = apart }) c l
      ∙ ap (λ ts. in_behind (enabled_in k) g ts c) (sym says)

-- ---- levels that are said

module _ (k : Known) (by : Scale) (g : Ground) (measures : Measures k by g) (us : Terms ScopedWord) (words more : List (Option ℕ)) (row : words ≡ map (meant_in k) (all_words_in us) ++ more) where
  pub no_level_said : ((w : ScopedWord) (rest : Terms ScopedWord) → us ≡ cons (Leaf w) rest → ⊥) → SaysNoLevel (enabled_in k) g us
  no_level_said none w rest n says there = none w rest says

  module _ (w : ScopedWord) (rest : Terms ScopedWord) (says : us ≡ cons (Leaf w) rest) where
    pub front : (get_or words 0 None ≡ meant_in k w) × (drop 1 words ≡ map (meant_in k) (all_words_in rest) ++ more)
    front = first_means k w rest words more (row ∙ ap (λ ts. map (meant_in k) (all_words_in ts) ++ more) says)

    pub no_sensitivity : meant by.sensitivities.now (get_or words 0 None) ≡ None → SaysNoLevel (enabled_in k) g us
    no_sensitivity none v ts n is_v at =
        let same : cons (Leaf w) rest ≡ cons (Leaf v) ts = sym says ∙ is_v in
        let word : w ≡ v = cc in
        let there = (measures.sensitivities v n).0 at in
        none-some n (sym none ∙ ap (meant by.sensitivities.now) (front.0 ∙ ap (meant_in k) word) ∙ there)

    pub level_said : (l : Level) → meant by.sensitivities.now (get_or words 0 None) ≡ Some l.sensitivity → ((c : ℕ) → c < 1024 → has l c ≡ in_behind (enabled_in k) g rest c) → SaysLevel (enabled_in k) g us l
    level_said l there categories = record {
      word = w;
      rest = rest;
      says = says;
      sensitivity = (measures.sensitivities w l.sensitivity).1 (ap (meant by.sensitivities.now) (sym front.0) ∙ there);
      categories = categories;
    }

-- ---- levels that are written out

module _ (k : Known) (g : Ground) (op : Op) (us : Terms ScopedWord) where
  pub not_written : (op ≡ ops.Level → ⊥) → (at : Spot) (l : Level) → IsWrittenLevel (enabled_in k) g (Form at op us) l → ⊥
  not_written isnt at l h = isnt (let e : Form at op us ≡ Form h.at ops.Level h.parts = h.is_form in cc)

  pub written_says : (at : Spot) (l : Level) → IsWrittenLevel (enabled_in k) g (Form at op us) l → SaysLevel (enabled_in k) g us l
  written_says at l h =
      let e : Form at op us ≡ Form h.at ops.Level h.parts = h.is_form in
      let same : us ≡ h.parts = cc in
      subst (λ ts. SaysLevel (enabled_in k) g ts l) (sym same) h.says

  pub none_written : SaysNoLevel (enabled_in k) g us → (at : Spot) (l : Level) → IsWrittenLevel (enabled_in k) g (Form at op us) l → ⊥
  none_written none at l h = let s = written_says at l h in none s.word s.rest l.sensitivity s.says s.sensitivity

  pub says_written : op ≡ ops.Level → (l : Level) → SaysLevel (enabled_in k) g us l → (at : Spot) → IsWrittenLevel (enabled_in k) g (Form at op us) l
  says_written is l h at = record { at = at; parts = us; is_form = ap (λ o. Form at o us) is; says = h }

  pub not_written_range : (op ≡ ops.LevelRange → ⊥) → (at : Spot) (r : Range) → IsWrittenRange (enabled_in k) g (Form at op us) r → ⊥
  not_written_range isnt at r h = isnt (let e : Form at op us ≡ Form h.at ops.LevelRange h.parts = h.is_form in cc)

  pub written_range_says : (at : Spot) (r : Range) → IsWrittenRange (enabled_in k) g (Form at op us) r → SaysRange (enabled_in k) g us r
  written_range_says at r h =
      let e : Form at op us ≡ Form h.at ops.LevelRange h.parts = h.is_form in
      let same : us ≡ h.parts = cc in
      subst (λ ts. SaysRange (enabled_in k) g ts r) (sym same) h.says

  pub says_written_range : op ≡ ops.LevelRange → (r : Range) → SaysRange (enabled_in k) g us r → (at : Spot) → IsWrittenRange (enabled_in k) g (Form at op us) r
  says_written_range is r h at = record { at = at; parts = us; is_form = ap (λ o. Form at o us) is; says = h }

-- ---- the level of a term

module _ (k : Known) (g : Ground) (f : Word → ScopedWord) (m : ℕ) (t : rust.Term) (u : Term ScopedWord) (words more : List (Option ℕ)) (read : IsRead k f m t u words more) where
  -- a word says the word
  read_word : (w : LookedUp) → t ≡ variants.Leaf w → u ≡ Leaf (f (word_in m w))
  unfolding replaced
  read_word w is = leaf_alike (f (word_in m w)) u (subst (λ z. IsAlike (replaced (λ at. at) f z) u) (ap (said_of m) is ∙ leaf_said m w) read.alike)

  read_name : (at : ℕ) (bytes : Bytes) → t ≡ variants.Name at bytes → (bt : Spot) × (u ≡ Name bt bytes)
  unfolding replaced
  read_name at bytes is = name_alike (spot_at m at) bytes u (subst (λ z. IsAlike (replaced (λ at. at) f z) u) (ap (said_of m) is ∙ name_said m at bytes) read.alike)

  -- a form says a form of the same operator
  pub read_form : (op : Op) (at : ℕ) (parts : Vec rust.Term Global) → t ≡ variants.Form op at parts → (slice : List rust.Term) → slice ≡ parts.items
      → (bt : Spot) × (us : Terms ScopedWord) × (u ≡ Form bt op us) × AreRead k f m slice us words more
  unfolding replaced words_in
  read_form op at parts is slice same =
      let (bt, us, says, alike) = form_alike (spot_at m at) op (all_replaced (λ at. at) f (all_said m parts.items)) u (subst (λ z. IsAlike (replaced (λ at. at) f z) u) (ap (said_of m) is ∙ form_said m at op parts) read.alike) in (
        bt,
        us,
        says,
        record {
          alike = subst (λ ts. AreAlike (all_replaced (λ at. at) f (all_said m ts)) us) (sym same) alike;
          row = read.row ∙ ap (λ z. map (meant_in k) (words_in z) ++ more) says;
        },
      )

  pub leaf_level : (levels : List (Option Level)) (o : Option Level) → HasLevels k levels g → (w : LookedUp) → t ≡ variants.Leaf w → o ≡ meant levels (get_or words 0 None)
      → MatchOption o ((l : Level) → IsLevel (enabled_in k) g u l → ⊥) (IsLevel (enabled_in k) g u)
  leaf_level levels o there w is answer =
      let x = f (word_in m w) in
      let leaf : u ≡ Leaf x = read_word w is in
      let row = one_means k x words more (read.row ∙ ap (λ z. map (meant_in k) (words_in z) ++ more) leaf) in
      let same : meant levels (meant_in k x) ≡ o = sym (answer ∙ ap (meant levels) row) in
      subst (λ z. MatchOption o ((l : Level) → IsLevel (enabled_in k) g z l → ⊥) (IsLevel (enabled_in k) g z)) (sym leaf)
      (match_as o
      (λ (isnt : (l : Level) → IsNamedLevel (enabled_in k) g (Leaf x) l → ⊥) l h. elim h [ inl written ↦ (let e : Leaf x ≡ Form written.at ops.Level written.parts = written.is_form in cc) | inr named ↦ isnt l named ])
      (λ l named. inr named)
      (subst (λ z. MatchOption z ((l : Level) → IsNamedLevel (enabled_in k) g (Leaf x) l → ⊥) (IsNamedLevel (enabled_in k) g (Leaf x))) same (there.each x)))

  pub leaf_not_written : (w : LookedUp) → t ≡ variants.Leaf w → (l : Level) → IsWrittenLevel (enabled_in k) g u l → ⊥
  leaf_not_written w is l h = let e : Leaf (f (word_in m w)) ≡ Form h.at ops.Level h.parts = sym (read_word w is) ∙ h.is_form in cc

  pub name_not_written : (at : ℕ) (bytes : Bytes) → t ≡ variants.Name at bytes → (l : Level) → IsWrittenLevel (enabled_in k) g u l → ⊥
  name_not_written at bytes is l h = let (bt, says) = read_name at bytes is in let e : Name bt bytes ≡ Form h.at ops.Level h.parts = sym says ∙ h.is_form in cc

  pub name_level : (at : ℕ) (bytes : Bytes) → t ≡ variants.Name at bytes → (l : Level) → IsLevel (enabled_in k) g u l → ⊥
  name_level at bytes is l h = elim h [
    | inl written ↦ name_not_written at bytes is l written
    | inr named ↦ (let (bt, says) = read_name at bytes is in let e : Name bt bytes ≡ Leaf named.is_declared.word = sym says ∙ named.is_declared.is_word in cc)
  ]

  pub form_written : (op : Op) (at : ℕ) (parts : Vec rust.Term Global) → t ≡ variants.Form op at parts → (slice : List rust.Term) → slice ≡ parts.items → (o : Option Level)
      → ((us : Terms ScopedWord) → AreRead k f m slice us words more
      → MatchOption o ((bt : Spot) (l : Level) → IsWrittenLevel (enabled_in k) g (Form bt op us) l → ⊥) (λ l. (bt : Spot) → IsWrittenLevel (enabled_in k) g (Form bt op us) l))
      → MatchOption o ((l : Level) → IsWrittenLevel (enabled_in k) g u l → ⊥) (IsWrittenLevel (enabled_in k) g u)
  form_written op at parts is slice same o answer =
      let (bt, us, says, read_parts) = read_form op at parts is slice same in
      subst (λ z. MatchOption o ((l : Level) → IsWrittenLevel (enabled_in k) g z l → ⊥) (IsWrittenLevel (enabled_in k) g z)) (sym says)
      (match_as o (λ isnt l h. isnt bt l h) (λ l written. written bt) (answer us read_parts))

  pub form_level : (op : Op) (at : ℕ) (parts : Vec rust.Term Global) → t ≡ variants.Form op at parts → (o : Option Level)
      → MatchOption o ((l : Level) → IsWrittenLevel (enabled_in k) g u l → ⊥) (IsWrittenLevel (enabled_in k) g u) → MatchOption o ((l : Level) → IsLevel (enabled_in k) g u l → ⊥) (IsLevel (enabled_in k) g u)
  form_level op at parts is o answer =
      let (bt, us, says, read_parts) = read_form op at parts is parts.items refl in
      match_as o
      (λ isnt l h. elim h [ inl written ↦ isnt l written | inr named ↦ (let e : Form bt op us ≡ Leaf named.is_declared.word = sym says ∙ named.is_declared.is_word in cc) ])
      (λ l written. inl written)
      answer

  -- and its range
  pub leaf_range : (ranges : List (Option Range)) (o : Option Range) → HasRanges k ranges g → (w : LookedUp) → t ≡ variants.Leaf w → o ≡ meant ranges (get_or words 0 None)
      → MatchOption o ((r : Range) → IsRange (enabled_in k) g u r → ⊥) (IsRange (enabled_in k) g u)
  leaf_range ranges o there w is answer =
      let x = f (word_in m w) in
      let leaf : u ≡ Leaf x = read_word w is in
      let row = one_means k x words more (read.row ∙ ap (λ z. map (meant_in k) (words_in z) ++ more) leaf) in
      let same : meant ranges (meant_in k x) ≡ o = sym (answer ∙ ap (meant ranges) row) in
      subst (λ z. MatchOption o ((r : Range) → IsRange (enabled_in k) g z r → ⊥) (IsRange (enabled_in k) g z)) (sym leaf)
      (match_as o
      (λ (isnt : (r : Range) → IsNamedRange (enabled_in k) g (Leaf x) r → ⊥) r h. elim h [ inl written ↦ (let e : Leaf x ≡ Form written.at ops.LevelRange written.parts = written.is_form in cc) | inr named ↦ isnt r named ])
      (λ r named. inr named)
      (subst (λ z. MatchOption z ((r : Range) → IsNamedRange (enabled_in k) g (Leaf x) r → ⊥) (IsNamedRange (enabled_in k) g (Leaf x))) same (there.each x)))

  pub leaf_not_range : (w : LookedUp) → t ≡ variants.Leaf w → (r : Range) → IsWrittenRange (enabled_in k) g u r → ⊥
  leaf_not_range w is r h = let e : Leaf (f (word_in m w)) ≡ Form h.at ops.LevelRange h.parts = sym (read_word w is) ∙ h.is_form in cc

  pub name_not_range : (at : ℕ) (bytes : Bytes) → t ≡ variants.Name at bytes → (r : Range) → IsWrittenRange (enabled_in k) g u r → ⊥
  name_not_range at bytes is r h = let (bt, says) = read_name at bytes is in let e : Name bt bytes ≡ Form h.at ops.LevelRange h.parts = sym says ∙ h.is_form in cc

  pub name_range : (at : ℕ) (bytes : Bytes) → t ≡ variants.Name at bytes → (r : Range) → IsRange (enabled_in k) g u r → ⊥
  name_range at bytes is r h = elim h [
    | inl written ↦ name_not_range at bytes is r written
    | inr named ↦ (let (bt, says) = read_name at bytes is in let e : Name bt bytes ≡ Leaf named.is_declared.word = sym says ∙ named.is_declared.is_word in cc)
  ]

  pub form_written_range : (op : Op) (at : ℕ) (parts : Vec rust.Term Global) → t ≡ variants.Form op at parts → (slice : List rust.Term) → slice ≡ parts.items → (o : Option Range)
      → ((us : Terms ScopedWord) → AreRead k f m slice us words more
      → MatchOption o ((bt : Spot) (r : Range) → IsWrittenRange (enabled_in k) g (Form bt op us) r → ⊥) (λ r. (bt : Spot) → IsWrittenRange (enabled_in k) g (Form bt op us) r))
      → MatchOption o ((r : Range) → IsWrittenRange (enabled_in k) g u r → ⊥) (IsWrittenRange (enabled_in k) g u)
  form_written_range op at parts is slice same o answer =
      let (bt, us, says, read_parts) = read_form op at parts is slice same in
      subst (λ z. MatchOption o ((r : Range) → IsWrittenRange (enabled_in k) g z r → ⊥) (IsWrittenRange (enabled_in k) g z)) (sym says)
      (match_as o (λ isnt r h. isnt bt r h) (λ r written. written bt) (answer us read_parts))

  pub form_range : (op : Op) (at : ℕ) (parts : Vec rust.Term Global) → t ≡ variants.Form op at parts → (o : Option Range)
      → MatchOption o ((r : Range) → IsWrittenRange (enabled_in k) g u r → ⊥) (IsWrittenRange (enabled_in k) g u) → MatchOption o ((r : Range) → IsRange (enabled_in k) g u r → ⊥) (IsRange (enabled_in k) g u)
  form_range op at parts is o answer =
      let (bt, us, says, read_parts) = read_form op at parts is parts.items refl in
      match_as o
      (λ isnt r h. elim h [ inl written ↦ isnt r written | inr named ↦ (let e : Form bt op us ≡ Leaf named.is_declared.word = sym says ∙ named.is_declared.is_word in cc) ])
      (λ r written. inl written)
      answer
