-- What a declaration says behind the name: one term, whose words mean what those of the row do.
use Rattle.std.specs.Prelude.{Contains, MatchOption, Option, map, length}
use Rattle.std.proofs.Common.{◌≡◌, ℕ, ◌+◌, Bool, true, false, ◌||◌, not, List, [], ◌∷◌, ◌++◌, get_or, refl, sym, ◌∙◌, ap, subst, arith}
use Rattle.std.specs.List.{list_any}
use Rattle.std.proofs.lemmas.Simd.{map-map}
use Rattle.cil_base.specs.Lists.{contains_none}
use Rattle.cil_base.specs.Searches.{any_from}
use Rattle.cil_faults.specs.declared.spot.Spot.{Spot}
use Rattle.cil_syntax.specs.declared.kind.Keyword.{Keyword}
use Rattle.cil_syntax.specs.declared.kind.Keyword.TheVariants as keywords
use Rattle.cil_syntax.specs.declared.kind.Kind.{Kind}
use Rattle.cil_syntax.specs.declared.kind.Kind.TheVariants as kinds
use Rattle.cil_syntax.specs.declared.term.Term as rust
use Rattle.cil_syntax.specs.declared.term.Word.{Word}
use Rattle.cil_syntax.specs.Said.{all_said}
use Rattle.cil_syntax.specs.Scopes.{ScopedWord}
use Rattle.cil_syntax.specs.Table.{entry_of}
use Rattle.cil_syntax.specs.Terms.{Term, Name, Terms, nil, cons}
use Rattle.cil_macros.specs.Item.{Item, all_replaced, all_words_in, words_in}
use Rattle.cil_macros.specs.Items.{says_lists}
use Rattle.cil_macros.specs.ListTerms.{AreAlike, nowhere}
use Rattle.cil_names.specs.Resolves.{Word as AWord, all_wanted_in, is_mapping}
use Rattle.cil_names.proofs.ReadingLemmas.{plain_said}
use Rattle.cil_known.specs.declared.known.Known.{Known}
use Rattle.cil_known.specs.Known.{meant_in, row_in, value_in}
use Rattle.cil_mls.specs.attrs.Plain.{are_plain}
use Rattle.cil_mls.proofs.attrs_lemmas.PlainLemmas.{all_plain_wanted}
use Rattle.cil_ranges.specs.Levels.{Ground}
use Rattle.cil_ranges.specs.Named.{SaysBehind}
use Rattle.cil_ranges.specs.Reading.{AreRead, IsRead}
use Rattle.cil_ranges.proofs.CheckLemmas.{all_append}
use Rattle.cil_ranges.proofs.AlikeLemmas.{all_wanted_alike, all_words_alike}
use Rattle.cil_ranges.proofs.RangeLemmas.{AreTwo, two_read}
use Rattle.cil_ranges.proofs.ReadLemmas.{match_as}

-- ---- the statements that declare levels and ranges

-- the kinds of what has levels behind its name
abbrev pub is_ranged : Kind → Bool
is_ranged kinds.Level = true
is_ranged kinds.LevelRange = true
is_ranged kind = false

declares_lists : (keyword : Keyword) → (not (list_any is_ranged (entry_of keyword).declares) || says_lists keyword) ≡ true
unfolding entry_of
declares_lists keywords.Level = refl
declares_lists keyword = refl

pub says_lists_too : (keyword : Keyword) (kind : Kind) → is_ranged kind ≡ true → Contains (entry_of keyword).declares kind → says_lists keyword ≡ true
says_lists_too keyword kind ranged c = ap (λ b. not b || says_lists keyword) (sym (any_from is_ranged (entry_of keyword).declares kind c ranged)) ∙ declares_lists keyword

pub no_mapping_declared : (keyword : Keyword) (kind : Kind) → Contains (entry_of keyword).declares kind → is_mapping keyword ≡ false
unfolding entry_of
no_mapping_declared keywords.ClassMapping kind c = absurd (contains_none kind c)
no_mapping_declared keyword kind c = refl

-- ---- what they say

-- where no term is a class with its permissions, the row is that of the words
pub declared_read : (k : Known) (x : Item) (f : Word → ScopedWord) (m : ℕ) (ts : List rust.Term) → is_mapping x.keyword ≡ false → AreAlike (all_replaced (λ at. at) f (all_said m ts)) x.args → are_plain (all_said m ts) ≡ true
    → AreRead k f m ts x.args (row_in k x) []
declared_read k x f m ts isnt alike plain =
    let said = all_replaced (λ at. at) f (all_said m ts) in
    let asks : all_wanted_in x.args ≡ map AWord (all_words_in x.args) =
    sym (all_wanted_alike said x.args alike) ∙ all_plain_wanted f (all_said m ts) plain ∙ ap (map AWord) (all_words_alike f (all_said m ts) said refl ∙ sym (all_words_alike f (all_said m ts) x.args alike)) in
    record { alike = alike; row = ap (map (value_in k)) (plain_said x.keyword x.args isnt ∙ asks) ∙ map-map (value_in k) AWord (all_words_in x.args) ∙ all_append (map (meant_in k) (all_words_in x.args)) }

-- ---- their second term

-- the first of two terms
first_of : (ts : List rust.Term) → length ts ≡ 2 → (a : rust.Term) × (a ≡ get_or ts 0 a)
first_of [] len = absurd (omega (arith, len))
first_of (t ∷ ts) len = (t, refl)

-- how many terms there are
abbrev count : {L : Type 0} → Terms L → ℕ
count nil = 0
count (cons t ts) = count ts + 1

count_replaced : {L M : Type 0} (a : Spot → Spot) (f : L → M) (ts : Terms L) → count (all_replaced a f ts) ≡ count ts
unfolding all_replaced
count_replaced a f nil = refl
count_replaced a f (cons t ts) = ap (λ n. n + 1) (count_replaced a f ts)

count_said : (m : ℕ) (ts : List rust.Term) → count (all_said m ts) ≡ length ts
count_said m [] = refl
count_said m (t ∷ ts) = let e = count_said m ts in omega (arith, e)

module _ {X : Type 0} (Says : Term ScopedWord → X → Type 0) (k : Known) (x : Item) (f : Word → ScopedWord) (m : ℕ) (terms : List rust.Term) (words : List (Option ℕ)) (read : AreRead k f m terms x.args words []) where
  pub not_two_behind : (length terms ≡ 2 → ⊥) → (v : X) → SaysBehind Says x v → ⊥
  not_two_behind isnt v h =
      isnt (sym (count_said m terms) ∙ sym (count_replaced (λ at. at) f (all_said m terms)) ∙ sym (count_replaced (λ at. nowhere) (λ w. w) (all_replaced (λ at. at) f (all_said m terms))) ∙ ap count read.alike
      ∙ count_replaced (λ at. nowhere) (λ w. w) x.args ∙ ap count h.says)

  module _ (g : Ground) (at : Spot) (name : List ℕ) (rest : Terms ScopedWord) (front : x.args ≡ cons (Name at name) rest) (b : rust.Term) (len : length terms ≡ 2) (is_b : b ≡ get_or terms 1 b) where
    -- the first one has no words
    no_words_first : (low : Term ScopedWord) → low ≡ Name at name → (more : List (Option ℕ)) → words ≡ map (meant_in k) (words_in low) ++ more → words ≡ more
    unfolding words_in
    no_words_first low is more row = row ∙ ap (λ z. map (meant_in k) (words_in z) ++ more) is

    pub second_behind : (o : Option X) → ((u : Term ScopedWord) → IsRead k f m b u words [] → MatchOption o ((v : X) → Says u v → ⊥) (Says u)) → MatchOption o ((v : X) → SaysBehind Says x v → ⊥) (SaysBehind Says x)
    second_behind o answer =
        let (a, is_a) = first_of terms len in
        let two : AreTwo k g f m terms x.args words [] read a b len is_a is_b = two_read k g f m terms x.args words [] read a b len is_a is_b in
        let both : cons two.low (cons two.high nil) ≡ cons (Name at name) rest = sym two.says ∙ front in
        let low : two.low ≡ Name at name = cc in
        match_as o
        (λ (isnt : (v : X) → Says two.high v → ⊥) v h.
        let e : cons two.low (cons two.high nil) ≡ cons (Name h.at h.name) (cons h.declared nil) = sym two.says ∙ h.says in
        let same : h.declared ≡ two.high = cc in isnt v (subst (λ z. Says z v) same h.of_declared))
        (λ v says. record { at = at; name = name; declared = two.high; says = two.says ∙ ap (λ z. cons z (cons two.high nil)) low; of_declared = says })
        (answer two.high (two.second words (no_words_first two.low low (map (meant_in k) (words_in two.high) ++ []) two.first.row)))
