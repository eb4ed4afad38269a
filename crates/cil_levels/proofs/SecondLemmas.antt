-- The value of the second of two terms, over a row of what words mean.
use Rattle.std.proofs.Common.{◌≡◌, ℕ, ◌<◌, ◌≤◌, List, [], ◌∷◌, ◌++◌, length, map, false, refl, sym, ◌∙◌, ap, subst, arith}
use Rattle.std.specs.Prelude.{Option}
use Rattle.std.proofs.lemmas.List.{map-append}
use Rattle.cil_syntax.specs.declared.term.Term as rust
use Rattle.cil_syntax.specs.declared.term.Word.{Word}
use Rattle.cil_syntax.specs.Said.{all_said, said_of}
use Rattle.cil_macros.specs.Item.{all_words_in, words_in}
use Rattle.cil_mls.specs.declared.expression.Held.{Held}
use Rattle.cil_mls.specs.declared.expression.Valued.{Valued}
use Rattle.cil_mls.specs.Bits.{in_words}
use Rattle.cil_mls.specs.Values.{IsValue}
use Rattle.cil_levels.specs.Made.{in_second}
use Rattle.std.proofs.Common.{true}
use Rattle.std.proofs.lemmas.Simd.{map-map}
use Rattle.cil_syntax.specs.declared.program.Statement.{Statement}
use Rattle.cil_syntax.specs.Program.{statement_of}
use Rattle.cil_syntax.specs.Said.{args_of}
use Rattle.cil_syntax.specs.Scopes.{ScopedWord}
use Rattle.cil_syntax.specs.Terms.{Terms}
use Rattle.cil_macros.specs.Item.{all_replaced}
use Rattle.cil_macros.specs.Items.{Kept, SaysWords, item_at, placed_at, says_as_written, word_at}
use Rattle.cil_macros.proofs.FormLemmas.{all_words_across}
use Rattle.cil_macros.proofs.ItemsThere.{keyword_there, said_there}
use Rattle.cil_names.specs.Resolves.{Word as AWord, all_wanted_in, is_mapping}
use Rattle.cil_names.proofs.ReadingLemmas.{plain_said}
use Rattle.cil_known.specs.declared.known.Known.{Known}
use Rattle.cil_known.specs.Known.{meant_in, row_in, value_in}
use Rattle.cil_mls.specs.attrs.Plain.{are_plain}
use Rattle.cil_mls.proofs.attrs_lemmas.PlainLemmas.{all_plain_wanted}
use Rattle.cil_levels.proofs.TermLemmas.{second_replaced}

module _ (helds : List Held) (count : ℕ) (words : List (Option ℕ)) where
  -- what the value is, of terms whose words mean this
  abbrev pub IsSecond : List rust.Term → List ℕ → Type 0
  IsSecond terms set = (m : ℕ) (g : Word → Option ℕ) → words ≡ map g (all_words_in (all_said m terms)) → (c : ℕ) → c < 1024 → in_words set c ≡ in_second helds count g c (all_said m terms)

  none_second : (terms : List rust.Term) → terms ≡ [] → (set : List ℕ) → ((c : ℕ) → in_words set c ≡ false) → IsSecond terms set
  none_second terms e set none m g row c l = none c ∙ ap (λ ts. in_second helds count g c (all_said m ts)) (sym e)

  one_second : (terms : List rust.Term) (a : rust.Term) → terms ≡ a ∷ [] → (set : List ℕ) → ((c : ℕ) → in_words set c ≡ false) → IsSecond terms set
  one_second terms a e set none m g row c l = none c ∙ ap (λ ts. in_second helds count g c (all_said m ts)) (sym e)

  more_second : (terms : List rust.Term) (a b d : rust.Term) (rest : List rust.Term) → terms ≡ a ∷ b ∷ d ∷ rest → (set : List ℕ) → ((c : ℕ) → in_words set c ≡ false) → IsSecond terms set
  more_second terms a b d rest e set none m g row c l = none c ∙ ap (λ ts. in_second helds count g c (all_said m ts)) (sym e)

  pub few_second : (terms : List rust.Term) → length terms < 2 → (set : List ℕ) → ((c : ℕ) → in_words set c ≡ false) → IsSecond terms set
  few_second [] l set none = none_second [] refl set none
  few_second (a ∷ []) l set none = one_second (a ∷ []) a refl set none
  few_second (a ∷ (b ∷ rest)) l set none = absurd (omega (arith, l))

  pub many_second : (terms : List rust.Term) → 3 ≤ length terms → (set : List ℕ) → ((c : ℕ) → in_words set c ≡ false) → IsSecond terms set
  many_second [] l set none = absurd (omega (arith, l))
  many_second (a ∷ []) l set none = absurd (omega (arith, l))
  many_second (a ∷ (b ∷ [])) l set none = absurd (omega (arith, l))
  many_second (a ∷ (b ∷ (d ∷ rest))) l set none = more_second (a ∷ b ∷ d ∷ rest) a b d rest refl set none

  pub two_second : (terms : List rust.Term) (a b : rust.Term) → terms ≡ a ∷ b ∷ [] → (one two : Valued)
      → ((m : ℕ) (g : Word → Option ℕ) (more : List (Option ℕ)) → words ≡ map g (words_in (said_of m a)) ++ more → IsValue helds count g more (said_of m a) one)
      → ((m : ℕ) (g : Word → Option ℕ) (more : List (Option ℕ)) → one.rest.now ≡ map g (words_in (said_of m b)) ++ more → IsValue helds count g more (said_of m b) two)
      → IsSecond terms two.value.words
  unfolding all_words_in
  two_second terms a b e one two first second m g row c l =
      let behind : List (Option ℕ) = map g (words_in (said_of m b) ++ []) in
      let whole : words ≡ map g (words_in (said_of m a)) ++ behind =
      row ∙ ap (λ ts. map g (all_words_in (all_said m ts))) e ∙ map-append g (words_in (said_of m a)) (words_in (said_of m b) ++ []) in
      let rest : one.rest.now ≡ behind = (first m g behind whole).rest in
      let there : one.rest.now ≡ map g (words_in (said_of m b)) ++ [] = rest ∙ map-append g (words_in (said_of m b)) [] in
      (second m g [] there).value c l ∙ ap (λ ts. in_second helds count g c (all_said m ts)) (sym e)

-- what the statement at a place says is what is written, each word with what it says there
module _ (k : Known) (i : Kept) (at : ℕ) (s : Statement) (is : statement_of s ≡ (placed_at i at).standing.statement.statement) (words : SaysWords i at) (written : says_as_written (item_at i at).keyword ≡ true)
    (mapping : is_mapping (item_at i at).keyword ≡ false) (plain : are_plain (args_of s) ≡ true) where
  pub says_there : (item_at i at).args ≡ all_replaced (λ a. a) (word_at i at) (args_of s)
  says_there = said_there i at s is words (ap says_as_written (sym (keyword_there i at s is)) ∙ written)

  -- the row of its words
  pub row_there : row_in k (item_at i at) ≡ map (meant_in k) (all_words_in (item_at i at).args)
  row_there =
      let asks : all_wanted_in (item_at i at).args ≡ map AWord (all_words_in (item_at i at).args) =
      subst (λ (ts : Terms ScopedWord). all_wanted_in ts ≡ map AWord (all_words_in ts)) (sym says_there) (all_plain_wanted (word_at i at) (args_of s) plain) in
      ap (map (value_in k)) (plain_said (item_at i at).keyword (item_at i at).args mapping ∙ asks) ∙ map-map (value_in k) AWord (all_words_in (item_at i at).args)

  row_as : row_in k (item_at i at) ≡ map (λ w. meant_in k (word_at i at w)) (all_words_in (args_of s))
  row_as =
      row_there ∙ ap (λ ts. map (meant_in k) (all_words_in ts)) says_there ∙ ap (map (meant_in k)) (all_words_across (word_at i at) (args_of s))
      ∙ map-map (meant_in k) (word_at i at) (all_words_in (args_of s))

  pub second_there : (helds : List Held) (count : ℕ) (row : List (Option ℕ)) (terms : List rust.Term) (set : List ℕ) → terms ≡ s.args.items → row ≡ row_in k (item_at i at) → IsSecond helds count row terms set
      → (c : ℕ) → c < 1024 → in_words set c ≡ in_second helds count (meant_in k) c (item_at i at).args
  second_there helds count row terms set same is_row second c l =
      let said : all_said s.at.«module» terms ≡ args_of s = ap (all_said s.at.«module») same in
      second s.at.«module» (λ w. meant_in k (word_at i at w)) (is_row ∙ row_as ∙ ap (λ ts. map (λ w. meant_in k (word_at i at w)) (all_words_in ts)) (sym said)) c l
      ∙ ap (in_second helds count (λ w. meant_in k (word_at i at w)) c) said
      ∙ sym (second_replaced (word_at i at) helds count (meant_in k) c (args_of s))
      ∙ ap (in_second helds count (meant_in k) c) (sym says_there)
