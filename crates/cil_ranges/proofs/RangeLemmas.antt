-- How ranges are read: two levels, one behind the other.
use Rattle.std.specs.Prelude.{Option, map, length}
use Rattle.std.proofs.Common.{◌≡◌, ℕ, ◌≤◌, List, [], ◌∷◌, ◌++◌, get_or, refl, sym, ◌∙◌, ap, subst}
use Rattle.cil_syntax.specs.declared.term.Term as rust
use Rattle.cil_syntax.specs.declared.term.Word.{Word}
use Rattle.cil_syntax.specs.Said.{all_said, said_of}
use Rattle.cil_syntax.specs.Scopes.{ScopedWord}
use Rattle.cil_syntax.specs.Terms.{Term, Terms, nil, cons}
use Rattle.cil_macros.specs.Item.{all_replaced, all_words_in, replaced, words_in}
use Rattle.cil_macros.specs.ListTerms.{AreAlike}
use Rattle.cil_known.specs.declared.known.Known.{Known}
use Rattle.cil_known.specs.Known.{enabled_in, meant_in}
use Rattle.cil_mls.specs.declared.level.Level.{Level}
use Rattle.cil_mls.specs.declared.level.Range.{Range}
use Rattle.cil_mls.proofs.ValueLemmas.{two_of}
use Rattle.cil_ranges.specs.Levels.{Ground, IsLevel, SaysRange}
use Rattle.cil_ranges.specs.Reading.{AreRead, IsRead}
use Rattle.cil_ranges.proofs.AlikeLemmas.{cons_alike, none_alike}
use Rattle.cil_ranges.proofs.ReadLemmas.{first_read, words_apart}

-- terms that say two terms are two
pub two_terms : (f : Word → ScopedWord) (m : ℕ) (terms : List rust.Term) (a b : Term ScopedWord) → AreAlike (all_replaced (λ at. at) f (all_said m terms)) (cons a (cons b nil)) → length terms ≡ 2
unfolding all_replaced
two_terms f m [] a b same = absurd (let e = none_alike (cons a (cons b nil)) same in let g : cons a (cons b nil) ≡ nil = e in cc)
two_terms f m (s ∷ []) a b same =
    let (u, vs, says, one, rest) = cons_alike (replaced (λ at. at) f (said_of m s)) nil (cons a (cons b nil)) same in
    let g : cons a (cons b nil) ≡ cons u nil = says ∙ ap (cons u) (none_alike vs rest) in absurd cc
two_terms f m (s ∷ (t ∷ [])) a b same = refl
two_terms f m (s ∷ (t ∷ (z ∷ zs))) a b same =
    let (u, vs, says, one, rest) = cons_alike (replaced (λ at. at) f (said_of m s)) (all_replaced (λ at. at) f (all_said m (t ∷ z ∷ zs))) (cons a (cons b nil)) same in
    let (v, ws, more, other, last) = cons_alike (replaced (λ at. at) f (said_of m t)) (all_replaced (λ at. at) f (all_said m (z ∷ zs))) vs rest in
    let (w, xs, end, third, others) = cons_alike (replaced (λ at. at) f (said_of m z)) (all_replaced (λ at. at) f (all_said m zs)) ws last in
    let g : cons a (cons b nil) ≡ cons u (cons v (cons w xs)) = says ∙ ap (cons u) (more ∙ ap (cons v) end) in absurd cc

module _ (k : Known) (g : Ground) (f : Word → ScopedWord) (m : ℕ) (terms : List rust.Term) (us : Terms ScopedWord) (words more : List (Option ℕ)) (read : AreRead k f m terms us words more) where
  pub not_two_said : (length terms ≡ 2 → ⊥) → (r : Range) → SaysRange (enabled_in k) g us r → ⊥
  not_two_said isnt r h = isnt (two_terms f m terms h.low h.high (subst (AreAlike (all_replaced (λ at. at) f (all_said m terms))) h.says read.alike))

  -- the first of them has no level
  pub no_low : (a : rust.Term) → 1 ≤ length terms → a ≡ get_or terms 0 a
      → ((u : Term ScopedWord) (rest : List (Option ℕ)) → IsRead k f m a u words rest → (l : Level) → IsLevel (enabled_in k) g u l → ⊥) → (r : Range) → SaysRange (enabled_in k) g us r → ⊥
  no_low a some is_a none r h =
      let (u, vs, says, alike, rest) = first_read f m terms a some is_a us read.alike in
      let apart = words_apart k u vs words more (read.row ∙ ap (λ ts. map (meant_in k) (all_words_in ts) ++ more) says) in
      let e : cons u vs ≡ cons h.low (cons h.high nil) = sym says ∙ h.says in
      let same : h.low ≡ u = cc in
      none u (map (meant_in k) (all_words_in vs) ++ more) (record { alike = alike; row = apart }) r.low (subst (λ t. IsLevel (enabled_in k) g t r.low) same h.of_low)

  module _ (a b : rust.Term) (len : length terms ≡ 2) (is_a : a ≡ get_or terms 0 a) (is_b : b ≡ get_or terms 1 b) where
    -- what the two say
    pub record AreTwo : Type 0 where
      pub low : Term ScopedWord
      pub high : Term ScopedWord
      pub says : us ≡ cons low (cons high nil)
      pub first : IsRead k f m a low words (map (meant_in k) (words_in high) ++ more)
      pub second : (rest : List (Option ℕ)) → rest ≡ map (meant_in k) (words_in high) ++ more → IsRead k f m b high rest more

    pub two_read : AreTwo
    unfolding all_replaced all_words_in
    two_read =
        let whole : terms ≡ a ∷ b ∷ [] = two_of terms a b len ∙ ap (λ (z : rust.Term). z ∷ get_or terms 1 b ∷ []) (sym is_a) ∙ ap (λ (z : rust.Term). a ∷ z ∷ []) (sym is_b) in
        let same : AreAlike (all_replaced (λ at. at) f (all_said m (a ∷ b ∷ []))) us = subst (λ ts. AreAlike (all_replaced (λ at. at) f (all_said m ts)) us) whole read.alike in
        let (u, vs, says, one, rest) = cons_alike (replaced (λ at. at) f (said_of m a)) (cons (replaced (λ at. at) f (said_of m b)) nil) us same in
        let (v, ws, last, other, none) = cons_alike (replaced (λ at. at) f (said_of m b)) nil vs rest in
        let behind : vs ≡ cons v nil = last ∙ ap (cons v) (none_alike ws none) in
        let all : us ≡ cons u (cons v nil) = says ∙ ap (cons u) behind in
        let apart = words_apart k u (cons v nil) words more (read.row ∙ ap (λ ts. map (meant_in k) (all_words_in ts) ++ more) all) in
        let end : all_words_in (cons v nil) ≡ words_in v = only (words_in v) in
        record {
          low = u;
          high = v;
          says = all;
          first = record { alike = one; row = apart ∙ ap (λ ws. map (meant_in k) (words_in u) ++ (map (meant_in k) ws ++ more)) end };
          second = λ r is. record { alike = other; row = is };
        } where
          only : {L : Type 0} (ws : List L) → ws ++ [] ≡ ws
          only [] = refl
          only (w ∷ ws) = ap (λ z. w ∷ z) (only ws)

    module _ (two : AreTwo) where
      pub no_high : ((l : Level) → IsLevel (enabled_in k) g two.high l → ⊥) → (r : Range) → SaysRange (enabled_in k) g us r → ⊥
      no_high none r h =
          let e : cons two.low (cons two.high nil) ≡ cons h.low (cons h.high nil) = sym two.says ∙ h.says in
          let same : h.high ≡ two.high = cc in none r.high (subst (λ t. IsLevel (enabled_in k) g t r.high) same h.of_high)

      pub both_said : (r : Range) → IsLevel (enabled_in k) g two.low r.low → IsLevel (enabled_in k) g two.high r.high → SaysRange (enabled_in k) g us r
      both_said r low high = record { low = two.low; high = two.high; says = two.says; of_low = low; of_high = high }
