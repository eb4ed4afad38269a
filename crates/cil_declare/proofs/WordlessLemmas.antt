-- A statement with no word says the same wherever it is placed.
use Rattle.std.specs.Prelude.{Some}
use Rattle.std.proofs.Common.{◌≡◌, ℕ, true, [], refl, sym, ◌∙◌, ap}
use Rattle.cil_syntax.specs.Terms.{Term, Leaf, Name, Form, Terms, nil, cons}
use Rattle.cil_syntax.specs.Written.{Written}
use Rattle.cil_macros.specs.Item.{all_words_in, words_in}
use Rattle.cil_macros.specs.Items.{Kept, item_at, placed_at, says_as_written}
use Rattle.cil_macros.specs.Macros.{all_standing}
use Rattle.cil_macros.specs.Placed.{all_filled, filled}
use Rattle.cil_macros.specs.Walks.{written_in}
use Rattle.cil_macros.proofs.SaidTerms.{said_terms}
use Rattle.cil_names.specs.Declarations.{content_of}
use Rattle.cil_names.proofs.WordedLemmas.{none_both}
use Rattle.cil_declare.specs.Rows.{behind, content_at}
use Rattle.cil_declare.specs.Wordless.{IsOfStatement, IsWordless}

module _ {L M : Type 0} (f g : L → Term M) where
  mutual
    unfolding words_in all_words_in filled all_filled

    term_alike : (t : Term L) → words_in t ≡ [] → filled f t ≡ filled g t
    term_alike (Leaf w) e = absurd cc
    term_alike (Name at bytes) e = refl
    term_alike (Form at op parts) e = ap (Form at op) (all_alike parts e)

    all_alike : (ts : Terms L) → all_words_in ts ≡ [] → all_filled f ts ≡ all_filled g ts
    all_alike nil e = refl
    all_alike (cons t ts) e =
        let (first, rest) = none_both (words_in t) (all_words_in ts) e in
        let p = term_alike t first in
        let q = all_alike ts rest in
        λ i. cons (p i) (q i)

-- two instances of one statement without words
pub one_content : (i : Kept) (a b k : ℕ) → says_as_written (item_at i a).keyword ≡ true → says_as_written (item_at i b).keyword ≡ true → IsWordless i a k → IsOfStatement i b k
    → content_at i (Some a) ≡ content_at i (Some b)
one_content i a b k first second wordless of =
    let p = placed_at i a in
    let q = placed_at i b in
    let same : p.standing.statement ≡ q.standing.statement = wordless.of ∙ sym of in
    let here = said_terms (written_in i.0) (all_standing i.0) p p.standing.statement.statement.keyword p.standing.statement.statement.args first in
    let there = said_terms (written_in i.0) (all_standing i.0) q q.standing.statement.statement.keyword q.standing.statement.statement.args second in
    ap (λ ts. content_of (behind ts))
    (here.are ∙ all_alike here.term there.term p.standing.statement.statement.args wordless.wordless
    ∙ ap (λ (w : Written). all_filled there.term w.statement.args) same
    ∙ sym there.are)
