-- A term has one range: no two declarations of a name differ.
use Rattle.std.specs.Prelude.{Option}
use Rattle.std.proofs.Common.{◌≡◌, ℕ, List, refl, sym, ◌∙◌, ap, subst, inl, inr}
use Rattle.cil_faults.specs.declared.fault.Fault.{Fault}
use Rattle.cil_syntax.specs.declared.kind.Kind.{Kind}
use Rattle.cil_syntax.specs.declared.kind.Kind.TheVariants as kinds
use Rattle.cil_syntax.specs.declared.kind.Sign.TheVariants as signs
use Rattle.cil_syntax.specs.declared.term.Op.TheVariants as ops
use Rattle.cil_syntax.specs.Scopes.{ScopedWord}
use Rattle.cil_syntax.specs.Terms.{Term, Leaf, Form, nil, cons}
use Rattle.cil_macros.specs.Item.{Item, OptSet, all_replaced, replaced}
use Rattle.cil_names.specs.Declarations.{Symbol, bare, content_of, nowhere}
use Rattle.cil_names.specs.Faults.{ClashFault}
use Rattle.cil_names.specs.Laws.{MeansWhatItNames}
use Rattle.cil_names.specs.Resolves.{found_in}
use Rattle.cil_known.specs.declared.known.Known.{Known}
use Rattle.cil_known.specs.Known.{IsKnown, enabled_in}
use Rattle.cil_known.specs.Spaces.{names}
use Rattle.cil_mls.specs.attrs.SetFaults.{symbol_under}
use Rattle.cil_mls.specs.declared.level.Level.{Level}
use Rattle.cil_mls.specs.declared.level.Range.{Range}
use Rattle.cil_mls.specs.Dominance.{AreSame}
use Rattle.cil_ranges.specs.declared.scale.Scale.{Scale}
use Rattle.cil_ranges.specs.Levels.{Ground, IsLevel, IsNamedLevel, IsNamedRange, IsRange, IsWrittenRange}
use Rattle.cil_ranges.specs.Reading.{HasLevels, Measures}
use Rattle.cil_ranges.specs.Users.{IsSameRange}
use Rattle.cil_ranges.proofs.SameLevelLemmas.{bare_term, dressed, one_symbol_named, same_content, same_level}

-- what a word names does not hang on where it is
names_bare : (xs : List Item) (s : OptSet) (kind : Kind) (w : ScopedWord) (t : Symbol) → names xs s kind w t ≡ names xs s kind (dressed (bare w)) t
unfolding names found_in
names_bare xs s kind w t = refl

same_names : (xs : List Item) (s : OptSet) (kind : Kind) (v w : ScopedWord) (t : Symbol) → bare v ≡ bare w → names xs s kind v t ≡ names xs s kind w t
same_names xs s kind v w t same = names_bare xs s kind v t ∙ ap (λ b. names xs s kind (dressed b) t) same ∙ sym (names_bare xs s kind w t)

module _ (k : Known) (scale : Scale) (g : Ground) (measures : Measures k scale g) (table : List (Option Level)) (levels : HasLevels k table g) where
  -- a word that is another but for its place names the same level
  named_too : (v w : ScopedWord) (l : Level) → bare v ≡ bare w → IsNamedLevel (enabled_in k) g (Leaf v) l → IsNamedLevel (enabled_in k) g (Leaf w) l
  named_too v w l same h =
      let d = h.is_declared in
      let e : Leaf v ≡ Leaf d.word = d.is_word in
      let word : d.word ≡ v = cc in
      record {
        declared = h.declared;
        is_declared = record {
          word = w;
          is_word = refl;
          item = d.item;
          at = d.at;
          name = d.name;
          declares = d.declares;
          says = d.says;
          named = sym (same_names g.items (enabled_in k) kinds.Level d.word w (symbol_under d.item d.name) (ap bare word ∙ same)) ∙ d.named;
        };
        written = h.written;
      }

  -- so do two terms that are the same but for places
  levels_same : (t u : Term ScopedWord) (l m : Level) → bare_term t ≡ bare_term u → IsLevel (enabled_in k) g t l → IsLevel (enabled_in k) g u m → AreSame l m
  unfolding replaced
  levels_same t u l m same a b = elim a [
    | inl x ↦ elim b [
      | inl y ↦ same_level k scale g measures t u l m same x y
      | inr y ↦ (let e : Form nowhere ops.Level (content_of x.parts) ≡ Leaf (bare y.is_declared.word) = sym (ap bare_term x.is_form) ∙ same ∙ ap bare_term y.is_declared.is_word in absurd cc)
    ]
    | inr x ↦ elim b [
      | inl y ↦ (let e : Leaf (bare x.is_declared.word) ≡ Form nowhere ops.Level (content_of y.parts) = sym (ap bare_term x.is_declared.is_word) ∙ same ∙ ap bare_term y.is_form in absurd cc)
      | inr y ↦
          let v = x.is_declared.word in
          let w = y.is_declared.word in
          let e : Leaf (bare v) ≡ Leaf (bare w) = sym (ap bare_term x.is_declared.is_word) ∙ same ∙ ap bare_term y.is_declared.is_word in
          let word : bare v ≡ bare w = cc in
          levels.one w l m (named_too v w l word (subst (λ z. IsNamedLevel (enabled_in k) g z l) x.is_declared.is_word x)) (subst (λ z. IsNamedLevel (enabled_in k) g z m) y.is_declared.is_word y)
    ]
  ]

  written_same : (t u : Term ScopedWord) (r p : Range) → bare_term t ≡ bare_term u → IsWrittenRange (enabled_in k) g t r → IsWrittenRange (enabled_in k) g u p → IsSameRange r p
  unfolding replaced all_replaced
  written_same t u r p same a b =
      let forms : Form nowhere ops.LevelRange (content_of a.parts) ≡ Form nowhere ops.LevelRange (content_of b.parts) = sym (ap bare_term a.is_form) ∙ same ∙ ap bare_term b.is_form in
      let parts : content_of a.parts ≡ content_of b.parts = cc in
      let says : cons (bare_term a.says.low) (cons (bare_term a.says.high) nil) ≡ cons (bare_term b.says.low) (cons (bare_term b.says.high) nil) = sym (ap content_of a.says.says) ∙ parts ∙ ap content_of b.says.says in
      let low : bare_term a.says.low ≡ bare_term b.says.low = cc in
      let high : bare_term a.says.high ≡ bare_term b.says.high = cc in
      record {
        low = levels_same a.says.low b.says.low r.low p.low low a.says.of_low b.says.of_low;
        high = levels_same a.says.high b.says.high r.high p.high high a.says.of_high b.says.of_high;
      }

  module _ (sections : Kind → List (List ℕ)) (known : IsKnown k g.items sections) (law : MeansWhatItNames) (apart : (f : Fault) → ClashFault g.items f → ⊥) where
    named_same : (t : Term ScopedWord) (r p : Range) → IsNamedRange (enabled_in k) g t r → IsNamedRange (enabled_in k) g t p → IsSameRange r p
    named_same t r p a b =
        let d = a.is_declared in
        let e = b.is_declared in
        let words : Leaf d.word ≡ Leaf e.word = sym d.is_word ∙ e.is_word in
        let word : e.word ≡ d.word = cc in
        let symbol = one_symbol_named k g sections known law kinds.LevelRange signs.LevelRanges refl d.word d.item e.item d.name e.name d.named
        (ap (λ z. names g.items (enabled_in k) kinds.LevelRange z (symbol_under e.item e.name)) (sym word) ∙ e.named) in
        written_same a.declared b.declared r p
        (same_content g.items (enabled_in k) apart kinds.LevelRange (λ z. absurd cc) d.item e.item d.at e.at d.name e.name d.declares e.declares symbol a.declared b.declared d.says e.says) a.written b.written

    pub one_range : (t : Term ScopedWord) (r p : Range) → IsRange (enabled_in k) g t r → IsRange (enabled_in k) g t p → IsSameRange r p
    one_range t r p a b = elim a [
      | inl x ↦ elim b [
        | inl y ↦ written_same t t r p refl x y
        | inr y ↦ (let e : Form x.at ops.LevelRange x.parts ≡ Leaf y.is_declared.word = sym x.is_form ∙ y.is_declared.is_word in absurd cc)
      ]
      | inr x ↦ elim b [
        | inl y ↦ (let e : Form y.at ops.LevelRange y.parts ≡ Leaf x.is_declared.word = sym y.is_form ∙ x.is_declared.is_word in absurd cc)
        | inr y ↦ named_same t r p x y
      ]
    ]
