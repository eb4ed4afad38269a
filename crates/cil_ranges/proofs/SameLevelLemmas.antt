-- A name has one level: no two declarations of it differ, and a level is what its declaration says, whatever the places of its words.
use Rattle.std.specs.Prelude.{Contains, Option, Some}
use Rattle.std.proofs.Common.{◌≡◌, ℕ, ◌<◌, true, List, [], ◌∷◌, refl, sym, ◌∙◌, ap, subst, inl, inr}
use Rattle.std.specs.List.{list_all}
use Rattle.std.proofs.lemmas.Option.{same_Some}
use Rattle.cil_base.specs.MadeLists.{contains_map}
use Rattle.cil_faults.specs.declared.code.FaultCode.TheVariants as causes
use Rattle.cil_faults.specs.declared.fault.Fault.{Fault}
use Rattle.cil_faults.specs.declared.spot.Spot.{Spot}
use Rattle.cil_faults.specs.Reported.{fault_at}
use Rattle.cil_syntax.specs.declared.kind.Kind.{Kind}
use Rattle.cil_syntax.specs.declared.kind.Kind.TheVariants as kinds
use Rattle.cil_syntax.specs.declared.kind.Sign.{Sign}
use Rattle.cil_syntax.specs.declared.kind.Sign.TheVariants as signs
use Rattle.cil_syntax.specs.declared.name_space.NameSpace.TheVariants as name_spaces
use Rattle.cil_syntax.specs.declared.term.Op.TheVariants as ops
use Rattle.cil_syntax.specs.Kinds.{is_wanted}
use Rattle.cil_syntax.specs.NameSpaces.{name_space}
use Rattle.cil_syntax.specs.Scopes.{ScopedWord}
use Rattle.cil_syntax.specs.Table.{entry_of}
use Rattle.cil_syntax.specs.Terms.{Term, Leaf, Name, Form, Terms, nil, cons}
use Rattle.cil_macros.specs.Item.{Item, OptSet, all_replaced, everybody, replaced}
use Rattle.cil_names.specs.Declarations.{Bare, Declaration, Symbol, bare, by, content_of, declarations, declared_by, nowhere}
use Rattle.cil_names.specs.Entries.{candidates_of}
use Rattle.cil_names.specs.Faults.{ClashFault, clash}
use Rattle.cil_names.specs.Laws.{MeansWhatItNames}
use Rattle.cil_names.proofs.DeclareDecided.{same_declaration}
use Rattle.cil_known.specs.declared.known.Known.{Known}
use Rattle.cil_known.specs.Known.{IsKnown, enabled_in, meant_in}
use Rattle.cil_known.specs.Spaces.{names}
use Rattle.cil_mls.specs.attrs.SetFaults.{DeclaresAt, symbol_under}
use Rattle.cil_mls.specs.attrs.Targets.{IsEntryAt}
use Rattle.cil_levels.specs.Values.{in_value}
use Rattle.cil_mls.specs.declared.level.Level.{Level}
use Rattle.cil_mls.specs.Dominance.{AreSame, has}
use Rattle.cil_mls.specs.Values.{in_term}
use Rattle.cil_ranges.specs.declared.scale.Scale.{Scale}
use Rattle.cil_ranges.specs.Levels.{Ground, IsNamedLevel, IsWrittenLevel, in_behind}
use Rattle.cil_ranges.specs.Reading.{HasLevels, Measures, meant}
use Rattle.cil_ranges.specs.Named.{AreNamed}
use Rattle.cil_ranges.proofs.AlikeLemmas.{value_replaced}
use Rattle.cil_ranges.proofs.DeclaredLemmas.{names_means, one_symbol}
use Rattle.cil_ranges.proofs.NamedLemmas.{each_named}
use Rattle.cil_ranges.proofs.ReadLemmas.{match_as}

-- what a term says but for its places, and the places of its words
abbrev pub bare_term : Term ScopedWord → Term Bare
bare_term = replaced (λ at. nowhere) bare

-- ---- declarations that do not clash

all_enabled : (round : List ℕ) → list_all everybody round ≡ true
all_enabled [] = refl
all_enabled (o ∷ os) = all_enabled os

module _ (xs : List Item) (s : OptSet) (apart : (f : Fault) → ClashFault xs f → ⊥) (kind : Kind) (not_block : name_space kind ≡ name_spaces.Blocks → ⊥) where
  abbrev declared_as : Item → List ℕ → Terms ScopedWord → Declaration
  declared_as x name rest = record { kind = kind; space = x.space; name = name; content = content_of rest }

  declares_so : (x : Item) (at : Spot) (name : List ℕ) → DeclaresAt xs s kind x at name → (rest : Terms ScopedWord) → x.args ≡ cons (Name at name) rest → Contains (declared_by x) (declared_as x name rest)
  declares_so x at name d rest says =
      subst (λ args. Contains (declarations x.space (entry_of x.keyword).declares args) (declared_as x name rest)) (sym says)
      (contains_map (λ (j : Kind). record { kind = j; space = x.space; name = name; content = content_of rest }) (entry_of x.keyword).declares kind d.of_kind)

  -- two declarations of one symbol have the same content
  pub same_content : (x y : Item) (at bt : Spot) (name other : List ℕ) → DeclaresAt xs s kind x at name → DeclaresAt xs s kind y bt other → symbol_under x name ≡ symbol_under y other → (t u : Term ScopedWord)
      → x.args ≡ cons (Name at name) (cons t nil) → y.args ≡ cons (Name bt other) (cons u nil) → bare_term t ≡ bare_term u
  unfolding all_replaced
  same_content x y at bt name other d e same t u says_t says_u = elim (same_declaration (declared_as x name (cons t nil)) (declared_as y other (cons u nil))) [
    | inl are ↦ (let both : cons (bare_term t) nil ≡ cons (bare_term u) nil = ap (λ (z : Declaration). z.content) are in cc)
    | inr differ ↦
        absurd (apart (fault_at causes.Clash at x.space name)
        (clash x at name (cons t nil) (declared_as x name (cons t nil)) (declared_as y other (cons u nil)) d.is_item says_t (declares_so x at name d (cons t nil) says_t)
        (by y (declared_as y other (cons u nil)) e.is_item (all_enabled y.round) (declares_so y bt other e (cons u nil) says_u))
        (record { one_name = ap (λ (z : Symbol). z.name) same; one_namespace = ap (λ (z : Symbol). z.space) same; one_name_space = refl; apart = not_block; differ = differ })))
  ]

-- ---- what they say, but for places

-- the word at no place
abbrev pub dressed : Bare → ScopedWord
dressed b = record { at = nowhere; bytes = b.bytes; sign = b.sign; scope = b.scope }

-- what a word means, wherever it is
means_bare : (k : Known) (w : ScopedWord) → meant_in k w ≡ meant_in k (dressed (bare w))
unfolding candidates_of
means_bare k w = refl

same_meaning : (k : Known) (v w : ScopedWord) → bare v ≡ bare w → meant_in k v ≡ meant_in k w
same_meaning k v w same = means_bare k v ∙ ap (λ b. meant_in k (dressed b)) same ∙ sym (means_bare k w)

module _ (k : Known) (scale : Scale) (g : Ground) (measures : Measures k scale g) where
  value_bare : (e : Term ScopedWord) (c : ℕ) → c < 1024 → in_value g.categories g.values e c ≡ in_term scale.categories.held.now scale.categories.count (λ b. meant_in k (dressed b)) c (bare_term e)
  value_bare e c l =
      sym (measures.values e c l) ∙ ap (λ h. in_term scale.categories.held.now scale.categories.count h c e) (λ i w. means_bare k w i)
      ∙ sym (value_replaced (λ at. nowhere) bare scale.categories.held.now scale.categories.count (λ b. meant_in k (dressed b)) c e)

  same_values : (c : ℕ) → c < 1024 → (ts us : Terms ScopedWord) → content_of ts ≡ content_of us → in_behind (enabled_in k) g ts c ≡ in_behind (enabled_in k) g us c
  unfolding all_replaced
  same_values c l nil nil same = refl
  same_values c l nil (cons u us) same = absurd (let e : nil ≡ cons (bare_term u) (content_of us) = same in cc)
  same_values c l (cons t ts) nil same = absurd (let e : cons (bare_term t) (content_of ts) ≡ nil = same in cc)
  same_values c l (cons t ts) (cons u us) same =
      let e : cons (bare_term t) (content_of ts) ≡ cons (bare_term u) (content_of us) = same in
      let first : bare_term t ≡ bare_term u = cc in
      value_bare t c l ∙ ap (in_term scale.categories.held.now scale.categories.count (λ b. meant_in k (dressed b)) c) first ∙ sym (value_bare u c l)

  pub same_level : (t u : Term ScopedWord) (l m : Level) → bare_term t ≡ bare_term u → IsWrittenLevel (enabled_in k) g t l → IsWrittenLevel (enabled_in k) g u m → AreSame l m
  unfolding replaced all_replaced
  same_level t u l m same a b =
      let forms : Form nowhere ops.Level (content_of a.parts) ≡ Form nowhere ops.Level (content_of b.parts) = sym (ap bare_term a.is_form) ∙ same ∙ ap bare_term b.is_form in
      let parts : content_of a.parts ≡ content_of b.parts = cc in
      let says : cons (Leaf (bare a.says.word)) (content_of a.says.rest) ≡ cons (Leaf (bare b.says.word)) (content_of b.says.rest) = sym (ap content_of a.says.says) ∙ parts ∙ ap content_of b.says.says in
      let word : bare a.says.word ≡ bare b.says.word = cc in
      let rest : content_of a.says.rest ≡ content_of b.says.rest = cc in
      let is_a : meant scale.sensitivities.now (meant_in k a.says.word) ≡ Some l.sensitivity = (measures.sensitivities a.says.word l.sensitivity).0 a.says.sensitivity in
      let is_b : meant scale.sensitivities.now (meant_in k b.says.word) ≡ Some m.sensitivity = (measures.sensitivities b.says.word m.sensitivity).0 b.says.sensitivity in
      let all : (c : ℕ) → c < 1024 → has l c ≡ has m c = λ c below. a.says.categories c below ∙ same_values c below a.says.rest b.says.rest rest ∙ sym (b.says.categories c below) in
      record {
        sensitivity = same_Some l.sensitivity m.sensitivity (sym is_a ∙ ap (meant scale.sensitivities.now) (same_meaning k a.says.word b.says.word word) ∙ is_b);
        categories = λ c below. (λ e. sym (all c below) ∙ e, λ e. all c below ∙ e);
      }

-- ---- the levels of names

module _ (k : Known) (g : Ground) (sections : Kind → List (List ℕ)) (known : IsKnown k g.items sections) (law : MeansWhatItNames) where
  -- one word names what is declared under one name
  pub one_symbol_named : (kind : Kind) (sign : Sign) → is_wanted sign kind ≡ true → (w : ScopedWord) (x y : Item) (name other : List ℕ) → names g.items (enabled_in k) kind w (symbol_under x name) ≡ true
      → names g.items (enabled_in k) kind w (symbol_under y other) ≡ true → symbol_under x name ≡ symbol_under y other
  one_symbol_named kind sign wanted w x y name other a b =
      let (c, means, there) = names_means k g.items kind sign wanted sections known law w (symbol_under x name) a in
      let (d, means_too, is) = names_means k g.items kind sign wanted sections known law w (symbol_under y other) b in
      let same : c ≡ d = same_Some c d (sym means ∙ means_too) in
      one_symbol k g.items kind sign wanted sections known law d (symbol_under x name) (symbol_under y other) (subst (λ z. IsEntryAt k.lookup.namespaces.now k.lookup.names.now kind z (symbol_under x name)) same there) is

  pub have_levels : (scale : Scale) → Measures k scale g → ((f : Fault) → ClashFault g.items f → ⊥) → (table : List (Option Level)) → AreNamed (IsWrittenLevel (enabled_in k) g) k g.items kinds.Level table → HasLevels k table g
  have_levels scale measures apart table are = record {
    each = λ w.
        match_as (meant table (meant_in k w)) (λ isnt l (h : IsNamedLevel (enabled_in k) g (Leaf w) l). isnt l (h.declared, h.is_declared, h.written)) (λ l (u, is, written). record { declared = u; is_declared = is; written = written })
        (each_named (IsWrittenLevel (enabled_in k) g) k g kinds.Level signs.Levels refl sections known law table are w);
    one = λ w l m a b.
        let d = a.is_declared in
        let e = b.is_declared in
        let word_a : Leaf w ≡ Leaf d.word = d.is_word in
        let word_b : Leaf w ≡ Leaf e.word = e.is_word in
        let same_a : d.word ≡ w = cc in
        let same_b : e.word ≡ w = cc in
        let symbol = one_symbol_named kinds.Level signs.Levels refl w d.item e.item d.name e.name (ap (λ z. names g.items (enabled_in k) kinds.Level z (symbol_under d.item d.name)) (sym same_a) ∙ d.named)
        (ap (λ z. names g.items (enabled_in k) kinds.Level z (symbol_under e.item e.name)) (sym same_b) ∙ e.named) in
        same_level k scale g measures a.declared b.declared l m
        (same_content g.items (enabled_in k) apart kinds.Level (λ z. absurd cc) d.item e.item d.at e.at d.name e.name d.declares e.declares symbol a.declared b.declared d.says e.says) a.written b.written;
  }
