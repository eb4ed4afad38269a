-- Which names statements declare, and which words mean them: by numbers just where the definition says so.
use Rattle.std.specs.Prelude.{MatchOption, Option, Some, None}
use Rattle.std.proofs.Common.{◌≡◌, ℕ, true, List, refl, sym, ◌∙◌, ap, subst}
use Rattle.std.proofs.lemmas.Bool.{true≢false}
use Rattle.std.proofs.lemmas.Option.{same_Some}
use Rattle.cil_faults.specs.declared.spot.Spot.{Spot}
use Rattle.cil_syntax.specs.declared.kind.Kind.{Kind}
use Rattle.cil_syntax.specs.declared.kind.Sign.{Sign}
use Rattle.cil_syntax.specs.Kinds.{is_wanted}
use Rattle.cil_syntax.specs.Scopes.{ScopedWord}
use Rattle.cil_syntax.specs.Terms.{Name, cons}
use Rattle.cil_syntax.proofs.KindLemmas.{one_kind, same_kind}
use Rattle.cil_macros.specs.blocks.Space.{Space}
use Rattle.cil_macros.specs.Item.{Item}
use Rattle.cil_names.specs.Declarations.{Symbol}
use Rattle.cil_names.specs.Entries.{AreEntries, HasNoEntryIn, IsAnswer, IsEntryIn, IsNamed, is_entry_of}
use Rattle.cil_names.specs.Laws.{MeansWhatItNames}
use Rattle.cil_names.specs.Resolves.{found_in}
use Rattle.cil_names.specs.declared.entry.Entry.{Entry}
use Rattle.cil_names.specs.Symbols.{symbol_of}
use Rattle.cil_names.proofs.AnswerLemmas.{one_entry}
use Rattle.cil_names.proofs.CandidateLemmas.{they_are}
use Rattle.cil_known.specs.declared.known.Known.{Known}
use Rattle.cil_known.specs.Known.{IsKnown, enabled_in, meant_in}
use Rattle.cil_known.specs.Spaces.{is_same_symbol, names}
use Rattle.cil_mls.specs.attrs.Holding.{is_kind}
use Rattle.cil_mls.specs.attrs.SetFaults.{DeclaresAt, symbol_under}
use Rattle.cil_mls.specs.attrs.Targets.{IsEntryAt}
use Rattle.cil_mls.proofs.attrs_lemmas.FaultLemmas.{its_entry}
use Rattle.cil_mls.proofs.attrs_lemmas.GiverLemmas.{names_nothing}
use Rattle.cil_mls.proofs.attrs_lemmas.HoldingLemmas.{both, kind_named, pair, same_symbol}
use Rattle.cil_mls.proofs.attrs_lemmas.MembersLemmas.{same_self}
use Rattle.cil_ranges.specs.DeclaredEntries.{DeclaresJust, DeclaresNone}

module _ (k : Known) (xs : List Item) (kind : Kind) (sign : Sign) (wanted : is_wanted sign kind ≡ true) where
  abbrev ss : List Space
  ss = k.lookup.namespaces.now

  abbrev es : List Entry
  es = k.lookup.names.now

  fits : (a : Symbol) (d : ℕ) (e : IsEntryAt ss es kind d a) → is_entry_of ss a.name sign a.space e.entry ≡ true
  fits a d e = they_are ss a.name sign a.space e.entry (ap (λ (z : Symbol). z.space) e.symbol) (ap (λ (z : Symbol). z.name) e.symbol) (ap (is_wanted sign) e.of_kind ∙ wanted)

  module _ (x : Item) where
    -- the name that is declared is one
    same_name : (at bt : Spot) (name other : List ℕ) → DeclaresAt xs (enabled_in k) kind x at name → DeclaresAt xs (enabled_in k) kind x bt other → name ≡ other
    same_name at bt name other a b = let e : cons (Name at name) a.rest ≡ cons (Name bt other) b.rest = sym a.says ∙ b.says in cc

    module _ (entries : AreEntries ss xs es) (at : Spot) (name : List ℕ) (declares : DeclaresAt xs (enabled_in k) kind x at name) where
      pub declares_just : (o : Option ℕ) → MatchOption o (HasNoEntryIn ss es name sign x.space) (IsEntryIn ss es name sign x.space) → MatchOption o (DeclaresNone k xs kind x) (DeclaresJust k xs kind x)
      declares_just None none =
          let (d, e) = its_entry xs (enabled_in k) kind x at name declares ss es entries in
          absurd (none d e.entry e.at (fits (symbol_under x name) d e))
      declares_just (Some d) there =
          let (c, e) = its_entry xs (enabled_in k) kind x at name declares ss es entries in
          let same : c ≡ d = there.only c e.entry e.at (fits (symbol_under x name) c e) in
          record {
            declares = record { at = at; name = name; declares = declares; entry = subst (λ z. IsEntryAt ss es kind z (symbol_under x name)) same e };
            only = λ b h.
                let named = same_name h.at at h.name name h.declares declares in
                let f : IsEntryAt ss es kind b (symbol_under x name) = subst (λ n. IsEntryAt ss es kind b (symbol_under x n)) named h.entry in
                there.only b f.entry f.at (fits (symbol_under x name) b f);
          }

  -- ---- words

  module _ (sections : Kind → List (List ℕ)) (known : IsKnown k xs sections) (law : MeansWhatItNames) where
    answers : (w : ScopedWord) → IsAnswer ss xs es (enabled_in k) w (meant_in k w)
    answers w = law ss xs es (enabled_in k) w known.namespaces known.entries

    -- what is declared has one entry, and an entry one symbol
    pub one_place : (c d : ℕ) (a : Symbol) → IsEntryAt ss es kind c a → IsEntryAt ss es kind d a → c ≡ d
    one_place c d a s t = one_entry ss known.namespaces es known.entries.ordered a.name sign a.space c d s.entry t.entry s.at t.at (fits a c s) (fits a d t)

    pub one_symbol : (d : ℕ) (a b : Symbol) → IsEntryAt ss es kind d a → IsEntryAt ss es kind d b → a ≡ b
    one_symbol d a b s t = sym s.symbol ∙ ap (symbol_of ss) (same_Some s.entry t.entry (sym s.at ∙ t.at)) ∙ t.symbol

    -- a word that means an entry names its symbol
    pub means_names : (w : ScopedWord) (d : ℕ) (t : Symbol) → meant_in k w ≡ Some d → IsEntryAt ss es kind d t → names xs (enabled_in k) kind w t ≡ true
    means_names w d t means e =
        let named : IsNamed ss xs es (enabled_in k) w d = subst (IsAnswer ss xs es (enabled_in k) w) means (answers w) in
        let there = same_Some named.entry e.entry (sym named.at ∙ e.at) in
        let of_kind : named.entry.kind ≡ kind = ap (λ (z : Entry). z.kind) there ∙ e.of_kind in
        let symbol : symbol_of ss named.entry ≡ t = ap (symbol_of ss) there ∙ e.symbol in
        kind_named k xs sections known w d named kind t
        ∙ pair (is_kind named.entry.kind kind) (is_same_symbol (symbol_of ss named.entry) t) (same_kind named.entry.kind kind of_kind) (ap (λ z. is_same_symbol z t) symbol ∙ same_self t)

    -- and back
    pub names_means : (w : ScopedWord) (t : Symbol) → names xs (enabled_in k) kind w t ≡ true → (c : ℕ) × (meant_in k w ≡ Some c) × IsEntryAt ss es kind c t
    names_means w t e = by (meant_in k w) refl (answers w) where
      by : (o : Option ℕ) → meant_in k w ≡ o → IsAnswer ss xs es (enabled_in k) w (meant_in k w) → (c : ℕ) × (meant_in k w ≡ Some c) × IsEntryAt ss es kind c t
      by None is answer =
          let none : found_in xs (enabled_in k) w ≡ None = subst (IsAnswer ss xs es (enabled_in k) w) is answer in
          absurd (true≢false (sym e ∙ names_nothing k xs w kind t none))
      by (Some c) is answer =
          let named : IsNamed ss xs es (enabled_in k) w c = subst (IsAnswer ss xs es (enabled_in k) w) is answer in
          let parts = both (is_kind named.entry.kind kind) (is_same_symbol (symbol_of ss named.entry) t) (sym (kind_named k xs sections known w c named kind t) ∙ e) in
          (c, is, record { entry = named.entry; at = named.at; of_kind = one_kind named.entry.kind kind parts.0; symbol = same_symbol (symbol_of ss named.entry) t parts.1 })
