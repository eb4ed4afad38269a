-- The entry of the symbol for which a word stands, of a kind without aliases and attributes.
use Rattle.std.specs.Prelude.{Some, if◌then◌else◌, slice_get, Contains}
use Rattle.std.specs.Option.{option_map_or}
use Rattle.std.proofs.Common.{◌≡◌, ℕ, true, List, [], refl, sym, ◌∙◌, ap, subst}
use Rattle.std.proofs.lemmas.Option.{same_Some}
use Rattle.cil_base.specs.Lists.{Lists, text_cmp}
use Rattle.cil_syntax.specs.declared.kind.Kind.{Kind}
use Rattle.cil_syntax.specs.declared.kind.Sign.{Sign}
use Rattle.cil_syntax.specs.declared.kind.Sign.TheVariants as signs
use Rattle.cil_syntax.specs.Kinds.{is_wanted}
use Rattle.cil_syntax.specs.Scopes.{ScopedWord, asked}
use Rattle.cil_macros.specs.blocks.Namespaces.{AreNamespaces, space_at}
use Rattle.cil_macros.specs.blocks.Space.{Space}
use Rattle.cil_macros.specs.Item.{Item}
use Rattle.cil_names.proofs.AnswerLemmas.{one_entry}
use Rattle.cil_names.proofs.CandidateLemmas.{parts_of, they_are}
use Rattle.cil_names.proofs.DeclareDecided.{symbol_by}
use Rattle.cil_known.proofs.MemberLemmas.{found_of, named_of, stands_by}
use Rattle.cil_names.proofs.PermissionWordLemmas.{meant_always}
use Rattle.cil_names.specs.declared.entry.Entry.{Entry}
use Rattle.cil_known.specs.declared.known.Known.{Known}
use Rattle.cil_names.specs.Declarations.{Symbol}
use Rattle.cil_names.specs.Entries.{AreOrdered, IsAnswer, IsNamed, is_declared_in}
use Rattle.cil_known.specs.Known.{IsKnown, enabled_in, meant_in}
use Rattle.cil_names.specs.Laws.{MeansWhatItNames}
use Rattle.cil_known.specs.Members.{HasNoSets, StandsFor}
use Rattle.cil_names.specs.Symbols.{symbol_of}
use Rattle.cil_names.specs.PermissionWords.{listed_for, listed_of}
use Rattle.cil_names.specs.Resolves.{has_permission}
use Rattle.cil_names.specs.Unresolved.{listed_at}
use Rattle.cil_classes.specs.Nodes.{IsEntryOf}
use Rattle.cil_classes.specs.Parts.{IsEntryFor}
use Rattle.cil_classes.proofs.OutsideLemmas.{always_there}
use Rattle.cil_classes.proofs.WidthLemmas.{listed_are}

module _ (k : Known) (xs : List Item) (names : Kind → List (List ℕ)) (known : IsKnown k xs names) (kind : Kind) (plain : HasNoSets kind) (w : ScopedWord) (law : MeansWhatItNames) (d : ℕ) (e : Entry)
    (means : Some d ≡ meant_in k w) (at : slice_get k.lookup.names.now d ≡ Some e) (of_kind : e.kind ≡ kind) where
  named : IsNamed k.lookup.namespaces.now xs k.lookup.names.now (enabled_in k) w d
  named =
      subst (IsAnswer k.lookup.namespaces.now xs k.lookup.names.now (enabled_in k) w) (sym means)
      (law k.lookup.namespaces.now xs k.lookup.names.now (enabled_in k) w known.namespaces known.entries)

  same : named.entry ≡ e
  same = same_Some named.entry e (sym named.at ∙ at)

  abbrev its_symbol : Symbol
  its_symbol = record { space = named.space; name = (asked w.bytes).name }

  its_name : symbol_of k.lookup.namespaces.now e ≡ its_symbol
  its_name =
      let (space, name, wanted) = parts_of k.lookup.namespaces.now (asked w.bytes).name w.sign named.space named.entry named.fits in
      symbol_by (symbol_of k.lookup.namespaces.now e) its_symbol
      (ap (λ (x : Entry). space_at k.lookup.namespaces.now x.space) (sym same) ∙ space) (ap (λ (x : Entry). x.name) (sym same) ∙ name)

  stands : StandsFor xs (enabled_in k) kind w its_symbol
  stands =
      let live : is_declared_in (enabled_in k) e ≡ true = ap (is_declared_in (enabled_in k)) (sym same) ∙ named.live in
      let (x, is_x, has_kind, in_space, of_name) = known.entries.only (enabled_in k) d e at live in
      let (space, name, wanted) = parts_of k.lookup.namespaces.now (asked w.bytes).name w.sign named.space named.entry named.fits in
      stands_by xs (enabled_in k) kind plain w its_symbol (ap (is_wanted w.sign) (sym of_kind ∙ ap (λ (y : Entry). y.kind) (sym same)) ∙ wanted) named.found refl (record {
        declaration = x;
        declares = is_x;
        of_kind = has_kind ∙ of_kind;
        in_space = in_space ∙ ap (λ (y : Symbol). y.space) its_name;
        of_name = of_name ∙ ap (λ (y : Symbol). y.name) its_name;
      })

  pub entry_is : IsEntryFor k xs kind w d
  entry_is = record {
    means = means;
    entry = e;
    at = at;
    of_kind = of_kind;
    stands = subst (StandsFor xs (enabled_in k) kind w) (sym its_name) stands;
    only_symbol = λ t st.
        symbol_by t its_symbol (same_Some t.space named.space (sym (found_of xs (enabled_in k) kind plain w t st) ∙ named.found)) (named_of xs (enabled_in k) kind plain w t st) ∙ sym its_name;
  }

-- ---- entries of one symbol

-- two entries of one kind and one symbol are one
pub same_entry : (ss : List Space) (es : List Entry) → AreNamespaces ss → AreOrdered ss es → (kind : Kind) (sign : Sign) → is_wanted sign kind ≡ true → (d k : ℕ) (c : Symbol) → IsEntryOf ss es kind d c
    → IsEntryOf ss es kind k c → d ≡ k
same_entry ss es spaces ordered kind sign wanted d k c a b =
    one_entry ss spaces es ordered c.name sign c.space d k a.entry b.entry a.at b.at
    (they_are ss c.name sign c.space a.entry (ap (λ (y : Symbol). y.space) a.symbol) (ap (λ (y : Symbol). y.name) a.symbol) (ap (is_wanted sign) a.of_kind ∙ wanted))
    (they_are ss c.name sign c.space b.entry (ap (λ (y : Symbol). y.space) b.symbol) (ap (λ (y : Symbol). y.name) b.symbol) (ap (is_wanted sign) b.of_kind ∙ wanted))

-- ---- the permissions of the class map of a class word

module _ (k : Known) (xs : List Item) (names : Kind → List (List ℕ)) (known : IsKnown k xs names) (w : ScopedWord) (d : ℕ) (e : Entry) (means : Some d ≡ meant_in k w)
    (at : slice_get k.lookup.names.now d ≡ Some e) (is_class : is_wanted signs.Classes e.kind ≡ true) where
  pub its_permissions : Lists text_cmp (λ p. has_permission xs (symbol_of k.lookup.namespaces.now e) p ≡ true) (listed_at k.permissions.now d)
  its_permissions = listed_are k.permissions.now d k.lookup.namespaces.now k.lookup.names.now xs known.permissions e at is_class

  listed_there : listed_of k.lookup.names.now k.permissions.now d ≡ listed_at k.permissions.now d
  listed_there =
      ap (λ o. option_map_or (λ (f : Entry). if is_wanted signs.Classes f.kind then listed_at k.permissions.now d else []) o []) at
      ∙ ap (λ b. if b then listed_at k.permissions.now d else []) is_class

  -- where it has some, those by which its permission words are numbered are those of its entry
  pub list_for : (p : List ℕ) → Contains (listed_at k.permissions.now d) p → listed_for k.lookup.namespaces.now k.lookup.names.now k.permissions.now w ≡ listed_at k.permissions.now d
  list_for p some =
      let has = (its_permissions.members p).0 some in
      let always = always_there k.lookup.namespaces.now known.namespaces xs k.lookup.names.now known.entries d e at is_class p has in
      ap (λ o. option_map_or (listed_of k.lookup.names.now k.permissions.now) o []) (sym (meant_always k.lookup.namespaces.now (enabled_in k) k.lookup.names.now w d e at always means))
      ∙ listed_there
