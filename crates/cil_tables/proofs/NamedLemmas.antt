-- The sections of the tables, from the entries of the declared names.
use Rattle.std.specs.Prelude.{Contains, Some, slice_get}
use Rattle.std.specs.Global.{Vec}
use Rattle.std.specs.List.Sorted.{IsStrictlySortedBy}
use Rattle.std.specs.Option.{option_map, unwrap_or}
use Rattle.std.proofs.Common.{◌≡◌, ℕ, true, List, get_or, refl, sym, ◌∙◌, ap, subst}
use Rattle.std.proofs.lemmas.Option.{slice_get-map}
use Rattle.cil_base.specs.Gives.{Gives}
use Rattle.cil_base.specs.Lists.{Lists, text_cmp}
use Rattle.cil_base.specs.MadeLists.{from_map}
use Rattle.cil_base.specs.Places.{get_at, get_contains}
use Rattle.cil_base.specs.declared.bytes.Bytes.{Bytes}
use Rattle.cil_syntax.specs.declared.kind.Kind.{Kind}
use Rattle.cil_syntax.specs.declared.kind.Kind.TheVariants as kinds
use Rattle.cil_syntax.specs.declared.kind.Sign.TheVariants as signs
use Rattle.cil_base.specs.Sorted.{lists_of}
use Rattle.cil_names.specs.declared.entry.Entry.{Entry}
use Rattle.cil_known.specs.declared.numbers.Sections.{Sections}
use Rattle.cil_blocks.specs.declared.namespaces.Space.{Space}
use Rattle.cil_names.specs.Declarations.{Declared, Symbol, name_of}
use Rattle.cil_names.specs.Entries.{AreEntries, is_declared_in}
use Rattle.cil_macros.specs.Item.{Item, OptSet}
use Rattle.cil_known.specs.Numbers.{AreApart, AreNumbers, IsNameAmong, has_section, names_of, spelled_of}
use Rattle.cil_names.specs.Symbols.{symbol_of}
use Rattle.cil_names.specs.Resolves.{has_permission}
use Rattle.cil_syntax.specs.Kinds.{is_wanted}
use Rattle.cil_names.specs.Unresolved.{ArePermissions, listed_at}
use Rattle.cil_classes.specs.ClassRows.{AreRowsOf, IsRowOf, AreClasses}
use Rattle.cil_tables.specs.Named.{IsNameOf}
use Rattle.cil_classes.specs.declared.row.Class.{Class}
use Rattle.cil_classes.specs.Row.{AreOrderlyRows, class_cmp}
use Rattle.cil_classes.specs.Faults.{ClassFault}
use Rattle.cil_faults.specs.declared.fault.Fault.{Fault}
use Rattle.cil_tables.proofs.WideClasses.{few}
use Rattle.cil_classes.proofs.ClassRowLemmas.{class_from, class_named, class_parts}
use Rattle.cil_tables.proofs.CompileLemmas.{rising_by}
use Rattle.cil_base.proofs.NameSearches.{number_is}
use Rattle.cil_classes.proofs.WidthLemmas.{listed_are}

module _ (ss : List Space) (xs : List Item) (es : List Entry) (entries : AreEntries ss xs es) where
  -- ---- names of entries, as names of items

  module _ (s : OptSet) (kind : Kind) where
    name_there : (name : List ℕ) → IsNameAmong ss es s kind name → IsNameOf xs s kind name
    name_there name among =
        let (i, below_i, at) = get_at es among.entry among.among in
        let (d, declares, of_kind, in_space, of_name) = entries.only s i among.entry at among.live in
        record {
          symbol = symbol_of ss among.entry;
          declared = record { declaration = d; declares = declares; of_kind = of_kind ∙ among.of_kind; in_space = in_space; of_name = of_name };
          named = among.spelled;
        }

    name_back : (name : List ℕ) → IsNameOf xs s kind name → IsNameAmong ss es s kind name
    name_back name of =
        let d = of.declared in
        let (i, e) = entries.each s d.declaration d.declares in
        let same : symbol_of ss e.entry ≡ of.symbol = λ j. record { space = (e.in_space ∙ d.in_space) j; name = (e.of_name ∙ d.of_name) j } in
        record {
          entry = e.entry;
          among = get_contains es i e.entry e.at;
          of_kind = e.of_kind ∙ d.of_kind;
          live = e.live;
          spelled = ap name_of same ∙ of.named;
        }

    pub names_are : (names : List (List ℕ)) → Lists text_cmp (IsNameAmong ss es s kind) names → Lists text_cmp (IsNameOf xs s kind) names
    names_are names = lists_of text_cmp (IsNameAmong ss es s kind) (IsNameOf xs s kind) names name_there name_back

  -- ---- the rows of the classes

  module _ (s : OptSet) (n : Sections) (numbers : List ℕ) (numbered : AreNumbers ss es s (names_of n) numbers) (apart : AreApart es s numbers)
      (lists : List (Vec Bytes)) (permissions : ArePermissions ss es xs lists) (rows : List Class) (are : AreRowsOf ss es s lists n.classes.items rows) where
    sorted : IsStrictlySortedBy text_cmp n.classes.items
    sorted = (numbered.lists kinds.Class refl).rising

    -- two entries of classes with one name are one
    one_entry : (d k : ℕ) (e f : Entry) → slice_get es d ≡ Some e → slice_get es k ≡ Some f → e.kind ≡ kinds.Class → f.kind ≡ kinds.Class → is_declared_in s e ≡ true → is_declared_in s f ≡ true
        → spelled_of ss e ≡ spelled_of ss f → e ≡ f
    one_entry d k e f at bt ke kf le lf same =
        let one : get_or numbers d 0 ≡ get_or numbers k 0 =
        (number_is n.classes.items (spelled_of ss f) (get_or numbers k 0) (class_named ss es s n numbers numbered k f bt (class_from s f kf lf)) sorted).only (get_or numbers d 0)
        (class_named ss es s n numbers numbered d e at (class_from s e ke le) ∙ ap Some same) in
        let number = apart d k e f at bt (ke ∙ sym kf) (ap has_section ke) le lf one in
        ap (λ o. unwrap_or o e) (sym at ∙ ap (slice_get es) number ∙ bt)

    pub classes_are : AreClasses xs s n.classes.items rows
    classes_are = record {
      named = are.named;
      each = λ row c member d named.
          let (k, below_k, at) = get_at rows row member in
          let row_is = are.each k row at in
          let (kind, live) = class_parts s row_is.entry row_is.is_class in
          let (i, e) = entries.each s d.declaration d.declares in
          let symbol : symbol_of ss e.entry ≡ c = λ j. record { space = (e.in_space ∙ d.in_space) j; name = (e.of_name ∙ d.of_name) j } in
          let same = one_entry row_is.number i row_is.entry e.entry row_is.at e.at kind (e.of_kind ∙ d.of_kind) live e.live (row_is.spelled ∙ named ∙ sym (ap name_of symbol)) in
          subst (Lists text_cmp (λ p. has_permission xs c p ≡ true)) (sym row_is.listed)
          (subst (λ (t : Symbol). Lists text_cmp (λ p. has_permission xs t p ≡ true) (listed_at lists row_is.number)) (ap (symbol_of ss) same ∙ symbol)
          (listed_are lists row_is.number ss es xs permissions row_is.entry row_is.at (ap (is_wanted signs.Classes) kind)));
    }

    name_at : (k : ℕ) (row : Class) → slice_get rows k ≡ Some row → slice_get n.classes.items k ≡ Some row.name
    name_at k row at = ap (λ l. slice_get l k) (sym are.named) ∙ slice_get-map (λ (r : Class). r.name) rows k ∙ ap (option_map (λ r. r.name)) at

    class_names : Lists text_cmp (IsNameOf xs s kinds.Class) n.classes.items
    class_names = names_are s kinds.Class n.classes.items (numbered.lists kinds.Class refl)

    pub classes_rise : IsStrictlySortedBy class_cmp rows
    classes_rise = rising_by (λ (c : Class). c.name) rows (subst (IsStrictlySortedBy text_cmp) (sym are.named) sorted)

    -- each row is that of a declared class
    pub class_of_row : (row : Class) → Contains rows row → (c : Symbol) × Declared xs s kinds.Class c × IsRowOf xs c row
    class_of_row row member =
        let (k, below_k, at) = get_at rows row member in
        let of = (class_names.members row.name).0 (get_contains n.classes.items k row.name (name_at k row at)) in
        (of.symbol, of.declared, record { named = sym of.named; permissions = classes_are.each row of.symbol member of.declared (sym of.named) })

    -- each declared class has a row
    row_of_class : (c : Symbol) → Declared xs s kinds.Class c → (row : Class) × IsRowOf xs c row × Contains rows row
    row_of_class c d =
        let member = (class_names.members (name_of c)).1 (record { symbol = c; declared = d; named = refl }) in
        let (row, c_row, named) = from_map (λ (r : Class). r.name) rows (name_of c) (subst (λ l. Contains l (name_of c)) (sym are.named) member) in
        (row, record { named = named; permissions = classes_are.each row c c_row d named }, c_row)

    pub classes_given : Gives class_cmp (Declared xs s kinds.Class) (IsRowOf xs) rows
    classes_given = record { rising = classes_rise; each = row_of_class; only = class_of_row }

    -- and where no class is too wide, each has few permissions
    pub rows_orderly : ((f : Fault) → ClassFault s xs f → ⊥) → AreOrderlyRows rows
    rows_orderly none row member = let k = class_of_row row member in record { permissions = k.2.permissions.rising; few = few xs s none k.0 row k.1 k.2 }
