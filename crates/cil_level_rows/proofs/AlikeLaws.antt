-- By its table a policy's texts have the labels, and its users the levels, that they have by its statements.
use Rattle.std.proofs.Common.{◌≡◌, ◌↔◌, ◌⊎◌, ℕ, ◌<◌, List, map, sym, ◌∙◌, ap, inl, inr, arith}
use Rattle.std.specs.Prelude.{Contains, Some, slice_get}
use Rattle.cil_base.specs.Lists.{Lists}
use Rattle.cil_base.specs.Places.{in_range, some_at}
use Rattle.cil_syntax.specs.declared.kind.Kind.{Kind}
use Rattle.cil_syntax.specs.declared.kind.Kind.TheVariants as kinds
use Rattle.cil_macros.specs.Item.{Item, OptSet}
use Rattle.cil_names.specs.Declarations.{Symbol, name_of}
use Rattle.cil_mls.specs.declared.categories.Categories.{Categories}
use Rattle.cil_mls.specs.declared.level.Level.{Level}
use Rattle.cil_mls.specs.declared.named.Named.{Named}
use Rattle.cil_mls.specs.Dominance.{AreSame, Dominates}
use Rattle.cil_mls.specs.Names.{named_cmp}
use Rattle.cil_mls.proofs.SymbolLemmas.{get_map, get_unmap}
use Rattle.cil_ranges.specs.levels_crate.Permitted.{ArePermitted, IsPermitted}
use Rattle.cil_ranges.specs.levels_crate.Values.{Values}
use Rattle.cil_labels.specs.LevelTable.{IsWritable, NamesPlace, PermitsBy}
use Rattle.cil_labels.proofs.LabelLemmas.{label_moved}
use Rattle.cil_level_rows.specs.Laws.{ClearsAlike, ReadsAlike}
use Rattle.cil_level_rows.specs.Rows.{IsAliasAt, IsAliasRow, NamesItemAt}

-- ---- names

module _ (xs : List Item) (s : OptSet) (alias_kind kind : Kind) (row : List Symbol) (names : List (List ℕ)) (aliases : List Named) (are_names : names ≡ map name_of row)
    (are_aliases : Lists named_cmp (IsAliasRow xs s alias_kind kind row) aliases) (text : List ℕ) (n : ℕ) where
  item_there : IsWritable text → (slice_get names n ≡ Some text) ⊎ Contains aliases (record { name = text; place = n }) → NamesItemAt xs s alias_kind kind row text n
  item_there w (inl at) =
      let (symbol, is, named) = get_unmap name_of row n text (ap (λ ns. slice_get ns n) (sym are_names) ∙ at) in
      record { writable = w; symbol = symbol; named = named; is = inl is }
  item_there w (inr c) = let a = (are_aliases.members (record { name = text; place = n })).0 c in record { writable = w; symbol = a.alias; named = a.named; is = inr a.is_alias }

  place_back : (symbol : Symbol) → name_of symbol ≡ text → (slice_get row n ≡ Some symbol) ⊎ IsAliasAt xs s alias_kind kind row symbol n
      → (slice_get names n ≡ Some text) ⊎ Contains aliases (record { name = text; place = n })
  place_back symbol named (inl at) = inl (ap (λ ns. slice_get ns n) are_names ∙ get_map name_of row n symbol at ∙ ap Some named)
  place_back symbol named (inr a) = inr ((are_aliases.members (record { name = text; place = n })).1 (record { alias = symbol; is_alias = a; named = named }))

  -- a name means the same by the table
  pub names_alike : NamesPlace names aliases text n ↔ NamesItemAt xs s alias_kind kind row text n
  names_alike = (λ p. item_there p.writable p.named, λ i. record { writable = i.writable; named = place_back i.symbol i.named i.is })

-- ---- permits

-- a sensitivity permits the same by the table
pub permits_alike : (xs : List Item) (s : OptSet) (sensitivities categories : List Symbol) (v : Values) (sets : List Categories) → ArePermitted xs s sensitivities categories v sets
    → (n c : ℕ) → c < 1024 → PermitsBy sets n c ↔ IsPermitted xs s sensitivities categories v n c
permits_alike xs s sensitivities categories v sets are n c below = (
  λ p. (are.each n p.set p.is_set c below).0 p.has,
  λ p.
      let within = in_range sensitivities n p.stands.symbol p.stands.at in
      let len = are.len in
      let (set, at) = some_at sets n (omega (arith, within, len)) in
      record { set = set; is_set = at; has = (are.each n set at c below).1 p },
)

-- ---- labels

pub reads_alike : ReadsAlike
reads_alike xs s g users t over text kind low high =
    let sensitivities = names_alike xs s kinds.SensitivityAlias kinds.Sensitivity g.sensitivities t.sensitivities t.sensitivity_aliases over.sensitivities over.sensitivity_aliases in
    let categories = names_alike xs s kinds.CategoryAlias kinds.Category g.categories t.categories t.category_aliases over.categories over.category_aliases in
    let permits = permits_alike xs s g.sensitivities g.categories g.values t.permitted over.permitted in (
      label_moved _ _ over.on _ _ _ _ sensitivities categories _ _ permits text kind low high,
      label_moved _ _ (turned over.on) _ _ _ _ (λ u n. turned (sensitivities u n)) (λ u n. turned (categories u n)) _ _ (λ n c less. turned (permits n c less)) text kind low high,
    )
  where
    turned : {A B : Type 0} → A ↔ B → B ↔ A
    turned both = (both.1, both.0)

-- ---- users

module _ (a b l : Level) (same : AreSame a b) where
  -- what dominates the one dominates the other
  above : Dominates l b → Dominates l a
  above d =
      let e = same.sensitivity in
      let up = d.sensitivity in
      record { sensitivity = omega (arith, e, up); categories = λ c less i. d.categories c less ((same.categories c less).0 i) }

  -- what the one dominates the other dominates
  below : Dominates b l → Dominates a l
  below d =
      let e = same.sensitivity in
      let up = d.sensitivity in
      record { sensitivity = omega (arith, e, up); categories = λ c less i. (same.categories c less).1 (d.categories c less i) }

pub clears_alike : ClearsAlike
clears_alike xs s g users t over on user n declared numbered low high = (
  λ c.
      let has = (over.ranges.each n c.range c.is_range).has user declared numbered in
      record { item = has.item; word = has.word; range = c.range; gives = has.gives; from = c.from; to = c.to },
  λ c.
      let within = in_range users n (name_of user) numbered in
      let len = over.ranges.on on in
      let (range, at) = some_at t.users n (omega (arith, within, len)) in
      let same = ((over.ranges.each n range at).has user declared numbered).only c.item c.word c.range c.gives in
      record { range = range; is_range = at; from = above range.low c.range.low low same.low c.from; to = below range.high c.range.high high same.high c.to },
)
