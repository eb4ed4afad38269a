-- The number of a permission among those of its class.
use Rattle.std.proofs.Common.{◌≡◌, ℕ, Bool, true, false, cond, List, [], refl, sym, ◌∙◌, ap, inl, inr}
use Rattle.std.specs.Prelude.{Option, Some, None, find, if◌then◌else◌, slice_get}
use Rattle.std.specs.Global.{Vec}
use Rattle.std.specs.List.{list_any}
use Rattle.std.specs.Option.{is_some, option_map, option_map_or}
use Rattle.std.proofs.lemmas.Bool.{cases_Bool, true≢false}
use Rattle.cil_base.specs.declared.bytes.Bytes.{Bytes}
use Rattle.cil_syntax.specs.Kinds.{is_wanted}
use Rattle.cil_syntax.specs.Scopes.{ScopedWord}
use Rattle.cil_syntax.specs.Spelling.{same_bytes}
use Rattle.cil_syntax.specs.declared.kind.Sign.TheVariants as signs
use Rattle.cil_macros.specs.blocks.Space.{Space}
use Rattle.cil_macros.specs.Item.{Item, OptSet, nobody}
use Rattle.cil_names.specs.Classes.{is_class_at}
use Rattle.cil_names.specs.declared.entry.Entry.{Entry}
use Rattle.cil_names.specs.Entries.{is_declared_at, listed, place_where}
use Rattle.cil_names.specs.Meanings.{meant}
use Rattle.cil_names.specs.Symbols.{symbol_of}
use Rattle.cil_names.specs.PermissionWords.{class_with, has_permission_at, listed_for, listed_of, number_among, number_with}
use Rattle.cil_names.specs.Resolves.{has_permission}
use Rattle.cil_names.specs.Unresolved.{ArePermissions, listed_at}
use Rattle.cil_names.proofs.NamePlaceLemmas.{is_listed_by}

-- ---- the list of an entry

module _ (es : List Entry) (lists : List (Vec Bytes)) (d : ℕ) where
  abbrev of_it : Option Entry → List (List ℕ)
  of_it o = option_map_or (λ (e : Entry). if is_wanted signs.Classes e.kind then listed_at lists d else []) o []

  its_list : (o : Option Entry) → option_map_or (λ (e : Entry). is_wanted signs.Classes e.kind) o false ≡ true → of_it o ≡ listed_at lists d
  its_list None t = absurd (true≢false (sym t))
  its_list (Some e) t = ap (λ b. if b then listed_at lists d else []) t

  no_list : (o : Option Entry) → option_map_or (λ (e : Entry). is_wanted signs.Classes e.kind) o false ≡ false → of_it o ≡ []
  no_list None f = refl
  no_list (Some e) f = ap (λ b. if b then listed_at lists d else []) f

  pub list_of_class : is_class_at es d ≡ true → listed_of es lists d ≡ listed_at lists d
  list_of_class t = its_list (slice_get es d) t

  pub list_of_other : is_class_at es d ≡ false → listed_of es lists d ≡ []
  list_of_other f = no_list (slice_get es d) f

no_name : (name : List ℕ) → None ≡ number_among [] name
unfolding place_where
no_name name = refl

module _ (ss : List Space) (es : List Entry) (xs : List Item) (lists : List (Vec Bytes)) (c p : ScopedWord) where
  -- ---- a class that was looked up once

  pub no_number_with : None ≡ class_with ss es xs c p → None ≡ number_with ss es xs lists c p
  no_number_with none = ap (option_map (λ d. number_among (listed_for ss es lists c) p.bytes)) none

  module _ (d : ℕ) (named : Some d ≡ meant ss es nobody c) (there : Some d ≡ class_with ss es xs c p) where
    its_number : (r : Option ℕ) → r ≡ number_among (listed_of es lists d) p.bytes → Some r ≡ number_with ss es xs lists c p
    its_number r is =
        ap Some (is ∙ ap (λ o. number_among (option_map_or (listed_of es lists) o []) p.bytes) named)
        ∙ ap (option_map (λ k. number_among (listed_for ss es lists c) p.bytes)) there

    numbered_with : (names : List (List ℕ)) (place : ℕ) → names ≡ listed_of es lists d → Some place ≡ number_among names p.bytes → Some (Some place) ≡ number_with ss es xs lists c p
    numbered_with names place are at = its_number (Some place) (at ∙ ap (λ l. number_among l p.bytes) are)

    unnumbered_with : listed_of es lists d ≡ [] → Some None ≡ number_with ss es xs lists c p
    unnumbered_with none = its_number None (no_name p.bytes ∙ ap (λ l. number_among l p.bytes) (sym none))

    -- the number of the place, where there are numbers
    pub number_there_with : (names : List (List ℕ)) (place : ℕ) → Some place ≡ number_among names p.bytes → (b : Bool) → (b ≡ true → names ≡ listed_of es lists d) → (b ≡ false → listed_of es lists d ≡ [])
        → (r : Option ℕ) → (b ≡ true → r ≡ Some place) → (b ≡ false → r ≡ None) → Some r ≡ number_with ss es xs lists c p
    number_there_with names place at true are none r there missing = ap Some (there refl) ∙ numbered_with names place (are refl) at
    number_there_with names place at false are none r there missing = ap Some (missing refl) ∙ unnumbered_with (none refl)

  -- ---- the value of a permission word

  module _ (permissions : ArePermissions ss es xs lists) (s : OptSet) where
    abbrev has : ℕ → Bool
    has d = has_permission_at ss es xs p.bytes d

    lacks : (o : Option Entry) (d : ℕ) → slice_get es d ≡ o → option_map_or (λ e. has_permission xs (symbol_of ss e) p.bytes) o false ≡ false
        → list_any (same_bytes p.bytes) (option_map_or (λ (e : Entry). if is_wanted signs.Classes e.kind then listed_at lists d else []) o []) ≡ false
    lacks None d at f = refl
    lacks (Some e) d at f =
        elim (cases_Bool (is_wanted signs.Classes e.kind)) [
          | inl t ↦ ap (λ b. list_any (same_bytes p.bytes) (if b then listed_at lists d else [])) t ∙ permissions.each d e at t p.bytes ∙ f
          | inr g ↦ ap (λ b. list_any (same_bytes p.bytes) (if b then listed_at lists d else [])) g
        ]

    nothing_of : (r : Option ℕ) → is_some r ≡ false → None ≡ r
    nothing_of None e = refl
    nothing_of (Some n) e = absurd (true≢false e)

    not_numbered : (d : ℕ) → has d ≡ false → None ≡ number_among (listed_of es lists d) p.bytes
    not_numbered d f =
        nothing_of (number_among (listed_of es lists d) p.bytes)
        (is_listed_by (listed_of es lists d) p.bytes (number_among (listed_of es lists d) p.bytes) refl ∙ lacks (slice_get es d) d refl f)

    by_has : (d : ℕ) (b : Bool) → has d ≡ b
        → option_map_or (λ n. n) (option_map (λ k. number_among (listed_of es lists d) p.bytes) (cond b (Some d) None)) (find (is_declared_at s es) (listed (cond b (Some d) None)))
        ≡ number_among (listed_of es lists d) p.bytes
    by_has d true t = refl
    by_has d false f = not_numbered d f

    by_class : (m : Option ℕ)
        → option_map_or (λ n. n) (option_map (λ k. number_among (option_map_or (listed_of es lists) m []) p.bytes) (find has (listed m))) (find (is_declared_at s es) (listed (find has (listed m))))
        ≡ number_among (option_map_or (listed_of es lists) m []) p.bytes
    by_class None = no_name p.bytes
    by_class (Some d) = by_has d (has d) refl

    -- the number of a permission that is there, and else nothing
    pub number_or_nothing : option_map_or (λ n. n) (number_with ss es xs lists c p) (find (is_declared_at s es) (listed (class_with ss es xs c p))) ≡ number_among (listed_for ss es lists c) p.bytes
    number_or_nothing = by_class (meant ss es nobody c)
