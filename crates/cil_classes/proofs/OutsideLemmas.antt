-- A class that has permissions is declared outside all optionals.
use Rattle.std.specs.Prelude.{Contains, None, Option, Some, slice_get}
use Rattle.std.specs.Cmp.Lexicographic.{bytes_decides}
use Rattle.std.specs.Global.{Vec}
use Rattle.std.specs.List.{list_all, list_any}
use Rattle.std.specs.Option.{option_map_or}
use Rattle.std.proofs.Common.{◌≡◌, ℕ, Bool, false, true, ◌&&◌, ◌||◌, List, [], ◌∷◌, refl, sym, ◌∙◌, ap, inl, inr}
use Rattle.std.proofs.lemmas.Bool.{and_parts, cases_Bool, true≢false}
use Rattle.std.proofs.lemmas.Option.{same_Some}
use Rattle.cil_base.specs.Places.{get_contains}
use Rattle.cil_base.specs.Searches.{any_true}
use Rattle.cil_macros.specs.blocks.Namespaces.{AreNamespaces, space_at}
use Rattle.cil_macros.specs.blocks.Space.{Space}
use Rattle.cil_macros.specs.Item.{Item, is_enabled, nobody}
use Rattle.cil_names.proofs.AnswerLemmas.{one_entry}
use Rattle.cil_names.proofs.CandidateLemmas.{they_are}
use Rattle.cil_names.specs.Declarations.{Declaration, Symbol, by, declared_by, object_role}
use Rattle.cil_names.specs.Entries.{AreEntries, AreRounds, is_declared_in}
use Rattle.cil_names.specs.Symbols.{symbol_of}
use Rattle.cil_names.specs.Resolves.{fits, found_in, gives_permission, has, has_permission, is_class_common, listed_permissions, lists_named, lists_permission, names_outside, shares_permission, shares_words}
use Rattle.cil_names.specs.declared.entry.Entry.{Entry}
use Rattle.cil_syntax.proofs.DecidedEquality.{spaces_decide}
use Rattle.cil_syntax.specs.Forms.{two_words}
use Rattle.cil_syntax.specs.Kinds.{is_wanted}
use Rattle.cil_syntax.specs.Scopes.{ScopedWord, asked, same_space}
use Rattle.cil_syntax.specs.Spelling.{same_bytes}
use Rattle.cil_syntax.specs.declared.kind.Kind.{Kind}
use Rattle.cil_syntax.specs.declared.kind.Kind.TheVariants as kinds
use Rattle.cil_syntax.specs.declared.kind.Sign.{Sign}
use Rattle.cil_syntax.specs.declared.kind.Sign.TheVariants as signs

-- a declaration of a class or a class map of this name, outside all optionals
record IsOutside (xs : List Item) (c : Symbol) : Type 0 where
  item : Item
  declaration : Declaration
  is_item : Contains xs item
  outside : is_enabled nobody item ≡ true
  declares : Contains (declared_by item) declaration
  of_kind : is_wanted signs.Classes declaration.kind ≡ true
  in_space : declaration.space ≡ c.space
  of_name : declaration.name ≡ c.name

class_wanted : (kind : Kind) → is_wanted signs.PlainClass kind ≡ true → is_wanted signs.Classes kind ≡ true
class_wanted kinds.Class e = refl
class_wanted kind e = absurd (true≢false (sym e))

module _ (xs : List Item) (c : Symbol) where
  -- a statement outside all optionals declares it
  of_statement : (sign : Sign) → ((kind : Kind) → is_wanted sign kind ≡ true → is_wanted signs.Classes kind ≡ true) → (x : Item) → Contains xs x → is_enabled nobody x ≡ true
      → list_any (fits c.name sign c.space) (declared_by x) ≡ true → IsOutside xs c
  of_statement sign wider x cx on some =
      let (d, cd, fit) = any_true (fits c.name sign c.space) (declared_by x) some in
      let (named, spaced) = and_parts (same_bytes d.name c.name && is_wanted sign d.kind) (same_space d.space c.space) fit in
      let (same, wanted) = and_parts (same_bytes d.name c.name) (is_wanted sign d.kind) named in
      record {
        item = x;
        declaration = d;
        is_item = cx;
        outside = on;
        declares = cd;
        of_kind = wider d.kind wanted;
        in_space = (spaces_decide d.space c.space).0 spaced;
        of_name = (bytes_decides d.name c.name).0 same;
      }

  no_role : fits c.name signs.PlainClass c.space object_role ≡ true → ⊥
  no_role fit =
      let (named, spaced) = and_parts (same_bytes object_role.name c.name && is_wanted signs.PlainClass object_role.kind) (same_space object_role.space c.space) fit in
      true≢false (sym (and_parts (same_bytes object_role.name c.name) (is_wanted signs.PlainClass object_role.kind) named).1)

  -- a class of this name is there
  of_class : has xs nobody c.name signs.PlainClass c.space ≡ true → IsOutside xs c
  unfolding has
  of_class there =
      elim (cases_Bool (fits c.name signs.PlainClass c.space object_role)) [
        | inl t ↦ absurd (no_role t)
        | inr f ↦
            let declares : Item → Bool = λ x. is_enabled nobody x && list_any (fits c.name signs.PlainClass c.space) (declared_by x) in
            let (x, cx, both) = any_true declares xs (sym (ap (λ b. b || list_any declares xs) f) ∙ there) in
            let (on, some) = and_parts (is_enabled nobody x) (list_any (fits c.name signs.PlainClass c.space) (declared_by x)) both in
            of_statement signs.PlainClass class_wanted x cx on some
      ]

  -- the class lists the permission itself
  of_list : (p : List ℕ) → lists_permission xs signs.Classes c p ≡ true → IsOutside xs c
  unfolding lists_permission
  of_list p lists =
      let (x, cx, gives) = any_true (gives_permission signs.Classes c p) xs lists in
      let (front, listed) = and_parts (is_enabled nobody x && list_any (fits c.name signs.Classes c.space) (declared_by x)) (list_any (same_bytes p) (listed_permissions x.args)) gives in
      let (on, some) = and_parts (is_enabled nobody x) (list_any (fits c.name signs.Classes c.space) (declared_by x)) front in
      of_statement signs.Classes (λ kind wanted. wanted) x cx on some

  -- it shares the permission of a common
  of_words : (p : List ℕ) (o : Option (ScopedWord × ScopedWord)) → shares_words xs c p o ≡ true → IsOutside xs c
  of_words p None e = absurd (true≢false (sym e))
  of_words p (Some (v, k)) e =
      let (named, lists) = and_parts (names_outside xs signs.PlainClass v c) (lists_named xs k p) e in
      of_class (and_parts (option_map_or (λ n. same_space n c.space) (found_in xs nobody v) false && same_bytes (asked v.bytes).name c.name) (has xs nobody c.name signs.PlainClass c.space) named).1

  -- what has a permission is declared outside all optionals
  declared_outside : (p : List ℕ) → has_permission xs c p ≡ true → IsOutside xs c
  unfolding has_permission
  declared_outside p there =
      elim (cases_Bool (lists_permission xs signs.Classes c p)) [
        | inl t ↦ of_list p t
        | inr f ↦
            let (x, cx, shares) = any_true (shares_permission xs c p) xs (sym (ap (λ b. b || list_any (shares_permission xs c p) xs) f) ∙ there) in
            of_words p (two_words x.args) (and_parts (is_enabled nobody x && is_class_common x.keyword) (shares_words xs c p (two_words x.args)) shares).1
      ]

-- ---- entries that need no optional

no_names : (os : List ℕ) → list_all nobody os ≡ true → os ≡ []
no_names [] e = refl
no_names (o ∷ os) e = absurd (true≢false (sym e))

always_by : (xs : List Item) (es : List Entry) (e : Entry) → AreRounds xs es → Contains es e → is_declared_in nobody e ≡ true → e.always ≡ true
always_by xs es e rounds ce live =
    elim (cases_Bool e.always) [
      | inl t ↦ t
      | inr f ↦
          let (r, cr, all) = any_true (λ (r : Vec ℕ). list_all nobody r.items) e.rounds.items (sym (ap (λ b. b || list_any (λ (r : Vec ℕ). list_all nobody r.items) e.rounds.items) f) ∙ live) in
          let round = rounds e r ce cr in
          absurd (round.3 (no_names r.items all))
    ]

module _ (ss : List Space) (are : AreNamespaces ss) (xs : List Item) (es : List Entry) (entries : AreEntries ss xs es) (d : ℕ) (e : Entry) (at : slice_get es d ≡ Some e) (wanted : is_wanted signs.Classes e.kind ≡ true) where
  -- the entry of a class that has a permission is declared outside all optionals
  pub always_there : (p : List ℕ) → has_permission xs (symbol_of ss e) p ≡ true → e.always ≡ true
  always_there p has =
      let o = declared_outside xs (symbol_of ss e) p has in
      let (i, f) = entries.each nobody o.declaration (by o.item o.declaration o.is_item o.outside o.declares) in
      let same : i ≡ d = one_entry ss are es entries.ordered e.name signs.Classes (space_at ss e.space) i d f.entry e f.at at
      (they_are ss e.name signs.Classes (space_at ss e.space) f.entry (f.in_space ∙ o.in_space) (f.of_name ∙ o.of_name) (ap (is_wanted signs.Classes) f.of_kind ∙ o.of_kind))
      (they_are ss e.name signs.Classes (space_at ss e.space) e refl refl wanted) in
      let one : f.entry ≡ e = same_Some f.entry e (sym f.at ∙ ap (slice_get es) same ∙ at) in
      always_by xs es e entries.rounds (get_contains es d e at) (ap (is_declared_in nobody) (sym one) ∙ f.live)
