-- What follows from the laws of a name space.
use Rattle.std.proofs.Common.{◌≡◌, Bool, true, false, ◌||◌, refl, sym, ◌∙◌, ap, subst, inl, inr}
use Rattle.std.specs.Prelude.{◌⊎◌, Option, Some, None, slice_get, ℕ, List}
use Rattle.std.proofs.lemmas.Bool.{true≢false}
use Rattle.cil_base.specs.Searches.{or_second}
use Rattle.cil_known.specs.macros.blocks.Namespaces.{AreNamespaces}
use Rattle.cil_known.specs.macros.blocks.Space as blocks
use Rattle.cil_syntax.specs.declared.kind.Kind.{Kind}
use Rattle.cil_syntax.specs.declared.kind.Kind.TheVariants as kinds
use Rattle.cil_syntax.specs.declared.kind.Sign.{Sign}
use Rattle.cil_syntax.specs.Kinds.{is_wanted}
use Rattle.cil_syntax.specs.NameSpaces.{name_space}
use Rattle.cil_syntax.proofs.KindLemmas.{one_kind, same_kind}
use Rattle.cil_known.specs.names.Declarations.{Symbol}
use Rattle.cil_known.specs.names.Entries.{AreOrdered}
use Rattle.cil_known.specs.Numbers.{has_section}
use Rattle.cil_known.specs.names.Symbols.{symbol_of}
use Rattle.cil_known.specs.Spaces.{SpaceOf, any_sets}
use Rattle.cil_known.specs.names.Entry.{Entry}
use Rattle.cil_known.proofs.names_lemmas.AnswerLemmas.{one_entry}
use Rattle.cil_known.proofs.names_lemmas.CandidateLemmas.{they_are}
use Rattle.cil_attrs.specs.declared.giver.SetKind.{SetKind}
use Rattle.cil_attrs.specs.declared.giver.SpaceKinds.{SpaceKinds}
use Rattle.cil_attrs.specs.Begun.{has_kind, is_sets_kind}
use Rattle.cil_attrs.specs.Givers.{HasKinds, SaysItsTerms, is_written}
use Rattle.cil_attrs.specs.Holding.{is_kind}
use Rattle.cil_attrs.specs.Laws.{AreOfKind, IsSpace}
use Rattle.cil_attrs.proofs.MembersLemmas.{kinds_of}

neither : (a b : Bool) → (a ≡ true → ⊥) → (b ≡ true → ⊥) → (a || b) ≡ false
neither true b p q = absurd (p refl)
neither false true p q = absurd (q refl)
neither false false p q = refl

kind_there : (sets : Option SetKind) (kind : Kind) → has_kind sets kind ≡ true → AreOfKind sets kind
kind_there None kind t = absurd (true≢false (sym t))
kind_there (Some a) kind t = (a, refl, one_kind kind a.kind t)

kind_back : (sets : Option SetKind) (kind : Kind) → AreOfKind sets kind → has_kind sets kind ≡ true
kind_back sets kind (a, e, k) = ap (λ o. has_kind o kind) e ∙ same_kind kind a.kind k

-- of the kinds of roles only that of the items has names in a section
section_role : (kind : Kind) → has_section kind ≡ true → name_space kinds.Role ≡ name_space kind → kind ≡ kinds.Role
section_role kinds.Role s e = refl
section_role kinds.RoleAttribute s e = absurd (true≢false (sym s))
section_role kind s e = absurd cc

module _ (r : SpaceKinds) (sign : Sign) (space : IsSpace r sign) where
  pub items_apart : is_sets_kind r r.item ≡ false
  items_apart =
      neither (has_kind r.aliases r.item) (has_kind r.attributes r.item) (λ t. space.whole.item_or_alias (kind_there r.aliases r.item t))
      (λ t. space.whole.item_or_attribute (kind_there r.attributes r.item t))

  role_item : AreOfKind r.aliases kinds.Role ⊎ AreOfKind r.attributes kinds.Role → kinds.Role ≡ r.item
  role_item sets = sym (section_role r.item space.numbered ((space.whole.each kinds.Role).1 (inl (inr sets))))

  -- roles are no sets, and `object_r` is a role
  pub no_roles : is_sets_kind r kinds.Role ≡ false
  no_roles =
      neither (has_kind r.aliases kinds.Role) (has_kind r.attributes kinds.Role)
      (λ t. let q = kind_there r.aliases kinds.Role t in space.whole.item_or_alias (subst (AreOfKind r.aliases) (role_item (inl q)) q))
      (λ t. let q = kind_there r.attributes kinds.Role t in space.whole.item_or_attribute (subst (AreOfKind r.attributes) (role_item (inr q)) q))

  pub alias_wanted : (a : SetKind) → r.aliases ≡ Some a → is_wanted sign a.kind ≡ true
  alias_wanted a e =
      space.wanted a.kind ∙ or_second (is_kind a.kind r.item) (is_sets_kind r a.kind) (ap (λ b. b || has_kind r.attributes a.kind) (kind_back r.aliases a.kind (a, e, refl)))

  pub attribute_wanted : (a : SetKind) → r.attributes ≡ Some a → is_wanted sign a.kind ≡ true
  attribute_wanted a e =
      space.wanted a.kind
      ∙ or_second (is_kind a.kind r.item) (is_sets_kind r a.kind) (or_second (has_kind r.aliases a.kind) (has_kind r.attributes a.kind) (kind_back r.attributes a.kind (a, e, refl)))

  pub alias_written : (a : SetKind) → r.aliases ≡ Some a → SaysItsTerms a.giving
  alias_written a e = subst is_written e space.written.0

-- ---- a symbol of the name space has one entry

-- the kind is one of the name space
abbrev pub is_in_space : SpaceOf → Kind → Bool
is_in_space which kind = is_kind kind which.item || any_sets which (λ j. is_kind kind j.kind)

-- each symbol has one entry at most among those of the name space
abbrev pub HasOneEntry : List blocks.Space → List Entry → SpaceOf → Type 0
HasOneEntry ss es which =
    (c d : ℕ) (e f : Entry) → slice_get es c ≡ Some e → slice_get es d ≡ Some f → is_in_space which e.kind ≡ true → is_in_space which f.kind ≡ true → symbol_of ss e ≡ symbol_of ss f → c ≡ d

module _ (r : SpaceKinds) (sign : Sign) (space : IsSpace r sign) (which : SpaceOf) (is : HasKinds r which) where
  in_space_is : (kind : Kind) → is_in_space which kind ≡ is_wanted sign kind
  in_space_is kind =
      ap (λ item. is_kind kind item || any_sets which (λ j. is_kind kind j.kind)) is.item
      ∙ ap (λ b. is_kind kind r.item || b) (kinds_of r which is kind)
      ∙ sym (space.wanted kind)

  pub one_of_space : (ss : List blocks.Space) → AreNamespaces ss → (es : List Entry) → AreOrdered ss es → HasOneEntry ss es which
  one_of_space ss are es ordered c d e f at_c at_d in_e in_f same =
      one_entry ss are es ordered f.name sign (symbol_of ss f).space c d e f at_c at_d
      (they_are ss f.name sign (symbol_of ss f).space e (ap (λ (s : Symbol). s.space) same) (ap (λ (s : Symbol). s.name) same) (sym (in_space_is e.kind) ∙ in_e))
      (they_are ss f.name sign (symbol_of ss f).space f refl refl (sym (in_space_is f.kind) ∙ in_f))
