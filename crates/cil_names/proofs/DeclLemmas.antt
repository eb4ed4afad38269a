-- A namespace has a name exactly where an entry of it is declared.
use Rattle.std.proofs.Common.{◌≡◌, ℕ, ◌&&◌, ◌||◌, Bool, true, List, ◌∙◌, ap, inl, inr}
use Rattle.std.specs.List.{list_any}
use Rattle.std.specs.Cmp.Lexicographic.{bytes_decides}
use Rattle.std.proofs.lemmas.Bool.{or_cases, or_right, and_parts, and_from}
use Rattle.cil_base.specs.Searches.{any_from, any_true, same_truth}
use Rattle.cil_base.specs.Places.{get_at, get_contains}
use Rattle.cil_syntax.specs.declared.kind.Sign.{Sign}
use Rattle.cil_syntax.specs.Spelling.{same_bytes}
use Rattle.cil_faults.specs.Namespaces.{Namespace}
use Rattle.cil_syntax.specs.Scopes.{same_space}
use Rattle.cil_syntax.proofs.DecidedEquality.{spaces_decide}
use Rattle.cil_names.specs.declared.entry.Entry.{Entry}
use Rattle.cil_macros.specs.blocks.Space.{Space}
use Rattle.cil_names.specs.Declarations.{Declaration, IsDeclaration, by, declared_by, object, object_role}
use Rattle.cil_names.specs.Entries.{AreEntries, is_declared_in, is_entry_of}
use Rattle.cil_macros.specs.Item.{Item, OptSet, is_enabled}
use Rattle.cil_names.specs.Resolves.{fits, has}
use Rattle.cil_syntax.specs.Kinds.{is_wanted}
use Rattle.cil_names.proofs.CandidateLemmas.{parts_of, they_are}

module _ (xs : List Item) (s : OptSet) (name : List ℕ) (sign : Sign) (n : Namespace) where
  pub has_true : has xs s name sign n ≡ true → (d : Declaration) × IsDeclaration xs s d × (fits name sign n d ≡ true)
  unfolding has
  has_true e =
      elim (or_cases (fits name sign n object_role) _ e) [
        | inl h ↦ (object_role, object, h)
        | inr h ↦
            let some = any_true (λ x. is_enabled s x && list_any (fits name sign n) (declared_by x)) xs h in
            let both = and_parts (is_enabled s some.0) (list_any (fits name sign n) (declared_by some.0)) some.2 in
            let one = any_true (fits name sign n) (declared_by some.0) both.1 in
            (one.0, by some.0 one.0 some.1 both.0 one.1, one.2)
      ]

  pub has_from : (d : Declaration) → IsDeclaration xs s d → fits name sign n d ≡ true → has xs s name sign n ≡ true
  unfolding has
  has_from d object h = ap (λ b. b || list_any (λ x. is_enabled s x && list_any (fits name sign n) (declared_by x)) xs) h
  has_from d (by x e c is_on by_it) h =
      or_right (fits name sign n object_role) _
      (any_from (λ y. is_enabled s y && list_any (fits name sign n) (declared_by y)) xs x c
      (and_from (is_enabled s x) (list_any (fits name sign n) (declared_by x)) is_on (any_from (fits name sign n) (declared_by x) d by_it h)))

module _ (ss : List Space) (xs : List Item) (es : List Entry) (entries : AreEntries ss xs es) (s : OptSet) (name : List ℕ) (sign : Sign) (n : Namespace) where
  abbrev both : Entry → Bool
  both e = is_entry_of ss name sign n e && is_declared_in s e

  there : has xs s name sign n ≡ true → list_any both es ≡ true
  there h =
      let (d, is_d, f) = has_true xs s name sign n h in
      let (front, spaced) = and_parts (same_bytes d.name name && is_wanted sign d.kind) (same_space d.space n) f in
      let (named, wanted) = and_parts (same_bytes d.name name) (is_wanted sign d.kind) front in
      let (i, e) = entries.each s d is_d in
      any_from both es e.entry (get_contains es i e.entry e.at)
      (and_from (is_entry_of ss name sign n e.entry) (is_declared_in s e.entry)
      (they_are ss name sign n e.entry (e.in_space ∙ (spaces_decide d.space n).0 spaced) (e.of_name ∙ (bytes_decides d.name name).0 named) (ap (is_wanted sign) e.of_kind ∙ wanted))
      e.live)

  back : list_any both es ≡ true → has xs s name sign n ≡ true
  back h =
      let (e, c, f) = any_true both es h in
      let (fits_it, live) = and_parts (is_entry_of ss name sign n e) (is_declared_in s e) f in
      let (space, named, wanted) = parts_of ss name sign n e fits_it in
      let (i, below_i, at) = get_at es e c in
      let (d, is_d, k, m, l) = entries.only s i e at live in
      has_from xs s name sign n d is_d
      (and_from (same_bytes d.name name && is_wanted sign d.kind) (same_space d.space n)
      (and_from (same_bytes d.name name) (is_wanted sign d.kind) ((bytes_decides d.name name).1 (l ∙ named)) (ap (is_wanted sign) k ∙ wanted))
      ((spaces_decide d.space n).1 (m ∙ space)))

  pub has_as : has xs s name sign n ≡ list_any both es
  has_as = same_truth _ _ there back
